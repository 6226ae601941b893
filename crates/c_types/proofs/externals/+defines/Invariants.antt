use Rattle.std.proofs.Common.{◌≡◌, ◌+◌, ◌*◌, ◌≤◌, ◌++◌, map, length}
use Rattle.c_typing.specs.Sizes.{size, total}
use Rattle.c_typing.specs.Programs.{judged, all_defined}
use Rattle.c_types.proofs.externals.+defines.Given as goal

abbrev pub decreases-add_defines : goal.decreases-add_defines
decreases-add_defines l = 40 * size l.raw.now + 0

abbrev pub decreases-add_all : goal.decreases-add_all
decreases-add_all l = 40 * total l.parts.now + 4

-- what is there is followed by the names that what is left defines
abbrev pub invariant-add_all-loop-part : goal.invariant-add_all-loop-part
invariant-add_all-loop-part l = (l.initial.done ++ all_defined (map judged l.parts) ≡ l.done ++ all_defined (map judged l.rest)) × (total l.rest ≤ total l.parts)

abbrev pub decreases-add_all-loop-part : goal.decreases-add_all-loop-part
decreases-add_all-loop-part l = length l.rest
