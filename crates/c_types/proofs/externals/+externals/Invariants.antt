use Rattle.std.proofs.Common.{◌≡◌, ◌+◌, ◌*◌, ◌≤◌, map, length}
use Rattle.c_typing.specs.Sizes.{size, total}
use Rattle.c_typing.specs.Programs.{judged, externals}
use Rattle.c_typing.proofs.Making.{Leads}
use Rattle.c_types.proofs.externals.+externals.Given as goal

abbrev pub decreases-external : goal.decreases-external
decreases-external l = 40 * size l.raw.now + 0

abbrev pub decreases-each : goal.decreases-each
decreases-each l = 40 * total l.parts.now + 4

abbrev pub invariant-each-loop-part : goal.invariant-each-loop-part
invariant-each-loop-part l = Leads (externals (map judged l.parts)) l.initial.state (externals (map judged l.rest)) l.state × (total l.rest ≤ total l.parts)

abbrev pub decreases-each-loop-part : goal.decreases-each-loop-part
decreases-each-loop-part l = length l.rest
