use Rattle.std.proofs.Common.{◌≡◌, ◌++◌, length}
use Rattle.touched_objects.specs.Tables.{roles_by}
use Rattle.touched_objects.proofs.flags.roles.Given as goal

abbrev pub invariant-loop-flag : goal.invariant-loop-flag
invariant-loop-flag l = l.made.items ++ roles_by l.left ≡ roles_by l.flags

abbrev pub decreases-loop-flag : goal.decreases-loop-flag
decreases-loop-flag l = length l.left
