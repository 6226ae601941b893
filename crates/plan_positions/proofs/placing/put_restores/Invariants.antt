use Rattle.std.proofs.Common.{◌≡◌, ◌++◌, length}
use Rattle.std.specs.Prelude.{map}
use Rattle.plan_positions.specs.Listed.{restore_by}
use Rattle.plan_positions.proofs.placing.put_restores.Given as goal

-- what is there and what is left make the whole
abbrev pub invariant-loop-object : goal.invariant-loop-object
invariant-loop-object l = l.positions.items ++ map (restore_by l.fn.spot) l.left ≡ l.fn.positions.items ++ map (restore_by l.fn.spot) l.fn.objects

abbrev pub decreases-loop-object : goal.decreases-loop-object
decreases-loop-object l = length l.left
