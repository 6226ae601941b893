use Rattle.std.proofs.Common.{◌≡◌, length}
use Rattle.plan_code.specs.Positions.{is_written}
use Rattle.plan_positions.proofs.moves.is_written.Given as goal

-- what is there and what is left make the whole
abbrev pub invariant-loop-node : goal.invariant-loop-node
invariant-loop-node l = is_written l.left l.fn.object ≡ is_written l.fn.nodes l.fn.object

abbrev pub decreases-loop-node : goal.decreases-loop-node
decreases-loop-node l = length l.left
