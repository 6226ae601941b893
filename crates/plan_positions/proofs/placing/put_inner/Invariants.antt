use Rattle.std.proofs.Common.{◌≡◌, ◌++◌, length}
use Rattle.std.specs.Prelude.{map}
use Rattle.plan_positions.specs.Listed.{inner_by}
use Rattle.plan_positions.proofs.placing.put_inner.Given as goal

-- what is there and what is left make the whole
abbrev pub invariant-loop-node : goal.invariant-loop-node
invariant-loop-node l = l.positions.items ++ map (inner_by l.fn.f l.fn.functions) l.left ≡ l.fn.positions.items ++ map (inner_by l.fn.f l.fn.functions) l.fn.nodes

abbrev pub decreases-loop-node : goal.decreases-loop-node
decreases-loop-node l = length l.left
