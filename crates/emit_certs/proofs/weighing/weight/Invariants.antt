use Rattle.std.proofs.Common.{◌≡◌, ◌+◌, ◌*◌, ◌≤◌, length}
use Rattle.op_cost.specs.Templates.{weight_of}
use Rattle.emit_certs.specs.Timed.{code_in}
use Rattle.emit_certs.proofs.weighing.weight.Given as goal

-- the sum so far and that of the code that is left make the whole
abbrev pub invariant-loop-left : goal.invariant-loop-left
invariant-loop-left l = record {
  sum : l.sum + weight_of l.b (code_in l.left) ≡ weight_of l.b (code_in l.code);
  small : l.sum + 1785000000 * length l.left ≤ 1785000000 * length l.code;
}

abbrev pub decreases-loop-left : goal.decreases-loop-left
decreases-loop-left l = length l.left
