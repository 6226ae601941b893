use Rattle.std.proofs.Common.{◌≡◌, ◌+◌, ◌*◌, ◌≤◌, length}
use Rattle.cert_rules.specs.Overhead.{cost_sum}
use Rattle.op_cost.specs.Templates.{code_of}
use Rattle.emit_certs.specs.Timed.{code_in}
use Rattle.emit_certs.proofs.weighing.cost.Given as goal

-- the sum so far and that of the code that is left make the whole
abbrev pub invariant-loop-left : goal.invariant-loop-left
invariant-loop-left l = record {
  sum : l.sum + cost_sum l.b (code_of (code_in l.left)) ≡ cost_sum l.b (code_of (code_in l.code));
  small : l.sum + 7000000 * length l.left ≤ 7000000 * length l.code;
}

abbrev pub decreases-loop-left : goal.decreases-loop-left
decreases-loop-left l = length l.left
