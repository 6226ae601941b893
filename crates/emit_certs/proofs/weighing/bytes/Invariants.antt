use Rattle.std.proofs.Common.{◌≡◌, ◌+◌, ◌*◌, ◌≤◌, length}
use Rattle.cert_templates.specs.Frames.{bytes_of_code}
use Rattle.op_cost.specs.Templates.{code_of}
use Rattle.emit_certs.specs.Timed.{code_in}
use Rattle.emit_certs.proofs.weighing.bytes.Given as goal

-- the sum so far and that of the code that is left make the whole
abbrev pub invariant-loop-left : goal.invariant-loop-left
invariant-loop-left l = record {
  sum : l.sum + bytes_of_code (code_of (code_in l.left)) ≡ bytes_of_code (code_of (code_in l.code));
  small : l.sum + 6 * length l.left ≤ 6 * length l.code;
}

abbrev pub decreases-loop-left : goal.decreases-loop-left
decreases-loop-left l = length l.left
