use Rattle.std.proofs.Common.{◌≡◌, ◌+◌, ◌*◌, length, sum_by}
use Rattle.emit_each.proofs.data.data_bytes.Given as goal

abbrev pub invariant-loop-object : goal.invariant-loop-object
invariant-loop-object l = l.bytes + 2 * sum_by (λ x. x.words) l.left ≡ 2 * sum_by (λ x. x.words) l.fn.objects

abbrev pub decreases-loop-object : goal.decreases-loop-object
decreases-loop-object l = length l.left
