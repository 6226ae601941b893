use Rattle.std.proofs.Common.{◌≡◌, ◌+◌, length}
use Rattle.std.specs.Prelude.{sum_by}
use Rattle.plan_job.proofs.room.data_bytes.Given as goal

-- the words so far, and those of the objects that are left
abbrev pub invariant-loop-left : goal.invariant-loop-left
invariant-loop-left l = l.words + sum_by (λ x. x.words) l.left ≡ sum_by (λ x. x.words) l.objects

abbrev pub decreases-loop-left : goal.decreases-loop-left
decreases-loop-left l = length l.left
