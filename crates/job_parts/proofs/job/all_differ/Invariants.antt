use Rattle.std.proofs.Common.{◌≡◌, map, length}
use Rattle.job_parts.specs.Asked.{differ}
use Rattle.job_parts.proofs.job.all_differ.Given as goal

-- the words that are left differ exactly where all do
abbrev pub invariant-loop-rest : goal.invariant-loop-rest
invariant-loop-rest l = differ (map (λ s. s.now) l.rest) ≡ differ (map (λ s. s.now) l.words)

abbrev pub decreases-loop-rest : goal.decreases-loop-rest
decreases-loop-rest l = length l.rest
