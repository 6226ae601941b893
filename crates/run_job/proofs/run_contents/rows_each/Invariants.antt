use Rattle.std.proofs.Common.{length, map}
use Rattle.run_job.proofs.Spelling.{IsSpelled}
use Rattle.run_job.proofs.run_contents.rows_each.Given as goal

-- the rows so far are those of the first texts
abbrev pub invariant-loop-names_left : goal.invariant-loop-names_left
invariant-loop-names_left l =
    IsSpelled (map (λ n. n.now) l.fn.names) (map (λ v. v.items) l.fn.texts) (map (λ n. n.now) l.names_left) (map (λ v. v.items) l.texts_left) (map (λ v. v.items) l.all.items)

abbrev pub decreases-loop-names_left : goal.decreases-loop-names_left
decreases-loop-names_left l = length l.names_left
