use Rattle.std.proofs.Common.{map, length}
use Rattle.std.specs.Prelude.{IsUtf8}
use Rattle.std.specs.List.{AllByRecursion}
use Rattle.job_parts.proofs.read_texts.Given as goal

-- all words are texts if those that are left are
abbrev pub invariant-loop-rest : goal.invariant-loop-rest
invariant-loop-rest l = AllByRecursion IsUtf8 (map (λ s. s.now) l.rest) → AllByRecursion IsUtf8 (map (λ s. s.now) l.words)

abbrev pub decreases-loop-rest : goal.decreases-loop-rest
decreases-loop-rest l = length l.rest
