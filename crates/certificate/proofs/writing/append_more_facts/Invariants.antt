use Rattle.std.proofs.Common.{◌≡◌, ◌++◌, drop, List, ℕ, map}
use Rattle.certificate.specs.Appending.{more_parts}
use Rattle.certificate.specs.Spelling.{fact_text}
use Rattle.certificate.proofs.writing.append_more_facts.Given as goal

-- what was appended, and what is left to append
abbrev pub invariant-loop-fact : goal.invariant-loop-fact
invariant-loop-fact l = (done : List ℕ) × (l.to.items ≡ l.fn.to.items ++ done) × (done ++ more_parts (map fact_text (drop l.fact-index l.facts)) ≡ more_parts (map fact_text l.facts))
