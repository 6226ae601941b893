use Rattle.std.proofs.Common.{◌≡◌, ◌++◌, drop, List, ℕ, flat_map}
use Rattle.certificate.specs.Spelling.{term_text}
use Rattle.certificate.proofs.writing.append_terms.Given as goal

-- what was appended, and what is left to append
abbrev pub invariant-loop-term : goal.invariant-loop-term
invariant-loop-term l = (done : List ℕ) × (l.to.items ≡ l.fn.to.items ++ done) × (done ++ flat_map term_text (drop l.term-index l.terms) ≡ flat_map term_text l.terms)
