use Rattle.std.proofs.Common.{◌≡◌, true, take}
use Rattle.std.specs.List.{list_all}
use Rattle.certificate.specs.Grammar.{has_fact}
use Rattle.certificate.proofs.rows.all_have_facts.Given as goal

-- each term so far has its fact
abbrev pub invariant-loop-term : goal.invariant-loop-term
invariant-loop-term l = list_all (λ t. has_fact l.facts t.of) (take l.term-index l.terms) ≡ true
