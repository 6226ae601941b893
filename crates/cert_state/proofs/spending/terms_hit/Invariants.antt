use Rattle.std.proofs.Common.{◌≡◌, ◌≤◌, take, length}
use Rattle.std.specs.Prelude.{filter}
use Rattle.cert_state.specs.Views.{hit_by}
use Rattle.cert_state.proofs.spending.terms_hit.Given as goal

-- what is kept of the terms so far
abbrev pub invariant-loop-term : goal.invariant-loop-term
invariant-loop-term l = record {
  terms : l.kept.items ≡ filter (λ t. hit_by l.hit t.of) (take l.term-index l.terms);
  few : length l.kept.items ≤ l.term-index;
}
