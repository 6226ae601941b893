use Rattle.std.proofs.Common.{◌≡◌, ◌∙◌, ap, arith}
use Rattle.std.specs.Prelude.{filter, not}
use Rattle.std.proofs.lemmas.Int.{ints}
use Rattle.certificate.specs.declared.cert.Term.{Term}
use Rattle.cert_rules.specs.Spending.{greatest_bound, settled}
use Rattle.cert_state.specs.Views.{hit_by, range_or_any, spent_of}
use Rattle.cert_state.proofs.Same.{same_spent}
use Rattle.cert_state.proofs.spending.settle.Goals as goal

pub returns : goal.returns
returns c =
    let s = c.args.spent.now in
    let hit = hit_by c.args.hit.now in
    let gone : c.in_ok-gone.gone.items ≡ filter (λ (t : Term). hit t.of) s.terms.items = c.in_ok-gone.ensures.terms ∙ ap (filter (λ (t : Term). hit t.of)) c.as_slice.ensures.value in
    let kept : c.in_ok-kept.kept.items ≡ filter (λ (t : Term). not (hit t.of)) s.terms.items = c.in_ok-kept.ensures.terms ∙ ap (filter (λ (t : Term). not (hit t.of))) c.as_slice-2.ensures.value in
    let bound = ap (λ ts. greatest_bound (range_or_any c.args.values.now.items) (record { base = s.base; terms = ts })) (c.as_slice-3.ensures.value ∙ gone) in
    same_spent (settled hit (range_or_any c.args.values.now.items) (spent_of s)) _ _ (omega (arith, ints, bound, c.bound_over.ensures.value, c.in_ok-base.ensures.value, c.in_ok-base.ensures.small.0, c.in_ok-base.ensures.small.1, s.small.0, s.small.1)) kept
