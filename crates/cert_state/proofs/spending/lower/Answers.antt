use Rattle.std.proofs.Common.{◌≡◌, ◌∙◌, ap, refl, arith}
use Rattle.std.specs.Prelude.{filter}
use Rattle.cert_rules.specs.Slots.{same_slot}
use Rattle.std.proofs.lemmas.Int.{ints}
use Rattle.certificate.specs.declared.cert.Term.{Term}
use Rattle.cert_rules.specs.Spending.{added, taken_off, when_lowered}
use Rattle.cert_state.specs.Spots.{slot_at}
use Rattle.cert_state.specs.Views.{spent_of}
use Rattle.cert_state.proofs.Same.{same_spent}
use Rattle.cert_state.proofs.spending.lower.Goals as goal

pub returns : goal.returns
returns c =
    let s = c.args.spent.now in
    let own : c.in_ok-own.own.items ≡ filter (λ (t : Term). same_slot t.of (slot_at c.args.w)) s.terms.items = c.in_ok-own.ensures.terms ∙ ap (filter (λ (t : Term). same_slot t.of (slot_at c.args.w))) c.as_slice.ensures.value in
    let adds : c.added-adds.result ≡ added (λ x. c.args.c) (filter (λ (t : Term). same_slot t.of (slot_at c.args.w)) s.terms.items) = c.added-adds.ensures.value ∙ ap (added (λ x. c.args.c)) (c.as_slice-2.ensures.value ∙ own) in
    let takes : c.taken_off-takes.result ≡ taken_off (λ x. c.args.c) (filter (λ (t : Term). same_slot t.of (slot_at c.args.w)) s.terms.items) = c.taken_off-takes.ensures.value ∙ ap (taken_off (λ x. c.args.c)) (c.as_slice-3.ensures.value ∙ own) in
    same_spent (when_lowered (slot_at c.args.w) c.args.c (spent_of s)) _ _ (omega (arith, ints, adds, takes, c.in_ok-base.ensures.value, c.in_ok-base.ensures.small.0, c.in_ok-base.ensures.small.1, s.small.0, s.small.1, c.added-adds.ensures.small, c.taken_off-takes.ensures.small, c.in_ok-own.ensures.few)) refl
