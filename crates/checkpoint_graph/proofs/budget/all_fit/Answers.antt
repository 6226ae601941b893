use Rattle.std.specs.Prelude.{Some, slice_get}
use Rattle.std.proofs.Common.{ℕ, ◌≡◌, ◌<◌, ◌∙◌, inl, inr, ap, refl, sym, subst, arith}
use Rattle.std.proofs.lemmas.Bool.{cases_lt, false≢true}
use Rattle.std.proofs.lemmas.Option.{slice_get_within}
use Rattle.flow_graph.specs.declared.owned.Owned.{Owned}
use Rattle.op_cost.specs.Weights.{Fits, need}
use Rattle.checkpoint_graph.proofs.budget.all_fit.Goals as goal

pub returns-then-not-fits : goal.returns-then-not-fits
returns-then-not-fits c =
    let b = c.args.b.now in
    let x = c.operation_at-x.result.now in
    let above : b.budget < need b x.node.op = elim (cases_lt b.budget (need b x.node.op)) [ inl lt ↦ lt | inr le ↦ absurd (false≢true (c.if-not-fits.ensures.1 le)) ] in
    let told = c.need.ensures.cost in
    record {
      number = c.loop-at.at;
      first = x;
      is_there = c.operation_at-x.ensures;
      kind_is = refl;
      place_is = refl;
      need_is = told;
      budget_is = refl;
      above = omega (arith, above, told);
      others = c.loop-at.invariant;
    }

pub loop-at-preserved : goal.loop-at-preserved
loop-at-preserved c n x lt at =
    let b = c.args.b.now in
    elim (cases_lt n c.loop-at.at) [
      | inl l ↦ c.loop-at.invariant n x l at
      | inr ge ↦
          let here : n ≡ c.loop-at.at = omega (arith, lt, ge) in
          let both : Some c.operation_at-x.result.now ≡ Some x = sym c.operation_at-x.ensures ∙ (ap (λ (m : ℕ). slice_get c.args.operations.now m) (sym here) ∙ at) in
          let same : c.operation_at-x.result.now ≡ x = cc in
          subst (λ (y : Owned). Fits b y.node.op) same (c.if-not-fits.ensures.0 refl)
    ]

pub returns : goal.returns
returns c number x at = c.loop-at.invariant number x (let within = slice_get_within c.args.operations.now number x at in omega (arith, within, c.loop-at-test.false)) at
