use Rattle.std.proofs.Common.{ℕ, ◌++◌, List, [], ◌∷◌, refl, ap, sym, subst, ◌∙◌}
use Rattle.chain_plans.specs.declared.Stretch.{Stretch}
use Rattle.chain_units.specs.Planned.{IsGreatest, turning_weighed}
use Rattle.chain_units.proofs.plan.plan_alone.Goals as goal

pub returns-clause-plan : goal.returns-clause-plan
returns-clause-plan c k x behind is =
    let turning = c.args.turning.now in
    let s : Stretch = record { first_item = 0; items = 1; homes = c.put_all.new.objects; cost = turning.greatest.cost } in
    let same = c.in_ok-put_all.ensures ∙ (ap (λ (xs : List ℕ). xs ++ c.deref.result.now) c.new-homes.ensures.items ∙ c.deref.ensures.value) in
    record {
      first_op = is.first;
      items = refl;
      stretch = s;
      one = c.in_ok-put_stretch.ensures ∙ ap (λ (ss : List Stretch). ss ++ s ∷ []) c.new-stretches.ensures.items;
      first_item = refl;
      stretch_items = refl;
      greatest = subst (λ (homes : List ℕ). IsGreatest (turning_weighed k x behind) 1024 k.board.budget turning.greatest.turns homes turning.greatest.cost) (sym same) is.greatest;
    }
