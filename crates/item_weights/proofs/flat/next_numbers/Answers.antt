use Rattle.std.proofs.Common.{◌≡◌, List, [], ◌∷◌, ◌+◌, ◌++◌, length, ◌∙◌, ap, sym, subst, arith}
use Rattle.std.proofs.lemmas.List.{length-append}
use Rattle.flow_graph.specs.declared.graph.Func.{Func}
use Rattle.item_weights.specs.Flat.{Rule, flat_by, flats_by, next_flats}
use Rattle.item_weights.proofs.Keeping.{kept_here}
use Rattle.item_weights.proofs.ToldUses.{append_step}
use Rattle.item_weights.proofs.flat.next_numbers.Goals as goal

pub loop-func-preserved : goal.loop-func-preserved
loop-func-preserved g c =
    let rule : Rule = record { own = g.R.OwnWeights.own c.args.rule.now; number = g.R.FlatRule.number_by c.args.rule.now c.args.objects } in
    let main = c.args.g.now.main in let flats = c.args.flats.now in let f = c.loop-func.function in
    record {
      told = append_step c.loop-func.made.items c.put_number.new.numbers.items _ (c.in_ok-number.number ∷ []) (flats_by rule main flats (f + 1) c.in-Some.rest.now) (flats_by rule main flats f c.loop-func.left.now)
          c.in_ok-put_number.ensures
          (ap (flats_by rule main flats f) c.in-Some.ensures ∙ ap (λ x. x ∷ flats_by rule main flats (f + 1) c.in-Some.rest.now) (sym c.in_ok-number.ensures))
          c.loop-func.invariant.told;
      filled = ap length c.in_ok-put_number.ensures ∙ (length-append c.loop-func.made.items (c.in_ok-number.number ∷ []) ∙ ap (λ n. n + 1) c.loop-func.invariant.filled);
      places = let h = ap length c.in-Some.ensures in let n = c.loop-func.invariant.places in omega (arith, h, n);
    }

pub next_number-requires : goal.next_number-requires
next_number-requires g c =
    let rule : Rule = record { own = g.R.OwnWeights.own c.args.rule.now; number = g.R.FlatRule.number_by c.args.rule.now c.args.objects } in
    let graph = c.args.g.now in let flats = c.args.flats.now in let f = c.loop-func.function in let made = c.loop-func.made.items in
    kept_here rule graph flats made (flats_by rule graph.main flats (f + 1) c.in-Some.rest.now) f (flat_by rule graph.main flats f c.in-Some.func.now) c.requires.kept c.loop-func.invariant.filled
    (subst (λ (xs : List Func). made ++ flats_by rule graph.main flats f xs ≡ next_flats rule graph flats) c.in-Some.ensures c.loop-func.invariant.told)
