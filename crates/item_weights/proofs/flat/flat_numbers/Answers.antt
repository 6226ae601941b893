use Rattle.std.proofs.Common.{List, ℕ, length, ◌∙◌, ap, sym, subst, arith}
use Rattle.std.specs.Prelude.{Option}
use Rattle.item_weights.specs.Flat.{Keep, Rule, next_flats, no_numbers}
use Rattle.item_weights.proofs.FlatNumbers.{first_flats, deeper, at_last}
use Rattle.item_weights.proofs.Keeping.{flats_keep}
use Rattle.item_weights.proofs.flat.flat_numbers.Goals as goal

pub loop-depth-init : goal.loop-depth-init
loop-depth-init g c =
    let rule : Rule = record { own = g.R.OwnWeights.own c.args.rule.now; number = g.R.FlatRule.number_by c.args.rule.now (length c.args.g.now.objects) } in
    c.in_ok-numbers.ensures ∙ (ap no_numbers c.as_slice-2.ensures ∙ sym (first_flats rule c.args.g.now))

pub loop-depth-preserved : goal.loop-depth-preserved
loop-depth-preserved g c =
    let rule : Rule = record { own = g.R.OwnWeights.own c.args.rule.now; number = g.R.FlatRule.number_by c.args.rule.now (length c.args.g.now.objects) } in
    c.in_ok-next.ensures ∙ (ap (λ n. next_flats (record { own = g.R.OwnWeights.own c.args.rule.now; number = g.R.FlatRule.number_by c.args.rule.now n }) c.args.g.now c.as_slice-in-loop-depth.result.now) (ap length c.as_slice.ensures)
    ∙ (ap (λ (xs : List (Option ℕ)). next_flats rule c.args.g.now xs) (c.as_slice-in-loop-depth.ensures.value ∙ c.loop-depth.invariant) ∙ sym (deeper rule c.args.g.now c.loop-depth._depth)))

pub returns-then-are_same : goal.returns-then-are_same
returns-then-are_same g c =
    let rule : Rule = record { own = g.R.OwnWeights.own c.args.rule.now; number = g.R.FlatRule.number_by c.args.rule.now (length c.args.g.now.objects) } in
    let graph = c.args.g.now in let k = c.loop-depth._depth in
    let made = c.in_ok-next.ensures ∙ (ap (λ n. next_flats (record { own = g.R.OwnWeights.own c.args.rule.now; number = g.R.FlatRule.number_by c.args.rule.now n }) graph c.as_slice-in-loop-depth.result.now) (ap length c.as_slice.ensures)
    ∙ ap (λ (xs : List (Option ℕ)). next_flats rule graph xs) (c.as_slice-in-loop-depth.ensures.value ∙ c.loop-depth.invariant)) in
    let same = sym c.as_slice-in-loop-depth-2.ensures.value ∙ (c.are_same.ensures c.if-are_same.true ∙ (c.as_slice-in-loop-depth-3.ensures.value ∙ c.loop-depth.invariant)) in
    let n = ap length c.as_slice-count.ensures in let lt = c.loop-depth-test.true in
    made ∙ at_last rule graph k (length graph.functions) (omega (arith, n, lt)) (sym made ∙ same)

pub next_numbers-requires-clause-kept : goal.next_numbers-requires-clause-kept
next_numbers-requires-clause-kept g c =
    let graph = c.args.g.now in let k = c.loop-depth._depth in
    let rule : ℕ → Rule = λ n. record { own = g.R.OwnWeights.own c.args.rule.now; number = g.R.FlatRule.number_by c.args.rule.now n } in
    let now = c.as_slice-in-loop-depth.result.now in
    let same = c.as_slice-in-loop-depth.ensures.value ∙ c.loop-depth.invariant in
    let keep = subst (λ (xs : List (Option ℕ)). Keep xs (next_flats (rule (length graph.objects)) graph xs)) (sym same) (flats_keep (rule (length graph.objects)) graph k) in
    subst (λ n. Keep now (next_flats (rule n) graph now)) (sym (ap length c.as_slice.ensures)) keep
