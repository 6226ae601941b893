use Rattle.std.proofs.Common.{ℕ, List, ◌++◌, ap, sym, ◌∙◌}
use Rattle.chain_units.specs.Costs.{touched_in_all}
use Rattle.chain_units.proofs.ConditionalLemmas.{touched-turn}
use Rattle.chain_units.proofs.conditional.turn_touched.Goals as goal

pub returns : goal.returns
returns g c test =
    let k = g.K.Knowledge.known c.args.k.now in
    let in_pre = touched_in_all k c.args.pre.now in
    let in_post = touched_in_all k c.args.post.now in
    c.in_ok-put_all-2.ensures
    ∙ (ap (λ (xs : List ℕ). xs ++ c.deref-2.result.now)
    (c.in_ok-put_all.ensures ∙ (ap (λ (xs : List ℕ). xs ++ c.deref.result.now) c.in_ok-touched.ensures ∙ ap (λ (xs : List ℕ). in_pre ++ xs) (c.deref.ensures.value ∙ c.in_ok-in_post.ensures)))
    ∙ (ap (λ (xs : List ℕ). (in_pre ++ in_post) ++ xs) (c.deref-2.ensures.value ∙ c.in_ok-in_step.ensures) ∙ sym (touched-turn k c.args.pre.now test c.args.post.now c.args.step.now)))
