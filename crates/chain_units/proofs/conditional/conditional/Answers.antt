use Rattle.std.proofs.Common.{◌≡◌, ◌∙◌, false, refl, sym, subst}
use Rattle.std.specs.Prelude.{MatchOption, Option}
use Rattle.chain_units.specs.declared.cutting.Turning as code
use Rattle.flow_graph.specs.Nodes.{first_of, laid_items}
use Rattle.chain_units.specs.Known.{told_weights}
use Rattle.chain_units.specs.Marks.{is_conditional, turn_of}
use Rattle.chain_units.specs.Parts.{IsConditional}
use Rattle.chain_units.proofs.ConditionalLemmas.{in_some, turning_tells}
use Rattle.chain_units.proofs.conditional.conditional.Goals as goal

pub returns-in_ok-greatest-in-Some : goal.returns-in_ok-greatest-in-Some
returns-in_ok-greatest-in-Some g c =
    let k = g.K.Knowledge.known c.args.k.now in
    let pre = c.args.pre.now in
    let test = c.args.test.now in
    let post = c.args.post.now in
    let step = c.args.step.now in
    let behind = c.args.behind in
    let told = c.in_ok-greatest-in-Some.ensures in
    subst
    (λ (r : Option code.Turning). MatchOption r (is_conditional k (turn_of pre test post step) (first_of (laid_items pre) test.number) behind ≡ false) (IsConditional k pre test post step behind))
    (sym c.with_turn.ensures)
    (turning_tells k pre test post step behind c.first_of-top.result c.deref.result.now (told_weights c.in-Some.weights)
    (in_some _ _ c.in_ok-found.found c.in-Some.weights c.in-Some.is c.in_ok-found.ensures.told) (c.deref.ensures.value ∙ c.in_ok-touched-in-Some.ensures test) c.first_of-top.ensures
    c.in_ok-touched-in-Some.touched c.in-Some.weights c.deref.ensures.value refl c.in_ok-greatest-in-Some.greatest told.fits told.greatest)
