use Rattle.std.proofs.Common.{◌∙◌, refl}
use Rattle.chain_units.proofs.UnitsLemmas.{best_same, first_same, pieces_count}
use Rattle.chain_units.proofs.plan.plan_plain.Goals as goal

pub returns-clause-plan : goal.returns-clause-plan
returns-clause-plan g c us are =
    let k = g.K.Knowledge.known c.args.k.now in
    let ps = c.args.pieces.now in
    record {
      first_op = c.first_of.ensures ∙ first_same k us ps are;
      items = pieces_count k us ps are;
      turns = refl;
      stretches = best_same k us ps c.in_ok-stretches.stretches.items are c.in_ok-stretches.ensures;
    }
