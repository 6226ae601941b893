use Rattle.std.proofs.Common.{◌∙◌}
use Rattle.cert_state.proofs.Costs.{cost_alike}
use Rattle.cert_state.proofs.places.cost_of.Goals as goal

pub returns-clause-value : goal.returns-clause-value
returns-clause-value c = c.cost_by.ensures.cost ∙ cost_alike c.args.b.now c.args.i _ _ _ _ c.read_by.ensures c.changed_by.ensures
