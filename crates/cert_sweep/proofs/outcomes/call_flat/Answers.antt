use Rattle.std.proofs.Common.{ap, ◌∙◌}
use Rattle.cert_rules.specs.Outcomes.{falls_only}
use Rattle.cert_sweep.proofs.outcomes.call_flat.Goals as goal

pub returns : goal.returns
returns c = c.falls_only.ensures ∙ ap falls_only c.in_ok-call.ensures
