use Rattle.std.proofs.Common.{ap, false, ◌∙◌}
use Rattle.certificate.specs.Rows.{flat_of}
use Rattle.cert_rules.specs.Known.{Known, forgetting}
use Rattle.cert_rules.specs.Effects.{lost_by_call}
use Rattle.cert_state.proofs.effects.call.Goals as goal

pub returns : goal.returns
returns c = ap (λ k. let j : Known = record k { flags = false } in j) (c.in_ok-forget.ensures ∙ ap (forgetting (lost_by_call (flat_of c.args.f.now))) c.in_ok-pay.ensures)
