use Rattle.cert_state.proofs.Chains.{wrote_one}
use Rattle.cert_state.proofs.effects.compute_register.Goals as goal

pub returns : goal.returns
returns c = wrote_one _ _ _ c.args.r _ c.in_ok-settle.ensures c.in_ok-give.ensures c.any_word.ensures
