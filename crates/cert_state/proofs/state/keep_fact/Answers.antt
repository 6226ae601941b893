use Rattle.std.proofs.Common.{refl}
use Rattle.cert_state.proofs.Stores.{fact_moved}
use Rattle.cert_state.proofs.state.keep_fact.Goals as goal

pub returns : goal.returns
returns c = λ more x. fact_moved c.args.values.now.items _ _ c.args.fact.now more x c.in_ok-put.ensures refl c.range_at-range.ensures
