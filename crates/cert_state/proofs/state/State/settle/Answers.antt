use Rattle.std.proofs.Common.{ap}
use Rattle.cert_rules.specs.Known.{Known}
use Rattle.cert_state.specs.Views.{known_of}
use Rattle.cert_state.proofs.state.State.settle.Goals as goal

pub returns : goal.returns
returns c = ap (λ spent. let k : Known = record (known_of c.args.self.now) { spent = spent } in k) c.in_ok-settle.ensures
