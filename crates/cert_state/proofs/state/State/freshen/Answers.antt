use Rattle.std.proofs.Common.{refl}
use Rattle.cert_rules.specs.Known.{freshened}
use Rattle.cert_state.specs.Views.{known_of}
use Rattle.cert_state.proofs.Same.{same_known}
use Rattle.cert_state.proofs.Stores.{freshened_by}
use Rattle.cert_state.proofs.state.State.freshen.Goals as goal

pub returns-in_ok-put : goal.returns-in_ok-put
returns-in_ok-put c = same_known (freshened c.args.least c.args.greatest (known_of c.args.self.now)) _ _ _ _ _ _ refl refl (λ x. refl)
    (λ a. freshened_by c.args.self.now.fresh.items _ _ c.args.least c.args.greatest a c.in_ok-put.ensures c.max-lo.ensures c.min-hi.ensures) refl refl
