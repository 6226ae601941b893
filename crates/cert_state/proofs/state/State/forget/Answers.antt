use Rattle.std.proofs.Common.{◌≡◌, ap}
use Rattle.cert_rules.specs.Known.{forgetting, range_of}
use Rattle.cert_rules.specs.Spending.{settled}
use Rattle.cert_state.specs.Views.{hit_by, known_of}
use Rattle.cert_state.proofs.Same.{same_known}
use Rattle.cert_state.proofs.Stores.{forgot_by}
use Rattle.cert_state.proofs.state.State.forget.Goals as goal

pub returns : goal.returns
returns c =
    let κ = known_of c.args.self.now in
    let hit = hit_by c.args.hit.now in
    let e : known_of c.settle.new.self ≡ record κ { spent = settled hit (range_of κ) κ.spent } = c.in_ok-settle.ensures in
    same_known (forgetting hit κ) _ _ _ _ _ _ (ap (λ k. k.stretch) e) (ap (λ k. k.spent) e)
    (λ x. forgot_by hit c.settle.new.self.values.items _ _ x (κ.range x) c.as_slice.ensures.value c.in_ok-values.ensures (ap (λ k. k.range x) e)) (λ a. ap (λ k. k.fresh a) e) (ap (λ k. k.flags) e) (ap (λ k. k.test) e)
