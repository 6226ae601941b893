use Rattle.std.proofs.Common.{◌≡◌, true, refl}
use Rattle.cert_rules.specs.Slots.{is_held}
use Rattle.cert_rules.specs.Known.{given}
use Rattle.cert_state.specs.Spots.{slot_at}
use Rattle.cert_state.specs.Views.{known_of, ranged}
use Rattle.cert_state.proofs.Same.{same_known}
use Rattle.cert_state.proofs.Stores.{given_by}
use Rattle.cert_state.proofs.state.State.give.Goals as goal

pub returns-in_ok-values : goal.returns-in_ok-values
returns-in_ok-values c =
    let held : is_held (slot_at c.args.w) ≡ true = cc in
    let κ = known_of c.args.self.now in
    same_known (given (slot_at c.args.w) (ranged c.args.range) κ.spent κ) _ _ _ _ _ _ refl refl
    (λ x. given_by c.args.self.now.values.items _ _ (slot_at c.args.w) _ c.args.range x held c.held_slot.ensures c.as_slice.ensures.value c.in_ok-values.ensures) (λ a. refl) refl refl
