-- What is known behind a copy, change by change.
use Rattle.std.proofs.Common.{◌≡◌, ℕ, true, ap, ◌∙◌}
use Rattle.board_table.specs.declared.board.Board.{Board}
use Rattle.certificate.specs.declared.cert.Slot.TheVariants.{Reg}
use Rattle.cert_rules.specs.Slots.{same_slot}
use Rattle.cert_rules.specs.Ranges.{Range, just}
use Rattle.cert_rules.specs.Spending.{settled}
use Rattle.cert_rules.specs.Known.{Known, range_of, with_cost, given, forgetting, hits, freshened}
use Rattle.cert_rules.specs.Places.{Reach}
use Rattle.cert_rules.specs.Effects.{without}
use Rattle.cert_rules.specs.Standing.{Copy}
use Rattle.cert_rules.specs.Copies.{copy_cost, copied_to, copied}

flagged : Known → Known
flagged k = record k { flags = true }

settling : Known → Known
settling k = record k { spent = settled (λ x. same_slot x (Reg 15)) (range_of k) k.spent }

pub copied_by : (b : Board) (c : Copy) (κ k1 k2 k3 k4 k5 : Known) (cost : ℕ) (r : Range) (to : Reach) → cost ≡ copy_cost b c → to ≡ copied_to c → r ≡ just 0 → k1 ≡ with_cost cost κ
    → k2 ≡ record k1 { spent = settled (λ x. same_slot x (Reg 15)) (range_of k1) k1.spent } → k3 ≡ given (Reg 15) r k2.spent k2 → k4 ≡ forgetting (hits to.least to.greatest) k3 → k5 ≡ freshened to.least to.greatest k4
    → record k5 { flags = true } ≡ copied b c κ
unfolding flagged settling
copied_by b c κ k1 k2 k3 k4 k5 cost r to ecost eto er e1 e2 e3 e4 e5 =
    let paid : Known = with_cost (copy_cost b c) κ in
    let first : k1 ≡ paid = e1 ∙ ap (λ n. with_cost n κ) ecost in
    let second : k2 ≡ settling paid = e2 ∙ ap settling first in
    let third : k3 ≡ given (Reg 15) (just 0) (without (Reg 15) paid) paid = e3 ∙ ap (λ k. given (Reg 15) r k.spent k) second ∙ ap (λ q. given (Reg 15) q (without (Reg 15) paid) paid) er in
    let fourth : k4 ≡ forgetting (hits to.least to.greatest) (given (Reg 15) (just 0) (without (Reg 15) paid) paid) = e4 ∙ ap (forgetting (hits to.least to.greatest)) third in
    ap flagged (e5 ∙ ap (freshened to.least to.greatest) fourth ∙ ap (λ (p : Reach). freshened p.least p.greatest (forgetting (hits p.least p.greatest) (given (Reg 15) (just 0) (without (Reg 15) paid) paid))) eto)
