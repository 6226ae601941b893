-- Changes of what is known, one after another.
use Rattle.std.proofs.Common.{◌≡◌, ℕ, true, ap, ◌∙◌}
use Rattle.certificate.specs.declared.cert.Slot.{Slot}
use Rattle.certificate.specs.declared.cert.Slot.TheVariants.{Reg}
use Rattle.msp430_isa.specs.declared.instr.TwoOp.{TwoOp}
use Rattle.cert_rules.specs.Slots.{same_slot}
use Rattle.cert_rules.specs.Ranges.{Range, any_word}
use Rattle.cert_rules.specs.Spending.{settled}
use Rattle.cert_rules.specs.Known.{Known, range_of, given}
use Rattle.cert_rules.specs.Places.{Place, InReg}
use Rattle.cert_rules.specs.Effects.{without, range_after, spent_after, with_written, computed_one}

pub wrote_one : (κ mid last : Known) (r : ℕ) (range : Range) → mid ≡ record κ { spent = settled (λ x. same_slot x (Reg r)) (range_of κ) κ.spent } → last ≡ given (Reg r) range mid.spent mid → range ≡ any_word
    → record last { flags = true } ≡ computed_one (InReg r) κ
wrote_one κ mid last r range settles gives any =
    ap (λ k. let j : Known = record k { flags = true } in j) (gives ∙ ap (λ k. given (Reg r) range k.spent k) settles ∙ ap (λ q. given (Reg r) q (without (Reg r) κ) κ) any)

pub wrote : (κ mid last : Known) (op : TwoOp) (src : Place) (x : Slot) (range : Range) → mid ≡ record κ { spent = spent_after κ op src x } → last ≡ given x range mid.spent mid → range ≡ range_after κ op src x
    → last ≡ with_written op src x κ
wrote κ mid last op src x range spends gives is = gives ∙ ap (λ k. given x range k.spent k) spends ∙ ap (λ q. given x q (spent_after κ op src x) κ) is
