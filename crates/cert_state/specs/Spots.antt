-- Slots at any address.
use Rattle.certificate.specs.declared.cert.Slot.{Slot}
use Rattle.certificate.specs.declared.cert.Slot.TheVariants.{Reg, Word}
use Rattle.cert_state.specs.declared.slots.Spot.{Spot}
use Rattle.cert_state.specs.declared.slots.Spot.TheVariants.{Reg as IsReg, Word as IsWord}

abbrev pub slot_at : Spot → Slot
slot_at (IsReg r) = Reg r
slot_at (IsWord a) = Word a
