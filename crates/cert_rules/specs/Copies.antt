-- A copy of an array, as one step.
use Rattle.std.specs.Prelude.{ℕ, ◌+◌, ◌*◌, ◌%◌, ◌==◌, true, false, [], ◌∷◌, Option}
use Rattle.std.specs.Option.{option_or}
use Rattle.board_table.specs.declared.board.Board.{Board}
use Rattle.certificate.specs.declared.cert.Slot.TheVariants.{Reg}
use Rattle.msp430_isa.specs.declared.instr.Src.TheVariants.{Abs as FromAbs}
use Rattle.msp430_isa.specs.declared.instr.Dst.TheVariants.{Abs as ToAbs}
use Rattle.msp430_isa.specs.declared.instr.TwoOp.TheVariants.{Mov as MOV}
use Rattle.msp430_isa.specs.declared.instr.Instr.TheVariants.{Two}
use Rattle.cert_rules.specs.Faults.{Fault, first_fault}
use Rattle.cert_rules.specs.Ranges.{just}
use Rattle.cert_rules.specs.Known.{Known, bare, with_cost, given, forgetting, hits, freshened}
use Rattle.cert_rules.specs.Places.{Reach, InReach, may_read, may_move_to, cost_of}
use Rattle.cert_rules.specs.Effects.{without}
use Rattle.cert_rules.specs.Sheet.{Sheet}
use Rattle.cert_rules.specs.Standing.{Copy}
use Rattle.cert_rules.specs.Accesses.{reach_fault, fresh_faults, writes_fault}

abbrev pub copied_from : Copy → Reach
copied_from c = record { least = c.source + 2; greatest = c.source + 2 * c.words; even = c.source % 2 == 0 }

abbrev pub copied_to : Copy → Reach
copied_to c = record { least = c.target + 2; greatest = c.target + 2 * c.words; even = c.target % 2 == 0 }

abbrev pub copy_places_fault : ℕ → Copy → Option Fault
copy_places_fault a c = option_or (reach_fault a may_read (InReach (copied_from c))) (reach_fault a may_move_to (InReach (copied_to c)))

abbrev pub copy_fault : Sheet → ℕ → Known → Copy → Option Fault
copy_fault t a κ c = first_fault (
    copy_places_fault a c
    ∷ fresh_faults a κ false (InReach (copied_from c)) (InReach (copied_to c))
    ∷ writes_fault a t.here.flat true (InReach (copied_to c))
    ∷ [])

abbrev pub copy_turn : Board → Copy → ℕ
copy_turn b c =
    cost_of b (bare 0 0) (Two MOV false (FromAbs (c.source + 2)) (ToAbs (c.target + 2))) + (b.core.alu + b.access.fetch) + (b.core.jump + b.access.fetch)

abbrev pub copy_cost : Board → Copy → ℕ
copy_cost b c = b.core.move_ + 2 * b.access.fetch + c.words * copy_turn b c

abbrev pub copied : Board → Copy → Known → Known
copied b c κ =
    let paid = with_cost (copy_cost b c) κ in
    let counted = given (Reg 15) (just 0) (without (Reg 15) paid) paid in
    let to = copied_to c in
    record (freshened to.least to.greatest (forgetting (hits to.least to.greatest) counted)) { flags = true }
