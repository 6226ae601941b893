-- The rules on what an instruction reads and writes.
use Rattle.std.specs.Prelude.{ℕ, nat_le, Bool, true, false, not, ◌&&◌, ◌||◌, List, [], ◌∷◌, Option, Some, None, pos, if◌then◌else◌}
use Rattle.std.specs.Option.{option_or}
use Rattle.certificate.specs.declared.cert.Span.{Span}
use Rattle.certificate.specs.Rows.{Flat}
use Rattle.msp430_isa.specs.declared.instr.Src.{Src}
use Rattle.msp430_isa.specs.declared.instr.Src.TheVariants.{Reg as FromReg, Index as FromIndex}
use Rattle.msp430_isa.specs.declared.instr.Dst.{Dst}
use Rattle.msp430_isa.specs.declared.instr.Dst.TheVariants.{Reg as ToReg, Index as ToIndex, Abs as ToAbs}
use Rattle.msp430_isa.specs.declared.instr.TwoOp.{TwoOp}
use Rattle.msp430_isa.specs.declared.instr.TwoOp.TheVariants.{Addc as ADDC}
use Rattle.msp430_isa.specs.declared.instr.Instr.{Instr}
use Rattle.msp430_isa.specs.declared.instr.Instr.TheVariants.{Two, One, Jump}
use Rattle.msp430_isa.specs.Profile.{is_move}
use Rattle.msp430_isa.specs.Results.{reads_destination, writes_destination}
use Rattle.cert_rules.specs.declared.Rule.TheVariants.{Set, Place as OutOfPlace, Fresh, Writes, Keep}
use Rattle.cert_rules.specs.Faults.{Fault, unless, unless_none, first_fault}
use Rattle.cert_rules.specs.Slots.{is_sram, is_memory, in_spans, first_in}
use Rattle.cert_rules.specs.Known.{Known, is_set}
use Rattle.cert_rules.specs.Places.{Reach, Place, Number, InReg, InReach, may_read, may_be_destination, source_place, destination_place}
use Rattle.cert_rules.specs.Effects.{is_always}
use Rattle.cert_rules.specs.Sheet.{Sheet}

abbrev pub set_fault : ℕ → Known → Option ℕ → Option Fault
set_fault a κ None = None
set_fault a κ (Some r) = unless (is_set κ r) Set a (pos r) (pos 0)

abbrev pub source_register : Src → Option ℕ
source_register (FromReg r) = Some r
source_register (FromIndex r x) = Some r
source_register src = None

abbrev pub destination_register : TwoOp → Dst → Option ℕ
destination_register op (ToReg r) = if is_move op then None else Some r
destination_register op (ToIndex r x) = Some r
destination_register op (ToAbs a) = None

abbrev pub needs_carry : TwoOp → Bool
needs_carry ADDC = true
needs_carry op = false

abbrev pub flags_fault : ℕ → Known → Bool → Option Fault
flags_fault a κ needed = unless (not needed || κ.flags) Set a (pos 2) (pos 0)

abbrev pub sets_fault : ℕ → Known → Instr → Option Fault
sets_fault a κ (Two op byte src dst) = first_fault (
    set_fault a κ (source_register src) ∷ set_fault a κ (destination_register op dst) ∷ flags_fault a κ (needs_carry op) ∷ [])
sets_fault a κ (One op byte src) = set_fault a κ (source_register src)
sets_fault a κ (Jump on words) = flags_fault a κ (not (is_always on))

abbrev pub reach_fault : ℕ → (Reach → Bool) → Place → Option Fault
reach_fault a allowed (Number v) = None
reach_fault a allowed (InReg r) = None
reach_fault a allowed (InReach p) = unless (allowed p) OutOfPlace a (pos p.least) (pos p.greatest)

abbrev pub places_fault : ℕ → TwoOp → Place → Place → Option Fault
places_fault a op src dst = option_or (reach_fault a may_read src) (reach_fault a (may_be_destination op) dst)

-- the first word of a reach that is one of these
abbrev pub word_of_reach : (ℕ → Bool) → Place → Option ℕ
word_of_reach p (Number v) = None
word_of_reach p (InReg r) = None
word_of_reach p (InReach q) = first_in p q.least q.greatest

abbrev pub stale : Known → ℕ → Bool
stale κ a = is_sram a && not (κ.fresh a)

abbrev pub fresh_faults : ℕ → Known → Bool → Place → Place → Option Fault
fresh_faults a κ reads src dst = option_or (unless_none (word_of_reach (stale κ) src) Fresh a) (unless_none (if reads then word_of_reach (stale κ) dst else None) Fresh a)

-- a word that a flat function doesn't name
abbrev pub unnamed : List Span → ℕ → Bool
unnamed writes a = is_memory a && not (in_spans writes a)

abbrev pub writes_fault : ℕ → Option Flat → Bool → Place → Option Fault
writes_fault a None writes dst = None
writes_fault a (Some f) writes dst = unless_none (if writes then word_of_reach (unnamed f.writes) dst else None) Writes a

abbrev pub is_kept : ℕ → Bool
is_kept r = nat_le 4 r && nat_le r 10

abbrev pub keep_fault_of : ℕ → Place → Option Fault
keep_fault_of a (InReg r) = unless (not (is_kept r)) Keep a (pos r) (pos 0)
keep_fault_of a p = None

abbrev pub keep_fault : ℕ → Option Flat → Bool → Place → Option Fault
keep_fault a None writes dst = None
keep_fault a (Some f) writes dst = if writes then keep_fault_of a dst else None

abbrev pub two_fault : Sheet → ℕ → Known → TwoOp → Place → Place → Option Fault
two_fault t a κ op src dst = first_fault (
    places_fault a op src dst
    ∷ fresh_faults a κ (reads_destination op) src dst
    ∷ writes_fault a t.here.flat (writes_destination op) dst
    ∷ keep_fault a t.here.flat (writes_destination op) dst
    ∷ [])

abbrev pub access_faults : Sheet → ℕ → Known → Instr → Option Fault
access_faults t a κ (Two op byte src dst) = two_fault t a κ op (source_place κ src) (destination_place κ dst)
access_faults t a κ (One op byte src) = keep_fault a t.here.flat true (source_place κ src)
access_faults t a κ (Jump on words) = None
