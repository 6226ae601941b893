-- What the decoder finds is the instruction that the definitions compute, and it can be executed.
use Rattle.std.proofs.Common.{◌≡◌, ℕ, ◌<◌, true, Some, None, Ok, Err, refl, subst, List, [], ◌∷◌}
use Rattle.std.specs.Prelude.{Option, Result, Bool, ◌&&◌}
use Rattle.std.proofs.lemmas.Bool.{and_parts}
use Rattle.msp430_isa.specs.declared.instr.OneOp.{OneOp}
use Rattle.msp430_isa.specs.declared.instr.Src.{Src}
use Rattle.msp430_isa.specs.declared.instr.Src.TheVariants.{Reg as FromReg, Index as FromIndex, Abs as FromAbs, At, AtPlus, Imm, Short}
use Rattle.msp430_isa.specs.declared.instr.Dst.{Dst}
use Rattle.msp430_isa.specs.declared.instr.Dst.TheVariants.{Reg as ToReg, Index as ToIndex, Abs as ToAbs}
use Rattle.msp430_isa.specs.declared.instr.Instr.{Instr}
use Rattle.msp430_isa.specs.declared.instr.Instr.TheVariants.{Two, One, Jump}
use Rattle.msp430_isa.specs.Encoding.{length_of}
use Rattle.msp430_isa.specs.Profile.{is_source, is_destination, guards_width, guards_numbers, guards_registers, guards_stack, guards_call, allows_one, is_allowed, numbers_fit}
use Rattle.msp430_isa.specs.Spelled.{Spells}
use Rattle.msp430_isa.specs.Decoding.{instruction_at}
use Rattle.msp430_isa.proofs.Operands.{source_register_low, destination_register_low}
use Rattle.msp430_isa.proofs.Spelling.{spelt_is_read, read_is_spelt, length_few, two_source, one_source}
use Rattle.msp430_machine.specs.Views.{HasSource, HasDestination, CanExecute}

has_source : (src : Src) → is_source src ≡ true → HasSource src
has_source (FromReg r) h = source_register_low (FromReg r) h
has_source (FromIndex r x) h = source_register_low (FromIndex r x) h
has_source (At r) h = source_register_low (At r) h
has_source (AtPlus r) h = source_register_low (AtPlus r) h
has_source (FromAbs a) h = tt
has_source (Imm v) h = tt
has_source (Short v) h = tt

has_destination : (dst : Dst) → is_destination dst ≡ true → HasDestination dst
has_destination (ToReg r) h = destination_register_low (ToReg r) h
has_destination (ToIndex r x) h = destination_register_low (ToIndex r x) h
has_destination (ToAbs a) h = tt

has_width : (op : OneOp) (byte : Bool) (src : Src) → allows_one op byte src ≡ true → guards_width op byte ≡ true
has_width op byte src h =
    let a = (and_parts (is_source src && guards_width op byte && guards_numbers op src && guards_registers op src && guards_stack op src) (guards_call op src) h).0 in
    let b = (and_parts (is_source src && guards_width op byte && guards_numbers op src && guards_registers op src) (guards_stack op src) a).0 in
    let c = (and_parts (is_source src && guards_width op byte && guards_numbers op src) (guards_registers op src) b).0 in
    let d = (and_parts (is_source src && guards_width op byte) (guards_numbers op src) c).0 in
    (and_parts (is_source src) (guards_width op byte) d).1

can_if_allowed : (i : Instr) → is_allowed i ≡ true → CanExecute i
can_if_allowed (Two op byte src dst) h = (let s = two_source op byte src dst h in (has_source src s.0, has_destination dst s.1))
can_if_allowed (One op byte src) h = (has_source src (one_source op byte src h), has_width op byte src h)
can_if_allowed (Jump on words) h = tt

pub can_execute : (words : List ℕ) (i : Instr) (n : ℕ) → Spells words i n → CanExecute i
can_execute words i n s = can_if_allowed i (and_parts (is_allowed i) (numbers_fit i) s.allowed).0

pub found : (w x y : ℕ) (i : Instr) (n : ℕ) → Spells (w ∷ x ∷ y ∷ []) i n → instruction_at w x y ≡ Some i
found w x y i n s = spelt_is_read (w ∷ x ∷ y ∷ []) i n s

-- where no instruction is spelt, none is computed
none_of : (w x y : ℕ) → x < 65536 → y < 65536 → ((i : Instr) (n : ℕ) → Spells (w ∷ x ∷ y ∷ []) i n → ⊥) → (o : Option Instr) → instruction_at w x y ≡ o → o ≡ None
none_of w x y hx hy unspelt None e = refl
none_of w x y hx hy unspelt (Some i) e = absurd (unspelt i (length_of i) (read_is_spelt (w ∷ x ∷ y ∷ []) i hx hy e (length_few i)))

pub none_found : (w x y : ℕ) → x < 65536 → y < 65536 → ((i : Instr) (n : ℕ) → Spells (w ∷ x ∷ y ∷ []) i n → ⊥) → instruction_at w x y ≡ None
none_found w x y hx hy unspelt = none_of w x y hx hy unspelt (instruction_at w x y) refl

is_refusal : {A E : Type 0} → Result A E → Type 0
is_refusal (Ok a) = ⊥
is_refusal (Err e) = Unit {0}

pub err_is_no_ok : {A E : Type 0} (a : A) (e : E) → Err e ≡ Ok a → ⊥
unfolding is_refusal
err_is_no_ok a e h = subst is_refusal h tt
