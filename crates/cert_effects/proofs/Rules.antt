-- What it means that a test of a rule doesn't fail.
use Rattle.std.proofs.Common.{◌≡◌, ℕ, ◌+◌, ◌*◌, ◌/◌, ◌%◌, ◌<◌, ◌≤◌, Bool, true, false, not, Option, Some, None, refl, sym, ap, ◌∙◌, subst, arith, ◌⊎◌, ⊎_elim}
use Rattle.std.specs.Prelude.{if◌then◌else◌, ◌&&◌, ℤ}
use Rattle.std.specs.Option.{option_or}
use Rattle.std.proofs.lemmas.Bool.Decides.{nat_tests}
use Rattle.board_table.specs.declared.board.Board.{Board}
use Rattle.msp430_isa.specs.declared.instr.Src.{Src}
use Rattle.msp430_isa.specs.declared.instr.Src.TheVariants.{Reg as FromReg, Index as FromIndex, Abs as FromAbs, At, AtPlus, Imm, Short}
use Rattle.msp430_isa.specs.declared.instr.Dst.{Dst}
use Rattle.msp430_isa.specs.declared.instr.Dst.TheVariants.{Reg as ToReg, Index as ToIndex, Abs as ToAbs}
use Rattle.msp430_isa.specs.declared.instr.TwoOp.{TwoOp}
use Rattle.msp430_isa.specs.declared.instr.TwoOp.TheVariants.{Mov as MOV, Add as ADD, Addc as ADDC, Subc as SUBC, Sub as SUB, Cmp as CMP, Bit as BIT, Bic as BIC, Bis as BIS, Xor as XOR, And as AND}
use Rattle.msp430_isa.specs.Profile.{is_move}
use Rattle.msp430_isa.specs.Results.{reads_destination, writes_destination}
use Rattle.msp430_machine.specs.declared.answer.Why.{Why}
use Rattle.msp430_machine.specs.declared.addresses.Region.{Region}
use Rattle.msp430_machine.specs.declared.addresses.Region.TheVariants.{Ports}
use Rattle.msp430_machine.specs.Addresses.{region}
use Rattle.msp430_machine.specs.Access.{AsSource, AsDestination, ByMove, ByOther, fault_of, first_of, source_fault, destination_fault}
use Rattle.msp430_machine.specs.Cost.{read_cost, read_cost_in, write_cost_in, destination_cost}
use Rattle.msp430_machine.specs.State.{State}
use Rattle.msp430_machine.specs.Operands.{Operand, Constant, InRegister, InMemory, source}
use Rattle.cert_rules.specs.declared.Rule.{Rule}
use Rattle.cert_rules.specs.Faults.{unless, unless_none}
use Rattle.cert_rules.specs.Slots.{is_sram}
use Rattle.cert_rules.specs.Forms.{is_plain_source}
use Rattle.cert_rules.specs.Known.{Known, is_set}
use Rattle.cert_rules.specs.Places.{Reach, Place, Number, InReg, InReach, may_read, may_be_destination, may_change, may_move_to, operand_of}
use Rattle.cert_rules.specs.Accesses.{reach_fault, set_fault, source_register, destination_register, word_of_reach, stale}
use Rattle.cert_effects.specs.Written.{Written, SourceHas, DestinationHas, is_word_of}
use Rattle.cert_effects.specs.Knows.{Holds}
use Rattle.cert_effects.proofs.Values.{Lies, equal_numbers}
use Rattle.cert_effects.proofs.Reaches.{Denotes, number, register_is, memory, IsLow, readable, read_low, move_low, change_low, no_fault_held, no_fault_input, no_fault_output, none_in}
use Rattle.cert_effects.proofs.Placing.{destination_lies}

pub none_parts : {A : Type 0} (x y : Option A) → option_or x y ≡ None → (x ≡ None) × (y ≡ None)
none_parts None y h = (refl, h)
none_parts (Some a) y h = absurd (let no : Some a ≡ None = h in cc)

pub unless_passes : (c : Bool) (rule : Rule) (a : ℕ) (left right : ℤ) → unless c rule a left right ≡ None → c ≡ true
unless_passes true rule a left right h = refl
unless_passes false rule a left right h = absurd (let no : Some (record { rule = rule; address = a; left = left; right = right }) ≡ None = h in cc)

pub number_passes : (o : Option ℕ) (rule : Rule) (a : ℕ) → unless_none o rule a ≡ None → o ≡ None
number_passes None rule a h = refl
number_passes (Some n) rule a h = absurd (let no : Some _ ≡ None = h in cc)

-- ---- Places

-- a place of memory is allowed
abbrev pub Allowed : (Reach → Bool) → Place → Type 0
Allowed allowed (Number v) = Unit {0}
Allowed allowed (InReg r) = Unit {0}
Allowed allowed (InReach p) = allowed p ≡ true

pub allowed_of : (a : ℕ) (allowed : Reach → Bool) (p : Place) → reach_fault a allowed p ≡ None → Allowed allowed p
allowed_of a allowed (Number v) h = tt
allowed_of a allowed (InReg r) h = tt
allowed_of a allowed (InReach p) h = unless_passes (allowed p) _ _ _ _ h

pub low_source : (p : Place) → Allowed may_read p → IsLow p
low_source (Number v) h = tt
low_source (InReg r) h = tt
low_source (InReach p) h = read_low p h

destination_low : (op : TwoOp) (p : Reach) → may_be_destination op p ≡ true → p.greatest < 65536
destination_low op p h = elim (is_move op) as (λ c. (if c then may_move_to p else may_change p) ≡ true → p.greatest < 65536) [
  | true ↦ λ k. move_low p k
  | false ↦ λ k. change_low p k
] h

pub low_destination : (op : TwoOp) (p : Place) → Allowed (may_be_destination op) p → IsLow p
low_destination op (Number v) h = tt
low_destination op (InReg r) h = tt
low_destination op (InReach p) h = destination_low op p h

-- ---- No access is at fault

pub source_operand_fault : (p : Place) (o : Operand) → Denotes p o → Allowed may_read p → fault_of AsSource false o ≡ None
source_operand_fault p o (number v) h = refl
source_operand_fault p o (register_is r g) h = refl
source_operand_fault p o (memory q a low high even) h =
    let r = readable q a h low high even in ⊎_elim (λ l. no_fault_held AsSource a l.here r.1) (λ i. no_fault_input a i.here) r.0

pub both_none : (x y : Option Why) → x ≡ None → y ≡ None → first_of x y ≡ None
both_none x y e f = ap (λ z. first_of z y) e ∙ f

held_fault : (op : TwoOp) (a : ℕ) → Lies a → a % 2 ≡ 0 → destination_fault op false (InMemory a) ≡ None
held_fault MOV a l e = no_fault_held ByMove a l e
held_fault CMP a l e = no_fault_held AsDestination a l e
held_fault BIT a l e = no_fault_held AsDestination a l e
held_fault ADD a l e = both_none _ _ (no_fault_held AsDestination a l e) (no_fault_held ByOther a l e)
held_fault ADDC a l e = both_none _ _ (no_fault_held AsDestination a l e) (no_fault_held ByOther a l e)
held_fault SUB a l e = both_none _ _ (no_fault_held AsDestination a l e) (no_fault_held ByOther a l e)
held_fault SUBC a l e = both_none _ _ (no_fault_held AsDestination a l e) (no_fault_held ByOther a l e)
held_fault BIC a l e = both_none _ _ (no_fault_held AsDestination a l e) (no_fault_held ByOther a l e)
held_fault BIS a l e = both_none _ _ (no_fault_held AsDestination a l e) (no_fault_held ByOther a l e)
held_fault XOR a l e = both_none _ _ (no_fault_held AsDestination a l e) (no_fault_held ByOther a l e)
held_fault AND a l e = both_none _ _ (no_fault_held AsDestination a l e) (no_fault_held ByOther a l e)

constant_fault : (op : TwoOp) (v : ℕ) → destination_fault op false (Constant v) ≡ None
constant_fault MOV v = refl
constant_fault CMP v = refl
constant_fault BIT v = refl
constant_fault ADD v = refl
constant_fault ADDC v = refl
constant_fault SUB v = refl
constant_fault SUBC v = refl
constant_fault BIC v = refl
constant_fault BIS v = refl
constant_fault XOR v = refl
constant_fault AND v = refl

register_fault : (op : TwoOp) (r : ℕ) → destination_fault op false (InRegister r) ≡ None
register_fault MOV r = refl
register_fault CMP r = refl
register_fault BIT r = refl
register_fault ADD r = refl
register_fault ADDC r = refl
register_fault SUB r = refl
register_fault SUBC r = refl
register_fault BIC r = refl
register_fault BIS r = refl
register_fault XOR r = refl
register_fault AND r = refl

pub destination_operand_fault : (op : TwoOp) (p : Place) (o : Operand) → Denotes p o → Allowed (may_be_destination op) p → destination_fault op false o ≡ None
destination_operand_fault op p o (number v) h = constant_fault op v
destination_operand_fault op p o (register_is r g) h = register_fault op r
destination_operand_fault op p o (memory q a low high even) h =
    let l = destination_lies op q a h low high even in
    ⊎_elim (λ x. held_fault op a x.here l.1) (λ x. subst (λ z. destination_fault z false (InMemory a) ≡ None) (sym x.0) (no_fault_output a x.1.here)) l.0

pub plain_source_fault : (s : State) (src : Src) → is_plain_source src ≡ true → source_fault false s src ≡ fault_of AsSource false (source s src)
plain_source_fault s (FromReg r) h = refl
plain_source_fault s (FromIndex r x) h = refl
plain_source_fault s (FromAbs a) h = refl
plain_source_fault s (Imm v) h = refl
plain_source_fault s (Short v) h = refl
plain_source_fault s (At r) h = absurd (let no : false ≡ true = h in cc)
plain_source_fault s (AtPlus r) h = absurd (let no : false ≡ true = h in cc)

-- ---- Costs

pub source_cost : (b : Board) (p : Place) (o : Operand) → Denotes p o → Allowed may_read p → read_cost b o ≡ read_cost b (operand_of p)
source_cost b p o (number v) h = refl
source_cost b p o (register_is r g) h = refl
source_cost b p o (memory q a low high even) h =
    let r = readable q a h low high even in
    ⊎_elim (λ l. ap (λ z. read_cost_in b z) (sym l.same)) (λ i. ap (λ n. read_cost_in b (region n)) i.here ∙ ap (λ z. read_cost_in b z) (sym i.least)) r.0

output_region : (a : ℕ) → (a ≡ 0x0F02) ⊎ (a ≡ 0x0F04) ⊎ (a ≡ 0x0F06) → region a ≡ Ports
output_region a h = ⊎_elim (λ e. ap region e) (λ k. ⊎_elim (λ e. ap region e) (λ e. ap region e) k) h

abbrev cost_in : Board → TwoOp → Region → ℕ
cost_in b op r = (if reads_destination op then read_cost_in b r else 0) + (if writes_destination op then write_cost_in b r else 0)

pub destination_costs : (b : Board) (op : TwoOp) (p : Place) (o : Operand) → Denotes p o → Allowed (may_be_destination op) p → destination_cost b op o ≡ destination_cost b op (operand_of p)
destination_costs b op p o (number v) h = refl
destination_costs b op p o (register_is r g) h = refl
destination_costs b op p o (memory q a low high even) h =
    let l = destination_lies op q a h low high even in
    ⊎_elim (λ x. ap (λ z. cost_in b op z) (sym x.same)) (λ x. ap (λ z. cost_in b op z) (output_region a x.1.here ∙ sym x.1.least)) l.0

-- ---- What is read was written

pub is_set_of : (a : ℕ) (κ : Known) (r : ℕ) → set_fault a κ (Some r) ≡ None → is_set κ r ≡ true
is_set_of a κ r h = unless_passes (is_set κ r) _ _ _ _ h

pub source_set : (κ : Known) (s : State) (w : Written) (n a : ℕ) (src : Src) (r : ℕ) → Holds κ s w n → set_fault a κ (source_register src) ≡ None → is_plain_source src ≡ true → SourceHas src r → w.registers r ≡ true
source_set κ s w n a (FromReg q) r h f p has = subst (λ z. w.registers z ≡ true) has (h.set q (is_set_of a κ q f))
source_set κ s w n a (FromIndex q x) r h f p has = subst (λ z. w.registers z ≡ true) has (h.set q (is_set_of a κ q f))
source_set κ s w n a (At q) r h f p has = absurd (let no : false ≡ true = p in cc)
source_set κ s w n a (AtPlus q) r h f p has = absurd (let no : false ≡ true = p in cc)
source_set κ s w n a (FromAbs x) r h f p has = absurd has
source_set κ s w n a (Imm v) r h f p has = absurd has
source_set κ s w n a (Short v) r h f p has = absurd has

moves_or_reads : (op : TwoOp) → reads_destination op ≡ true → is_move op ≡ false
moves_or_reads MOV e = sym e
moves_or_reads ADD e = refl
moves_or_reads ADDC e = refl
moves_or_reads SUB e = refl
moves_or_reads SUBC e = refl
moves_or_reads CMP e = refl
moves_or_reads BIT e = refl
moves_or_reads BIC e = refl
moves_or_reads BIS e = refl
moves_or_reads XOR e = refl
moves_or_reads AND e = refl

pub destination_set : (κ : Known) (s : State) (w : Written) (n a : ℕ) (op : TwoOp) (dst : Dst) (r : ℕ) → Holds κ s w n → set_fault a κ (destination_register op dst) ≡ None → DestinationHas op dst r → w.registers r ≡ true
destination_set κ s w n a op (ToReg q) r h f has =
    subst (λ z. w.registers z ≡ true) has.1 (h.set q (is_set_of a κ q (subst (λ c. set_fault a κ (if c then None else Some q) ≡ None) (moves_or_reads op has.0) f)))
destination_set κ s w n a op (ToIndex q x) r h f has = subst (λ z. w.registers z ≡ true) has (h.set q (is_set_of a κ q f))
destination_set κ s w n a op (ToAbs x) r h f has = absurd has

pub sram_is : (a : ℕ) → 0x1C00 ≤ a → a < 0x2400 → is_sram a ≡ true
sram_is a low high = grind (arith, nat_tests)

pub fresh_of : (κ : Known) (a : ℕ) → stale κ a ≡ false → is_sram a ≡ true → κ.fresh a ≡ true
fresh_of κ a e sr = not_not (κ.fresh a) (ap (λ c. c && not (κ.fresh a)) (sym sr) ∙ e)
  where
    not_not : (c : Bool) → not c ≡ false → c ≡ true
    not_not true e = refl
    not_not false e = absurd (let no : true ≡ false = e in cc)

pub word_written : (κ : Known) (s : State) (w : Written) (n : ℕ) (p : Place) (o : Operand) (a : ℕ) → Holds κ s w n → Denotes p o → ((q : Reach) (b : ℕ) → p ≡ InReach q → o ≡ InMemory b → b % 2 ≡ 0)
    → word_of_reach (stale κ) p ≡ None → 0x1C00 ≤ a → a < 0x2400 → is_word_of o a ≡ true → w.words a ≡ true
word_written κ s w n p o a h (number v) even f low high is = absurd (let no : false ≡ true = is in cc)
word_written κ s w n p o a h (register_is r g) even f low high is = absurd (let no : false ≡ true = is in cc)
word_written κ s w n p o a h (memory q b bl bh be) even f low high is =
    let eb : b % 2 ≡ 0 = even q b refl refl in
    let same : b / 2 * 2 ≡ a = equal_numbers (b / 2 * 2) a is in
    let it : b ≡ a = omega (arith, eb, same) in
    let free : stale κ b ≡ false = none_in (stale κ) q.least q.greatest b f bl bh eb in
    let ea : a % 2 ≡ 0 = ap (λ z. z % 2) (sym it) ∙ eb in
    h.fresh a ea (fresh_of κ a (ap (stale κ) (sym it) ∙ free) (sram_is a low high))
