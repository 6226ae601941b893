-- The whole of an instruction that only computes.
use Rattle.std.proofs.Common.{◌≡◌, ℕ, ◌+◌, ◌-◌, ◌*◌, ◌%◌, ◌≤◌, Bool, true, false, not, None, List, refl, sym, ap, ◌∙◌, subst, arith, inl, inr, ◌⊎◌, ⊎_elim}
use Rattle.std.specs.Prelude.{if◌then◌else◌, ◌||◌, ◌&&◌}
use Rattle.board_table.specs.declared.board.Board.{Board}
use Rattle.certificate.specs.declared.cert.Slot.{Slot}
use Rattle.certificate.specs.declared.cert.Slot.TheVariants.{Reg, Word}
use Rattle.msp430_isa.specs.declared.instr.Src.{Src}
use Rattle.msp430_isa.specs.declared.instr.Dst.{Dst}
use Rattle.msp430_isa.specs.declared.instr.Dst.TheVariants.{Reg as ToReg, Index as ToIndex, Abs as ToAbs}
use Rattle.msp430_isa.specs.declared.instr.TwoOp.{TwoOp}
use Rattle.msp430_isa.specs.declared.instr.TwoOp.TheVariants.{Mov as MOV, Add as ADD, Addc as ADDC, Subc as SUBC, Sub as SUB, Cmp as CMP, Bit as BIT, Bic as BIC, Bis as BIS, Xor as XOR, And as AND}
use Rattle.msp430_isa.specs.declared.instr.Instr.{Instr}
use Rattle.msp430_isa.specs.declared.instr.Instr.TheVariants.{Two, One, Jump}
use Rattle.msp430_isa.specs.Encoding.{length_of}
use Rattle.msp430_isa.specs.Results.{Flags, two_result, two_flags, reads_destination, writes_destination}
use Rattle.msp430_machine.specs.Access.{access_fault}
use Rattle.msp430_machine.specs.Cost.{cost, read_cost}
use Rattle.msp430_machine.specs.State.{Phase, State}
use Rattle.msp430_machine.specs.Operands.{Operand, Constant, InRegister, InMemory, source, destination}
use Rattle.msp430_machine.specs.Execution.{source_value, after_source, destination_value, with_value, done}
use Rattle.msp430_machine.specs.Steps.{begun}
use Rattle.cert_rules.specs.Forms.{is_plain_source, is_plain_destination}
use Rattle.cert_rules.specs.Known.{Known, range_of, with_cost}
use Rattle.cert_rules.specs.Places.{Reach, Place, Number, InReg, InReach, is_certain, one_address, offset_by, may_read, may_be_destination, source_place, destination_place, operand_of, cost_of}
use Rattle.cert_rules.specs.Effects.{with_result, leaves_flags, test_of, test_of_held, test_of_slot, computed}
use Rattle.cert_rules.specs.Slots.{is_held}
use Rattle.cert_rules.specs.Points.{slot_number}
use Rattle.cert_rules.specs.Sheet.{Sheet}
use Rattle.cert_rules.specs.Accesses.{sets_fault, access_faults, set_fault, source_register, destination_register, flags_fault, needs_carry, word_of_reach, stale}
use Rattle.cert_rules.specs.Outcomes.{always_ends}
use Rattle.cert_effects.specs.Written.{Written, wrote, written_place, is_register, is_word_of, two_leaves_flags, two_needs_flags, ReadsOnly, DestinationHas}
use Rattle.cert_effects.specs.Knows.{value_of, HoldsTest, IsOf, Holds, Knows}
use Rattle.cert_effects.proofs.Values.{SameValues, same_values}
use Rattle.cert_effects.proofs.Reaches.{Denotes, number, register_is, memory, readable, source_denotes, destination_denotes}
use Rattle.cert_effects.proofs.Knowing.{More, holds_moved, holds_more, holds_paid, holds_flags}
use Rattle.cert_effects.proofs.Writing.{Means, a_number, a_register, a_word}
use Rattle.cert_effects.proofs.Placing.{IsEnd, Kept, Notes, Result, destination_lies, ends_there}
use Rattle.cert_effects.proofs.Rules.{none_parts, unless_passes, number_passes, Allowed, allowed_of, low_source, low_destination, source_operand_fault, destination_operand_fault, plain_source_fault, source_cost, destination_costs, source_set, destination_set, word_written, both_none}
use Rattle.cert_effects.proofs.Computing.{InputWords, SourceLow, number_low, begun_same, source_same, destination_same, Alike, source_alike, source_means, means_moved, Holds_value, destination_holds, placed, cmp_tests, sub_tests, untold, itself, touches, placed_leaves}

-- the slots that an instruction may write
abbrev pub may_write : Known → Instr → Slot → Bool
may_write κ (Two op byte src dst) x = writes_destination op && touches (destination_place κ dst) x
may_write κ (One op byte src) x = touches (source_place κ src) x
may_write κ (Jump on words) x = false

-- What a step that keeps the rules is: it has no fault, costs what the rules say, reads only what was written, leaves what is
-- known, and changes no other slot, nor SP and the call stack.
pub record Performs (b : Board) (input : List ℕ) (i : Instr) (κ : Known) (s : State) (w : Written) (n : ℕ) (next : Known) : Type 0 where
  pub allowed : access_fault s i ≡ None
  pub costs : cost b s i ≡ cost_of b κ i
  pub reads : ReadsOnly w s i
  pub knows : Knows next (done input i (begun (cost b s i) i s)) (wrote s i w) (n + cost b s i)
  pub pc : (done input i (begun (cost b s i) i s)).reg 0 ≡ (s.reg 0 + 2 * length_of i) % 65536
  pub sp : (done input i (begun (cost b s i) i s)).reg 1 ≡ s.reg 1
  pub stack : (k : ℕ) → 0x3F80 ≤ k → (done input i (begun (cost b s i) i s)).fram k ≡ s.fram k
  pub leaves : (z : Slot) → may_write κ i z ≡ false → value_of (done input i (begun (cost b s i) i s)) z ≡ value_of s z
  pub code : (done input i (begun (cost b s i) i s)).code ≡ s.code
  pub charge : (done input i (begun (cost b s i) i s)).charge ≡ s.charge - cost b s i
  pub phase : ((done input i (begun (cost b s i) i s)).phase ≡ s.phase) ⊎ IsEnd (done input i (begun (cost b s i) i s)).phase

-- ---- Small parts

same_then : (s t u : State) → SameValues s t → SameValues t u → SameValues s u
same_then s t u h k = record { registers = λ r g. k.registers r g ∙ h.registers r g; sram = k.sram ∙ h.sram; fram = k.fram ∙ h.fram; code = k.code ∙ h.code }

with_flags_same : (s : State) (f : Flags) → SameValues s (record s { flags = f })
with_flags_same s f = record { registers = λ r g. refl; sram = refl; fram = refl; code = refl }

means_paid : (κ : Known) (c : ℕ) (s : State) (p : Place) (v : ℕ) → Means κ s p v → Means (with_cost c κ) s p v
means_paid κ c s p v (a_number x lt) = a_number x lt
means_paid κ c s p v (a_register r) = a_register r
means_paid κ c s p v (a_word q u within lt) = a_word q u within lt

or_left : (a b : Bool) → a ≡ true → (a || b) ≡ true
or_left a b e = ap (λ c. c || b) e

or_right : (a b : Bool) → b ≡ true → (a || b) ≡ true
or_right true b e = refl
or_right false b e = e

pub wrote_more : (s : State) (i : Instr) (w : Written) → More w (wrote s i w)
wrote_more s i w = record {
  registers = λ r e. or_right (is_register (written_place s i) r) (w.registers r) e;
  words = λ a e. or_right (is_word_of (written_place s i) a) (w.words a) e;
  flags = λ e. or_right _ w.flags e;
}

wrote_notes : (s : State) (i : Instr) (w : Written) → Notes (written_place s i) (wrote s i w)
wrote_notes s i w = record {
  registers = λ r e. or_left (is_register (written_place s i) r) (w.registers r) e;
  words = λ a e. or_left (is_word_of (written_place s i) a) (w.words a) e;
}

flags_same : (op : TwoOp) → leaves_flags op ≡ two_leaves_flags op
flags_same MOV = refl
flags_same ADD = refl
flags_same ADDC = refl
flags_same SUB = refl
flags_same SUBC = refl
flags_same CMP = refl
flags_same BIT = refl
flags_same BIC = refl
flags_same BIS = refl
flags_same XOR = refl
flags_same AND = refl

needs_same : (op : TwoOp) → two_needs_flags op ≡ needs_carry op
needs_same MOV = refl
needs_same ADD = refl
needs_same ADDC = refl
needs_same SUB = refl
needs_same SUBC = refl
needs_same CMP = refl
needs_same BIT = refl
needs_same BIC = refl
needs_same BIS = refl
needs_same XOR = refl
needs_same AND = refl

needed : (n f : Bool) → (not n || f) ≡ true → n ≡ true → f ≡ true
needed true f h e = h
needed false f h e = absurd (let no : false ≡ true = e in cc)

phase_chain : (p q r : Phase) → (p ≡ q) ⊎ IsEnd p → (q ≡ r) ⊎ IsEnd q → (p ≡ r) ⊎ IsEnd p
phase_chain p q r first second = ⊎_elim (λ e. ⊎_elim (λ f. inl (e ∙ f)) (λ f. inr (subst IsEnd (sym e) f)) second) (λ e. inr e) first

-- ---- What the flags tell, behind any operation

two_tests : (op : TwoOp) (κ : Known) (s : State) (w : Written) (n : ℕ) → Holds κ s w n → (carry : Bool) (f : Flags) (src : Place) (v : ℕ) → Means κ s src v → (p : Place) (o : Operand) → Denotes p o
    → Allowed (may_be_destination op) p → (d : ℕ) → Holds_value s o d → s.flags ≡ two_flags op false f v d
    → (writes_destination op ≡ true → Kept s (with_value false s o (two_result op false carry v d)))
    → HoldsTest (test_of op src p) (if writes_destination op then with_value false s o (two_result op false carry v d) else s)
two_tests CMP κ s w n h carry f src v (a_number c lt) p o den a d is flags kept = cmp_tests κ s w n h c lt p o den a d is flags
two_tests CMP κ s w n h carry f src v (a_register r) p o den a d is flags kept = tt
two_tests CMP κ s w n h carry f src v (a_word q u within lt) p o den a d is flags kept = tt
two_tests SUB κ s w n h carry f src v (a_number c lt) p o den a d is flags kept = sub_tests s c p o den a d flags (kept refl)
two_tests SUB κ s w n h carry f src v (a_register r) p o den a d is flags kept = tt
two_tests SUB κ s w n h carry f src v (a_word q u within lt) p o den a d is flags kept = tt
two_tests MOV κ s w n h carry f src v m p o den a d is flags kept = untold MOV (λ c x. refl) src p _
two_tests ADD κ s w n h carry f src v m p o den a d is flags kept = untold ADD (λ c x. refl) src p _
two_tests ADDC κ s w n h carry f src v m p o den a d is flags kept = untold ADDC (λ c x. refl) src p _
two_tests SUBC κ s w n h carry f src v m p o den a d is flags kept = untold SUBC (λ c x. refl) src p _
two_tests BIT κ s w n h carry f src v m p o den a d is flags kept = untold BIT (λ c x. refl) src p _
two_tests BIC κ s w n h carry f src v m p o den a d is flags kept = untold BIC (λ c x. refl) src p _
two_tests BIS κ s w n h carry f src v m p o den a d is flags kept = untold BIS (λ c x. refl) src p _
two_tests XOR κ s w n h carry f src v m p o den a d is flags kept = untold XOR (λ c x. refl) src p _
two_tests AND κ s w n h carry f src v m p o den a d is flags kept = untold AND (λ c x. refl) src p _

-- a test of a register is of the destination
of_slot : (op : TwoOp) (c : ℕ) (x : Slot) (q : ℕ) → IsOf (test_of_slot op c x) q → (reads_destination op ≡ true) × (x ≡ Reg q)
of_slot CMP c x q h = (refl, h)
of_slot SUB c x q h = (refl, h)
of_slot MOV c x q h = absurd h
of_slot ADD c x q h = absurd h
of_slot ADDC c x q h = absurd h
of_slot SUBC c x q h = absurd h
of_slot BIT c x q h = absurd h
of_slot BIC c x q h = absurd h
of_slot BIS c x q h = absurd h
of_slot XOR c x q h = absurd h
of_slot AND c x q h = absurd h

of_held : (op : TwoOp) (c : ℕ) (x : Slot) (q : ℕ) → IsOf (test_of_held op c x) q → (reads_destination op ≡ true) × (x ≡ Reg q)
of_held op c x q h = by_case (is_held x) h
  where
    by_case : (b : Bool) → IsOf (if b then test_of_slot op c x else None) q → (reads_destination op ≡ true) × (x ≡ Reg q)
    by_case true h = of_slot op c x q h
    by_case false h = absurd h

of_register : (κ : Known) (op : TwoOp) (src : Place) (dst : Dst) (q : ℕ) → IsOf (test_of op src (destination_place κ dst)) q → DestinationHas op dst q
of_register κ op (Number c) (ToReg r) q h = (let p = of_held op c (Reg r) q h in (p.0, ap slot_number p.1))
of_register κ op (Number c) (ToIndex r x) q h = of_reach (is_certain (offset_by x (range_of κ (Reg r)))) h
  where
    of_reach : (b : Bool) → IsOf (if b then test_of_held op c (Word (offset_by x (range_of κ (Reg r))).least) else None) q → r ≡ q
    of_reach true h = absurd (let no : Word _ ≡ Reg q = (of_held op c (Word (offset_by x (range_of κ (Reg r))).least) q h).1 in cc)
    of_reach false h = absurd h
of_register κ op (Number c) (ToAbs x) q h = (let no : Word x ≡ Reg q = (of_held op c (Word x) q (certain_or x h)).1 in absurd (let bad : Word x ≡ Reg q = no in cc))
  where
    certain_or : (x : ℕ) → IsOf (if is_certain (one_address x) then test_of_held op c (Word x) else None) q → IsOf (test_of_held op c (Word x)) q
    certain_or x h = by_case (is_certain (one_address x)) h
      where
        by_case : (b : Bool) → IsOf (if b then test_of_held op c (Word x) else None) q → IsOf (test_of_held op c (Word x)) q
        by_case true h = h
        by_case false h = absurd h
of_register κ op (InReg r) dst q h = absurd h
of_register κ op (InReach p) dst q h = absurd h

-- ---- An operation with two operands

abbrev of_memory : Operand → ℕ
of_memory (InMemory b) = b
of_memory (Constant v) = 0
of_memory (InRegister r) = 0

-- the word of an operand that is read is even
even_source : (p : Place) (o : Operand) → Denotes p o → Allowed may_read p → (q : Reach) (b : ℕ) → p ≡ InReach q → o ≡ InMemory b → b % 2 ≡ 0
even_source p o den a q b ep eo = by_case p o den a q b ep eo
  where
    by_case : (p : Place) (o : Operand) → Denotes p o → Allowed may_read p → (q : Reach) (b : ℕ) → p ≡ InReach q → o ≡ InMemory b → b % 2 ≡ 0
    by_case p o (number v) a q b ep eo = absurd (let no : Constant v ≡ InMemory b = eo in cc)
    by_case p o (register_is r g) a q b ep eo = absurd (let no : InRegister r ≡ InMemory b = eo in cc)
    by_case p o (memory x y low high even) a q b ep eo = (let same : y ≡ b = ap of_memory eo in ap (λ z. z % 2) (sym same) ∙ (readable x y a low high even).1)

even_destination : (op : TwoOp) (p : Place) (o : Operand) → Denotes p o → Allowed (may_be_destination op) p → (q : Reach) (b : ℕ) → p ≡ InReach q → o ≡ InMemory b → b % 2 ≡ 0
even_destination op p o den a q b ep eo = by_case p o den a q b ep eo
  where
    by_case : (p : Place) (o : Operand) → Denotes p o → Allowed (may_be_destination op) p → (q : Reach) (b : ℕ) → p ≡ InReach q → o ≡ InMemory b → b % 2 ≡ 0
    by_case p o (number v) a q b ep eo = absurd (let no : Constant v ≡ InMemory b = eo in cc)
    by_case p o (register_is r g) a q b ep eo = absurd (let no : InRegister r ≡ InMemory b = eo in cc)
    by_case p o (memory x y low high even) a q b ep eo = (let same : y ≡ b = ap of_memory eo in ap (λ z. z % 2) (sym same) ∙ (destination_lies op x y a low high even).1)

module _ (b : Board) (input : List ℕ) (words : InputWords input) (sheet : Sheet) (a : ℕ) (κ : Known) (s : State) (w : Written) (n : ℕ) (k : Knows κ s w n)
    (op : TwoOp) (src : Src) (dst : Dst) (plain_source : is_plain_source src ≡ true) (plain_destination : is_plain_destination dst ≡ true) (low : SourceLow src)
    (sets : sets_fault a κ (Two op false src dst) ≡ None) (accesses : access_faults sheet a κ (Two op false src dst) ≡ None) where
  abbrev i : Instr
  i = Two op false src dst

  abbrev sp : Place
  sp = source_place κ src

  abbrev dp : Place
  dp = destination_place κ dst

  abbrev c : ℕ
  c = cost_of b κ i

  abbrev s1 : State
  s1 = begun (cost b s i) i s

  abbrev s2 : State
  s2 = after_source false s1 src

  abbrev o : Operand
  o = destination s2 dst

  abbrev v : ℕ
  v = source_value input false s1 (source s1 src)

  abbrev d : ℕ
  d = destination_value false s2 o

  abbrev s3 : State
  s3 = record s2 { flags = two_flags op false s2.flags v d }

  abbrev r : ℕ
  r = two_result op false s2.flags.carry v d

  abbrev wr : Written
  wr = wrote s i w

  abbrev κp : Known
  κp = with_cost c κ

  abbrev last : State
  last = if writes_destination op then with_value false s3 o r else s3

  source_allowed : Allowed may_read sp
  source_allowed = allowed_of a may_read sp (none_parts _ _ (none_parts _ _ accesses).0).0

  destination_allowed : Allowed (may_be_destination op) dp
  destination_allowed = allowed_of a (may_be_destination op) dp (none_parts _ _ (none_parts _ _ accesses).0).1

  source_is : Denotes sp (source s src)
  source_is = source_denotes κ s src plain_source k.all.range (low_source sp source_allowed)

  destination_is : Denotes dp (destination s dst)
  destination_is = destination_denotes κ s dst plain_destination k.all.range (low_destination op dp destination_allowed)

  first : SameValues s s1
  first = begun_same (cost b s i) i s

  second : Alike s1 s2
  second = source_alike s1 src plain_source

  third : SameValues s s3
  third = same_then s s1 s3 first (same_then s1 s2 s3 second.values (with_flags_same s2 (two_flags op false s2.flags v d)))

  source_of_begun : Denotes sp (source s1 src)
  source_of_begun = subst (λ x. Denotes sp x) (sym (source_same s s1 src first plain_source)) source_is

  same_place : o ≡ destination s dst
  same_place = destination_same s s2 dst (same_then s s1 s2 first second.values) plain_destination

  destination_of_begun : Denotes dp o
  destination_of_begun = subst (λ x. Denotes dp x) (sym same_place) destination_is

  means : Means κp s3 sp v
  means =
      let m1 : Means κ s1 sp v = source_means κ s1 w n input sp (source s1 src) (holds_moved κ s s1 w n (λ x. same_values s s1 x first) k.all) words source_of_begun source_allowed (number_low κ src low) in
      means_moved κp s1 s3 sp v (same_then s1 s2 s3 second.values (with_flags_same s2 (two_flags op false s2.flags v d))) (means_paid κ c s1 sp v m1)

  holds : Holds κp s3 wr (n + c)
  holds = holds_moved κp s s3 wr (n + c) (λ x. same_values s s3 x third) (holds_more κp s w wr (n + c) (wrote_more s i w) (holds_paid κ s w n c k.all))

  value : Holds_value s3 o d
  value = destination_holds s2 s3 dp o (with_flags_same s2 (two_flags op false s2.flags v d)) destination_of_begun

  notes : writes_destination op ≡ true → Notes o wr
  notes e = subst (λ x. Notes x wr) (sym same_place) (subst (λ b. Notes (if b then destination s dst else Constant 0) wr) e (wrote_notes s i w))

  result : writes_destination op ≡ true → Result (with_result op sp dp κp) s3 (with_value false s3 o r) wr (n + c)
  result e = placed κp s3 wr (n + c) holds op s2.flags.carry sp v means dp o destination_of_begun destination_allowed (notes e) d value

  either : Result (if writes_destination op then with_result op sp dp κp else κp) s3 last wr (n + c)
  either = elim (writes_destination op) as (λ b. writes_destination op ≡ b → Result (if b then with_result op sp dp κp else κp) s3 (if b then with_value false s3 o r else s3) wr (n + c)) [
    | true ↦ λ e. result e
    | false ↦ λ e. record { holds = holds; kept = (itself s3).kept }
  ] refl

  source_costs : read_cost b (source s src) ≡ read_cost b (operand_of sp)
  source_costs = source_cost b sp (source s src) source_is source_allowed

  costs : cost b s i ≡ c
  costs = omega (arith, source_costs, destination_costs b op dp (destination s dst) destination_is destination_allowed)

  flag_parts : (set_fault a κ (source_register src) ≡ None) × (set_fault a κ (destination_register op dst) ≡ None) × (flags_fault a κ (needs_carry op) ≡ None)
  flag_parts = let p = none_parts _ _ sets in let q = none_parts _ _ p.1 in (p.0, q.0, (none_parts _ _ q.1).0)

  fresh_parts : (word_of_reach (stale κ) sp ≡ None) × ((if reads_destination op then word_of_reach (stale κ) dp else None) ≡ None)
  fresh_parts = let p = none_parts _ _ (none_parts _ _ (none_parts _ _ accesses).1).0 in (number_passes _ _ _ p.0, number_passes _ _ _ p.1)

  reads : ReadsOnly w s i
  reads = record {
    registers = λ q lo hi h. ⊎_elim (λ x. source_set κ s w n a src q k.all flag_parts.0 plain_source x) (λ x. destination_set κ s w n a op dst q k.all flag_parts.1 x) h;
    words = λ x lo hi h. ⊎_elim
        (λ y. word_written κ s w n sp (source s src) x k.all source_is (even_source sp (source s src) source_is source_allowed) fresh_parts.0 lo hi y)
        (λ y. word_written κ s w n dp (destination s dst) x k.all destination_is (even_destination op dp (destination s dst) destination_is destination_allowed)
        (subst (λ b. (if b then word_of_reach (stale κ) dp else None) ≡ None) y.0 fresh_parts.1) lo hi y.1)
        h;
    flags = λ e. k.all.flags (needed (needs_carry op) κ.flags (unless_passes _ _ _ _ _ flag_parts.2) (sym (needs_same op) ∙ e));
  }

  phases : (last.phase ≡ s.phase) ⊎ IsEnd last.phase
  phases = phase_chain last.phase s2.phase s.phase either.kept.phase second.kept.phase

  leaves : (z : Slot) → (writes_destination op && touches dp z) ≡ false → value_of last z ≡ value_of s z
  leaves z miss = by_case (writes_destination op) miss ∙ same_values s s3 z third
    where
      by_case : (x : Bool) → (x && touches dp z) ≡ false → value_of (if x then with_value false s3 o r else s3) z ≡ value_of s3 z
      by_case true e = placed_leaves s3 op dp o r destination_of_begun destination_allowed z e
      by_case false e = refl

  knows : Knows (computed b i κ) last wr (n + c)
  knows = record {
    all = holds_flags (if writes_destination op then with_result op sp dp κp else κp) last wr (n + c) (leaves_flags op || κ.flags) (test_of op sp dp) flags either.holds;
    tested = λ q h. or_right (is_register (written_place s i) q) (w.registers q) (destination_set κ s w n a op dst q k.all flag_parts.1 (of_register κ op sp dst q h));
    test = two_tests op κp s3 wr (n + c) holds s2.flags.carry s2.flags sp v means dp o destination_of_begun destination_allowed d value refl (λ e. (result e).kept);
  }
    where
      flags : (leaves_flags op || κ.flags) ≡ true → wr.flags ≡ true
      flags e = by_case (two_leaves_flags op) refl
        where
          by_case : (x : Bool) → two_leaves_flags op ≡ x → (two_leaves_flags op || w.flags) ≡ true
          by_case true f = or_left (two_leaves_flags op) w.flags f
          by_case false f = or_right (two_leaves_flags op) w.flags (k.all.flags (subst (λ z. (z || κ.flags) ≡ true) (flags_same op ∙ f) e))

  pub two_performs : Performs b input i κ s w n (computed b i κ)
  two_performs = record {
    allowed = both_none _ _ (plain_source_fault s src plain_source ∙ source_operand_fault sp (source s src) source_is source_allowed) (destination_operand_fault op dp (destination s dst) destination_is destination_allowed);
    costs = costs;
    reads = reads;
    knows = subst (λ z. Knows (computed b i κ) last wr (n + z)) (sym costs) knows;
    pc = either.kept.pc ∙ second.kept.pc;
    sp = either.kept.sp ∙ second.kept.sp;
    stack = λ k le. either.kept.stack k le ∙ second.kept.stack k le;
    leaves = leaves;
    code = either.kept.code ∙ second.kept.code;
    charge = either.kept.charge ∙ second.kept.charge;
    phase = phases;
  }

  -- where each address that may be written ends the program, it ends
  pub two_ends : writes_destination op ≡ true → always_ends dp ≡ true → IsEnd (done input i (begun (cost b s i) i s)).phase
  two_ends writes ends = subst (λ c. IsEnd (if c then with_value false s3 o r else s3).phase) (sym writes) (by_place dp o destination_of_begun destination_allowed ends)
    where
      by_place : (p : Place) (x : Operand) → Denotes p x → Allowed (may_be_destination op) p → always_ends p ≡ true → IsEnd (with_value false s3 x r).phase
      by_place p x (number y) allowed e = absurd (let no : false ≡ true = e in cc)
      by_place p x (register_is q g) allowed e = absurd (let no : false ≡ true = e in cc)
      by_place p x (memory q y low high even) allowed e = ends_there s3 op q y r allowed low high even e
