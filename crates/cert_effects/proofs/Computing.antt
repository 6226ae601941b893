-- An instruction that only computes, and keeps the rules: what it costs, reads and leaves.
use Rattle.std.proofs.Common.{◌≡◌, ℕ, ◌+◌, ◌*◌, ◌%◌, ◌<◌, ◌≤◌, Bool, true, false, not, Option, None, List, refl, sym, ap, ◌∙◌, subst, arith, inl, ⊎_elim}
use Rattle.std.specs.Prelude.{if◌then◌else◌, ◌==◌, ◌&&◌, nat_le}
use Rattle.std.proofs.lemmas.Bool.Decides.{nat_tests}
use Rattle.certificate.specs.declared.cert.Slot.{Slot}
use Rattle.certificate.specs.declared.cert.Slot.TheVariants.{Reg, Word}
use Rattle.msp430_isa.specs.declared.instr.Src.{Src}
use Rattle.msp430_isa.specs.declared.instr.Src.TheVariants.{Reg as FromReg, Index as FromIndex, Abs as FromAbs, At, AtPlus, Imm, Short}
use Rattle.msp430_isa.specs.declared.instr.Dst.{Dst}
use Rattle.msp430_isa.specs.declared.instr.Dst.TheVariants.{Reg as ToReg, Index as ToIndex, Abs as ToAbs}
use Rattle.msp430_isa.specs.declared.instr.TwoOp.{TwoOp}
use Rattle.msp430_isa.specs.declared.instr.TwoOp.TheVariants.{Mov as MOV, Sub as SUB, Cmp as CMP}
use Rattle.msp430_isa.specs.declared.instr.Instr.{Instr}
use Rattle.msp430_isa.specs.Encoding.{length_of}
use Rattle.msp430_isa.specs.Results.{two_result, complement, sum_flags}
use Rattle.msp430_machine.specs.declared.addresses.Region.{Region}
use Rattle.msp430_machine.specs.declared.addresses.Region.TheVariants.{Ports, Sram, Fram, Code, Empty}
use Rattle.msp430_machine.specs.Addresses.{region, in_port}
use Rattle.msp430_machine.specs.State.{State, register, input_word}
use Rattle.msp430_machine.specs.Memory.{word_at, read, read_in, after_read_in, written}
use Rattle.msp430_machine.specs.Operands.{Operand, Constant, InRegister, InMemory, source, destination}
use Rattle.msp430_machine.specs.Execution.{source_value, after_source, destination_value, with_value}
use Rattle.msp430_machine.specs.Steps.{begun}
use Rattle.cert_rules.specs.Slots.{is_held, same_slot}
use Rattle.cert_rules.specs.Forms.{is_general, is_plain_source, is_plain_destination}
use Rattle.cert_rules.specs.Ranges.{Within, any_word}
use Rattle.cert_rules.specs.Known.{Known, Test, range_of, hits}
use Rattle.cert_rules.specs.Places.{Reach, Place, Number, InReg, InReach, is_certain, may_read, may_be_destination, source_place}
use Rattle.cert_rules.specs.Effects.{with_result, test_of, test_of_held, test_of_slot}
use Rattle.cert_effects.specs.Written.{Written}
use Rattle.cert_effects.specs.Knows.{value_of, HoldsTest, Holds}
use Rattle.cert_effects.proofs.Values.{Lies, in_sram, in_data, SameValues, same_values, sets_register, with_general, register_general, value_register, value_word, equal_numbers, not_special}
use Rattle.cert_effects.proofs.Reaches.{Denotes, number, register_is, memory, Held, AtInput, readable}
use Rattle.cert_effects.proofs.Results.{any_within, zero_if_equal, carry_if_not_below}
use Rattle.cert_effects.proofs.Writing.{Means, a_number, a_register, a_word, sets_memory, sent_same}
use Rattle.cert_effects.proofs.Placing.{Kept, Notes, Result, to_register, to_memory, destination_lies, hit_apart, port_region}
use Rattle.cert_effects.proofs.Rules.{Allowed}

-- ---- The operands of states with the same values

pub begun_same : (c : ℕ) (i : Instr) (s : State) → SameValues s (begun c i s)
begun_same c i s = record {
  registers = λ r g. ap (λ b. if b then (s.reg 0 + 2 * length_of i) % 65536 else s.reg r) (not_special r 0 g (omega arith));
  sram = refl;
  fram = refl;
  code = refl;
}

index_same : (s t : State) (r x : ℕ) → SameValues s t → is_general r ≡ true → InMemory ((register t r + x) % 65536) ≡ InMemory ((register s r + x) % 65536)
index_same s t r x h g = ap (λ n. InMemory ((n + x) % 65536)) (register_general t r g ∙ h.registers r g ∙ sym (register_general s r g))

pub source_same : (s t : State) (src : Src) → SameValues s t → is_plain_source src ≡ true → source t src ≡ source s src
source_same s t (FromReg r) h p = refl
source_same s t (FromIndex r x) h p = index_same s t r x h p
source_same s t (FromAbs a) h p = refl
source_same s t (Imm v) h p = refl
source_same s t (Short v) h p = refl
source_same s t (At r) h p = absurd (let no : false ≡ true = p in cc)
source_same s t (AtPlus r) h p = absurd (let no : false ≡ true = p in cc)

pub destination_same : (s t : State) (dst : Dst) → SameValues s t → is_plain_destination dst ≡ true → destination t dst ≡ destination s dst
destination_same s t (ToReg r) h p = refl
destination_same s t (ToIndex r x) h p = index_same s t r x h p
destination_same s t (ToAbs a) h p = refl

-- ---- Reading a source

-- values and what is kept are as before
pub record Alike (s t : State) : Type 0 where
  pub values : SameValues s t
  pub kept : Kept s t

pub itself : (s : State) → Alike s s
itself s = record {
  values = record { registers = λ r g. refl; sram = refl; fram = refl; code = refl };
  kept = record { flags = refl; pc = refl; sp = refl; stack = λ k le. refl; code = refl; charge = refl; phase = inl refl };
}

read_alike : (r : Region) (s : State) → Alike s (after_read_in r s)
read_alike Ports s = record {
  values = record { registers = λ r g. refl; sram = refl; fram = refl; code = refl };
  kept = record { flags = refl; pc = refl; sp = refl; stack = λ k le. refl; code = refl; charge = refl; phase = inl refl };
}
read_alike Sram s = itself s
read_alike Fram s = itself s
read_alike Code s = itself s
read_alike Empty s = itself s

pub source_alike : (s : State) (src : Src) → is_plain_source src ≡ true → Alike s (after_source false s src)
source_alike s (FromReg r) p = itself s
source_alike s (FromIndex r x) p = read_alike (region ((register s r + x) % 65536)) s
source_alike s (FromAbs a) p = read_alike (region a) s
source_alike s (Imm v) p = itself s
source_alike s (Short v) p = itself s
source_alike s (At r) p = absurd (let no : false ≡ true = p in cc)
source_alike s (AtPlus r) p = absurd (let no : false ≡ true = p in cc)

-- numbers of an instruction and input words are words
abbrev pub InputWords : List ℕ → Type 0
InputWords input = (k : ℕ) → input_word input k < 65536

abbrev pub SourceLow : Src → Type 0
SourceLow (Imm v) = v < 65536
SourceLow (Short v) = v < 65536
SourceLow src = Unit {0}

pub NumberLow : Place → Type 0
NumberLow (Number v) = v < 65536
NumberLow (InReg r) = Unit {0}
NumberLow (InReach p) = Unit {0}

pub number_low : (κ : Known) (src : Src) → SourceLow src → NumberLow (source_place κ src)
unfolding NumberLow
number_low κ (FromReg r) h = tt
number_low κ (FromIndex r x) h = tt
number_low κ (FromAbs a) h = tt
number_low κ (At r) h = tt
number_low κ (AtPlus r) h = tt
number_low κ (Imm v) h = h
number_low κ (Short v) h = h

-- what a word of memory reads as
read_held : (input : List ℕ) (s : State) (a : ℕ) → Lies a → read input false s a ≡ word_at s a
read_held input s a (in_sram low high r sr d) = ap (λ q. read_in q input false s a) r
read_held input s a (in_data low high r sr d) = ap (λ q. read_in q input false s a) r

memory_means : (κ : Known) (s : State) (w : Written) (n : ℕ) (input : List ℕ) (p : Reach) (a : ℕ) → Holds κ s w n → InputWords input → may_read p ≡ true → p.least ≤ a → a ≤ p.greatest → (p.even ≡ true → a % 2 ≡ 0)
    → Means κ s (InReach p) (read input false s a)
memory_means κ s w n input p a h words allowed low high even =
    let r = readable p a allowed low high even in
    ⊎_elim (λ l. from_memory l r.1) from_input r.0
  where
    certain : is_certain p ≡ true → p.least ≡ a
    certain e = omega (arith, low, high, equal_numbers p.least p.greatest e)

    from_memory : Held p a → a % 2 ≡ 0 → Means κ s (InReach p) (read input false s a)
    from_memory l ev =
        let is : read input false s a ≡ value_of s (Word a) = read_held input s a l.here ∙ sym (value_word s a l.here ev) in
        let small : value_of s (Word a) < 65536 = h.words (Word a) in
        subst (λ v. Means κ s (InReach p) v) (sym is) (a_word p (value_of s (Word a))
        (elim (is_certain p) as (λ c. is_certain p ≡ c → Within (if c && not (p.least == in_port) then range_of κ (Word p.least) else any_word) (value_of s (Word a))) [
          | true ↦ λ e. elim (not (p.least == in_port)) as (λ c. Within (if c then range_of κ (Word p.least) else any_word) (value_of s (Word a))) [
            | true ↦ subst (λ z. Within (range_of κ (Word z)) (value_of s (Word a))) (sym (certain e)) (h.range (Word a))
            | false ↦ any_within (value_of s (Word a)) small
          ]
          | false ↦ λ e. any_within (value_of s (Word a)) small
        ] refl) small)

    from_input : AtInput p a → Means κ s (InReach p) (read input false s a)
    from_input i =
        let is : read input false s a ≡ input_word input s.taken = ap (λ n. read input false s n) i.here in
        let small : input_word input s.taken < 65536 = words s.taken in
        subst (λ v. Means κ s (InReach p) v) (sym is) (a_word p (input_word input s.taken)
        (elim (is_certain p) as (λ c. is_certain p ≡ c → Within (if c && not (p.least == in_port) then range_of κ (Word p.least) else any_word) (input_word input s.taken)) [
          | true ↦ λ e. subst (λ z. Within (if not (z == in_port) then range_of κ (Word z) else any_word) (input_word input s.taken)) (sym (certain e ∙ i.here)) (any_within (input_word input s.taken) small)
          | false ↦ λ e. any_within (input_word input s.taken) small
        ] refl) small)

pub source_means : (κ : Known) (s : State) (w : Written) (n : ℕ) (input : List ℕ) (p : Place) (o : Operand) → Holds κ s w n → InputWords input → Denotes p o → Allowed may_read p → NumberLow p
    → Means κ s p (source_value input false s o)
unfolding NumberLow
source_means κ s w n input p o h words (number v) a low = a_number v low
source_means κ s w n input p o h words (register_is r g) a low =
    let is : register s r ≡ value_of s (Reg r) = register_general s r g ∙ sym (value_register s r g) in
    subst (λ v. Means κ s (InReg r) v) (sym is) (a_register r)
source_means κ s w n input p o h words (memory q x lx hx ex) a low = memory_means κ s w n input q x h words a lx hx ex

pub means_moved : (κ : Known) (s t : State) (p : Place) (v : ℕ) → SameValues s t → Means κ s p v → Means κ t p v
means_moved κ s t p v same (a_number c lt) = a_number c lt
means_moved κ s t p v same (a_register r) = subst (λ k. Means κ t (InReg r) k) (same_values s t (Reg r) same) (a_register r)
means_moved κ s t p v same (a_word q u within lt) = a_word q u within lt

-- ---- The destination's value

abbrev pub Holds_value : State → Operand → ℕ → Type 0
Holds_value s (Constant c) d = Unit {0}
Holds_value s (InRegister q) d = d ≡ value_of s (Reg q)
Holds_value s (InMemory a) d = Lies a → a % 2 ≡ 0 → d ≡ value_of s (Word a)

pub destination_holds : (s t : State) (p : Place) (o : Operand) → SameValues s t → Denotes p o → Holds_value t o (destination_value false s o)
destination_holds s t p o same (number v) = tt
destination_holds s t p o same (register_is r g) = register_general s r g ∙ sym (value_register s r g) ∙ sym (same_values s t (Reg r) same)
destination_holds s t p o same (memory q a low high even) = λ l e. sym (value_word s a l e) ∙ sym (same_values s t (Word a) same)

-- ---- A result at its place

pub placed : (κ : Known) (s : State) (w : Written) (n : ℕ) → Holds κ s w n → (op : TwoOp) (carry : Bool) (src : Place) (v : ℕ) → Means κ s src v
    → (p : Place) (o : Operand) → Denotes p o → Allowed (may_be_destination op) p → Notes o w → (d : ℕ) → Holds_value s o d
    → Result (with_result op src p κ) s (with_value false s o (two_result op false carry v d)) w n
placed κ s w n h op carry src v m p o (number c) a notes d is = record { holds = h; kept = (itself s).kept }
placed κ s w n h op carry src v m p o (register_is q g) a notes d is =
    subst (λ z. Result (with_result op src (InReg q) κ) s (with_value false s (InRegister q) (two_result op false carry v z)) w n) (sym is) (to_register κ s w n h op carry src v m q g notes)
placed κ s w n h op carry src v m p o (memory q x low high even) a notes d is =
    to_memory κ s w n h op carry src v m q x a low high even notes d (λ l. is l (destination_lies op q x a low high even).1)

-- the slots that a place may be
abbrev pub touches : Place → Slot → Bool
touches (Number v) x = false
touches (InReg r) x = same_slot x (Reg r)
touches (InReach p) x = hits p.least p.greatest x

-- what a place doesn't touch stays
pub placed_leaves : (s : State) (op : TwoOp) (p : Place) (o : Operand) (v : ℕ) → Denotes p o → Allowed (may_be_destination op) p → (z : Slot) → touches p z ≡ false → value_of (with_value false s o v) z ≡ value_of s z
placed_leaves s op p o v (number c) a z miss = refl
placed_leaves s op p o v (register_is q g) a z miss = ap (λ t. value_of t z) (with_general s q v g) ∙ (sets_register s q v g).there z miss
placed_leaves s op p o v (memory r x low high even) a z miss =
    let l = destination_lies op r x a low high even in
    ⊎_elim
    (λ h. (sets_memory s x v h.here l.1).there z (hit_apart r.least r.greatest x z low high miss))
    (λ out. same_values s (written false s x v) z (sent_same s x v (port_region x out.1.here)))
    l.0

-- ---- What the flags tell

no_test : (c : Bool) (t : State) → HoldsTest (if c then None else None) t
no_test true t = tt
no_test false t = tt

-- the flags of a comparison, of a state whose slot has this value
compared : (s : State) (x : Slot) (d c : ℕ) → s.flags ≡ sum_flags false d (complement false c) true → d ≡ value_of s x → d < 65536 → c < 65536 → HoldsTest (test_of_slot CMP c x) s
compared s x d c flags is hd hc = record {
  zero_flag = ap (λ f. f.zero_flag) flags ∙ zero_if_equal d c hd hc ∙ ap (λ n. n == c) is;
  carry = λ ordered. ap (λ f. f.carry) flags ∙ carry_if_not_below d c hd hc ∙ ap (λ n. nat_le c n) is;
}

subtracted : (s : State) (x : Slot) (d c : ℕ) → s.flags ≡ sum_flags false d (complement false c) true → two_result SUB false true c d ≡ value_of s x → HoldsTest (test_of_slot SUB c x) s
subtracted s x d c flags is = record {
  zero_flag = ap (λ f. f.zero_flag) flags ∙ ap (λ n. n == 0) is;
  carry = λ no. absurd (let bad : false ≡ true = no in cc);
}

if_held : (b : Bool) (o : Option Test) (t : State) → HoldsTest o t → HoldsTest (if b then o else None) t
if_held true o t h = h
if_held false o t h = tt

-- of the value that a result leaves
left_register : (s : State) (q v : ℕ) → is_general q ≡ true → value_of (with_value false s (InRegister q) v) (Reg q) ≡ v
left_register s q v g = ap (λ t. value_of t (Reg q)) (with_general s q v g) ∙ (sets_register s q v g).here (Reg q) (same q)
  where
    same : (n : ℕ) → (n == n) ≡ true
    same n = grind (arith, nat_tests)

left_memory : (s : State) (a v : ℕ) → Lies a → a % 2 ≡ 0 → value_of (with_value false s (InMemory a) v) (Word a) ≡ v
left_memory s a v l e = (sets_memory s a v l e).here (Word a) (same a)
  where
    same : (n : ℕ) → (n == n) ≡ true
    same n = grind (arith, nat_tests)

not_moved : (op : TwoOp) → (op ≡ MOV → ⊥) → (p : Reach) (a : ℕ) → may_be_destination op p ≡ true → p.least ≤ a → a ≤ p.greatest → (p.even ≡ true → a % 2 ≡ 0) → Lies a × (a % 2 ≡ 0)
not_moved op ne p a allowed low high even = let q = destination_lies op p a allowed low high even in (⊎_elim (λ l. l.here) (λ o. absurd (ne o.0)) q.0, q.1)

pub cmp_tests : (κ : Known) (s : State) (w : Written) (n : ℕ) → Holds κ s w n → (c : ℕ) → c < 65536 → (p : Place) (o : Operand) → Denotes p o → Allowed (may_be_destination CMP) p → (d : ℕ) → Holds_value s o d
    → s.flags ≡ sum_flags false d (complement false c) true → HoldsTest (test_of CMP (Number c) p) s
cmp_tests κ s w n h c hc p o (number v) a d is flags = tt
cmp_tests κ s w n h c hc p o (register_is q g) a d is flags =
    if_held (is_held (Reg q)) (test_of_slot CMP c (Reg q)) s (compared s (Reg q) d c flags is (subst (λ k. k < 65536) (sym is) (h.words (Reg q))) hc)
cmp_tests κ s w n h c hc p o (memory q x low high even) a d is flags =
    elim (is_certain q) as (λ b. is_certain q ≡ b → HoldsTest (if b then test_of_held CMP c (Word q.least) else None) s) [
      | true ↦ λ e.
          (let l = not_moved CMP (λ k. cc) q x a low high even in
          let at : q.least ≡ x = omega (arith, low, high, equal_numbers q.least q.greatest e) in
          let v = is l.0 l.1 in
          if_held (is_held (Word q.least)) (test_of_slot CMP c (Word q.least)) s
          (subst (λ z. HoldsTest (test_of_slot CMP c (Word z)) s) (sym at) (compared s (Word x) d c flags v (subst (λ k. k < 65536) (sym v) (h.words (Word x))) hc)))
      | false ↦ λ e. tt
    ] refl

pub sub_tests : (s : State) (c : ℕ) (p : Place) (o : Operand) → Denotes p o → Allowed (may_be_destination SUB) p → (d : ℕ)
    → s.flags ≡ sum_flags false d (complement false c) true → Kept s (with_value false s o (two_result SUB false true c d)) → HoldsTest (test_of SUB (Number c) p) (with_value false s o (two_result SUB false true c d))
sub_tests s c p o (number v) a d flags kept = tt
sub_tests s c p o (register_is q g) a d flags kept =
    if_held (is_held (Reg q)) (test_of_slot SUB c (Reg q)) (with_value false s (InRegister q) (two_result SUB false true c d))
    (subtracted (with_value false s (InRegister q) (two_result SUB false true c d)) (Reg q) d c (kept.flags ∙ flags) (sym (left_register s q (two_result SUB false true c d) g)))
sub_tests s c p o (memory q x low high even) a d flags kept =
    let t : State = with_value false s (InMemory x) (two_result SUB false true c d) in
    elim (is_certain q) as (λ b. is_certain q ≡ b → HoldsTest (if b then test_of_held SUB c (Word q.least) else None) t) [
      | true ↦ λ e.
          (let l = not_moved SUB (λ k. cc) q x a low high even in
          let at : q.least ≡ x = omega (arith, low, high, equal_numbers q.least q.greatest e) in
          if_held (is_held (Word q.least)) (test_of_slot SUB c (Word q.least)) t
          (subst (λ z. HoldsTest (test_of_slot SUB c (Word z)) t) (sym at) (subtracted t (Word x) d c (kept.flags ∙ flags) (sym (left_memory s x (two_result SUB false true c d) l.0 l.1)))))
      | false ↦ λ e. tt
    ] refl

-- an operation that tells nothing of the flags
abbrev pub TellsNothing : TwoOp → Type 0
TellsNothing op = (c : ℕ) (x : Slot) → test_of_slot op c x ≡ None

pub untold : (op : TwoOp) → TellsNothing op → (src p : Place) (t : State) → HoldsTest (test_of op src p) t
untold op none (Number c) (Number v) t = tt
untold op none (Number c) (InReg r) t = subst (λ o. HoldsTest (if is_held (Reg r) then o else None) t) (sym (none c (Reg r))) (no_test (is_held (Reg r)) t)
untold op none (Number c) (InReach p) t =
    elim (is_certain p) as (λ b. HoldsTest (if b then test_of_held op c (Word p.least) else None) t) [
      | true ↦ subst (λ o. HoldsTest (if is_held (Word p.least) then o else None) t) (sym (none c (Word p.least))) (no_test (is_held (Word p.least)) t)
      | false ↦ tt
    ]
untold op none (InReg r) p t = tt
untold op none (InReach q) p t = tt

cmp_untold : (s : State) (src p : Place) (v : ℕ) → ((c : ℕ) → src ≡ Number c → HoldsTest (test_of CMP (Number c) p) s) → HoldsTest (test_of CMP src p) s
cmp_untold s (Number c) p v f = f c refl
cmp_untold s (InReg r) p v f = tt
cmp_untold s (InReach q) p v f = tt
