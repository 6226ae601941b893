-- A result that is written to an allowed place: what is known behind it, and what the state keeps.
use Rattle.std.proofs.Common.{◌≡◌, ℕ, ◌*◌, ◌/◌, ◌%◌, ◌<◌, ◌≤◌, Bool, true, false, not, Option, Some, None, refl, sym, ap, ◌∙◌, subst, arith, inl, inr, ◌⊎◌, ⊎_elim}
use Rattle.std.specs.Prelude.{if◌then◌else◌, ◌==◌, ◌&&◌, nat_le, is_none}
use Rattle.std.proofs.lemmas.Bool.Decides.{nat_tests}
use Rattle.certificate.specs.declared.cert.Slot.{Slot}
use Rattle.certificate.specs.declared.cert.Slot.TheVariants.{Reg, Word}
use Rattle.msp430_isa.specs.declared.instr.TwoOp.{TwoOp}
use Rattle.msp430_isa.specs.declared.instr.TwoOp.TheVariants.{Mov as MOV, Add as ADD, Addc as ADDC, Subc as SUBC, Sub as SUB, Cmp as CMP, Bit as BIT, Bic as BIC, Bis as BIS, Xor as XOR, And as AND}
use Rattle.msp430_isa.specs.Profile.{is_move}
use Rattle.msp430_isa.specs.Results.{two_result}
use Rattle.msp430_machine.specs.declared.addresses.Region.TheVariants.{Ports}
use Rattle.msp430_machine.specs.Addresses.{region, out_port, end_port}
use Rattle.msp430_machine.specs.State.{Phase, Off, Awake, Asleep, Ended, Trapped, Faulted, State, set_at}
use Rattle.msp430_machine.specs.Memory.{written, written_in}
use Rattle.msp430_machine.specs.Operands.{Operand, InRegister, InMemory}
use Rattle.msp430_machine.specs.Execution.{with_value}
use Rattle.cert_rules.specs.Slots.{same_slot, is_sram, is_memory}
use Rattle.cert_rules.specs.Forms.{is_general}
use Rattle.cert_rules.specs.Known.{Known, range_of, forgetting, hits, freshened}
use Rattle.cert_rules.specs.Places.{Reach, Place, InReg, InReach, may_be_destination, may_move_to, may_change}
use Rattle.cert_rules.specs.Effects.{range_after, spent_after, with_written, with_result}
use Rattle.cert_rules.specs.Points.{slot_number}
use Rattle.cert_rules.specs.Outcomes.{always_ends, is_end}
use Rattle.cert_rules.proofs.SpendingLemmas.{bound_le_settled}
use Rattle.cert_effects.specs.Written.{Written, is_register, is_word_of}
use Rattle.cert_effects.specs.Knows.{value_of, Holds}
use Rattle.cert_effects.proofs.Values.{Lies, in_sram, in_data, memory_of, same_values, Sets, sets_register, with_general, equal_numbers, not_special}
use Rattle.cert_effects.proofs.Reaches.{Held, AtOutput, movable, changeable, none_in}
use Rattle.cert_effects.proofs.Knowing.{bound_mono, holds_not_given, holds_forgetting, holds_freshened}
use Rattle.cert_effects.proofs.Writing.{Means, means_word, holds_written, sets_memory, sent_same}
use Rattle.cert_effects.proofs.Results.{two_word}

-- ---- What stays

abbrev pub IsEnd : Phase → Type 0
IsEnd (Ended v) = Unit {0}
IsEnd (Trapped v) = Unit {0}
IsEnd Off = ⊥
IsEnd Awake = ⊥
IsEnd Asleep = ⊥
IsEnd (Faulted why) = ⊥

-- the flags, PC, SP, the words of the call stack (from 0x7F00 on), the code, the charge; and the phase, unless the program ends
pub record Kept (s t : State) : Type 0 where
  pub flags : t.flags ≡ s.flags
  pub pc : t.reg 0 ≡ s.reg 0
  pub sp : t.reg 1 ≡ s.reg 1
  pub stack : (k : ℕ) → 0x3F80 ≤ k → t.fram k ≡ s.fram k
  pub code : t.code ≡ s.code
  pub charge : t.charge ≡ s.charge
  pub phase : (t.phase ≡ s.phase) ⊎ IsEnd t.phase

above_data : (k n : ℕ) → 0x3F80 ≤ k → n < 0x3F80 → (k == n) ≡ false
above_data k n low high = grind (arith, nat_tests)

pub kept_held : (s : State) (a v : ℕ) → Lies a → Kept s (written false s a v)
kept_held s a v (in_sram low high r sr d) = subst (λ q. Kept s (written_in q s a v)) (sym r) (record { flags = refl; pc = refl; sp = refl; stack = λ k le. refl; code = refl; charge = refl; phase = inl refl })
kept_held s a v (in_data low high r sr d) = subst (λ q. Kept s (written_in q s a v)) (sym r) (record {
  flags = refl;
  pc = refl;
  sp = refl;
  stack = λ k le. ap (λ c. if c then v else s.fram k) (above_data k (a / 2) le (omega (arith, high)));
  code = refl;
  charge = refl;
  phase = inl refl;
})

kept_by : (o e : Bool) (s : State) (v : ℕ) → Kept s (if o then s else if e then record s { phase = Ended v } else record s { phase = Trapped v })
kept_by true e s v = record { flags = refl; pc = refl; sp = refl; stack = λ k le. refl; code = refl; charge = refl; phase = inl refl }
kept_by false true s v = record { flags = refl; pc = refl; sp = refl; stack = λ k le. refl; code = refl; charge = refl; phase = inr tt }
kept_by false false s v = record { flags = refl; pc = refl; sp = refl; stack = λ k le. refl; code = refl; charge = refl; phase = inr tt }

pub kept_port : (s : State) (a v : ℕ) → region a ≡ Ports → Kept s (written false s a v)
kept_port s a v r = subst (λ q. Kept s (written_in q s a v)) (sym r) (kept_by (a == out_port) (a == end_port) s v)

kept_register : (s : State) (q v : ℕ) → is_general q ≡ true → Kept s (record s { reg = set_at s.reg q v })
kept_register s q v g = record {
  flags = refl;
  pc = ap (λ c. if c then v else s.reg 0) (flipped q 0 (not_special q 0 g (omega arith)));
  sp = ap (λ c. if c then v else s.reg 1) (flipped q 1 (not_special q 1 g (omega arith)));
  stack = λ k le. refl;
  code = refl;
  charge = refl;
  phase = inl refl;
}
  where
    flipped : (a b : ℕ) → (a == b) ≡ false → (b == a) ≡ false
    flipped a b e = grind (arith, nat_tests)

-- ---- What is written

-- the write's place is in what the stretch has written
pub record Notes (place : Operand) (w : Written) : Type 0 where
  pub registers : (r : ℕ) → is_register place r ≡ true → w.registers r ≡ true
  pub words : (a : ℕ) → is_word_of place a ≡ true → w.words a ≡ true

itself : (n : ℕ) → (n == n) ≡ true
itself n = grind (arith, nat_tests)

le_of : (a b : ℕ) → nat_le a b ≡ true → a ≤ b
le_of a b e = grind (arith, nat_tests)

le_is : (a b : ℕ) → a ≤ b → nat_le a b ≡ true
le_is a b e = grind (arith, nat_tests)

word_noted : (a : ℕ) (w : Written) → a % 2 ≡ 0 → Notes (InMemory a) w → w.words a ≡ true
word_noted a w even notes = let same : a / 2 * 2 ≡ a = omega (arith, even) in notes.words a (ap (λ n. n == a) same ∙ itself a)

-- ---- A result at a place

-- what an operation's result leaves
pub record Result (κ : Known) (s t : State) (w : Written) (n : ℕ) : Type 0 where
  pub holds : Holds κ t w n
  pub kept : Kept s t

-- a word that is hit is none of those that aren't
pub hit_apart : (lo hi a : ℕ) (x : Slot) → lo ≤ a → a ≤ hi → hits lo hi x ≡ false → same_slot x (Word a) ≡ false
hit_apart lo hi a (Reg r) low high e = refl
hit_apart lo hi a (Word b) low high e = elim (b == a) as (λ c. (b == a) ≡ c → c ≡ false) [
  | true ↦ λ same.
      (let is : b ≡ a = equal_numbers b a same in
      let hit : (nat_le lo b && nat_le b hi) ≡ true = ap (λ z. nat_le lo z && nat_le z hi) is ∙ ap (λ c. c && nat_le a hi) (le_is lo a low) ∙ le_is a hi high in
      absurd (let no : true ≡ false = sym hit ∙ e in cc))
  | false ↦ λ same. refl
] refl

values_small : (κ : Known) (s t : State) (w : Written) (n : ℕ) (x : Slot) (v : ℕ) → Holds κ s w n → Sets s t x v → v < 65536 → (y : Slot) → value_of t y < 65536
values_small κ s t w n x v h sets small y = elim (same_slot y x) as (λ c. same_slot y x ≡ c → value_of t y < 65536) [
  | true ↦ λ e. subst (λ k. k < 65536) (sym (sets.here y e)) small
  | false ↦ λ e. subst (λ k. k < 65536) (sym (sets.there y e)) (h.words y)
] refl

is_mov : (op : TwoOp) → is_move op ≡ true → op ≡ MOV
is_mov MOV e = refl
is_mov ADD e = absurd (let no : false ≡ true = e in cc)
is_mov ADDC e = absurd (let no : false ≡ true = e in cc)
is_mov SUB e = absurd (let no : false ≡ true = e in cc)
is_mov SUBC e = absurd (let no : false ≡ true = e in cc)
is_mov CMP e = absurd (let no : false ≡ true = e in cc)
is_mov BIT e = absurd (let no : false ≡ true = e in cc)
is_mov BIC e = absurd (let no : false ≡ true = e in cc)
is_mov BIS e = absurd (let no : false ≡ true = e in cc)
is_mov XOR e = absurd (let no : false ≡ true = e in cc)
is_mov AND e = absurd (let no : false ≡ true = e in cc)

-- where the destination of an operation lies
pub destination_lies : (op : TwoOp) (p : Reach) (a : ℕ) → may_be_destination op p ≡ true → p.least ≤ a → a ≤ p.greatest → (p.even ≡ true → a % 2 ≡ 0)
    → (Held p a ⊎ ((op ≡ MOV) × AtOutput p a)) × (a % 2 ≡ 0)
destination_lies op p a h low high even = elim (is_move op) as (λ c. is_move op ≡ c → (if c then may_move_to p else may_change p) ≡ true → (Held p a ⊎ ((op ≡ MOV) × AtOutput p a)) × (a % 2 ≡ 0)) [
  | true ↦ λ e k. (let q = movable p a k low high even in (⊎_elim (λ l. inl l) (λ o. inr (is_mov op e, o)) q.0, q.1))
  | false ↦ λ e k. (let q = changeable p a k low high even in (inl q.0, q.1))
] refl h

module _ (κ : Known) (s : State) (w : Written) (n : ℕ) (h : Holds κ s w n) (op : TwoOp) (carry : Bool) (src : Place) (v : ℕ) (m : Means κ s src v) where
  abbrev res : Slot → ℕ
  res x = two_result op false carry v (value_of s x)

  small : (x : Slot) → res x < 65536
  small x = two_word op carry v (value_of s x) (means_word κ s w n src v h m) (h.words x)

  pub to_register : (q : ℕ) → is_general q ≡ true → Notes (InRegister q) w → Result (with_result op src (InReg q) κ) s (with_value false s (InRegister q) (res (Reg q))) w n
  to_register q g notes =
      let t : State = record s { reg = set_at s.reg q (res (Reg q)) } in
      subst (λ z. Result (with_result op src (InReg q) κ) s z w n) (sym (with_general s q (res (Reg q)) g)) (record {
        holds = holds_written κ s t w n op carry src v (Reg q) g h m (sets_register s q (res (Reg q)) g) (λ r e. notes.registers r (let same : q ≡ r = ap slot_number e in subst (λ z. (q == z) ≡ true) same (itself q)));
        kept = kept_register s q (res (Reg q)) g;
      })

  no_register : (a r : ℕ) → Word a ≡ Reg r → w.registers r ≡ true
  no_register a r e = let no : Word a ≡ Reg r = e in cc

  to_held : (p : Reach) (a : ℕ) → Held p a → a % 2 ≡ 0 → p.least ≤ a → a ≤ p.greatest → Notes (InMemory a) w
      → Result (with_result op src (InReach p) κ) s (with_value false s (InMemory a) (res (Word a))) w n
  to_held p a l even low high notes = record { holds = holds; kept = kept_held s a (res (Word a)) l.here }
    where
      t : State
      t = written false s a (res (Word a))

      sets : Sets s t (Word a) (res (Word a))
      sets = sets_memory s a (res (Word a)) l.here even

      certain : p.least ≡ a → Holds (freshened p.least p.least (with_written op src (Word p.least) κ)) t w n
      certain same = subst (λ z. Holds (freshened z z (with_written op src (Word z) κ)) t w n) (sym same)
          (holds_freshened (with_written op src (Word a) κ) t w n a a
          (λ b eb lo hi sr. (let is : b ≡ a = omega (arith, le_of a b lo, le_of b a hi) in subst (λ z. w.words z ≡ true) (sym is) (word_noted a w even notes)))
          (holds_written κ s t w n op carry src v (Word a) (memory_of a l.here) h m sets (no_register a)))

      holds : Holds (with_result op src (InReach p) κ) t w n
      holds = elim (p.least == p.greatest) as (λ c. (p.least == p.greatest) ≡ c → Holds (if c then freshened p.least p.least (with_written op src (Word p.least) κ) else forgetting (hits p.least p.greatest) κ) t w n) [
        | true ↦ λ e. certain (omega (arith, low, high, equal_numbers p.least p.greatest e))
        | false ↦ λ e. holds_forgetting κ s t w n (hits p.least p.greatest) (λ x miss. sets.there x (hit_apart p.least p.greatest a x low high miss)) (values_small κ s t w n (Word a) (res (Word a)) h sets (small (Word a))) h
      ] refl

-- a word that goes to a port
port_is_no_memory : (a : ℕ) → (a ≡ 0x0F02) ⊎ (a ≡ 0x0F04) ⊎ (a ≡ 0x0F06) → is_memory a ≡ false
port_is_no_memory a h = ⊎_elim (λ e. ap is_memory e) (λ k. ⊎_elim (λ e. ap is_memory e) (λ e. ap is_memory e) k) h

port_high : (a : ℕ) → (a ≡ 0x0F02) ⊎ (a ≡ 0x0F04) ⊎ (a ≡ 0x0F06) → a ≤ 0x0F06
port_high a h = ⊎_elim (λ e. omega (arith, e)) (λ k. ⊎_elim (λ e. omega (arith, e)) (λ e. omega (arith, e)) k) h

pub port_region : (a : ℕ) → (a ≡ 0x0F02) ⊎ (a ≡ 0x0F04) ⊎ (a ≡ 0x0F06) → region a ≡ Ports
port_region a h = ⊎_elim (λ e. ap region e) (λ k. ⊎_elim (λ e. ap region e) (λ e. ap region e) k) h

sram_low : (a : ℕ) → is_sram a ≡ true → 0x1C00 ≤ a
sram_low a e = grind (arith, nat_tests)

to_port : (κ : Known) (s : State) (w : Written) (n : ℕ) (src : Place) (v : ℕ) → Holds κ s w n → (p : Reach) (a : ℕ) → AtOutput p a → p.least ≤ a → a ≤ p.greatest
    → Result (with_result MOV src (InReach p) κ) s (written false s a v) w n
to_port κ s w n src v h p a o low high = record { holds = holds; kept = kept_port s a v (port_region a o.here) }
  where
    t : State
    t = written false s a v

    same : (y : Slot) → value_of t y ≡ value_of s y
    same y = same_values s t y (sent_same s a v (port_region a o.here))

    certain : p.least ≡ a → Holds (freshened p.least p.least (with_written MOV src (Word p.least) κ)) t w n
    certain e = subst (λ z. Holds (freshened z z (with_written MOV src (Word z) κ)) t w n) (sym e)
        (holds_freshened (with_written MOV src (Word a) κ) t w n a a (λ b eb lo hi sr. absurd (omega (arith, sram_low b sr, le_of b a hi, port_high a o.here)))
        (holds_not_given κ s t w n (Word a) (range_after κ MOV src (Word a)) (spent_after κ MOV src (Word a)) (port_is_no_memory a o.here) same
        (bound_mono n _ _ h.bound (bound_le_settled (λ x. same_slot x (Word a)) (range_of κ) (value_of s) (value_of t) κ.spent h.range (λ x miss. sym (same x)))) h))

    holds : Holds (with_result MOV src (InReach p) κ) t w n
    holds = elim (p.least == p.greatest) as (λ c. (p.least == p.greatest) ≡ c → Holds (if c then freshened p.least p.least (with_written MOV src (Word p.least) κ) else forgetting (hits p.least p.greatest) κ) t w n) [
      | true ↦ λ e. certain (omega (arith, low, high, equal_numbers p.least p.greatest e))
      | false ↦ λ e. holds_forgetting κ s t w n (hits p.least p.greatest) (λ x miss. same x) (λ x. subst (λ k. k < 65536) (sym (same x)) (h.words x)) h
    ] refl

-- an allowed destination of memory
pub to_memory : (κ : Known) (s : State) (w : Written) (n : ℕ) → Holds κ s w n → (op : TwoOp) (carry : Bool) (src : Place) (v : ℕ) → Means κ s src v
    → (p : Reach) (a : ℕ) → may_be_destination op p ≡ true → p.least ≤ a → a ≤ p.greatest → (p.even ≡ true → a % 2 ≡ 0) → Notes (InMemory a) w
    → (d : ℕ) → (Lies a → d ≡ value_of s (Word a))
    → Result (with_result op src (InReach p) κ) s (with_value false s (InMemory a) (two_result op false carry v d)) w n
to_memory κ s w n h op carry src v m p a allowed low high even notes d is =
    let q = destination_lies op p a allowed low high even in
    ⊎_elim
    (λ l. subst (λ z. Result (with_result op src (InReach p) κ) s (with_value false s (InMemory a) (two_result op false carry v z)) w n) (sym (is l.here))
    (to_held κ s w n h op carry src v m p a l q.1 low high notes))
    (λ o. subst (λ z. Result (with_result z src (InReach p) κ) s (with_value false s (InMemory a) (two_result z false carry v d)) w n) (sym o.0)
    (to_port κ s w n src v h p a o.1 low high))
    q.0

-- ---- Where each address is END or TRAP, the program ends.

held_no_end : (a : ℕ) → Lies a → is_end a ≡ false
held_no_end a (in_sram low high r sr d) = apart_of a low
  where
    apart_of : (a : ℕ) → 0x1C00 ≤ a → is_end a ≡ false
    apart_of a low = grind (arith, nat_tests)
held_no_end a (in_data low high r sr d) = apart_of a low
  where
    apart_of : (a : ℕ) → 0x4400 ≤ a → is_end a ≡ false
    apart_of a low = grind (arith, nat_tests)

pub none_is : {A : Type 0} (o : Option A) → is_none o ≡ true → o ≡ None
none_is None e = refl
none_is (Some a) e = absurd (let no : false ≡ true = e in cc)

not_not : (c : Bool) → not c ≡ false → c ≡ true
not_not true e = refl
not_not false e = absurd (let no : true ≡ false = e in cc)

end_phase : (s : State) (a v : ℕ) → is_end a ≡ true → (a ≡ 0x0F02) ⊎ (a ≡ 0x0F04) ⊎ (a ≡ 0x0F06) → IsEnd (written false s a v).phase
end_phase s a v e h = ⊎_elim
    (λ k. absurd (let no : false ≡ true = sym (ap is_end k) ∙ e in cc))
    (λ k. ⊎_elim (λ x. subst (λ z. IsEnd (written false s z v).phase) (sym x) tt) (λ x. subst (λ z. IsEnd (written false s z v).phase) (sym x) tt) k)
    h

pub ends_there : (s : State) (op : TwoOp) (p : Reach) (a v : ℕ) → may_be_destination op p ≡ true → p.least ≤ a → a ≤ p.greatest → (p.even ≡ true → a % 2 ≡ 0)
    → always_ends (InReach p) ≡ true → IsEnd (with_value false s (InMemory a) v).phase
ends_there s op p a v allowed low high even ends =
    let q = destination_lies op p a allowed low high even in
    let is : is_end a ≡ true = not_not (is_end a) (none_in (λ z. not (is_end z)) p.least p.greatest a (none_is _ ends) low high q.1) in
    ⊎_elim
    (λ l. absurd (let no : false ≡ true = sym (held_no_end a l.here) ∙ is in cc))
    (λ o. end_phase s a v is o.1.here)
    q.0
