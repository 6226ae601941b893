-- The instructions of a copy of an array, each from a state of which all values are known.
use Rattle.std.proofs.Common.{◌≡◌, ℕ, zero, suc, ◌+◌, ◌-◌, ◌*◌, ◌/◌, ◌%◌, ◌<◌, ◌≤◌, Bool, true, false, Option, Some, None, List, [], refl, sym, ap, ◌∙◌, subst, arith, ⊎_elim, ◌⊎◌}
use Rattle.std.specs.Prelude.{if◌then◌else◌, ◌==◌, ◌&&◌, ◌||◌, not, nat_le, unwrap_or, is_none, pos, negsuc}
use Rattle.std.specs.Option.{option_or}
use Rattle.std.proofs.lemmas.Int.{ints}
use Rattle.std.proofs.lemmas.Bool.Decides.{nat_tests}
use Rattle.board_table.specs.declared.board.Board.{Board}
use Rattle.certificate.specs.declared.cert.Slot.{Slot}
use Rattle.certificate.specs.declared.cert.Slot.TheVariants.{Reg, Word}
use Rattle.msp430_isa.specs.declared.instr.Src.TheVariants.{Index as FromIndex, Abs as FromAbs, Imm, Short}
use Rattle.msp430_isa.specs.declared.instr.Dst.TheVariants.{Reg as ToReg, Index as ToIndex, Abs as ToAbs}
use Rattle.msp430_isa.specs.declared.instr.TwoOp.TheVariants.{Mov as MOV, Sub as SUB}
use Rattle.msp430_isa.specs.declared.instr.Cond.TheVariants.{Jne as JNE}
use Rattle.msp430_isa.specs.declared.instr.Instr.{Instr}
use Rattle.msp430_isa.specs.declared.instr.Instr.TheVariants.{Two, Jump}
use Rattle.msp430_machine.specs.Cost.{cost}
use Rattle.msp430_machine.specs.State.{State, set_at}
use Rattle.msp430_machine.specs.Operands.{InMemory, index}
use Rattle.msp430_machine.specs.Execution.{done}
use Rattle.msp430_machine.specs.Steps.{begun}
use Rattle.cert_rules.specs.declared.Rule.TheVariants.{Place as OutOfPlace, Fresh}
use Rattle.cert_rules.specs.Faults.{unless, unless_none}
use Rattle.cert_rules.specs.Slots.{same_slot, is_sram, is_data, first_word, first_in, is_held}
use Rattle.cert_rules.specs.Ranges.{Range, Within, just, any_word, known_even, with_even, lowered}
use Rattle.cert_rules.specs.Known.{Known, range_of, with_cost, given, forgetting, freshened, hits, bare}
use Rattle.cert_rules.specs.Places.{Reach, Place, Number, InReach, offset_by, in_memory, lies, may_read, may_move_to, cost_of}
use Rattle.cert_rules.specs.Effects.{computed, with_written, without, range_after, spent_after}
use Rattle.certificate.specs.Rows.{Spent}
use Rattle.cert_rules.specs.Points.{slot_number}
use Rattle.cert_rules.specs.Sheet.{Sheet}
use Rattle.cert_rules.specs.Standing.{Copy}
use Rattle.cert_rules.specs.Accesses.{access_faults, reach_fault, places_fault, fresh_faults, stale, word_of_reach}
use Rattle.cert_rules.specs.Outcomes.{is_end, always_ends}
use Rattle.cert_rules.specs.Copies.{copied_from, copied_to, copy_cost, copied}
use Rattle.cert_rules.proofs.SpendingLemmas.{bound_le_settled}
use Rattle.cert_effects.specs.Written.{Written, wrote, ReadsOnly}
use Rattle.cert_effects.specs.Knows.{value_of, Holds, Knows}
use Rattle.cert_effects.proofs.Values.{Lies, in_sram, in_data, Sets, sets_register, equal_numbers}
use Rattle.cert_effects.proofs.Reaches.{Denotes, memory, Held, AtInput, AtOutput, readable, movable, read_low, move_low, none_in}
use Rattle.cert_effects.proofs.Results.{just_within}
use Rattle.cert_effects.proofs.Knowing.{More, slots_equal, bound_mono, holds_more, holds_paid, holds_given, holds_forgetting, holds_freshened, holds_flags}
use Rattle.cert_effects.proofs.Placing.{IsEnd, none_is}
use Rattle.cert_effects.proofs.Rules.{source_cost, destination_costs}
use Rattle.cert_effects.proofs.Computing.{InputWords}
use Rattle.cert_effects.proofs.Computed.{Performs}
use Rattle.cert_effects.proofs.Performing.{computes, computes_ends}

-- ---- The four instructions

abbrev pub set_counter : ℕ → Instr
set_counter m = Two MOV false (Imm m) (ToReg 15)

abbrev pub move_word : ℕ → ℕ → Instr
move_word x y = Two MOV false (FromIndex 15 x) (ToIndex 15 y)

abbrev pub count_down : Instr
count_down = Two SUB false (Short 2) (ToReg 15)

-- back to the second of them
abbrev pub again : Instr
again = Jump JNE (negsuc 4)

-- ---- A state of which all is known, in a stretch that has written all

abbrev pub everything : Written
everything = record { registers = λ r. true; words = λ a. true; flags = true }

abbrev pub exact : State → Known
exact s = record {
  stretch = 0;
  spent = record { base = pos 0; terms = [] };
  range = λ x. Some (just (value_of s x));
  fresh = λ a. true;
  flags = true;
  test = None;
}

abbrev pub AreSmall : State → Type 0
AreSmall s = (x : Slot) → value_of s x < 65536

all_known : (s : State) → AreSmall s → Knows (exact s) s everything 0
all_known s small = record {
  all = record {
    words = small;
    range = λ x. just_within (value_of s x);
    set = λ r e. refl;
    fresh = λ a even e. refl;
    flags = λ e. refl;
    bound = omega (arith, ints);
  };
  test = tt;
  tested = λ r no. absurd no;
}

-- the value that is known exactly
value_is : (v u : ℕ) → Within (just v) u → u ≡ v
value_is v u w = omega (arith, w.above, w.below)

-- a sheet whose function names no words and keeps no registers
abbrev unruled : Sheet → Sheet
unruled t = record t { here = record t.here { flat = None } }

-- ---- Tests that pass

le_of : (a b : ℕ) → nat_le a b ≡ true → a ≤ b
le_of a b e = grind (arith, nat_tests)

le_is : (a b : ℕ) → a ≤ b → nat_le a b ≡ true
le_is a b e = grind (arith, nat_tests)

or_none : {A : Type 0} (x y : Option A) → x ≡ None → y ≡ None → option_or x y ≡ None
or_none x y e f = ap (λ z. option_or z y) e ∙ f

itself : (n : ℕ) → (n == n) ≡ true
itself n = grind (arith, nat_tests)

and_false : (c : Bool) → (c && false) ≡ false
and_false true = refl
and_false false = refl

none_first : (p : ℕ → Bool) (a n : ℕ) → ((b : ℕ) → p b ≡ false) → first_word p a n ≡ None
none_first p a zero h = refl
none_first p a (suc n) h = ap (λ c. if c then Some a else first_word p (a + 2) n) (h a) ∙ none_first p (a + 2) n h

none_reach : (p : ℕ → Bool) (q : Reach) → ((b : ℕ) → p b ≡ false) → word_of_reach p (InReach q) ≡ None
none_reach p q h = none_first p (q.least + q.least % 2) ((q.greatest + 2 - (q.least + q.least % 2)) / 2) h

reach_none : (a : ℕ) (allowed : Reach → Bool) (q : Reach) → allowed q ≡ true → reach_fault a allowed (InReach q) ≡ None
reach_none a allowed q e = ap (λ d. unless d OutOfPlace a (pos q.least) (pos q.greatest)) e

-- ---- One address of a reach that is allowed

one_even : (v x : ℕ) → (v + x) % 2 ≡ 0 → (offset_by x (just v)).even ≡ true
one_even v x e = ap (λ c. if c then (v + x) % 2 == 0 else known_even (just v) && x % 2 == 0) (itself v) ∙ ap (λ n. n == 0) e

one_memory : (v x : ℕ) → Lies (v + x) → in_memory (offset_by x (just v)) ≡ true
one_memory v x (in_sram low high r s d) = ap (λ c. c || is_sram (v + x)) d ∙ s
one_memory v x (in_data low high r s d) = ap (λ c. c || is_sram (v + x)) d

both : (x y : Bool) → x ≡ true → y ≡ true → (x && y) ≡ true
both x y e f = ap (λ z. z && y) e ∙ f

or_left : (x y : Bool) → x ≡ true → (x || y) ≡ true
or_left x y e = ap (λ z. z || y) e

at_input : (a : ℕ) → a ≡ 0x0F00 → ((is_data a || is_sram a) || (nat_le 0x0F00 a && nat_le a 0x0F01)) ≡ true
at_input a e = ap (λ z. (is_data z || is_sram z) || (nat_le 0x0F00 z && nat_le z 0x0F01)) e

at_output : (a : ℕ) → (a ≡ 0x0F02) ⊎ (a ≡ 0x0F04) ⊎ (a ≡ 0x0F06) → ((is_data a || is_sram a) || (nat_le 0x0F02 a && nat_le a 0x0F07)) ≡ true
at_output a h =
    let goes : ℕ → Bool = λ z. (is_data z || is_sram z) || (nat_le 0x0F02 z && nat_le z 0x0F07) in
    ⊎_elim (λ e. ap goes e) (λ k. ⊎_elim (λ e. ap goes e) (λ e. ap goes e) k) h

one_read : (p : Reach) (v x : ℕ) → (Held p (v + x) ⊎ AtInput p (v + x)) × ((v + x) % 2 ≡ 0) → may_read (offset_by x (just v)) ≡ true
one_read p v x h =
    both (offset_by x (just v)).even (in_memory (offset_by x (just v)) || lies 0x0F00 0x0F01 (offset_by x (just v))) (one_even v x h.1)
    (⊎_elim (λ l. or_left _ _ (one_memory v x l.here)) (λ i. at_input (v + x) i.here) h.0)

one_written_to : (p : Reach) (v x : ℕ) → (Held p (v + x) ⊎ AtOutput p (v + x)) × ((v + x) % 2 ≡ 0) → may_move_to (offset_by x (just v)) ≡ true
one_written_to p v x h =
    both (offset_by x (just v)).even (in_memory (offset_by x (just v)) || lies 0x0F02 0x0F07 (offset_by x (just v))) (one_even v x h.1)
    (⊎_elim (λ l. or_left _ _ (one_memory v x l.here)) (λ o. at_output (v + x) o.here) h.0)

-- ---- MOV x(R15),y(R15)

-- one of the words of a copy, whose index the counter is
pub record WordOf (p : Reach) (x v : ℕ) : Type 0 where
  pub low : p.least ≤ v + x
  pub high : v + x ≤ p.greatest
  pub even : p.even ≡ true → (v + x) % 2 ≡ 0

-- the words of a reach that is one even address
none_of_one : (p : ℕ → Bool) (a : ℕ) → a % 2 ≡ 0 → p a ≡ false → first_in p a a ≡ None
none_of_one p a even free =
    let start : a + a % 2 ≡ a = omega (arith, even) in
    let one : (a + 2 - (a + a % 2)) / 2 ≡ 1 = omega (arith, even) in
    ap (λ n. first_word p (a + a % 2) n) one ∙ ap (λ z. if p z then Some z else None) start ∙ ap (λ d. if d then Some a else None) free

-- such a word is where an operand x(R15) is
word_there : (p : Reach) (s : State) (x : ℕ) → p.greatest < 65536 → WordOf p x (s.reg 15) → index s 15 x ≡ s.reg 15 + x
word_there p s x low w = omega (arith, low, w.high)

denotes_word : (p : Reach) (s : State) (x : ℕ) → p.greatest < 65536 → WordOf p x (s.reg 15) → Denotes (InReach p) (InMemory (index s 15 x))
denotes_word p s x low w = subst (λ a. Denotes (InReach p) (InMemory a)) (sym (word_there p s x low w)) (memory p (s.reg 15 + x) w.low w.high w.even)

-- what a turn of the copy costs first
abbrev pub move_cost : Board → Copy → ℕ
move_cost b c = cost_of b (bare 0 0) (Two MOV false (FromAbs (c.source + 2)) (ToAbs (c.target + 2)))

module _ (b : Board) (c : Copy) (t : Sheet) (input : List ℕ) (words : InputWords input) (s : State) (small : AreSmall s)
    (readable_from : may_read (copied_from c) ≡ true) (movable_to : may_move_to (copied_to c) ≡ true)
    (from : WordOf (copied_from c) c.source (s.reg 15)) (to : WordOf (copied_to c) c.target (s.reg 15)) where
  abbrev moves : Instr
  moves = move_word c.source c.target

  abbrev v : ℕ
  v = s.reg 15

  abbrev moved : State
  moved = done input moves (begun (cost b s moves) moves s)

  abbrev sp : Place
  sp = InReach (offset_by c.source (just v))

  abbrev dp : Place
  dp = InReach (offset_by c.target (just v))

  read_one : may_read (offset_by c.source (just v)) ≡ true
  read_one = one_read (copied_from c) v c.source (readable (copied_from c) (v + c.source) readable_from from.low from.high from.even)

  move_one : may_move_to (offset_by c.target (just v)) ≡ true
  move_one = one_written_to (copied_to c) v c.target (movable (copied_to c) (v + c.target) movable_to to.low to.high to.even)

  no_access_fault : access_faults (unruled t) 0 (exact s) moves ≡ None
  no_access_fault =
      or_none (places_fault 0 MOV sp dp) _
      (or_none (reach_fault 0 may_read sp) (reach_fault 0 may_move_to dp) (reach_none 0 may_read (offset_by c.source (just v)) read_one) (reach_none 0 may_move_to (offset_by c.target (just v)) move_one))
      (or_none (fresh_faults 0 (exact s) false sp dp) _
      (or_none (unless_none (word_of_reach (stale (exact s)) sp) Fresh 0) None (ap (λ o. unless_none o Fresh 0) (none_reach (stale (exact s)) (offset_by c.source (just v)) (λ a. and_false (is_sram a)))) refl)
      refl)

  pub move_performs : Performs b input moves (exact s) s everything 0 (computed b moves (exact s))
  move_performs = computes b input words (unruled t) 0 (exact s) s everything 0 (all_known s small) moves refl refl tt refl no_access_fault

  pub move_costs : cost b s moves ≡ move_cost b c
  move_costs =
      omega (
        arith,
        source_cost b (InReach (copied_from c)) (InMemory (index s 15 c.source)) (denotes_word (copied_from c) s c.source (read_low (copied_from c) readable_from) from) readable_from,
        destination_costs b MOV (InReach (copied_to c)) (InMemory (index s 15 c.target)) (denotes_word (copied_to c) s c.target (move_low (copied_to c) movable_to) to) movable_to,
      )

  move_range : (z : Slot) → same_slot z (Word (v + c.target)) ≡ false → range_of (computed b moves (exact s)) z ≡ just (value_of s z)
  move_range z miss =
      let κ : Known = with_cost (cost_of b (exact s) moves) (exact s) in
      let q : Reach = offset_by c.target (just v) in
      ap (λ d. unwrap_or ((if d then freshened q.least q.least (with_written MOV sp (Word q.least) κ) else forgetting (hits q.least q.greatest) κ).range z) any_word) (itself (v + c.target))
      ∙ ap (λ d. unwrap_or (if d && is_held (Word (v + c.target)) then Some (range_after κ MOV sp (Word (v + c.target))) else Some (just (value_of s z))) any_word) miss

  pub move_leaves : (z : Slot) → same_slot z (Word (v + c.target)) ≡ false → value_of moved z ≡ value_of s z
  move_leaves z miss = value_is (value_of s z) (value_of moved z) (subst (λ r. Within r (value_of moved z)) (move_range z miss) (move_performs.knows.all.range z))

  pub move_reads : (w : Written) → w.registers 15 ≡ true → (0x1C00 ≤ v + c.source → v + c.source < 0x2400 → w.words (v + c.source) ≡ true) → ReadsOnly w s moves
  move_reads w set fresh = record {
    registers = λ r lo hi h. ⊎_elim (λ e. subst (λ z. w.registers z ≡ true) e set) (λ e. subst (λ z. w.registers z ≡ true) e set) h;
    words = λ a lo hi h. ⊎_elim
        (λ is.
        (let even : (v + c.source) % 2 ≡ 0 = (readable (copied_from c) (v + c.source) readable_from from.low from.high from.even).1 in
        let at : index s 15 c.source ≡ v + c.source = word_there (copied_from c) s c.source (read_low (copied_from c) readable_from) from in
        let word : index s 15 c.source / 2 * 2 ≡ a = equal_numbers (index s 15 c.source / 2 * 2) a is in
        let same : v + c.source ≡ a = omega (arith, at, word, even) in
        subst (λ z. w.words z ≡ true) same (fresh (omega (arith, same, lo)) (omega (arith, same, hi)))))
        (λ e. absurd (let no : false ≡ true = e.0 in cc))
        h;
    flags = λ e. absurd (let no : false ≡ true = e in cc);
  }

  pub move_writes : (w : Written) → (wrote s moves w).words (v + c.target) ≡ true
  move_writes w =
      let even : (v + c.target) % 2 ≡ 0 = (movable (copied_to c) (v + c.target) movable_to to.low to.high to.even).1 in
      let at : index s 15 c.target ≡ v + c.target = word_there (copied_to c) s c.target (move_low (copied_to c) movable_to) to in
      let word : index s 15 c.target / 2 * 2 ≡ v + c.target = omega (arith, at, even) in
      or_left (index s 15 c.target / 2 * 2 == v + c.target) (w.words (v + c.target)) (ap (λ n. n == v + c.target) word ∙ itself (v + c.target))

  -- where all of the copy goes to END or TRAP, its first move ends the program
  pub move_ends : always_ends (InReach (copied_to c)) ≡ true → IsEnd moved.phase
  move_ends ends =
      computes_ends b input words (unruled t) 0 (exact s) s everything 0 (all_known s small) MOV false (FromIndex 15 c.source) (ToIndex 15 c.target) refl refl tt refl no_access_fault refl one_ends
    where
      even : (v + c.target) % 2 ≡ 0
      even = (movable (copied_to c) (v + c.target) movable_to to.low to.high to.even).1

      free : (not (is_end (v + c.target))) ≡ false
      free = none_in (λ a. not (is_end a)) (copied_to c).least (copied_to c).greatest (v + c.target) (none_is _ ends) to.low to.high even

      one_ends : always_ends dp ≡ true
      one_ends = ap is_none (none_of_one (λ a. not (is_end a)) (v + c.target) even free)

-- ---- MOV #m,R15 and SUB #2,R15

-- what is known where R15 has a value of this range and all else is as it was
counted_range : (s : State) (r : Range) (spent : Spent) (κ : Known) (z : Slot) → ((x : Slot) → κ.range x ≡ Some (just (value_of s x))) → same_slot z (Reg 15) ≡ false → range_of (given (Reg 15) r spent κ) z ≡ just (value_of s z)
counted_range s r spent κ z known miss = ap (λ d. unwrap_or (if d && is_held (Reg 15) then Some r else κ.range z) any_word) miss ∙ ap (λ o. unwrap_or o any_word) (known z)

-- R15 has this value, and all else is as it was
counts : (s t : State) (m : ℕ) → value_of t (Reg 15) ≡ m → ((z : Slot) → same_slot z (Reg 15) ≡ false → value_of t z ≡ value_of s z) → Sets s t (Reg 15) m
counts s t m is same = record { here = λ x e. ap (λ z. value_of t z) (slots_equal x (Reg 15) e) ∙ is; there = same }

module _ (b : Board) (t : Sheet) (input : List ℕ) (words : InputWords input) (s : State) (small : AreSmall s) where
  abbrev after : Instr → State
  after i = done input i (begun (cost b s i) i s)

  pub set_performs : (m : ℕ) → m < 65536 → Performs b input (set_counter m) (exact s) s everything 0 (computed b (set_counter m) (exact s))
  set_performs m low = computes b input words (unruled t) 0 (exact s) s everything 0 (all_known s small) (set_counter m) refl refl low refl refl

  pub set_sets : (m : ℕ) → m < 65536 → Sets s (after (set_counter m)) (Reg 15) m
  set_sets m low =
      let k = (set_performs m low).knows.all.range in
      let κ : Known = with_cost (cost_of b (exact s) (set_counter m)) (exact s) in
      counts s (after (set_counter m)) m (value_is m (value_of (after (set_counter m)) (Reg 15)) (k (Reg 15)))
      (λ z miss. value_is (value_of s z) (value_of (after (set_counter m)) z)
      (subst (λ r. Within r (value_of (after (set_counter m)) z)) (counted_range s (just m) (without (Reg 15) κ) κ z (λ x. refl) miss) (k z)))

  pub down_performs : Performs b input count_down (exact s) s everything 0 (computed b count_down (exact s))
  down_performs = computes b input words (unruled t) 0 (exact s) s everything 0 (all_known s small) count_down refl refl (omega arith) refl refl

  pub down_sets : 2 ≤ s.reg 15 → Sets s (after count_down) (Reg 15) (s.reg 15 - 2)
  down_sets two =
      let k = down_performs.knows.all.range in
      let κ : Known = with_cost (cost_of b (exact s) count_down) (exact s) in
      let less : Range = lowered (just (s.reg 15)) 2 in
      let v : ℕ = value_of (after count_down) (Reg 15) in
      let is : v ≡ s.reg 15 - 2 = by_falls v (nat_le 2 (s.reg 15)) (le_is 2 (s.reg 15) two) (k (Reg 15)) in
      counts s (after count_down) (s.reg 15 - 2) is
      (λ z miss. value_is (value_of s z) (value_of (after count_down) z)
      (subst (λ r. Within r (value_of (after count_down) z)) (counted_range s less (spent_after κ SUB (Number 2) (Reg 15)) κ z (λ x. refl) miss) (k z)))
    where
      even : Bool
      even = known_even (just (s.reg 15)) && 2 % 2 == 0

      by_falls : (v : ℕ) (c : Bool) → c ≡ true
          → Within (if c then record { least = s.reg 15 - 2; greatest = s.reg 15 - 2; even = known_even (just (s.reg 15)) && 2 % 2 == 0 } else with_even (known_even (just (s.reg 15)) && 2 % 2 == 0)) v → v ≡ s.reg 15 - 2
      by_falls v true e w = omega (arith, w.above, w.below)
      by_falls v false e w = absurd (let bad : false ≡ true = e in cc)

  -- the flags tell whether the count is over
  pub down_flag : (after count_down).flags.zero_flag ≡ (value_of (after count_down) (Reg 15) == 0)
  down_flag = down_performs.knows.test.zero_flag

-- what the two read
pub set_reads : (m : ℕ) (s : State) (w : Written) → ReadsOnly w s (set_counter m)
set_reads m s w = record {
  registers = λ r lo hi e. absurd (⊎_elim (λ x. x) (λ x. let bad : false ≡ true = x.0 in cc) e);
  words = λ x lo hi e. absurd (⊎_elim (λ y. let bad : false ≡ true = y in cc) (λ y. let bad : false ≡ true = y.0 in cc) e);
  flags = λ e. absurd (let bad : false ≡ true = e in cc);
}

pub down_reads : (s : State) (w : Written) → w.registers 15 ≡ true → ReadsOnly w s count_down
down_reads s w set = record {
  registers = λ r lo hi e. ⊎_elim (λ x. absurd x) (λ x. subst (λ z. w.registers z ≡ true) x.1 set) e;
  words = λ x lo hi e. absurd (⊎_elim (λ y. let bad : false ≡ true = y in cc) (λ y. let bad : false ≡ true = y.1 in cc) e);
  flags = λ e. absurd (let bad : false ≡ true = e in cc);
}

-- ---- What is known behind the whole

-- no slot that the copy may write
abbrev pub Stays : Copy → Slot → Type 0
Stays c x = (hits (copied_to c).least (copied_to c).greatest x ≡ false) × (same_slot x (Reg 15) ≡ false)

-- A state behind the copy: the counter is 0, what isn't written is as it was, and what is written is fresh.
pub record Behind (c : Copy) (s t : State) (w u : Written) : Type 0 where
  pub counter : value_of t (Reg 15) ≡ 0
  pub stays : (x : Slot) → Stays c x → value_of t x ≡ value_of s x
  pub small : AreSmall t
  pub more : More w u
  pub set : u.registers 15 ≡ true
  pub fresh : (a : ℕ) → a % 2 ≡ 0 → (copied_to c).least ≤ a → a ≤ (copied_to c).greatest → is_sram a ≡ true → u.words a ≡ true
  pub flags : u.flags ≡ true

pub copied_holds : (b : Board) (c : Copy) (κ : Known) (s t : State) (w u : Written) (n : ℕ) → Holds κ s w n → Behind c s t w u → Holds (copied b c κ) t u (n + copy_cost b c)
copied_holds b c κ s t w u n h is =
    holds_flags (freshened to.least to.greatest (forgetting (hits to.least to.greatest) counted)) t u (n + copy_cost b c) true None (λ e. is.flags)
    (holds_freshened (forgetting (hits to.least to.greatest) counted) t u (n + copy_cost b c) to.least to.greatest (λ a even lo hi sr. is.fresh a even (le_of to.least a lo) (le_of a to.greatest hi) sr)
    (holds_forgetting counted zeroed t u (n + copy_cost b c) (hits to.least to.greatest) stays is.small in_zeroed))
  where
    to : Reach
    to = copied_to c

    paid : Known
    paid = with_cost (copy_cost b c) κ

    counted : Known
    counted = given (Reg 15) (just 0) (without (Reg 15) paid) paid

    zeroed : State
    zeroed = record s { reg = set_at s.reg 15 0 }

    sets : Sets s zeroed (Reg 15) 0
    sets = sets_register s 15 0 refl

    held : Holds paid s u (n + copy_cost b c)
    held = holds_more paid s w u (n + copy_cost b c) is.more (holds_paid κ s w n (copy_cost b c) h)

    in_zeroed : Holds counted zeroed u (n + copy_cost b c)
    in_zeroed =
        holds_given paid s zeroed u (n + copy_cost b c) (Reg 15) (just 0) 0 (without (Reg 15) paid) refl sets (omega arith) (just_within 0)
        (λ q e. subst (λ z. u.registers z ≡ true) (ap slot_number e) is.set)
        (bound_mono (n + copy_cost b c) _ _ held.bound (bound_le_settled (λ y. same_slot y (Reg 15)) (range_of paid) (value_of s) (value_of zeroed) paid.spent held.range (λ y e. sym (sets.there y e)))) held

    stays : (x : Slot) → hits to.least to.greatest x ≡ false → value_of t x ≡ value_of zeroed x
    stays x miss = elim (same_slot x (Reg 15)) as (λ d. same_slot x (Reg 15) ≡ d → value_of t x ≡ value_of zeroed x) [
      | true ↦ λ e. ap (λ z. value_of t z) (slots_equal x (Reg 15) e) ∙ is.counter ∙ sym (sets.here x e)
      | false ↦ λ e. is.stays x (miss, e) ∙ sym (sets.there x e)
    ] refl
