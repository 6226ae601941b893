-- The loop that carries the words of an array from one home to another, the last word first.
use Rattle.std.proofs.Common.{◌≡◌, ◌≢◌, ◌⊎◌, ℕ, zero, suc, ◌+◌, ◌-◌, ◌*◌, ◌%◌, ◌<◌, ◌≤◌, Bool, true, false, List, [], ◌∷◌, None, refl, sym, ap, ◌∙◌, subst, arith, inl, inr, negsuc}
use Rattle.std.specs.Prelude.{◌==◌, nat_lt, not, if◌then◌else◌, ◌&&◌}
use Rattle.std.proofs.lemmas.Bool.{cases_Bool, eqb-true, eq-eqb, ne_eqb}
use Rattle.std.proofs.lemmas.Bool.Decides.{nat_tests}
use Rattle.board_table.specs.declared.board.Board.{Board}
use Rattle.msp430_isa.specs.declared.instr.Src.TheVariants.{Index as FromIndex, Imm, Short}
use Rattle.msp430_isa.specs.declared.instr.Dst.TheVariants.{Reg as ToReg, Index as ToIndex}
use Rattle.msp430_isa.specs.declared.instr.TwoOp.TheVariants.{Sub as SUB}
use Rattle.msp430_isa.specs.declared.instr.Cond.TheVariants.{Jne as JNE}
use Rattle.msp430_isa.specs.declared.instr.Instr.{Instr}
use Rattle.msp430_isa.specs.declared.instr.Instr.TheVariants.{Two, Jump}
use Rattle.msp430_isa.specs.Profile.{in_profile}
use Rattle.msp430_isa.specs.Results.{jump_target}
use Rattle.msp430_machine.specs.Addresses.{region}
use Rattle.msp430_machine.specs.State.{Awake, State}
use Rattle.msp430_machine.specs.Memory.{read, after_read, written, put_at}
use Rattle.msp430_machine.specs.Access.{AsSource, ByMove, access_fault, fault_at, first_of}
use Rattle.msp430_machine.specs.Cost.{cost, instruction_cost, read_cost_in, write_cost_in}
use Rattle.msp430_machine.specs.Execution.{done, put_by, gone_to}
use Rattle.msp430_machine.specs.Steps.{begun}
use Rattle.msp430_machine.proofs.Memories.{IsAt, word_allowed, after_read_at, puts_none_at}
use Rattle.resumed_runs.specs.Code.{move}
use Rattle.resumed_runs.proofs.Paths.{Stand, Working, Takes, Path, Arrived, Through, takes_at, path_both}
use Rattle.laid_code.proofs.Homes.{Home, InSram, InFram, word_of, IsClear, Apart, Changes, change_same, change_other, change_apart, change_clear}
use Rattle.laid_code.proofs.Leading.{Leading, set_register}
use Rattle.laid_code.proofs.Words.{address, IsRoom, region_of, stored, at_home, read_home, written_home, stored_same}

-- by the register R15, which holds twice the number of words that are left
abbrev pub carries_by : Home → Home → Instr
carries_by from to = move (FromIndex 15 (address from 0 - 2)) (ToIndex 15 (address to 0 - 2))

abbrev pub counts_words : ℕ → Instr
counts_words n = move (Imm (2 * n)) (ToReg 15)

abbrev pub lowers : Instr
lowers = Two SUB false (Short 2) (ToReg 15)

-- back over itself, the SUB and the move
abbrev pub repeats : Instr
repeats = Jump JNE (negsuc 4)

abbrev pub block_code : Home → Home → ℕ → List Instr
block_code from to n = counts_words n ∷ carries_by from to ∷ lowers ∷ repeats ∷ []

-- the cost of carrying one word
abbrev pub carry_cost : Board → Home → Home → ℕ
carry_cost b from to = b.core.move_ + b.access.fetch * 3 + read_cost_in b (region_of from) + write_cost_in b (region_of to)

abbrev pub turn_cost : Board → Home → Home → ℕ
turn_cost b from to = carry_cost b from to + (instruction_cost b lowers + (instruction_cost b repeats + 0))

-- of so many turns
abbrev pub turns_cost : Board → Home → Home → ℕ → ℕ
turns_cost b from to zero = 0
turns_cost b from to (suc left) = turn_cost b from to + turns_cost b from to left

-- the first instruction once, and the others for each word
pub turns_are : (b : Board) (from to : Home) (left : ℕ) → turns_cost b from to left ≡ left * turn_cost b from to
turns_are b from to zero = grind arith
turns_are b from to (suc left) = (let e = turns_are b from to left in grind (arith, e))

abbrev pub block_cost : Board → Home → Home → ℕ → ℕ
block_cost b from to n = instruction_cost b (counts_words 0) + turns_cost b from to n

-- ---- Where the words stand

index_is : (h : Home) (n j : ℕ) → IsRoom h n → j < n → (2 * (j + 1) + (address h 0 - 2)) % 65536 ≡ address h j
index_is (InSram w) n j room low = omega (arith, room, low)
index_is (InFram w) n j room low = omega (arith, room.0, room.1, low)

offset_fits : (h : Home) (n : ℕ) → IsRoom h n → 0 < n → nat_lt (address h 0 - 2) 65536 ≡ true
offset_fits (InSram w) n room low = (let e : 0x1C00 + 2 * (w + 0) - 2 < 65536 = omega (arith, room, low) in grind (arith, nat_tests))
offset_fits (InFram w) n room low = (let e : 2 * (w + 0) - 2 < 65536 = omega (arith, room.1, low) in grind (arith, nat_tests))

module _ (b : Board) (input : List ℕ) (code : ℕ → ℕ) (from to : Home) (n : ℕ) (room_from : IsRoom from n) (room_to : IsRoom to n) where
  -- ---- One word

  fits : 0 < n → in_profile (carries_by from to) ≡ true
  fits some = ap (λ c. c && nat_lt (address to 0 - 2) 65536) (offset_fits from n room_from some) ∙ ap (λ c. true && c) (offset_fits to n room_to some)

  module _ (j : ℕ) (low : j < n) (s : State) (r15 : s.reg 15 ≡ 2 * (j + 1)) where
    from_is : (s.reg 15 + (address from 0 - 2)) % 65536 ≡ address from j
    from_is = ap (λ r. (r + (address from 0 - 2)) % 65536) r15 ∙ index_is from n j room_from low

    to_is : (s.reg 15 + (address to 0 - 2)) % 65536 ≡ address to j
    to_is = ap (λ r. (r + (address to 0 - 2)) % 65536) r15 ∙ index_is to n j room_to low

    here : IsAt (address from j) (region_of from)
    here = at_home from n j room_from low

    there : IsAt (address to j) (region_of to)
    there = at_home to n j room_to low

    block_does : done input (carries_by from to) s ≡ stored to j (word_of s from j) s
    block_does =
        ap (λ a. let y = after_read s a in written false y ((y.reg 15 + (address to 0 - 2)) % 65536) (read input false s a)) from_is
        ∙ ap (λ y. written false y ((y.reg 15 + (address to 0 - 2)) % 65536) (read input false s (address from j))) (after_read_at s (address from j) (region_of from) here.inside)
        ∙ ap (λ a. written false s a (read input false s (address from j))) to_is
        ∙ ap (λ v. written false s (address to j) v) (read_home input from n j s room_from low)
        ∙ written_home to n j (word_of s from j) s room_to low

    block_allowed : access_fault s (carries_by from to) ≡ None
    block_allowed =
        ap (λ a. first_of (fault_at AsSource false a) (fault_at ByMove false ((s.reg 15 + (address to 0 - 2)) % 65536))) from_is
        ∙ ap (λ a. first_of (fault_at AsSource false (address from j)) (fault_at ByMove false a)) to_is
        ∙ ap (λ f. first_of f (fault_at ByMove false (address to j))) (word_allowed AsSource (address from j) (region_of from) here)
        ∙ ap (λ f. first_of None f) (word_allowed ByMove (address to j) (region_of to) there)

    block_costs : cost b s (carries_by from to) ≡ carry_cost b from to
    block_costs =
        ap (λ a. b.core.move_ + b.access.fetch * 3 + read_cost_in b (region a) + (0 + write_cost_in b (region ((s.reg 15 + (address to 0 - 2)) % 65536)))) from_is
        ∙ ap (λ a. b.core.move_ + b.access.fetch * 3 + read_cost_in b (region (address from j)) + (0 + write_cost_in b (region a))) to_is
        ∙ ap (λ g. b.core.move_ + b.access.fetch * 3 + read_cost_in b g + (0 + write_cost_in b (region (address to j)))) here.inside.lies
        ∙ ap (λ g. b.core.move_ + b.access.fetch * 3 + read_cost_in b (region_of from) + (0 + write_cost_in b g)) there.inside.lies
        ∙ (let e : b.core.move_ + b.access.fetch * 3 + read_cost_in b (region_of from) + (0 + write_cost_in b (region_of to)) ≡ carry_cost b from to = omega arith in e)

    block_puts : put_by input (carries_by from to) s ≡ None
    block_puts =
        ap (λ a. put_at (((after_read s a).reg 15 + (address to 0 - 2)) % 65536) (read input false s a)) from_is
        ∙ ap (λ y. put_at ((y.reg 15 + (address to 0 - 2)) % 65536) (read input false s (address from j))) (after_read_at s (address from j) (region_of from) here.inside)
        ∙ ap (λ a. put_at a (read input false s (address from j))) to_is
        ∙ puts_none_at (address to j) (read input false s (address from j)) (region_of to) there.inside

  -- ---- All words

  -- so many words are still to be carried, from s0, and the loop begins again at the word k
  pub record Loop (k : ℕ) (s0 : State) (left : ℕ) (s : State) : Type 0 where
    pub awake : s.phase ≡ Awake
    pub pc : s.reg 0 ≡ 0x8000 + 2 * k
    pub has_code : s.code ≡ code
    pub r15 : s.reg 15 ≡ 2 * left
    pub same_sp : s.reg 1 ≡ s0.reg 1
    pub same_count : s.reg 10 ≡ s0.reg 10
    pub has_taken : s.taken ≡ s0.taken
    pub copied : (i : ℕ) → left ≤ i → i < n → word_of s to i ≡ word_of s0 from i
    pub kept : (h : Home) (m i : ℕ) → Apart to n h m → i < m → word_of s h i ≡ word_of s0 h i
    pub away : (x : ℕ) → (x < 0x2200) ⊎ (0x3F80 ≤ x) → s.fram x ≡ s0.fram x

  module _ (k : ℕ) (s0 : State) (apart : Apart to n from n) (clear : IsClear to n) (closed : s0.fram 0xC00 ≡ 0) (stands : Stand code k (carries_by from to ∷ lowers ∷ repeats ∷ [])) where
    working : (left : ℕ) (s : State) → Loop k s0 left s → Working code s
    working left s l = record { awake = l.awake; closed = l.away 0xC00 (inl (omega arith)) ∙ closed; has_code = l.has_code }

    module _ (left : ℕ) (low : left < n) (s : State) (l : Loop k s0 (left + 1) s) where
      abbrev s1 : State
      s1 = stored to left (word_of s from left) (begun (carry_cost b from to) (carries_by from to) s)

      abbrev s2 : State
      s2 = done input lowers (begun (instruction_cost b lowers) lowers (stored to left (word_of s from left) (begun (carry_cost b from to) (carries_by from to) s)))

      begun_word : (c : ℕ) (i : Instr) (h : Home) (j : ℕ) → word_of (begun c i s) h j ≡ word_of s h j
      begun_word c i (InSram w) j = refl
      begun_word c i (InFram w) j = refl

      change : Changes to left (word_of s from left) s s1
      change = by_home to
        where
          by_home : (h : Home) → Changes h left (word_of s from left) s (stored h left (word_of s from left) (begun (carry_cost b from to) (carries_by from to) s))
          by_home (InSram w) = (refl, refl)
          by_home (InFram w) = (refl, refl)

      same1 : (s1.phase ≡ s.phase) × (s1.reg ≡ (begun (carry_cost b from to) (carries_by from to) s).reg) × (s1.code ≡ s.code) × (s1.taken ≡ s.taken)
      same1 = (let e = stored_same to left (word_of s from left) (begun (carry_cost b from to) (carries_by from to) s) in (e.phase, e.reg, e.code, e.taken))

      takes1 : Takes b input (carries_by from to) (carry_cost b from to) s None s1
      takes1 = takes_at b input code k (carries_by from to) (lowers ∷ repeats ∷ []) (carry_cost b from to) s None s1 stands l.has_code l.pc (fits (omega (arith, low))) (block_allowed left low s l.r15) (block_costs left low s l.r15)
          (block_puts left low (begun (carry_cost b from to) (carries_by from to) s) l.r15)
          (block_does left low (begun (carry_cost b from to) (carries_by from to) s) l.r15 ∙ ap (λ v. stored to left v (begun (carry_cost b from to) (carries_by from to) s)) (begun_word (carry_cost b from to) (carries_by from to) from left))

      pc1 : s1.reg 0 ≡ 0x8000 + 2 * (k + 3)
      pc1 = ap (λ r. r 0) same1.1 ∙ (let room = stands.1 in let pc = l.pc in let e : (s.reg 0 + 2 * 3) % 65536 ≡ 0x8000 + 2 * (k + 3) = omega (arith, pc, room) in e)

      working1 : Working code s1
      working1 = record {
        awake = same1.0 ∙ l.awake;
        closed = change_clear to n left (word_of s from left) 0xC00 s s1 clear low (inl (omega arith)) change ∙ (working (left + 1) s l).closed;
        has_code = same1.2 ∙ l.has_code;
      }

      takes2 : Takes b input lowers (instruction_cost b lowers) s1 None s2
      takes2 = takes_at b input code (k + 3) lowers (repeats ∷ []) (instruction_cost b lowers) s1 None s2 stands.2 working1.has_code pc1 refl refl refl refl refl

      pc2 : s2.reg 0 ≡ 0x8000 + 2 * (k + 3 + 1)
      pc2 = (let room = stands.2.1 in let e : (s1.reg 0 + 2 * 1) % 65536 ≡ 0x8000 + 2 * (k + 3 + 1) = omega (arith, pc1, room) in e)

      r15_low : left < 0x4000
      r15_low = by_home to room_to
        where
          by_home : (h : Home) → IsRoom h n → left < 0x4000
          by_home (InSram w) room = omega (arith, room, low)
          by_home (InFram w) room = omega (arith, room.1, low)

      r15_2 : s2.reg 15 ≡ 2 * left
      r15_2 = (let e : (s1.reg 15 + 65533 + 1) % 65536 ≡ 2 * left = (let x : s1.reg 15 ≡ 2 * (left + 1) = ap (λ r. r 15) same1.1 ∙ l.r15 in omega (arith, x, r15_low)) in e)

      -- what holds behind the SUB, but for PC
      pub turned : (u : State) (to_k : ℕ) → u.phase ≡ s2.phase → u.reg 0 ≡ 0x8000 + 2 * to_k → u.code ≡ s2.code → u.reg 15 ≡ s2.reg 15 → u.reg 1 ≡ s2.reg 1 → u.reg 10 ≡ s2.reg 10 → u.taken ≡ s2.taken → u.sram ≡ s1.sram → u.fram ≡ s1.fram → Loop to_k s0 left u
      turned u to_k phase pc same_code same_15 same_1 same_10 same_taken sram fram = record {
        awake = phase ∙ working1.awake;
        pc = pc;
        has_code = same_code ∙ working1.has_code;
        r15 = same_15 ∙ r15_2;
        same_sp = same_1 ∙ ap (λ r. r 1) same1.1 ∙ l.same_sp;
        same_count = same_10 ∙ ap (λ r. r 10) same1.1 ∙ l.same_count;
        has_taken = same_taken ∙ same1.3 ∙ l.has_taken;
        copied = λ i le lt. word_same to i ∙ elim (cases_Bool (i == left)) [
          | inl is ↦
              let e = eqb-true i left is in
              ap (λ y. word_of s1 to y) e ∙ change_same to left (word_of s from left) s s1 change ∙ l.kept from n left apart low ∙ ap (λ y. word_of s0 from y) (sym e)
          | inr isnt ↦
              let differs : i ≢ left = λ e. let no : true ≡ false = sym (eq-eqb i left e) ∙ isnt in cc in
              change_other to left i (word_of s from left) s s1 differs change ∙ l.copied i (omega (arith, le, differs)) lt
        ];
        kept = λ h m i a lt. word_same h i ∙ change_apart to n left (word_of s from left) h m i s s1 a low lt change ∙ l.kept h m i a lt;
        away = λ x y. ap (λ f. f x) fram ∙ change_clear to n left (word_of s from left) x s s1 clear low y change ∙ l.away x y;
      }
        where
          word_same : (h : Home) (i : ℕ) → word_of u h i ≡ word_of s1 h i
          word_same (InSram w) i = ap (λ f. f (w + i)) sram
          word_same (InFram w) i = ap (λ f. f (w + i)) fram

      -- the jump back, and the end of the loop
      abbrev passed : State
      passed = begun (instruction_cost b repeats) repeats (done input lowers (begun (instruction_cost b lowers) lowers (stored to left (word_of s from left) (begun (carry_cost b from to) (carries_by from to) s))))

      abbrev again : State
      again = let x = begun (instruction_cost b repeats) repeats (done input lowers (begun (instruction_cost b lowers) lowers (stored to left (word_of s from left) (begun (carry_cost b from to) (carries_by from to) s)))) in gone_to x (jump_target (x.reg 0) (negsuc 4))

      working2 : Working code s2
      working2 = record { awake = working1.awake; closed = working1.closed; has_code = working1.has_code }

      flag : (c : Bool) → (left == 0) ≡ c → s2.flags.zero_flag ≡ c
      flag c e = ap (λ r. r == 0) r15_2 ∙ doubled left c e
        where
          doubled : (x : ℕ) (c' : Bool) → (x == 0) ≡ c' → (2 * x == 0) ≡ c'
          doubled x c' h = grind (arith, nat_tests)

      takes_end : left ≡ 0 → Takes b input repeats (instruction_cost b repeats) s2 None passed
      takes_end e = takes_at b input code (k + 3 + 1) repeats [] (instruction_cost b repeats) s2 None passed stands.2.2 working2.has_code pc2 refl refl refl refl
          (ap (λ z. if not z then again else passed) (flag true (eq-eqb left 0 e)))

      takes_back : left ≢ 0 → Takes b input repeats (instruction_cost b repeats) s2 None again
      takes_back e = takes_at b input code (k + 3 + 1) repeats [] (instruction_cost b repeats) s2 None again stands.2.2 working2.has_code pc2 refl refl refl refl
          (ap (λ z. if not z then again else passed) (flag false (ne_eqb left 0 e)))

      ended : Loop (k + 5) s0 left passed
      ended = turned passed (k + 5) refl (let room = stands.2.2.1 in let e : (s2.reg 0 + 2 * 1) % 65536 ≡ 0x8000 + 2 * (k + 5) = omega (arith, pc2, room) in e) refl refl refl refl refl refl refl

      back_again : Loop k s0 left again
      back_again = turned again k refl (let room = stands.2.2.1 in let e : ((s2.reg 0 + 2 * 1) % 65536 + 65536 - 2 * (4 + 1)) % 65536 ≡ 0x8000 + 2 * k = omega (arith, pc2, room) in e) refl refl refl refl refl refl refl

      path2 : Path b input code s2 (carry_cost b from to + (instruction_cost b lowers + 0)) s
      path2 = Through (carries_by from to) (carry_cost b from to) (instruction_cost b lowers + 0) s s1 (working (left + 1) s l) takes1 (Through lowers (instruction_cost b lowers) 0 s1 s2 working1 takes2 Arrived)

      last_turn : left ≡ 0 → Leading b input code s None (turn_cost b from to) (λ u. Loop (k + 5) s0 0 u)
      last_turn e = record {
        mid = s2;
        after = passed;
        first = carry_cost b from to + (instruction_cost b lowers + 0);
        last = instruction_cost b repeats;
        instruction = repeats;
        path = path2;
        working = working2;
        takes = takes_end e;
        cost = omega arith;
        holds = subst (λ x. Loop (k + 5) s0 x passed) e ended;
      }

      more_turns : left ≢ 0 → (rest : ℕ) → Leading b input code again None rest (λ u. Loop (k + 5) s0 0 u) → Leading b input code s None (turn_cost b from to + rest) (λ u. Loop (k + 5) s0 0 u)
      more_turns e rest on = record {
        mid = on.mid;
        after = on.after;
        first = carry_cost b from to + (instruction_cost b lowers + 0) + (instruction_cost b repeats + on.first);
        last = on.last;
        instruction = on.instruction;
        path = path_both b input code on.mid s2 (carry_cost b from to + (instruction_cost b lowers + 0)) (instruction_cost b repeats + on.first) s path2 (Through repeats (instruction_cost b repeats) on.first s2 again working2 (takes_back e) on.path);
        working = on.working;
        takes = on.takes;
        cost = (let c = on.cost in omega (arith, c));
        holds = on.holds;
      }

    pub loop_leads : (left : ℕ) → left < n → (s : State) → Loop k s0 (left + 1) s → Leading b input code s None (turns_cost b from to (suc left)) (λ u. Loop (k + 5) s0 0 u)
    loop_leads zero low s l = (let e : turns_cost b from to (suc zero) ≡ turn_cost b from to = omega arith in subst (λ x. Leading b input code s None x (λ u. Loop (k + 5) s0 0 u)) (sym e) (last_turn zero low s l refl))
    loop_leads (suc left) low s l =
        let some : suc left ≢ 0 = λ e. omega (arith, e) in
        more_turns (suc left) low s l some (turns_cost b from to (suc left))
        (loop_leads left (omega (arith, low)) (again (suc left) low s l) (let e : suc left ≡ left + 1 = omega arith in subst (λ x. Loop k s0 x (again (suc left) low s l)) e (back_again (suc left) low s l)))

  -- ---- The whole block

  -- behind it the words stand at both homes
  pub record Copied (k : ℕ) (s0 u : State) : Type 0 where
    pub awake : u.phase ≡ Awake
    pub pc : u.reg 0 ≡ 0x8000 + 2 * k
    pub has_code : u.code ≡ code
    pub same_sp : u.reg 1 ≡ s0.reg 1
    pub same_count : u.reg 10 ≡ s0.reg 10
    pub has_taken : u.taken ≡ s0.taken
    pub copied : (i : ℕ) → i < n → word_of u to i ≡ word_of s0 from i
    pub kept : (h : Home) (m i : ℕ) → Apart to n h m → i < m → word_of u h i ≡ word_of s0 h i
    pub away : (x : ℕ) → (x < 0x2200) ⊎ (0x3F80 ≤ x) → u.fram x ≡ s0.fram x

  counts_fit : 2 * n < 65536 → in_profile (counts_words n) ≡ true
  counts_fit low = (let e : nat_lt (2 * n) 65536 ≡ true = grind (arith, nat_tests) in ap (λ c. c && true) e)

  room_low : (h : Home) → IsRoom h n → 2 * n < 65536
  room_low (InSram w) room = omega (arith, room)
  room_low (InFram w) room = omega (arith, room.1)

  copied_end : (k : ℕ) (s0 u : State) → Loop (k + 2 + 5) s0 0 u → Copied (k + 7) s0 u
  copied_end k s0 u l = record {
    awake = l.awake;
    pc = (let pc = l.pc in omega (arith, pc));
    has_code = l.has_code;
    same_sp = l.same_sp;
    same_count = l.same_count;
    has_taken = l.has_taken;
    copied = λ i lt. l.copied i (omega arith) lt;
    kept = l.kept;
    away = l.away;
  }

  pub block_leads : (k m : ℕ) (s : State) → n ≡ m + 1 → Apart to n from n → IsClear to n → Stand code k (block_code from to n) → Working code s → s.reg 0 ≡ 0x8000 + 2 * k
      → Leading b input code s None (block_cost b from to n) (λ u. Copied (k + 7) s u)
  block_leads k m s some apart clear stands w pc =
      let s1 : State = set_register b (counts_words n) 15 (2 * n) s in
      let first : Takes b input (counts_words n) (instruction_cost b (counts_words n)) s None s1 =
      takes_at b input code k (counts_words n) (carries_by from to ∷ lowers ∷ repeats ∷ []) (instruction_cost b (counts_words n)) s None s1 stands w.has_code pc (counts_fit (room_low to room_to)) refl refl refl refl in
      let begins : Loop (k + 2) s n s1 = record {
        awake = w.awake;
        pc = (let room = stands.1 in let e : (s.reg 0 + 2 * 2) % 65536 ≡ 0x8000 + 2 * (k + 2) = omega (arith, pc, room) in e);
        has_code = w.has_code;
        r15 = refl;
        same_sp = refl;
        same_count = refl;
        has_taken = refl;
        copied = λ i le lt. absurd (omega (arith, le, lt));
        kept = λ h c i a lt. same h i;
        away = λ x y. refl;
      } in
      let l = loop_leads (k + 2) s apart clear w.closed stands.2 m (omega (arith, some)) s1 (subst (λ x. Loop (k + 2) s x s1) some begins) in
      let e : n ≡ suc m = omega (arith, some) in
      let cost_is : turns_cost b from to n ≡ turns_cost b from to (suc m) = ap (λ x. turns_cost b from to x) e in
      record {
        mid = l.mid;
        after = l.after;
        first = instruction_cost b (counts_words n) + l.first;
        last = l.last;
        instruction = l.instruction;
        path = Through (counts_words n) (instruction_cost b (counts_words n)) l.first s s1 w first l.path;
        working = l.working;
        takes = l.takes;
        cost = (let c = l.cost in let same : instruction_cost b (counts_words n) ≡ instruction_cost b (counts_words 0) = refl in omega (arith, c, cost_is, same));
        holds = copied_end k s l.after l.holds;
      }
    where
      same : (h : Home) (i : ℕ) → word_of (set_register b (counts_words n) 15 (2 * n) s) h i ≡ word_of s h i
      same (InSram v) i = refl
      same (InFram v) i = refl
