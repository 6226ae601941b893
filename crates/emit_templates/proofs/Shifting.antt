-- Shifts by a word: as many turns as it says, none where it is 0, and a trap above 15.
use Rattle.std.proofs.Common.{◌≡◌, ℕ, zero, suc, ◌+◌, ◌-◌, ◌*◌, ◌%◌, ◌<◌, ◌≤◌, Bool, true, false, List, [], ◌∷◌, ◌++◌, refl, ap, ◌∙◌, subst, arith, pos, negsuc}
use Rattle.std.specs.Prelude.{◌==◌, not, nat_le}
use Rattle.std.proofs.lemmas.Bool.Decides.{nat_tests}
use Rattle.std.proofs.lemmas.Nat.{mul-le}
use Rattle.board_table.specs.declared.board.Board.{Board}
use Rattle.msp430_isa.specs.declared.instr.Src.TheVariants.{Imm, Short}
use Rattle.msp430_isa.specs.declared.instr.TwoOp.TheVariants.{Sub as SUB, Cmp as CMP}
use Rattle.msp430_isa.specs.declared.instr.Cond.TheVariants.{Jne as JNE, Jeq as JEQ, Jnc as JNC}
use Rattle.msp430_isa.specs.declared.instr.Instr.{Instr}
use Rattle.msp430_isa.specs.declared.instr.Instr.TheVariants.{Jump}
use Rattle.msp430_isa.specs.Encoding.{length_of}
use Rattle.msp430_isa.specs.Profile.{in_profile}
use Rattle.msp430_machine.specs.State.{Trapped, State}
use Rattle.msp430_machine.specs.Cost.{instruction_cost}
use Rattle.op_cost.specs.Templates.{by, trap}
use Rattle.emit_templates.proofs.Work.{Work, By, instr_of}
use Rattle.emit_templates.proofs.Steps.{Steps, Now, Stand, stand_at, spent, worked, codes, words_in, AllFit, works, jumps}
use Rattle.emit_templates.proofs.Moves.{Stops, trap_goes}

spent_plus : (b : Board) (is : List Instr) (x need : ℕ) → spent b is (x + need) ≡ spent b is x + need
spent_plus b [] x need = refl
spent_plus b (i ∷ is) x need = omega (arith, spent_plus b is x need)

stand_codes : (code : ℕ → ℕ) (ws : List Work) (k : ℕ) (rest : List Instr) → Stand code k (codes ws ++ rest) → Stand code (k + words_in ws) rest
stand_codes code [] k rest h = stand_at code k (k + 0) rest (omega arith) h
stand_codes code (w ∷ ws) k rest h = stand_at code (k + length_of (instr_of w) + words_in ws) (k + (length_of (instr_of w) + words_in ws)) rest (omega arith) (stand_codes code ws (k + length_of (instr_of w)) rest h.2)

one_more : (n c need : ℕ) → c + (n * c + need) ≡ suc n * c + need
one_more n c need = omega arith

at_most : (n m c need : ℕ) → n ≤ m → n * c + need ≤ m * c + need
at_most n m c need le = omega (arith, mul-le n c m c le (omega arith))

-- what a turn does with R15: P says what is still to be done with the value in so many turns
pub record Shifts (b : Board) (input : List ℕ) (ws : List Work) (f : ℕ → ℕ) (P : ℕ → ℕ → Type 0) : Type 0 where
  pub fit : AllFit ws
  pub counts : (s : State) → (worked b input ws s).reg 14 ≡ s.reg 14
  pub moves : (s : State) → s.reg 15 < 65536 → (worked b input ws s).reg 15 ≡ f (s.reg 15)
  pub word : (v : ℕ) → v < 65536 → f v < 65536
  pub onward : (n v : ℕ) → v < 65536 → P (suc n) v → P n (f v)
  pub back : in_profile (Jump JNE (negsuc (words_in ws + 1))) ≡ true
  pub over : in_profile (Jump JEQ (pos (words_in ws + 2))) ≡ true

module _ (b : Board) (input : List ℕ) (s0 : State) (p0 : List ℕ) (W : Bool → ℕ → State → List ℕ → Type 0) (steps : Steps b input s0 p0 W)
    (ws : List Work) (f : ℕ → ℕ) (P : ℕ → ℕ → Type 0) (shifts : Shifts b input ws f P) where
  abbrev counts_down : List Work
  counts_down = By SUB (Short 1) 14 ∷ []

  abbrev back : Instr
  back = Jump JNE (negsuc (words_in ws + 1))

  abbrev ending : ℕ
  ending = instruction_cost b (by SUB (Short 1) 14) + (instruction_cost b back + 0)

  abbrev turn_cost : ℕ
  turn_cost = spent b (codes ws) ending

  turn_goes : (n v need taken k : ℕ) (rest : List Instr) (s : State) → n < 16 → Stand s0.code k (codes ws ++ (codes counts_down ++ back ∷ rest)) → Now s0 taken k s
      → s.reg 15 ≡ v → s.reg 14 ≡ suc n → v < 65536 → P (suc n) v
      → ((s' : State) → s'.reg 15 ≡ f v → s'.reg 14 ≡ n → 0 < n → Now s0 taken k s' → W true need s' p0)
      → ((s' : State) → s'.reg 15 ≡ f v → n ≡ 0 → Now s0 taken (k + words_in ws + 2) s' → W true need s' p0)
      → W true (turn_cost + need) s p0
  turn_goes n v need taken k rest s few stands now r15 r14 low to_do more done =
      subst (λ c. W true c s p0) (ap (λ x. spent b (codes ws) x) (let e : instruction_cost b (by SUB (Short 1) 14) + (instruction_cost b back + need) ≡ ending + need = omega arith in e) ∙ spent_plus b (codes ws) ending need)
      (works b input s0 p0 W steps ws (spent b (codes counts_down) (instruction_cost b back + need)) taken k (k + words_in ws) (codes counts_down ++ back ∷ rest) s shifts.fit refl now stands
      (λ now1 stands1. works b input s0 p0 W steps counts_down (instruction_cost b back + need) taken (k + words_in ws) (k + words_in ws + 1) (back ∷ rest) s1 (refl, tt) (omega arith) now1 stands1
      (λ now2 stands2. jumps b input s0 p0 W steps JNE (negsuc (words_in ws + 1)) true need taken (k + words_in ws + 1) (k + words_in ws + 2) k rest s2 (omega arith) now2 stands2 shifts.back (omega (arith, stands2.1))
      (λ took now3. more _ moved left (some took) now3)
      (λ fell now3 stands3. done _ moved (none fell) now3))))
    where
      s1 : State
      s1 = worked b input ws s

      s2 : State
      s2 = worked b input counts_down s1

      moved : s1.reg 15 ≡ f v
      moved = shifts.moves s (omega (arith, r15, low)) ∙ ap f r15

      left : (s1.reg 14 + 65534 + 1) % 65536 ≡ n
      left = let e : s1.reg 14 ≡ suc n = shifts.counts s ∙ r14 in omega (arith, e, few)

      some : not ((s1.reg 14 + 65534 + 1) % 65536 == 0) ≡ true → 0 < n
      some h = grind (arith, nat_tests, left)

      none : not ((s1.reg 14 + 65534 + 1) % 65536 == 0) ≡ false → n ≡ 0
      none h = grind (arith, nat_tests, left)

  loop_goes : (n v need taken k : ℕ) (rest : List Instr) (s : State) → n < 16 → Stand s0.code k (codes ws ++ (codes counts_down ++ back ∷ rest)) → Now s0 taken k s
      → s.reg 15 ≡ v → s.reg 14 ≡ suc n → v < 65536 → P (suc n) v
      → ((s' : State) (w : ℕ) → s'.reg 15 ≡ w → w < 65536 → P 0 w → Now s0 taken (k + words_in ws + 2) s' → W true need s' p0)
      → W true (suc n * turn_cost + need) s p0
  loop_goes zero v need taken k rest s few stands now r15 r14 low to_do on =
      subst (λ c. W true c s p0) (one_more 0 turn_cost need)
      (turn_goes 0 v (0 * turn_cost + need) taken k rest s few stands now r15 r14 low to_do
      (λ s' e15 e14 some now'. absurd (omega (arith, some)))
      (λ s' e15 none now'. subst (λ c. W true c s' p0) (let e : need ≡ 0 * turn_cost + need = omega arith in e) (on s' (f v) e15 (shifts.word v low) (shifts.onward 0 v low to_do) now')))
  loop_goes (suc n) v need taken k rest s few stands now r15 r14 low to_do on =
      subst (λ c. W true c s p0) (one_more (suc n) turn_cost need)
      (turn_goes (suc n) v (suc n * turn_cost + need) taken k rest s few stands now r15 r14 low to_do
      (λ s' e15 e14 some now'. loop_goes n (f v) need taken k rest s' (omega (arith, few)) stands now' e15 e14 (shifts.word v low) (shifts.onward (suc n) v low to_do) on)
      (λ s' e15 none now'. absurd (omega (arith, none))))

  abbrev first_test : List Work
  first_test = By CMP (Imm 16) 14 ∷ []

  abbrev second_test : List Work
  second_test = By CMP (Short 0) 14 ∷ []

  abbrev over : Instr
  over = Jump JEQ (pos (words_in ws + 2))

  abbrev loop : List Instr → List Instr
  loop rest = codes ws ++ (codes counts_down ++ back ∷ rest)

  -- what is to be done y times is done, or traps
  pub shift_goes : (x y need taken k : ℕ) (rest : List Instr) (s : State)
      → Stand s0.code k (codes first_test ++ Jump JNC (pos 3) ∷ trap 3 ∷ (codes second_test ++ over ∷ loop rest)) → Now s0 taken k s
      → s.reg 15 ≡ x → s.reg 14 ≡ y → x < 65536 → y < 65536 → P y x
      → (16 ≤ y → (s' : State) → Stops s0 taken (Trapped 3) s' → W true 0 s' p0)
      → (y < 16 → (s' : State) (w : ℕ) → s'.reg 15 ≡ w → w < 65536 → P 0 w → Now s0 taken (k + 10 + words_in ws) s' → W true need s' p0)
      → W true (spent b (codes first_test) (instruction_cost b (Jump JNC (pos 3)) + (instruction_cost b (trap 3) + (spent b (codes second_test) (instruction_cost b over + (15 * turn_cost + need)))))) s p0
  shift_goes x y need taken k rest s stands now r15 r14 low low' to_do traps on =
      works b input s0 p0 W steps first_test (instruction_cost b (Jump JNC (pos 3)) + need1) taken k (k + 2) (Jump JNC (pos 3) ∷ trap 3 ∷ (codes second_test ++ over ∷ loop rest)) s (refl, tt) (omega arith) now stands
      (λ now1 stands1. jumps b input s0 p0 W steps JNC (pos 3) true need1 taken (k + 2) (k + 3) (k + 6) (trap 3 ∷ (codes second_test ++ over ∷ loop rest)) (worked b input first_test s) (omega arith) now1 stands1 refl (omega (arith, stands1.1))
      (λ took now2. steps.less true need2 need1 _ p0 (omega arith)
      (works b input s0 p0 W steps second_test (instruction_cost b over + (15 * turn_cost + need)) taken (k + 6) (k + 7) (over ∷ loop rest) _ (refl, tt) (omega arith) now2 (stand_at s0.code (k + 2 + 1 + 3) (k + 6) (codes second_test ++ over ∷ loop rest) (omega arith) stands1.2.2)
      (λ now3 stands3. jumps b input s0 p0 W steps JEQ (pos (words_in ws + 2)) true (15 * turn_cost + need) taken (k + 7) (k + 8) (k + 10 + words_in ws) (loop rest) _ (omega arith) now3 stands3 shifts.over (omega (arith, room stands3))
      (λ none now4. steps.less true need (15 * turn_cost + need) _ p0 (omega arith) (on (within took) _ x r15 low (subst (λ n. P n x) (is_zero none) to_do) now4))
      (λ some now4 stands4. some_turns y (within took) (is_some some) taken (k + 8) _ now4 stands4 r15 r14 to_do
      (λ s' w e15 low_w done now5. on (within took) s' w e15 low_w done (subst (λ m. Now s0 taken m s') (let e : k + 8 + words_in ws + 2 ≡ k + 10 + words_in ws = omega arith in e) now5))))))
      (λ fell now2 stands2. trap_goes b input s0 p0 W steps 3 need2 taken (k + 3) (codes second_test ++ over ∷ loop rest) _ (omega arith) now2 stands2 (traps (above fell))))
    where
      need2 : ℕ
      need2 = spent b (codes second_test) (instruction_cost b over + (15 * turn_cost + need))

      need1 : ℕ
      need1 = instruction_cost b (trap 3) + need2

      room : Stand s0.code (k + 7) (over ∷ loop rest) → k + 8 + words_in ws + 2 ≤ 0x3FC0
      room h = (let e = stand_codes s0.code ws (k + 7 + 1) (codes counts_down ++ back ∷ rest) h.2 in omega (arith, e.2.1))

      within : not (nat_le 65536 (s.reg 14 + (65535 - 16) + 1)) ≡ true → y < 16
      within h = grind (arith, nat_tests, r14)

      above : not (nat_le 65536 (s.reg 14 + (65535 - 16) + 1)) ≡ false → 16 ≤ y
      above h = grind (arith, nat_tests, r14)

      is_zero : ((s.reg 14 + 65535 + 1) % 65536 == 0) ≡ true → y ≡ 0
      is_zero h = grind (arith, nat_tests, r14)

      is_some : ((s.reg 14 + 65535 + 1) % 65536 == 0) ≡ false → 0 < y
      is_some h = grind (arith, nat_tests, r14)

      some_turns : (n : ℕ) → n < 16 → 0 < n → (taken k : ℕ) (z : State) → Now s0 taken k z → Stand s0.code k (loop rest) → z.reg 15 ≡ x → z.reg 14 ≡ n → P n x
          → ((s' : State) (w : ℕ) → s'.reg 15 ≡ w → w < 65536 → P 0 w → Now s0 taken (k + words_in ws + 2) s' → W true need s' p0)
          → W true (15 * turn_cost + need) z p0
      some_turns zero few some taken k z now stands e15 e14 left on = absurd (omega (arith, some))
      some_turns (suc n) few some taken k z now stands e15 e14 left on =
          steps.less true (suc n * turn_cost + need) (15 * turn_cost + need) z p0 (at_most (suc n) 15 turn_cost need (omega (arith, few)))
          (loop_goes n x need taken k rest z (omega (arith, few)) stands now e15 e14 low left on)
