-- Multiplication: what its loop of 16 turns leaves.
use Rattle.std.proofs.Common.{◌≡◌, ℕ, zero, suc, ◌+◌, ◌*◌, ◌/◌, ◌%◌, ◌^◌, ◌<◌, ◌⊎◌, Bool, true, false, List, [], ◌∷◌, ◌++◌, refl, ap, ◌∙◌, subst, arith, inl, inr, pos, negsuc}
use Rattle.std.specs.Prelude.{◌==◌, if◌then◌else◌, not, bit_and}
use Rattle.std.proofs.lemmas.Bool.Decides.{nat_tests}
use Rattle.board_table.specs.declared.board.Board.{Board}
use Rattle.msp430_isa.specs.declared.instr.Src.TheVariants.{Reg as FromReg, Imm, Short}
use Rattle.msp430_isa.specs.declared.instr.TwoOp.TheVariants.{Mov as MOV, Add as ADD, Sub as SUB, Bit as BIT}
use Rattle.msp430_isa.specs.declared.instr.Cond.TheVariants.{Jne as JNE, Jeq as JEQ}
use Rattle.msp430_isa.specs.declared.instr.Instr.{Instr}
use Rattle.msp430_isa.specs.declared.instr.Instr.TheVariants.{Jump}
use Rattle.msp430_isa.specs.Results.{is_negative}
use Rattle.msp430_machine.specs.State.{State}
use Rattle.msp430_machine.specs.Cost.{instruction_cost}
use Rattle.op_cost.specs.Templates.{weight_of, code_of, by, mul_turn, sixteen, mul_core}
use Rattle.emit_templates.proofs.Turns.{low_bit, even_turn, odd_turn, doubled_away}
use Rattle.emit_templates.proofs.Work.{Work, By, Shift}
use Rattle.emit_templates.proofs.Steps.{Steps, Now, Stand, stand_at, spent, worked, codes, works, jumps}

-- half of a word, with its sign
abbrev half : ℕ → ℕ
half y = y / 2 + (if is_negative false y then 32768 else 0)

half_word : (y : ℕ) → y < 65536 → half y < 65536
half_word y low = elim (is_negative false y) as (λ c. y / 2 + (if c then 32768 else 0) < 65536) [ true ↦ omega (arith, low) | false ↦ omega (arith, low) ]

abbrev sign_of : ℕ → ℕ
sign_of y = if is_negative false y then 1 else 0

halves : (y : ℕ) → 2 * half y + y % 2 ≡ y + 65536 * sign_of y
halves y = elim (is_negative false y) as (λ c. 2 * (y / 2 + (if c then 32768 else 0)) + y % 2 ≡ y + 65536 * (if c then 1 else 0)) [ true ↦ omega arith | false ↦ omega arith ]

-- the sum so far, the doubled and the halved factor, and the turns that are left
pub record Factors (whole n a x y : ℕ) (s : State) : Type 0 where
  pub r13 : s.reg 13 ≡ a
  pub r15 : s.reg 15 ≡ x
  pub r14 : s.reg 14 ≡ y
  pub r12 : s.reg 12 ≡ n
  pub low : a < 65536
  pub low_x : x < 65536
  pub low_y : y < 65536
  pub same : (a + x * y) % 65536 ≡ whole
  pub away : (x * 2 ^ n) % 65536 ≡ 0

-- the cost of a turn, and of n turns
pub one_more : (n c need : ℕ) → c + (n * c + need) ≡ suc n * c + need
one_more n c need = omega arith

-- the loop goes on at its begin, or is done
abbrev pub Going : (n start behind k : ℕ) → Type 0
Going n start behind k = ((n ≡ 0) × (k ≡ behind)) ⊎ ((0 < n) × (k ≡ start))

module _ (b : Board) (input : List ℕ) (s0 : State) (p0 : List ℕ) (W : Bool → ℕ → State → List ℕ → Type 0) (steps : Steps b input s0 p0 W) where
  abbrev tail : List Work
  tail = By ADD (FromReg 15) 15 ∷ Shift 14 ∷ By SUB (Short 1) 12 ∷ []

  abbrev last : Instr
  last = Jump JNE (negsuc 6)

  -- from the doubling on, with the sum that the turn leaves
  tail_goes : (whole n a x y need taken k : ℕ) (rest : List Instr) (s : State) → n < 16 → Stand s0.code (k + 3) (codes tail ++ last ∷ rest) → Now s0 taken (k + 3) s
      → s.reg 13 ≡ a → s.reg 15 ≡ x → s.reg 14 ≡ y → s.reg 12 ≡ suc n → a < 65536 → y < 65536
      → (a + (x + x) % 65536 * half y) % 65536 ≡ whole → (x * 2 ^ suc n) % 65536 ≡ 0
      → ((k' a' x' y' : ℕ) (s' : State) → Factors whole n a' x' y' s' → Going n k (k + 7) k' → Now s0 taken k' s' → W true need s' p0)
      → W true (spent b (codes tail) (instruction_cost b last + need)) s p0
  tail_goes whole n a x y need taken k rest s few stands now r13 r15 r14 r12 low low_y same away on =
      works b input s0 p0 W steps tail (instruction_cost b last + need) taken (k + 3) (k + 6) (last ∷ rest) s (refl, (refl, (refl, tt))) (omega arith) now stands
      (λ now1 stands1. jumps b input s0 p0 W steps JNE (negsuc 6) true need taken (k + 6) (k + 7) k rest s1 (omega arith) now1 stands1 refl (omega (arith, stands1.1))
      (λ took now2. on k a ((x + x) % 65536) (half y) _ (facts _ refl refl refl refl) (inr (more took, refl)) now2)
      (λ fell now2 stands2. on (k + 7) a ((x + x) % 65536) (half y) _ (facts _ refl refl refl refl) (inl (done_with fell, refl)) now2))
    where
      s1 : State
      s1 = worked b input tail s

      left : s1.reg 12 ≡ n
      left = let e : (s.reg 12 + 65534 + 1) % 65536 ≡ n = omega (arith, r12, few) in e

      facts : (s' : State) → s'.reg 13 ≡ s1.reg 13 → s'.reg 15 ≡ s1.reg 15 → s'.reg 14 ≡ s1.reg 14 → s'.reg 12 ≡ s1.reg 12 → Factors whole n a ((x + x) % 65536) (half y) s'
      facts s' e13 e15 e14 e12 = record {
        r13 = e13 ∙ r13;
        r15 = e15 ∙ (let e : (s.reg 15 + s.reg 15 + 0) % 65536 ≡ (x + x) % 65536 = omega (arith, r15) in e);
        r14 = e14 ∙ ap half r14;
        r12 = e12 ∙ left;
        low = low;
        low_x = omega arith;
        low_y = half_word y low_y;
        same = same;
        away = doubled_away x n ∙ away;
      }

      more : not (s1.reg 12 == 0) ≡ true → 0 < n
      more h = grind (arith, nat_tests, left)

      done_with : not (s1.reg 12 == 0) ≡ false → n ≡ 0
      done_with h = grind (arith, nat_tests, left)

  abbrev turn_cost : ℕ
  turn_cost = spent b mul_turn 0

  turn_goes : (whole n a x y need taken k : ℕ) (rest : List Instr) (s : State) → n < 16 → Stand s0.code k (mul_turn ++ rest) → Now s0 taken k s → Factors whole (suc n) a x y s
      → ((k' a' x' y' : ℕ) (s' : State) → Factors whole n a' x' y' s' → Going n k (k + 7) k' → Now s0 taken k' s' → W true need s' p0)
      → W true (turn_cost + need) s p0
  turn_goes whole n a x y need taken k rest s few stands now h on =
      steps.less true (spent b (codes (By BIT (Short 1) 14 ∷ [])) (instruction_cost b (Jump JEQ (pos 1)) + need1)) (turn_cost + need) s p0 (omega arith)
      (works b input s0 p0 W steps (By BIT (Short 1) 14 ∷ []) (instruction_cost b (Jump JEQ (pos 1)) + need1) taken k (k + 1) (Jump JEQ (pos 1) ∷ by ADD (FromReg 15) 13 ∷ (codes tail ++ last ∷ rest)) s (refl, tt) (omega arith) now stands
      (λ now1 stands1. jumps b input s0 p0 W steps JEQ (pos 1) true need1 taken (k + 1) (k + 2) (k + 3) (by ADD (FromReg 15) 13 ∷ (codes tail ++ last ∷ rest)) s1 (omega arith) now1 stands1 refl (omega (arith, stands1.1))
      (λ took now2. steps.less true need2 need1 _ p0 (omega arith)
      (tail_goes whole n a x y need taken k rest _ few (stand_at s0.code (k + 1 + 1 + 1) (k + 3) (codes tail ++ last ∷ rest) (omega arith) stands1.2.2) now2 h.r13 h.r15 h.r14 h.r12 h.low h.low_y (even_turn a x y (half y) (sign_of y) (omega (arith, halves y, even took)) ∙ h.same) h.away on))
      (λ fell now2 stands2. works b input s0 p0 W steps (By ADD (FromReg 15) 13 ∷ []) need2 taken (k + 2) (k + 3) (codes tail ++ last ∷ rest) _ (refl, tt) (omega arith) now2 stands2
      (λ now3 stands3. tail_goes whole n ((a + x) % 65536) x y need taken k rest _ few stands3 now3 sums h.r15 h.r14 h.r12 (omega arith) h.low_y (odd_turn a x y (half y) (sign_of y) (omega (arith, halves y, odd fell)) ∙ h.same) h.away on))))
    where
      s1 : State
      s1 = worked b input (By BIT (Short 1) 14 ∷ []) s

      need2 : ℕ
      need2 = spent b (codes tail) (instruction_cost b last + need)

      need1 : ℕ
      need1 = instruction_cost b (by ADD (FromReg 15) 13) + need2

      bit : bit_and (s.reg 14) 1 ≡ y % 2
      bit = ap (λ v. bit_and v 1) h.r14 ∙ low_bit y

      even : (bit_and (s.reg 14) 1 == 0) ≡ true → y % 2 ≡ 0
      even e = grind (arith, nat_tests, bit)

      odd : (bit_and (s.reg 14) 1 == 0) ≡ false → y % 2 ≡ 1
      odd e = grind (arith, nat_tests, bit)

      sums : (s.reg 13 + s.reg 15 + 0) % 65536 ≡ (a + x) % 65536
      sums = let e : s.reg 13 + s.reg 15 + 0 ≡ a + x = omega (arith, h.r13, h.r15) in ap (λ v. v % 65536) e

  -- all turns that are left
  loop_goes : (n whole a x y need taken k : ℕ) (rest : List Instr) (s : State) → n < 16 → Stand s0.code k (mul_turn ++ rest) → Now s0 taken k s → Factors whole (suc n) a x y s
      → ((s' : State) → s'.reg 13 ≡ whole → Now s0 taken (k + 7) s' → W true need s' p0)
      → W true (suc n * turn_cost + need) s p0
  loop_goes zero whole a x y need taken k rest s few stands now h on =
      steps.less true (turn_cost + need) (1 * turn_cost + need) s p0 (omega arith)
      (turn_goes whole 0 a x y need taken k rest s few stands now h
      (λ k' a' x' y' s' h' going now'. elim going [
        | inl done ↦ on s' (whole_is a' x' y' s' h') (subst (λ m. Now s0 taken m s') done.1 now')
        | inr more ↦ absurd (omega (arith, more.0))
      ]))
    where
      whole_is : (a' x' y' : ℕ) (s' : State) → Factors whole 0 a' x' y' s' → s'.reg 13 ≡ whole
      whole_is a' x' y' s' h' =
          let nothing : x' ≡ 0 = omega (arith, h'.away, h'.low_x) in
          let sum : (a' + 0 * y') % 65536 ≡ whole = subst (λ v. (a' + v * y') % 65536 ≡ whole) nothing h'.same in
          h'.r13 ∙ omega (arith, sum, h'.low)
  loop_goes (suc n) whole a x y need taken k rest s few stands now h on =
      subst (λ v. W true v s p0) (one_more (suc n) turn_cost need)
      (turn_goes whole (suc n) a x y (suc n * turn_cost + need) taken k rest s few stands now h
      (λ k' a' x' y' s' h' going now'. elim going [
        | inl done ↦ absurd (omega (arith, done.0))
        | inr more ↦ loop_goes n whole a' x' y' need taken k rest s' (omega (arith, few)) stands (subst (λ m. Now s0 taken m s') more.1 now') h' on
      ]))

  -- R13 is the product of R15 and R14
  pub mul_goes : (x y need taken k : ℕ) (rest : List Instr) (s : State) → Stand s0.code k (code_of mul_core ++ rest) → Now s0 taken k s → s.reg 15 ≡ x → s.reg 14 ≡ y → x < 65536 → y < 65536
      → ((s' : State) → s'.reg 13 ≡ (x * y) % 65536 → Now s0 taken (k + 10) s' → W true need s' p0)
      → W true (weight_of b mul_core + need) s p0
  mul_goes x y need taken k rest s stands now r15 r14 low low' on =
      steps.less true (spent b sixteen (16 * turn_cost + need)) (weight_of b mul_core + need) s p0 (omega arith)
      (works b input s0 p0 W steps (By MOV (Short 0) 13 ∷ By MOV (Imm 16) 12 ∷ []) (16 * turn_cost + need) taken k (k + 3) (mul_turn ++ rest) s (refl, (refl, tt)) (omega arith) now stands
      (λ now1 stands1. loop_goes 15 ((x * y) % 65536) 0 x y need taken (k + 3) rest _ (omega arith) stands1 now1
      (record { r13 = refl; r15 = r15; r14 = r14; r12 = refl; low = omega arith; low_x = low; low_y = low'; same = (let e : 0 + x * y ≡ x * y = omega arith in ap (λ v. v % 65536) e); away = omega arith })
      (λ s' r13 now2. on s' r13 (subst (λ m. Now s0 taken m s') (omega arith) now2))))
