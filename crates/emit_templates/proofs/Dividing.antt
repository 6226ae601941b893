-- Division: what its loop of 16 turns leaves.
use Rattle.std.proofs.Common.{◌≡◌, ℕ, zero, suc, ◌+◌, ◌-◌, ◌*◌, ◌/◌, ◌%◌, ◌^◌, ◌<◌, ◌≤◌, Bool, true, false, List, [], ◌∷◌, ◌++◌, refl, ap, ◌∙◌, subst, arith, inl, inr, pos, negsuc}
use Rattle.std.specs.Prelude.{◌==◌, not, nat_le}
use Rattle.std.proofs.lemmas.Bool.Decides.{nat_tests}
use Rattle.std.proofs.Math.Nat.{pow-suc}
use Rattle.board_table.specs.declared.board.Board.{Board}
use Rattle.msp430_isa.specs.declared.instr.Src.TheVariants.{Reg as FromReg, Imm, Short}
use Rattle.msp430_isa.specs.declared.instr.TwoOp.TheVariants.{Mov as MOV, Add as ADD, Addc as ADDC, Sub as SUB, Cmp as CMP}
use Rattle.msp430_isa.specs.declared.instr.Cond.TheVariants.{Jne as JNE, Jc as JC, Jnc as JNC}
use Rattle.msp430_isa.specs.declared.instr.Instr.{Instr}
use Rattle.msp430_isa.specs.declared.instr.Instr.TheVariants.{Jump}
use Rattle.msp430_isa.specs.Results.{one_if}
use Rattle.msp430_machine.specs.State.{State}
use Rattle.msp430_machine.specs.Cost.{instruction_cost}
use Rattle.op_cost.specs.Templates.{weight_of, code_of, div_turn, sixteen, div_core}
use Rattle.emit_templates.proofs.Turns.{Divides, divides_first, divides_kept, divides_taken, quotient_is, carried, doubled_pair, taken_pair}
use Rattle.emit_templates.proofs.Work.{Work, By}
use Rattle.emit_templates.proofs.Steps.{Steps, Now, Stand, stand_at, spent, worked, codes, works, jumps}
use Rattle.emit_templates.proofs.Multiplying.{Going, one_more}

-- the remainder, the quotient, the divisor, the turns that are left, and the sign, which stays
pub record Parts (d x g n r q b p : ℕ) (s : State) : Type 0 where
  pub r13 : s.reg 13 ≡ r
  pub r15 : s.reg 15 ≡ q
  pub r14 : s.reg 14 ≡ d
  pub r12 : s.reg 12 ≡ n
  pub r11 : s.reg 11 ≡ g
  pub divides : Divides d x r q b p
  pub powers : p * 2 ^ n ≡ 65536

reached : (v : ℕ) → nat_le 65536 v ≡ true → 65536 ≤ v
reached v e = grind (arith, nat_tests)

short : (v : ℕ) → nat_le 65536 v ≡ false → v < 65536
short v e = grind (arith, nat_tests)

not_reached : (v : ℕ) → not (nat_le 65536 v) ≡ true → v < 65536
not_reached v e = grind (arith, nat_tests)

not_short : (v : ℕ) → not (nat_le 65536 v) ≡ false → 65536 ≤ v
not_short v e = grind (arith, nat_tests)

-- p is doubled in each turn
twice : (p n : ℕ) → p * 2 ^ suc n ≡ 65536 → 2 * p * 2 ^ n ≡ 65536
twice p n h = omega (arith, h, ap (λ v. p * v) (pow-suc 2 n))

module _ (b : Board) (input : List ℕ) (s0 : State) (p0 : List ℕ) (W : Bool → ℕ → State → List ℕ → Type 0) (steps : Steps b input s0 p0 W) where
  abbrev takes : List Work
  takes = By SUB (FromReg 14) 13 ∷ By ADD (Short 1) 15 ∷ []

  abbrev counts : List Work
  counts = By SUB (Short 1) 12 ∷ []

  abbrev last : Instr
  last = Jump JNE (negsuc 8)

  abbrev ends : List Instr → List Instr
  ends rest = codes counts ++ last ∷ rest

  abbrev compares : List Work
  compares = By CMP (FromReg 14) 13 ∷ []

  abbrev doubles : List Work
  doubles = By ADD (FromReg 15) 15 ∷ By ADDC (FromReg 13) 13 ∷ []

  -- the end of a turn
  end_goes : (d x g n r q c p need taken k : ℕ) (rest : List Instr) (s : State) → n < 16 → Stand s0.code (k + 7) (ends rest) → Now s0 taken (k + 7) s
      → s.reg 13 ≡ r → s.reg 15 ≡ q → s.reg 14 ≡ d → s.reg 12 ≡ suc n → s.reg 11 ≡ g → Divides d x r q c p → p * 2 ^ n ≡ 65536
      → ((k' r' q' c' p' : ℕ) (s' : State) → Parts d x g n r' q' c' p' s' → Going n k (k + 9) k' → Now s0 taken k' s' → W true need s' p0)
      → W true (spent b (codes counts) (instruction_cost b last + need)) s p0
  end_goes d x g n r q c p need taken k rest s few stands now r13 r15 r14 r12 r11 divides powers on =
      works b input s0 p0 W steps counts (instruction_cost b last + need) taken (k + 7) (k + 8) (last ∷ rest) s (refl, tt) (omega arith) now stands
      (λ now1 stands1. jumps b input s0 p0 W steps JNE (negsuc 8) true need taken (k + 8) (k + 9) k rest s1 (omega arith) now1 stands1 refl (omega (arith, stands1.1))
      (λ took now2. on k r q c p _ (facts _ refl refl refl refl refl) (inr (more took, refl)) now2)
      (λ fell now2 stands2. on (k + 9) r q c p _ (facts _ refl refl refl refl refl) (inl (done_with fell, refl)) now2))
    where
      s1 : State
      s1 = worked b input counts s

      left : s1.reg 12 ≡ n
      left = let e : (s.reg 12 + 65534 + 1) % 65536 ≡ n = omega (arith, r12, few) in e

      facts : (s' : State) → s'.reg 13 ≡ s.reg 13 → s'.reg 15 ≡ s.reg 15 → s'.reg 14 ≡ s.reg 14 → s'.reg 12 ≡ s1.reg 12 → s'.reg 11 ≡ s.reg 11 → Parts d x g n r q c p s'
      facts s' e13 e15 e14 e12 e11 = record {
        r13 = e13 ∙ r13;
        r15 = e15 ∙ r15;
        r14 = e14 ∙ r14;
        r12 = e12 ∙ left;
        r11 = e11 ∙ r11;
        divides = divides;
        powers = powers;
      }

      more : not (s1.reg 12 == 0) ≡ true → 0 < n
      more h = grind (arith, nat_tests, left)

      done_with : not (s1.reg 12 == 0) ≡ false → n ≡ 0
      done_with h = grind (arith, nat_tests, left)

  -- the divisor is taken out, and counted
  take_goes : (d x g n r q c p r1 q1 need taken k : ℕ) (rest : List Instr) (s : State) → n < 16 → Stand s0.code (k + 5) (codes takes ++ ends rest) → Now s0 taken (k + 5) s
      → s.reg 13 ≡ r1 → s.reg 15 ≡ q1 → s.reg 14 ≡ d → s.reg 12 ≡ suc n → s.reg 11 ≡ g → d < 65536
      → Divides d x r q c p → p * 2 ^ suc n ≡ 65536 → r1 ≡ (r + r + (q + q + 0) / 65536) % 65536 → q1 ≡ (q + q + 0) % 65536 → d ≤ r + r + (q + q + 0) / 65536
      → ((k' r' q' c' p' : ℕ) (s' : State) → Parts d x g n r' q' c' p' s' → Going n k (k + 9) k' → Now s0 taken k' s' → W true need s' p0)
      → W true (spent b (codes takes) (spent b (codes counts) (instruction_cost b last + need))) s p0
  take_goes d x g n r q c p r1 q1 need taken k rest s few stands now r13 r15 r14 r12 r11 high divides powers first second big on =
      let r' : ℕ = (r1 + (65535 - d) + 1) % 65536 in
      let q' : ℕ = (q1 + 1 + 0) % 65536 in
      let e = taken_pair d r q ((q + q + 0) / 65536) r1 q1 r' q' divides.below high divides.word refl first second big refl refl in
      works b input s0 p0 W steps takes (spent b (codes counts) (instruction_cost b last + need)) taken (k + 5) (k + 7) (ends rest) s (refl, (refl, tt)) (omega arith) now stands
      (λ now1 stands1. end_goes d x g n r' q' (2 * c + 1) (2 * p) need taken k rest _ few stands1 now1
      (ap (λ v. (v + (65535 - s.reg 14) + 1) % 65536) r13 ∙ ap (λ v. (r1 + (65535 - v) + 1) % 65536) r14) (ap (λ v. (v + 1 + 0) % 65536) r15) r14 r12 r11
      (divides_taken d x r q c p r' q' divides e.0 e.1 (omega arith)) (twice p n powers) on)

  abbrev turn_cost : ℕ
  turn_cost = spent b div_turn 0

  turn_goes : (d x g n r q c p need taken k : ℕ) (rest : List Instr) (s : State) → n < 16 → d < 65536 → Stand s0.code k (div_turn ++ rest) → Now s0 taken k s → Parts d x g (suc n) r q c p s
      → ((k' r' q' c' p' : ℕ) (s' : State) → Parts d x g n r' q' c' p' s' → Going n k (k + 9) k' → Now s0 taken k' s' → W true need s' p0)
      → W true (turn_cost + need) s p0
  turn_goes d x g n r q c p need taken k rest s few high stands now h on =
      steps.less true (spent b (codes doubles) (instruction_cost b (Jump JC (pos 2)) + need1)) (turn_cost + need) s p0 (omega arith)
      (works b input s0 p0 W steps doubles (instruction_cost b (Jump JC (pos 2)) + need1) taken k (k + 2) (Jump JC (pos 2) ∷ (codes compares ++ Jump JNC (pos 2) ∷ (codes takes ++ ends rest))) s (refl, (refl, tt)) (omega arith) now stands
      (λ now1 stands1. jumps b input s0 p0 W steps JC (pos 2) true need1 taken (k + 2) (k + 3) (k + 5) (codes compares ++ Jump JNC (pos 2) ∷ (codes takes ++ ends rest)) s1 (omega arith) now1 stands1 refl (omega (arith, stands1.1))
      (λ took now2. steps.less true need2 need1 _ p0 (omega arith)
      (take_goes d x g n r q c p r1 q1 need taken k rest _ few (stand_at s0.code (k + 2 + 1 + 1 + 1) (k + 5) (codes takes ++ ends rest) (omega arith) stands1.2.2.2) now2 first second h.r14 h.r12 h.r11 high h.divides h.powers refl refl (over took) on))
      (λ fell now2 stands2. works b input s0 p0 W steps compares (instruction_cost b (Jump JNC (pos 2)) + need2) taken (k + 3) (k + 4) (Jump JNC (pos 2) ∷ (codes takes ++ ends rest)) _ (refl, tt) (omega arith) now2 stands2
      (λ now3 stands3. jumps b input s0 p0 W steps JNC (pos 2) true need2 taken (k + 4) (k + 5) (k + 7) (codes takes ++ ends rest) _ (omega arith) now3 stands3 refl (omega (arith, stands3.1))
      (λ took now4. steps.less true (spent b (codes counts) (instruction_cost b last + need)) need2 _ p0 (omega arith)
      (end_goes d x g n r1 q1 (2 * c) (2 * p) need taken k rest _ few (stand_at s0.code (k + 4 + 1 + 1 + 1) (k + 7) (ends rest) (omega arith) stands3.2.2.2) now4 first second h.r14 h.r12 h.r11
      (divides_kept d x r q c p r1 q1 h.divides (doubled_pair r q ((q + q + 0) / 65536) r1 q1 h.divides.word refl refl refl (small fell)) (fits took) (omega arith)) (twice p n h.powers) on))
      (λ fell2 now4 stands4. take_goes d x g n r q c p r1 q1 need taken k rest _ few stands4 now4 first second h.r14 h.r12 h.r11 high h.divides h.powers refl refl (reaches fell fell2) on)))))
    where
      s1 : State
      s1 = worked b input doubles s

      need2 : ℕ
      need2 = spent b (codes takes) (spent b (codes counts) (instruction_cost b last + need))

      need1 : ℕ
      need1 = spent b (codes compares) (instruction_cost b (Jump JNC (pos 2)) + need2)

      r1 : ℕ
      r1 = (r + r + (q + q + 0) / 65536) % 65536

      q1 : ℕ
      q1 = (q + q + 0) % 65536

      carry : one_if (nat_le 65536 (s.reg 15 + s.reg 15 + 0)) ≡ (q + q + 0) / 65536
      carry = ap (λ v. one_if (nat_le 65536 (v + v + 0))) h.r15 ∙ carried (q + q + 0) (omega (arith, h.divides.word))

      sum : s.reg 13 + s.reg 13 + one_if (nat_le 65536 (s.reg 15 + s.reg 15 + 0)) ≡ r + r + (q + q + 0) / 65536
      sum = omega (arith, h.r13, carry)

      first : s1.reg 13 ≡ r1
      first = ap (λ v. v % 65536) sum

      second : s1.reg 15 ≡ q1
      second = ap (λ v. (v + v + 0) % 65536) h.r15

      over : nat_le 65536 (s.reg 13 + s.reg 13 + one_if (nat_le 65536 (s.reg 15 + s.reg 15 + 0))) ≡ true → d ≤ r + r + (q + q + 0) / 65536
      over e = omega (arith, reached _ e, sum, high)

      small : nat_le 65536 (s.reg 13 + s.reg 13 + one_if (nat_le 65536 (s.reg 15 + s.reg 15 + 0))) ≡ false → r + r + (q + q + 0) / 65536 < 65536
      small e = omega (arith, short _ e, sum)

      fits : not (nat_le 65536 (s1.reg 13 + (65535 - s.reg 14) + 1)) ≡ true → r1 < d
      fits e = omega (arith, not_reached _ e, first, h.r14, high)

      reaches : nat_le 65536 (s.reg 13 + s.reg 13 + one_if (nat_le 65536 (s.reg 15 + s.reg 15 + 0))) ≡ false → not (nat_le 65536 (s1.reg 13 + (65535 - s.reg 14) + 1)) ≡ false → d ≤ r + r + (q + q + 0) / 65536
      reaches e e' = omega (arith, small e, not_short _ e', first, h.r14, high)

  -- all turns that are left
  loop_goes : (n d x g r q c p need taken k : ℕ) (rest : List Instr) (s : State) → n < 16 → d < 65536 → Stand s0.code k (div_turn ++ rest) → Now s0 taken k s → Parts d x g (suc n) r q c p s
      → ((s' : State) → s'.reg 15 ≡ x / d → s'.reg 13 ≡ x % d → s'.reg 11 ≡ g → Now s0 taken (k + 9) s' → W true need s' p0)
      → W true (suc n * turn_cost + need) s p0
  loop_goes zero d x g r q c p need taken k rest s few high stands now h on =
      subst (λ v. W true v s p0) (one_more 0 turn_cost need)
      (turn_goes d x g 0 r q c p (0 * turn_cost + need) taken k rest s few high stands now h
      (λ k' r' q' c' p' s' h' going now'. elim going [
        | inl done ↦ subst (λ v. W true v s' p0) (let e : need ≡ 0 * turn_cost + need = omega arith in e) (finished r' q' c' p' s' h' (subst (λ m. Now s0 taken m s') done.1 now'))
        | inr more ↦ absurd (omega (arith, more.0))
      ]))
    where
      finished : (r' q' c' p' : ℕ) (s' : State) → Parts d x g 0 r' q' c' p' s' → Now s0 taken (k + 9) s' → W true need s' p0
      finished r' q' c' p' s' h' now' =
          let whole : p' ≡ 65536 = omega (arith, h'.powers) in
          let e = quotient_is d x r' q' c' (subst (λ v. Divides d x r' q' c' v) whole h'.divides) in
          on s' (h'.r15 ∙ e.0) (h'.r13 ∙ e.1) h'.r11 now'
  loop_goes (suc n) d x g r q c p need taken k rest s few high stands now h on =
      subst (λ v. W true v s p0) (one_more (suc n) turn_cost need)
      (turn_goes d x g (suc n) r q c p (suc n * turn_cost + need) taken k rest s few high stands now h
      (λ k' r' q' c' p' s' h' going now'. elim going [
        | inl done ↦ absurd (omega (arith, done.0))
        | inr more ↦ loop_goes n d x g r' q' c' p' need taken k rest s' (omega (arith, few)) high stands (subst (λ m. Now s0 taken m s') more.1 now') h' on
      ]))

  -- R15 is divided by R14, and R13 is the remainder; R11 stays
  pub div_goes : (d x g need taken k : ℕ) (rest : List Instr) (s : State) → Stand s0.code k (code_of div_core ++ rest) → Now s0 taken k s
      → s.reg 15 ≡ x → s.reg 14 ≡ d → s.reg 11 ≡ g → x < 65536 → 0 < d → d < 65536
      → ((s' : State) → s'.reg 15 ≡ x / d → s'.reg 13 ≡ x % d → s'.reg 11 ≡ g → Now s0 taken (k + 12) s' → W true need s' p0)
      → W true (weight_of b div_core + need) s p0
  div_goes d x g need taken k rest s stands now r15 r14 r11 low some high on =
      steps.less true (spent b sixteen (16 * turn_cost + need)) (weight_of b div_core + need) s p0 (omega arith)
      (works b input s0 p0 W steps (By MOV (Short 0) 13 ∷ By MOV (Imm 16) 12 ∷ []) (16 * turn_cost + need) taken k (k + 3) (div_turn ++ rest) s (refl, (refl, tt)) (omega arith) now stands
      (λ now1 stands1. loop_goes 15 d x g 0 x 0 1 need taken (k + 3) rest _ (omega arith) high stands1 now1
      (record { r13 = refl; r15 = r15; r14 = r14; r12 = refl; r11 = r11; divides = divides_first d x some low; powers = refl })
      (λ s' r15' r13' r11' now2. on s' r15' r13' r11' (subst (λ m. Now s0 taken m s') (omega arith) now2))))
