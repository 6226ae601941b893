-- The cores of division with their traps and signs, of shifts and of tests: from operands in R15 and R14 to the result in a register, or a trap.
use Rattle.std.proofs.Common.{◌≡◌, ℕ, ◌+◌, ◌-◌, ◌/◌, ◌%◌, ◌<◌, Bool, true, false, List, [], ◌∷◌, ◌++◌, refl, sym, ap, ◌∙◌, subst, arith, pos}
use Rattle.std.specs.Prelude.{◌==◌, if◌then◌else◌, not, bit_xor, ◌&&◌, ◌||◌}
use Rattle.std.proofs.lemmas.Bool.Decides.{nat_tests}
use Rattle.std.proofs.lemmas.Nat.{xor_of_16}
use Rattle.std.proofs.Math.Nat.{div-le_self}
use Rattle.board_table.specs.declared.board.Board.{Board}
use Rattle.msp430_isa.specs.declared.instr.Src.TheVariants.{Reg as FromReg, Short}
use Rattle.msp430_isa.specs.declared.instr.TwoOp.TheVariants.{Mov as MOV, Add as ADD, Xor as XOR, Cmp as CMP}
use Rattle.msp430_isa.specs.declared.instr.Cond.TheVariants.{Jne as JNE, Jge as JGE}
use Rattle.msp430_isa.specs.declared.instr.Instr.{Instr}
use Rattle.msp430_isa.specs.declared.instr.Instr.TheVariants.{Jump}
use Rattle.msp430_isa.specs.Results.{is_negative, overflows, is_taken}
use Rattle.msp430_machine.specs.State.{Trapped, State, set_at}
use Rattle.msp430_machine.specs.Cost.{instruction_cost}
use Rattle.op_cost.specs.Templates.{weight_of, code_of, trap, unless_zero_core, unless_negative, div_core, unsigned_core, signed_core, sign_of_quotient, sign_of_remainder}
use Rattle.emit_templates.proofs.WordValues.{flipped, size, signed_by, is_high}
use Rattle.emit_templates.proofs.Work.{Work, By}
use Rattle.emit_templates.proofs.Steps.{Steps, Now, Stand, stand_at, spent, worked, codes, AllFit, works, jumps, gone, passed}
use Rattle.emit_templates.proofs.Moves.{Stops, trap_goes}
use Rattle.emit_templates.proofs.Dividing.{div_goes}

-- what a comparison with 0 tells of the sign
sign_flag : (v : ℕ) → v < 65536 → (v + 65535 + 1) % 65536 ≡ v
sign_flag v low = omega (arith, low)

-- ---- A register takes its negative where another one is negative

pub data Flip : Type 0 where
  Dividend : Flip
  Divisor : Flip
  Quotient : Flip
  Remainder : Flip

abbrev pub sign_register : Flip → ℕ
sign_register Dividend = 15
sign_register Divisor = 14
sign_register Quotient = 11
sign_register Remainder = 11

abbrev pub flip_register : Flip → ℕ
flip_register Dividend = 15
flip_register Divisor = 14
flip_register Quotient = 15
flip_register Remainder = 13

abbrev tests : Flip → List Work
tests t = By CMP (Short 0) (sign_register t) ∷ []

abbrev flips : Flip → List Work
flips t = By XOR (Short 65535) (flip_register t) ∷ By ADD (Short 1) (flip_register t) ∷ []

tests_fit : (t : Flip) → AllFit (tests t)
tests_fit Dividend = (refl, tt)
tests_fit Divisor = (refl, tt)
tests_fit Quotient = (refl, tt)
tests_fit Remainder = (refl, tt)

flips_fit : (t : Flip) → AllFit (flips t)
flips_fit Dividend = (refl, (refl, tt))
flips_fit Divisor = (refl, (refl, tt))
flips_fit Quotient = (refl, (refl, tt))
flips_fit Remainder = (refl, (refl, tt))

-- of the registers that templates work with all but one are as before
pub record Flipped (t : Flip) (u : ℕ) (s s' : State) : Type 0 where
  pub r11 : s'.reg 11 ≡ set_at s.reg (flip_register t) u 11
  pub r13 : s'.reg 13 ≡ set_at s.reg (flip_register t) u 13
  pub r14 : s'.reg 14 ≡ set_at s.reg (flip_register t) u 14
  pub r15 : s'.reg 15 ≡ set_at s.reg (flip_register t) u 15

abbrev negative_of : ℕ → ℕ
negative_of w = (bit_xor w 65535 + 1 + 0) % 65536

unflipped : (b : Board) (input : List ℕ) (t : Flip) (s s' : State) (w : ℕ) → s.reg (flip_register t) ≡ w → s'.reg 11 ≡ s.reg 11 → s'.reg 13 ≡ s.reg 13 → s'.reg 14 ≡ s.reg 14 → s'.reg 15 ≡ s.reg 15 → Flipped t w s s'
unflipped b input Dividend s s' w e e11 e13 e14 e15 = record { r11 = e11; r13 = e13; r14 = e14; r15 = e15 ∙ e }
unflipped b input Divisor s s' w e e11 e13 e14 e15 = record { r11 = e11; r13 = e13; r14 = e14 ∙ e; r15 = e15 }
unflipped b input Quotient s s' w e e11 e13 e14 e15 = record { r11 = e11; r13 = e13; r14 = e14; r15 = e15 ∙ e }
unflipped b input Remainder s s' w e e11 e13 e14 e15 = record { r11 = e11; r13 = e13 ∙ e; r14 = e14; r15 = e15 }

flipped_in : (b : Board) (input : List ℕ) (t : Flip) (s x : State) → x.reg 11 ≡ s.reg 11 → x.reg 13 ≡ s.reg 13 → x.reg 14 ≡ s.reg 14 → x.reg 15 ≡ s.reg 15 → Flipped t (negative_of (s.reg (flip_register t))) s (worked b input (flips t) x)
flipped_in b input Dividend s x e11 e13 e14 e15 = record { r11 = e11; r13 = e13; r14 = e14; r15 = ap negative_of e15 }
flipped_in b input Divisor s x e11 e13 e14 e15 = record { r11 = e11; r13 = e13; r14 = ap negative_of e14; r15 = e15 }
flipped_in b input Quotient s x e11 e13 e14 e15 = record { r11 = e11; r13 = e13; r14 = e14; r15 = ap negative_of e15 }
flipped_in b input Remainder s x e11 e13 e14 e15 = record { r11 = e11; r13 = ap negative_of e13; r14 = e14; r15 = e15 }

-- JGE behind a comparison with 0
abbrev not_less : ℕ → ℕ → Bool
not_less v r = if is_negative false r then overflows false v 65535 r else not (overflows false v 65535 r)

flag_is : (b : Board) (input : List ℕ) (t : Flip) (s : State) → is_taken JGE (worked b input (tests t) s).flags ≡ not_less (s.reg (sign_register t)) ((s.reg (sign_register t) + 65535 + 1) % 65536)
flag_is b input Dividend s = refl
flag_is b input Divisor s = refl
flag_is b input Quotient s = refl
flag_is b input Remainder s = refl

-- whether a number is high decides
abbrev by_height : Bool → Bool
by_height h = if h then ((h && true) && not h) || ((not h && false) && h) else not (((h && true) && not h) || ((not h && false) && h))

decided : (h : Bool) → by_height h ≡ not h
decided true = refl
decided false = refl

not_less_is : (v : ℕ) → v < 65536 → not_less v ((v + 65535 + 1) % 65536) ≡ not (is_high v)
not_less_is v low = ap (not_less v) (sign_flag v low) ∙ decided (is_high v)

size_word : (x : ℕ) → x < 65536 → size x < 65536
size_word x low = elim (is_high x) as (λ c. (if c then (65535 - x + 1) % 65536 else x) < 65536) [ true ↦ omega arith | false ↦ low ]

size_some : (y : ℕ) → 0 < y → y < 65536 → 0 < size y
size_some y some low = elim (is_high y) as (λ c. 0 < (if c then (65535 - y + 1) % 65536 else y)) [ true ↦ omega (arith, some, low) | false ↦ some ]

flipped_as : (t : Flip) (u u' : ℕ) (s s' : State) → u ≡ u' → Flipped t u s s' → Flipped t u' s s'
flipped_as t u u' s s' e h = subst (λ v. Flipped t v s s') e h

not_true : (c : Bool) → not c ≡ true → c ≡ false
not_true true e = sym e
not_true false e = refl

not_false : (c : Bool) → not c ≡ false → c ≡ true
not_false true e = refl
not_false false e = sym e

module _ (b : Board) (input : List ℕ) (s0 : State) (p0 : List ℕ) (W : Bool → ℕ → State → List ℕ → Type 0) (steps : Steps b input s0 p0 W) where
  -- a divisor of 0 traps
  pub unless_zero_goes : (y need taken k : ℕ) (rest : List Instr) (s : State) → Stand s0.code k (code_of unless_zero_core ++ rest) → Now s0 taken k s → s.reg 14 ≡ y → y < 65536
      → (y ≡ 0 → (s' : State) → Stops s0 taken (Trapped 1) s' → W true 0 s' p0)
      → (0 < y → (s' : State) → s'.reg 15 ≡ s.reg 15 → s'.reg 14 ≡ s.reg 14 → s'.reg 11 ≡ s.reg 11 → Now s0 taken (k + 4) s' → Stand s0.code (k + 4) rest → W true need s' p0)
      → W true (weight_of b unless_zero_core + need) s p0
  unless_zero_goes y need taken k rest s stands now r14 low traps on =
      steps.less true (spent b (codes compares) (instruction_cost b (Jump JNE (pos 2)) + need1)) (weight_of b unless_zero_core + need) s p0 (omega arith)
      (works b input s0 p0 W steps compares (instruction_cost b (Jump JNE (pos 2)) + need1) taken k (k + 1) (Jump JNE (pos 2) ∷ trap 1 ∷ rest) s (refl, tt) (omega arith) now stands
      (λ now1 stands1. jumps b input s0 p0 W steps JNE (pos 2) true need1 taken (k + 1) (k + 2) (k + 4) (trap 1 ∷ rest) (worked b input compares s) (omega arith) now1 stands1 refl (omega (arith, stands1.1))
      (λ took now2. steps.less true need need1 _ p0 (omega arith) (on (some took) _ refl refl refl now2 (stand_at s0.code (k + 1 + 1 + 2) (k + 4) rest (omega arith) stands1.2.2)))
      (λ fell now2 stands2. trap_goes b input s0 p0 W steps 1 need taken (k + 2) rest _ (omega arith) now2 stands2 (traps (none fell)))))
    where
      compares : List Work
      compares = By CMP (Short 0) 14 ∷ []

      need1 : ℕ
      need1 = instruction_cost b (trap 1) + need

      same : (s.reg 14 + 65535 + 1) % 65536 ≡ y
      same = ap (λ v. (v + 65535 + 1) % 65536) r14 ∙ sign_flag y low

      some : not ((s.reg 14 + 65535 + 1) % 65536 == 0) ≡ true → 0 < y
      some h = grind (arith, nat_tests, same)

      none : not ((s.reg 14 + 65535 + 1) % 65536 == 0) ≡ false → y ≡ 0
      none h = grind (arith, nat_tests, same)

  -- R15 and R13 are the quotient and the remainder of unsigned words
  pub unsigned_goes : (x y need taken k : ℕ) (rest : List Instr) (s : State) → Stand s0.code k (code_of unsigned_core ++ rest) → Now s0 taken k s → s.reg 15 ≡ x → s.reg 14 ≡ y → x < 65536 → y < 65536
      → (y ≡ 0 → (s' : State) → Stops s0 taken (Trapped 1) s' → W true 0 s' p0)
      → (0 < y → (s' : State) → s'.reg 15 ≡ x / y → s'.reg 13 ≡ x % y → Now s0 taken (k + 16) s' → W true need s' p0)
      → W true (weight_of b unsigned_core + need) s p0
  unsigned_goes x y need taken k rest s stands now r15 r14 low low' traps on =
      steps.less true (weight_of b unless_zero_core + (weight_of b div_core + need)) (weight_of b unsigned_core + need) s p0 (omega arith)
      (unless_zero_goes y (weight_of b div_core + need) taken k (code_of div_core ++ rest) s stands now r14 low' traps
      (λ some s1 e15 e14 e11 now1 stands1. div_goes b input s0 p0 W steps y x (s1.reg 11) need taken (k + 4) rest s1 stands1 now1 (e15 ∙ r15) (e14 ∙ r14) refl low some low'
      (λ s' r15' r13' r11' now2. on some s' r15' r13' (subst (λ m. Now s0 taken m s') (let e : k + 4 + 12 ≡ k + 16 = omega arith in e) now2))))

  abbrev choice : ℕ → ℕ → ℕ
  choice v w = if is_high v then (65535 - w + 1) % 65536 else w

  -- the register takes its negative where the sign's register is negative
  pub sign_goes : (t : Flip) (v w need taken k k1 : ℕ) (rest : List Instr) (s : State) → k + 4 ≡ k1 → Stand s0.code k (unless_negative (sign_register t) (flip_register t) ++ rest) → Now s0 taken k s
      → s.reg (sign_register t) ≡ v → s.reg (flip_register t) ≡ w → v < 65536 → w < 65536
      → ((s' : State) → Flipped t (signed_by v w) s s' → Now s0 taken k1 s' → Stand s0.code k1 rest → W true need s' p0)
      → W true (spent b (unless_negative (sign_register t) (flip_register t)) need) s p0
  sign_goes t v w need taken k k1 rest s to stands now sign at low low' on =
      works b input s0 p0 W steps (tests t) (instruction_cost b (Jump JGE (pos 2)) + need1) taken k (k + 1) (Jump JGE (pos 2) ∷ (codes (flips t) ++ rest)) s (tests_fit t) (omega arith) now stands
      (λ now1 stands1. jumps b input s0 p0 W steps JGE (pos 2) true need1 taken (k + 1) (k + 2) (k + 4) (codes (flips t) ++ rest) (worked b input (tests t) s) (omega arith) now1 stands1 refl (omega (arith, stands1.1))
      (λ took now2. steps.less true need need1 _ p0 (omega arith)
      (on _ (flipped_as t w (signed_by v w) s _ (sym (kept took)) (unflipped b input t s _ w at refl refl refl refl)) (subst (λ m. Now s0 taken m (gone b input s0 p0 W steps JGE (pos 2) (worked b input (tests t) s))) to now2) (stand_at s0.code (k + 1 + 1 + 1 + 1) k1 rest (omega (arith, to)) stands1.2.2.2)))
      (λ fell now2 stands2. works b input s0 p0 W steps (flips t) need taken (k + 2) k1 rest _ (flips_fit t) (omega (arith, to)) now2 stands2
      (λ now3 stands3. on _ (flipped_as t (negative_of (s.reg (flip_register t))) (signed_by v w) s _ (turns fell) (flipped_in b input t s (passed b input s0 p0 W steps JGE (pos 2) (worked b input (tests t) s)) refl refl refl refl)) now3 stands3)))
    where
      need1 : ℕ
      need1 = spent b (codes (flips t)) need

      flag : is_taken JGE (worked b input (tests t) s).flags ≡ not (is_high v)
      flag = flag_is b input t s ∙ ap (λ x. not_less x ((x + 65535 + 1) % 65536)) sign ∙ not_less_is v low

      kept : is_taken JGE (worked b input (tests t) s).flags ≡ true → signed_by v w ≡ w
      kept e = ap (λ c. if c then (65535 - w + 1) % 65536 else w) (not_true (is_high v) (sym flag ∙ e))

      turns : is_taken JGE (worked b input (tests t) s).flags ≡ false → negative_of (s.reg (flip_register t)) ≡ signed_by v w
      turns e =
          ap negative_of at
          ∙ (let f : (bit_xor w 65535 + 1 + 0) % 65536 ≡ (65535 - w + 1) % 65536 = omega (arith, flipped w low') in f)
          ∙ sym (ap (λ c. if c then (65535 - w + 1) % 65536 else w) (not_false (is_high v) (sym flag ∙ e)))

  -- With the sign in R11: R15 and R13 are made the quotient and the remainder of the sizes, and then one of them gets the sign.
  sized_goes : (t : Flip) (x y g w need taken k : ℕ) (rest : List Instr) (s : State)
      → ((z : State) → z.reg 11 ≡ g → z.reg (sign_register t) ≡ g) → ((z : State) → z.reg 15 ≡ size x / size y → z.reg 13 ≡ size x % size y → z.reg (flip_register t) ≡ w)
      → Stand s0.code k (unless_negative 15 15 ++ (unless_negative 14 14 ++ (code_of div_core ++ (unless_negative (sign_register t) (flip_register t) ++ rest)))) → Now s0 taken k s
      → s.reg 15 ≡ x → s.reg 14 ≡ y → s.reg 11 ≡ g → x < 65536 → y < 65536 → g < 65536 → 0 < y → w < 65536
      → ((s1 s' : State) → Flipped t (signed_by g w) s1 s' → Now s0 taken (k + 24) s' → W true need s' p0)
      → W true (spent b (unless_negative 15 15) (spent b (unless_negative 14 14) (weight_of b div_core + spent b (unless_negative (sign_register t) (flip_register t)) need))) s p0
  sized_goes t x y g w need taken k rest s signs parts stands now r15 r14 r11 low low' low_g some low_w on =
      sign_goes Dividend x x need1 taken k (k + 4) (unless_negative 14 14 ++ (code_of div_core ++ last)) s (omega arith) stands now r15 r15 low low
      (λ s1 f1 now1 stands1. sign_goes Divisor y y need2 taken (k + 4) (k + 8) (code_of div_core ++ last) s1 (omega arith) stands1 now1 (f1.r14 ∙ r14) (f1.r14 ∙ r14) low' low'
      (λ s2 f2 now2 stands2. div_goes b input s0 p0 W steps (size y) (size x) g need3 taken (k + 8) last s2 stands2 now2 (f2.r15 ∙ f1.r15) f2.r14 (f2.r11 ∙ f1.r11 ∙ r11) (size_word x low) (size_some y some low') (size_word y low')
      (λ s3 q r e11 now3. sign_goes t g w need taken (k + 20) (k + 24) rest s3 (omega arith) (stand_at s0.code (k + 8 + 12) (k + 20) last (omega arith) (behind_division stands2)) (subst (λ m. Now s0 taken m s3) (let e : k + 8 + 12 ≡ k + 20 = omega arith in e) now3) (signs s3 e11) (parts s3 q r) low_g low_w
      (λ s4 f4 now4 stands4. on s3 s4 f4 now4))))
    where
      last : List Instr
      last = unless_negative (sign_register t) (flip_register t) ++ rest

      need3 : ℕ
      need3 = spent b (unless_negative (sign_register t) (flip_register t)) need

      need2 : ℕ
      need2 = weight_of b div_core + need3

      need1 : ℕ
      need1 = spent b (unless_negative 14 14) need2

      behind_division : Stand s0.code (k + 8) (code_of div_core ++ last) → Stand s0.code (k + 8 + 12) last
      behind_division h = stand_at s0.code _ (k + 8 + 12) last (omega arith) h.2.2.2.2.2.2.2.2.2.2.2

  pub divs_goes : (x y need taken k : ℕ) (rest : List Instr) (s : State) → Stand s0.code k (code_of (signed_core sign_of_quotient 15) ++ rest) → Now s0 taken k s → s.reg 15 ≡ x → s.reg 14 ≡ y → x < 65536 → y < 65536
      → (y ≡ 0 → (s' : State) → Stops s0 taken (Trapped 1) s' → W true 0 s' p0)
      → (0 < y → (s' : State) → s'.reg 15 ≡ signed_by (bit_xor x y) (size x / size y) → Now s0 taken (k + 30) s' → W true need s' p0)
      → W true (weight_of b (signed_core sign_of_quotient 15) + need) s p0
  divs_goes x y need taken k rest s stands now r15 r14 low low' traps on =
      steps.less true (weight_of b unless_zero_core + (spent b (codes sign) need1)) (weight_of b (signed_core sign_of_quotient 15) + need) s p0 (omega arith)
      (unless_zero_goes y (spent b (codes sign) need1) taken k (codes sign ++ more) s stands now r14 low' traps
      (λ some s1 e15 e14 e11 now1 stands1. works b input s0 p0 W steps sign need1 taken (k + 4) (k + 6) more s1 (refl, (refl, tt)) (omega arith) now1 stands1
      (λ now2 stands2. sized_goes Quotient x y (bit_xor x y) (size x / size y) need taken (k + 6) rest _ (λ z e. e) (λ z q r. q) stands2 now2 (e15 ∙ r15) (e14 ∙ r14) (ap (λ v. bit_xor v (s1.reg 14)) (e15 ∙ r15) ∙ ap (bit_xor x) (e14 ∙ r14)) low low' (xor_of_16 x y low low') some (omega (arith, div-le_self (size x) (size y), size_word x low))
      (λ s3 s' f now3. on some s' f.r15 (subst (λ m. Now s0 taken m s') (let e : k + 6 + 24 ≡ k + 30 = omega arith in e) now3)))))
    where
      sign : List Work
      sign = By MOV (FromReg 15) 11 ∷ By XOR (FromReg 14) 11 ∷ []

      more : List Instr
      more = unless_negative 15 15 ++ (unless_negative 14 14 ++ (code_of div_core ++ (unless_negative 11 15 ++ rest)))

      need1 : ℕ
      need1 = spent b (unless_negative 15 15) (spent b (unless_negative 14 14) (weight_of b div_core + spent b (unless_negative 11 15) need))

  pub rems_goes : (x y need taken k : ℕ) (rest : List Instr) (s : State) → Stand s0.code k (code_of (signed_core sign_of_remainder 13) ++ rest) → Now s0 taken k s → s.reg 15 ≡ x → s.reg 14 ≡ y → x < 65536 → y < 65536
      → (y ≡ 0 → (s' : State) → Stops s0 taken (Trapped 1) s' → W true 0 s' p0)
      → (0 < y → (s' : State) → s'.reg 13 ≡ signed_by x (size x % size y) → Now s0 taken (k + 29) s' → W true need s' p0)
      → W true (weight_of b (signed_core sign_of_remainder 13) + need) s p0
  rems_goes x y need taken k rest s stands now r15 r14 low low' traps on =
      steps.less true (weight_of b unless_zero_core + (spent b (codes sign) need1)) (weight_of b (signed_core sign_of_remainder 13) + need) s p0 (omega arith)
      (unless_zero_goes y (spent b (codes sign) need1) taken k (codes sign ++ more) s stands now r14 low' traps
      (λ some s1 e15 e14 e11 now1 stands1. works b input s0 p0 W steps sign need1 taken (k + 4) (k + 5) more s1 (refl, tt) (omega arith) now1 stands1
      (λ now2 stands2. sized_goes Remainder x y x (size x % size y) need taken (k + 5) rest _ (λ z e. e) (λ z q r. r) stands2 now2 (e15 ∙ r15) (e14 ∙ r14) (e15 ∙ r15) low low' low some (omega (arith, size_word x low))
      (λ s3 s' f now3. on some s' f.r13 (subst (λ m. Now s0 taken m s') (let e : k + 5 + 24 ≡ k + 29 = omega arith in e) now3)))))
    where
      sign : List Work
      sign = By MOV (FromReg 15) 11 ∷ []

      more : List Instr
      more = unless_negative 15 15 ++ (unless_negative 14 14 ++ (code_of div_core ++ (unless_negative 11 13 ++ rest)))

      need1 : ℕ
      need1 = spent b (unless_negative 15 15) (spent b (unless_negative 14 14) (weight_of b div_core + spent b (unless_negative 11 13) need))
