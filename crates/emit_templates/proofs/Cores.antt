-- What each kind of operation does between its operands in R15 and R14 and its result: what `gives` says, or its trap.
use Rattle.std.proofs.Common.{◌≡◌, ℕ, ◌+◌, ◌-◌, ◌*◌, ◌/◌, ◌%◌, ◌^◌, ◌<◌, Bool, true, List, [], ◌∷◌, ◌++◌, refl, sym, ap, ◌∙◌, subst, arith}
use Rattle.std.specs.Prelude.{bit_and, bit_or, bit_xor}
use Rattle.board_table.specs.declared.board.Board.{Board}
use Rattle.msp430_isa.specs.declared.instr.Src.TheVariants.{Reg as FromReg, Imm, Short}
use Rattle.msp430_isa.specs.declared.instr.TwoOp.TheVariants.{Add as ADD, Sub as SUB, Bis as BIS, Xor as XOR, And as AND}
use Rattle.msp430_isa.specs.declared.instr.Instr.{Instr}
use Rattle.msp430_isa.specs.Encoding.{length_of}
use Rattle.msp430_machine.specs.State.{Trapped, State}
use Rattle.c_values.specs.Values.{Worked, Gives, Traps, kept, value, halved}
use Rattle.c_values.specs.declared.ops.Ty.TheVariants.{I16}
use Rattle.flow_graph.specs.declared.graph.OpKind.{OpKind}
use Rattle.flow_graph.specs.declared.graph.OpKind.TheVariants as kind
use Rattle.flow_graph.specs.Operations.{gives}
use Rattle.op_cost.specs.Templates.{weight_of, code_of, core, result}
use Rattle.emit_templates.proofs.WordValues.{add_is, mul_is, sub_is, neg_is, inv_is, flipped, divu_is, remu_is, divs_is, rems_is}
use Rattle.emit_templates.proofs.WordTests.{tou8_is, tos8_is, shl_is, shru_is, shrs_is, shl_traps, shru_traps, shrs_traps, half, half_word, signed_half, unhalved, logical_half, more_halved}
pub use Rattle.emit_templates.specs.Layer.{words_of_code}
use Rattle.emit_templates.proofs.Turns.{doubled_away}
use Rattle.emit_templates.proofs.Work.{Work, By, Shift, Extend}
use Rattle.emit_templates.proofs.Steps.{Steps, Now, Stand, stand_at, spent, worked, codes, words_in, AllFit, works}
use Rattle.emit_templates.proofs.Moves.{Stops}
use Rattle.emit_templates.proofs.Multiplying.{mul_goes}
use Rattle.emit_templates.proofs.Signs.{unsigned_goes, divs_goes, rems_goes}
use Rattle.emit_templates.proofs.Shifting.{Shifts, shift_goes}
use Rattle.emit_templates.proofs.Comparing.{eq_goes, ne_goes, ltu_goes, lts_goes, les_goes, leu_goes}

-- how many words code has
pub stand_behind : (code : ℕ → ℕ) (is : List Instr) (k : ℕ) (rest : List Instr) → Stand code k (is ++ rest) → Stand code (k + words_of_code is) rest
stand_behind code [] k rest h = stand_at code k (k + 0) rest (omega arith) h
stand_behind code (i ∷ is) k rest h = stand_at code (k + length_of i + words_of_code is) (k + (length_of i + words_of_code is)) rest (omega arith) (stand_behind code is (k + length_of i) rest h.2)

-- operations of two operands and a result
abbrev pub IsBinary : OpKind → Type 0
IsBinary kind.Add = Unit {0}
IsBinary kind.Sub = Unit {0}
IsBinary kind.BitAnd = Unit {0}
IsBinary kind.BitOr = Unit {0}
IsBinary kind.BitXor = Unit {0}
IsBinary kind.Mul = Unit {0}
IsBinary kind.DivS = Unit {0}
IsBinary kind.DivU = Unit {0}
IsBinary kind.RemS = Unit {0}
IsBinary kind.RemU = Unit {0}
IsBinary kind.Shl = Unit {0}
IsBinary kind.ShrS = Unit {0}
IsBinary kind.ShrU = Unit {0}
IsBinary kind.Eq = Unit {0}
IsBinary kind.Ne = Unit {0}
IsBinary kind.LtS = Unit {0}
IsBinary kind.LtU = Unit {0}
IsBinary kind.LeS = Unit {0}
IsBinary kind.LeU = Unit {0}
IsBinary _ = ⊥

abbrev pub IsUnary : OpKind → Type 0
IsUnary kind.Copy = Unit {0}
IsUnary kind.Neg = Unit {0}
IsUnary kind.Inv = Unit {0}
IsUnary kind.ToU8 = Unit {0}
IsUnary kind.ToS8 = Unit {0}
IsUnary _ = ⊥

-- ---- Shifts

-- what is left to be shifted
abbrev left_whole : ℕ → ℕ → ℕ → Type 0
left_whole whole n v = (v * 2 ^ n) % 65536 ≡ whole

pub left_shifts : (b : Board) (input : List ℕ) (whole : ℕ) → Shifts b input (By ADD (FromReg 15) 15 ∷ []) (λ v. (v + v) % 65536) (left_whole whole)
left_shifts b input whole = record {
  fit = (refl, tt);
  counts = λ s. refl;
  moves = λ s low. (let e : s.reg 15 + s.reg 15 + 0 ≡ s.reg 15 + s.reg 15 = omega arith in ap (λ v. v % 65536) e);
  word = λ v low. omega arith;
  onward = λ n v low h. doubled_away v n ∙ h;
  back = refl;
  over = refl;
}

pub right_shifts : (b : Board) (input : List ℕ) (whole : ℕ) → Shifts b input (Shift 15 ∷ []) half (λ n v. kept I16 (halved (value I16 v) n) ≡ whole)
right_shifts b input whole = record {
  fit = (refl, tt);
  counts = λ s. refl;
  moves = λ s low. refl;
  word = half_word;
  onward = λ n v low h. ap (λ z. kept I16 z) (signed_half v n low) ∙ h;
  back = refl;
  over = refl;
}

pub logical_shifts : (b : Board) (input : List ℕ) (whole : ℕ) → Shifts b input (Shift 15 ∷ By AND (Imm 0x7FFF) 15 ∷ []) (λ v. v / 2) (λ n v. v / 2 ^ n ≡ whole)
logical_shifts b input whole = record {
  fit = (refl, (refl, tt));
  counts = λ s. refl;
  moves = λ s low. logical_half (s.reg 15) low;
  word = λ v low. omega (arith, low);
  onward = λ n v low h. more_halved v n ∙ h;
  back = refl;
  over = refl;
}

module _ (b : Board) (input : List ℕ) (s0 : State) (p0 : List ℕ) (W : Bool → ℕ → State → List ℕ → Type 0) (steps : Steps b input s0 p0 W) where
  -- what has to be shown of what a core leaves
  abbrev pub Result : ℕ → (need taken k : ℕ) → Worked → Type 0
  Result r need taken k (Gives w) = (s' : State) → s'.reg r ≡ w → Now s0 taken k s' → W true need s' p0
  Result r need taken k (Traps t) = (s' : State) → Stops s0 taken (Trapped t) s' → W true 0 s' p0

  result_as : (r need taken k : ℕ) (g g' : Worked) → g ≡ g' → Result r need taken k g → Result r need taken k g'
  result_as r need taken k g g' e h = subst (λ v. Result r need taken k v) e h

  -- what a core with this kind has to do, at a state with these operands
  abbrev pub CoreGoes : OpKind → (x y need taken k : ℕ) → List Instr → State → Type 0
  CoreGoes op x y need taken k rest s =
      Stand s0.code k (code_of (core op) ++ rest) → Now s0 taken k s → s.reg 15 ≡ x → x < 65536
      → Result (result op) need taken (k + words_of_code (code_of (core op))) (gives op x y) → W true (weight_of b (core op) + need) s p0

  -- instructions of registers give it
  by_works : (ws : List Work) (r w need taken k : ℕ) (rest : List Instr) (s : State) → AllFit ws → Stand s0.code k (codes ws ++ rest) → Now s0 taken k s → (worked b input ws s).reg r ≡ w
      → ((s' : State) → s'.reg r ≡ w → Now s0 taken (k + words_in ws) s' → W true need s' p0) → W true (spent b (codes ws) need) s p0
  by_works ws r w need taken k rest s fit stands now e on = works b input s0 p0 W steps ws need taken k (k + words_in ws) rest s fit refl now stands (λ now1 stands1. on (worked b input ws s) e now1)

  pub unary_core_goes : (op : OpKind) → IsUnary op → (x y need taken k : ℕ) (rest : List Instr) (s : State) → CoreGoes op x y need taken k rest s
  unary_core_goes kind.Copy is x y need taken k rest s stands now r15 low on = steps.less true need (0 + need) s p0 (omega arith) (on s r15 (subst (λ n. Now s0 taken n s) (let e : k ≡ k + 0 = omega arith in e) now))
  unary_core_goes kind.Neg is x y need taken k rest s stands now r15 low on =
      steps.less true (spent b (codes (By XOR (Short 65535) 15 ∷ By ADD (Short 1) 15 ∷ [])) need) (weight_of b (core kind.Neg) + need) s p0 (omega arith)
      (by_works (By XOR (Short 65535) 15 ∷ By ADD (Short 1) 15 ∷ []) 15 _ need taken k rest s (refl, (refl, tt)) stands now
      (ap (λ v. (bit_xor v 65535 + 1 + 0) % 65536) r15 ∙ (let e : (bit_xor x 65535 + 1 + 0) % 65536 ≡ (65535 - x + 1) % 65536 = omega (arith, flipped x low) in e) ∙ sym (neg_is x low)) on)
  unary_core_goes kind.Inv is x y need taken k rest s stands now r15 low on =
      steps.less true (spent b (codes (By XOR (Short 65535) 15 ∷ [])) need) (weight_of b (core kind.Inv) + need) s p0 (omega arith)
      (by_works (By XOR (Short 65535) 15 ∷ []) 15 _ need taken k rest s (refl, tt) stands now (ap (λ v. bit_xor v 65535) r15 ∙ flipped x low ∙ sym (inv_is x low)) on)
  unary_core_goes kind.ToU8 is x y need taken k rest s stands now r15 low on =
      steps.less true (spent b (codes (By AND (Imm 255) 15 ∷ [])) need) (weight_of b (core kind.ToU8) + need) s p0 (omega arith)
      (by_works (By AND (Imm 255) 15 ∷ []) 15 _ need taken k rest s (refl, tt) stands now (ap (λ v. bit_and v 255) r15 ∙ sym (tou8_is x low)) on)
  unary_core_goes kind.ToS8 is x y need taken k rest s stands now r15 low on =
      steps.less true (spent b (codes (Extend 15 ∷ [])) need) (weight_of b (core kind.ToS8) + need) s p0 (omega arith)
      (by_works (Extend 15 ∷ []) 15 _ need taken k rest s (refl, tt) stands now (tos8_is (s.reg 15) x r15) on)
  unary_core_goes _ is x y need taken k rest s stands now r15 low on = absurd is

  -- by a test of the divisor: both ways of going on
  by_divisor : (r w need taken k y : ℕ) (g : Worked) → Result r need taken k g → (0 < y → g ≡ Gives w) → 0 < y → (s' : State) → s'.reg r ≡ w → Now s0 taken k s' → W true need s' p0
  by_divisor r w need taken k y g on e some = result_as r need taken k g (Gives w) (e some) on

  by_zero : (r need taken k y t : ℕ) (g : ℕ → Worked) → g 0 ≡ Traps t → Result r need taken k (g y) → y ≡ 0 → (s' : State) → Stops s0 taken (Trapped t) s' → W true 0 s' p0
  by_zero r need taken k y t g e on none = result_as r need taken k (g y) (Traps t) (ap g none ∙ e) on

  pub binary_core_goes : (op : OpKind) → IsBinary op → (x y need taken k : ℕ) (rest : List Instr) (s : State) → s.reg 14 ≡ y → y < 65536 → CoreGoes op x y need taken k rest s
  binary_core_goes kind.Add is x y need taken k rest s r14 low' stands now r15 low on =
      steps.less true (spent b (codes (By ADD (FromReg 14) 15 ∷ [])) need) (weight_of b (core kind.Add) + need) s p0 (omega arith)
      (by_works (By ADD (FromReg 14) 15 ∷ []) 15 ((x + y) % 65536) need taken k rest s (refl, tt) stands now
      (let e : s.reg 15 + s.reg 14 + 0 ≡ x + y = omega (arith, r15, r14) in ap (λ v. v % 65536) e) (result_as 15 need taken (k + 1) _ _ (add_is x y) on))
  binary_core_goes kind.Sub is x y need taken k rest s r14 low' stands now r15 low on =
      steps.less true (spent b (codes (By SUB (FromReg 14) 15 ∷ [])) need) (weight_of b (core kind.Sub) + need) s p0 (omega arith)
      (by_works (By SUB (FromReg 14) 15 ∷ []) 15 ((x + (65535 - y) + 1) % 65536) need taken k rest s (refl, tt) stands now
      (ap (λ v. (v + (65535 - s.reg 14) + 1) % 65536) r15 ∙ ap (λ v. (x + (65535 - v) + 1) % 65536) r14) (result_as 15 need taken (k + 1) _ _ (sub_is x y low low') on))
  binary_core_goes kind.BitAnd is x y need taken k rest s r14 low' stands now r15 low on =
      steps.less true (spent b (codes (By AND (FromReg 14) 15 ∷ [])) need) (weight_of b (core kind.BitAnd) + need) s p0 (omega arith)
      (by_works (By AND (FromReg 14) 15 ∷ []) 15 (bit_and x y) need taken k rest s (refl, tt) stands now (ap (λ v. bit_and v (s.reg 14)) r15 ∙ ap (λ v. bit_and x v) r14) on)
  binary_core_goes kind.BitOr is x y need taken k rest s r14 low' stands now r15 low on =
      steps.less true (spent b (codes (By BIS (FromReg 14) 15 ∷ [])) need) (weight_of b (core kind.BitOr) + need) s p0 (omega arith)
      (by_works (By BIS (FromReg 14) 15 ∷ []) 15 (bit_or x y) need taken k rest s (refl, tt) stands now (ap (λ v. bit_or v (s.reg 14)) r15 ∙ ap (λ v. bit_or x v) r14) on)
  binary_core_goes kind.BitXor is x y need taken k rest s r14 low' stands now r15 low on =
      steps.less true (spent b (codes (By XOR (FromReg 14) 15 ∷ [])) need) (weight_of b (core kind.BitXor) + need) s p0 (omega arith)
      (by_works (By XOR (FromReg 14) 15 ∷ []) 15 (bit_xor x y) need taken k rest s (refl, tt) stands now (ap (λ v. bit_xor v (s.reg 14)) r15 ∙ ap (λ v. bit_xor x v) r14) on)
  binary_core_goes kind.Mul is x y need taken k rest s r14 low' stands now r15 low on =
      mul_goes b input s0 p0 W steps x y need taken k rest s stands now r15 r14 low low' (result_as 13 need taken (k + 10) _ _ (mul_is x y) on)
  binary_core_goes kind.DivU is x y need taken k rest s r14 low' stands now r15 low on =
      unsigned_goes b input s0 p0 W steps x y need taken k rest s stands now r15 r14 low low' (by_zero 15 need taken (k + 16) y 1 (λ v. gives kind.DivU x v) refl on)
      (λ some s' q r now'. by_divisor 15 (x / y) need taken (k + 16) y _ on (λ h. divu_is x y h low) some s' q now')
  binary_core_goes kind.RemU is x y need taken k rest s r14 low' stands now r15 low on =
      unsigned_goes b input s0 p0 W steps x y need taken k rest s stands now r15 r14 low low' (by_zero 13 need taken (k + 16) y 1 (λ v. gives kind.RemU x v) refl on)
      (λ some s' q r now'. by_divisor 13 (x % y) need taken (k + 16) y _ on (λ h. remu_is x y h low) some s' r now')
  binary_core_goes kind.DivS is x y need taken k rest s r14 low' stands now r15 low on =
      divs_goes b input s0 p0 W steps x y need taken k rest s stands now r15 r14 low low' (by_zero 15 need taken (k + 30) y 1 (λ v. gives kind.DivS x v) refl on)
      (λ some s' q now'. by_divisor 15 _ need taken (k + 30) y _ on (λ h. divs_is x y h low low') some s' q now')
  binary_core_goes kind.RemS is x y need taken k rest s r14 low' stands now r15 low on =
      rems_goes b input s0 p0 W steps x y need taken k rest s stands now r15 r14 low low' (by_zero 13 need taken (k + 29) y 1 (λ v. gives kind.RemS x v) refl on)
      (λ some s' q now'. by_divisor 13 _ need taken (k + 29) y _ on (λ h. rems_is x y h low low') some s' q now')
  binary_core_goes kind.Shl is x y need taken k rest s r14 low' stands now r15 low on =
      steps.less true _ (weight_of b (core kind.Shl) + need) s p0 (omega arith)
      (shift_goes b input s0 p0 W steps _ _ _ (left_shifts b input ((x * 2 ^ y) % 65536)) x y need taken k rest s stands now r15 r14 low low' refl
      (λ high. result_as 15 need taken (k + 11) _ _ (shl_traps x y high) on)
      (λ few s' w e15 low_w done now'. result_as 15 need taken (k + 11) _ _ (shl_is x y few) on s' (e15 ∙ (let e : w ≡ (x * 2 ^ y) % 65536 = omega (arith, done, low_w) in e)) (subst (λ m. Now s0 taken m s') (let e : k + 10 + 1 ≡ k + 11 = omega arith in e) now')))
  binary_core_goes kind.ShrS is x y need taken k rest s r14 low' stands now r15 low on =
      steps.less true _ (weight_of b (core kind.ShrS) + need) s p0 (omega arith)
      (shift_goes b input s0 p0 W steps _ _ _ (right_shifts b input (kept I16 (halved (value I16 x) y))) x y need taken k rest s stands now r15 r14 low low' refl
      (λ high. result_as 15 need taken (k + 11) _ _ (shrs_traps x y high) on)
      (λ few s' w e15 low_w done now'. result_as 15 need taken (k + 11) _ _ (shrs_is x y few) on s' (e15 ∙ sym (unhalved w low_w) ∙ done) (subst (λ m. Now s0 taken m s') (let e : k + 10 + 1 ≡ k + 11 = omega arith in e) now')))
  binary_core_goes kind.ShrU is x y need taken k rest s r14 low' stands now r15 low on =
      steps.less true _ (weight_of b (core kind.ShrU) + need) s p0 (omega arith)
      (shift_goes b input s0 p0 W steps _ _ _ (logical_shifts b input (x / 2 ^ y)) x y need taken k rest s stands now r15 r14 low low' refl
      (λ high. result_as 15 need taken (k + 13) _ _ (shru_traps x y high) on)
      (λ few s' w e15 low_w done now'. result_as 15 need taken (k + 13) _ _ (shru_is x y few low) on s' (e15 ∙ (let e : w / 1 ≡ w = omega arith in sym e) ∙ done) (subst (λ m. Now s0 taken m s') (let e : k + 10 + 3 ≡ k + 13 = omega arith in e) now')))
  binary_core_goes kind.Eq is x y need taken k rest s r14 low' stands now r15 low on =
      steps.less true _ (weight_of b (core kind.Eq) + need) s p0 (omega arith) (eq_goes b input s0 p0 W steps x y need taken k rest s stands now r15 r14 low low' (λ s' r13 now' stands'. on s' r13 now'))
  binary_core_goes kind.Ne is x y need taken k rest s r14 low' stands now r15 low on =
      steps.less true _ (weight_of b (core kind.Ne) + need) s p0 (omega arith) (ne_goes b input s0 p0 W steps x y need taken k rest s stands now r15 r14 low low' (λ s' r13 now' stands'. on s' r13 now'))
  binary_core_goes kind.LtS is x y need taken k rest s r14 low' stands now r15 low on =
      steps.less true _ (weight_of b (core kind.LtS) + need) s p0 (omega arith) (lts_goes b input s0 p0 W steps x y need taken k rest s stands now r15 r14 low low' (λ s' r13 now' stands'. on s' r13 now'))
  binary_core_goes kind.LtU is x y need taken k rest s r14 low' stands now r15 low on =
      steps.less true _ (weight_of b (core kind.LtU) + need) s p0 (omega arith) (ltu_goes b input s0 p0 W steps x y need taken k rest s stands now r15 r14 low low' (λ s' r13 now' stands'. on s' r13 now'))
  binary_core_goes kind.LeS is x y need taken k rest s r14 low' stands now r15 low on =
      steps.less true _ (weight_of b (core kind.LeS) + need) s p0 (omega arith) (les_goes b input s0 p0 W steps x y need taken k rest s stands now r15 r14 low low' (λ s' r13 now' stands'. on s' r13 now'))
  binary_core_goes kind.LeU is x y need taken k rest s r14 low' stands now r15 low on =
      steps.less true _ (weight_of b (core kind.LeU) + need) s p0 (omega arith) (leu_goes b input s0 p0 W steps x y need taken k rest s stands now r15 r14 low low' (λ s' r13 now' stands'. on s' r13 now'))
  binary_core_goes _ is x y need taken k rest s r14 low' stands now r15 low on = absurd is
