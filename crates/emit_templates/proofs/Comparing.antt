-- Tests: 1 in R13 where the jump is taken, else 0.
use Rattle.std.proofs.Common.{◌≡◌, ℕ, ◌+◌, ◌-◌, ◌<◌, Bool, true, false, List, [], ◌∷◌, ◌++◌, refl, sym, ap, ◌∙◌, arith, pos}
use Rattle.std.specs.Prelude.{◌==◌, not, nat_le, nat_lt, int_lt}
use Rattle.std.proofs.lemmas.Bool.Decides.{nat_tests}
use Rattle.board_table.specs.declared.board.Board.{Board}
use Rattle.msp430_isa.specs.declared.instr.Src.TheVariants.{Reg as FromReg, Short}
use Rattle.msp430_isa.specs.declared.instr.TwoOp.TheVariants.{Mov as MOV, Cmp as CMP}
use Rattle.msp430_isa.specs.declared.instr.Cond.{Cond}
use Rattle.msp430_isa.specs.declared.instr.Cond.TheVariants.{Jne as JNE, Jeq as JEQ, Jnc as JNC, Jc as JC, Jge as JGE, Jl as JL}
use Rattle.msp430_isa.specs.declared.instr.Instr.{Instr}
use Rattle.msp430_isa.specs.declared.instr.Instr.TheVariants.{Jump}
use Rattle.msp430_isa.specs.Profile.{in_profile}
use Rattle.msp430_isa.specs.Results.{is_taken}
use Rattle.msp430_machine.specs.State.{State}
use Rattle.c_values.specs.Values.{from_test, value}
use Rattle.c_values.specs.declared.ops.Ty.TheVariants.{I16}
use Rattle.msp430_machine.specs.Cost.{instruction_cost}
use Rattle.op_cost.specs.Templates.{code_of, less_core, turned_core}
use Rattle.emit_templates.proofs.WordTests.{difference, equal_is, below_is, less_flag, less_is, not_less_flag, not_less_is}
use Rattle.emit_templates.proofs.Work.{Work, By}
use Rattle.emit_templates.proofs.Steps.{Steps, Now, Stand, stand_at, spent, worked, codes, words_in, AllFit, works, jumps}

not_below_is : (x y : ℕ) → x < 65536 → y < 65536 → nat_le 65536 (x + (65535 - y) + 1) ≡ not (nat_lt x y)
not_below_is x y hx hy = grind (arith, nat_tests)

module _ (b : Board) (input : List ℕ) (s0 : State) (p0 : List ℕ) (W : Bool → ℕ → State → List ℕ → Type 0) (steps : Steps b input s0 p0 W) where
  abbrev tests : Bool → List Work
  tests false = By MOV (Short 1) 13 ∷ By CMP (FromReg 14) 15 ∷ []
  tests true = By MOV (Short 1) 13 ∷ By CMP (FromReg 15) 14 ∷ []

  abbrev clears : List Work
  clears = By MOV (Short 0) 13 ∷ []

  tests_fit : (turned : Bool) → AllFit (tests turned)
  tests_fit false = (refl, (refl, tt))
  tests_fit true = (refl, (refl, tt))

  two_words : (turned : Bool) (k : ℕ) → k + words_in (tests turned) ≡ k + 2
  two_words false k = omega arith
  two_words true k = omega arith

  one_in : (turned : Bool) (s : State) → (worked b input (tests turned) s).reg 13 ≡ 1
  one_in false s = refl
  one_in true s = refl

  -- by the jump, whatever it depends on
  test_goes : (turned : Bool) (on : Cond) (c : Bool) (need taken k : ℕ) (rest : List Instr) (s : State) → in_profile (Jump on (pos 1)) ≡ true
      → Stand s0.code k (codes (tests turned) ++ Jump on (pos 1) ∷ (codes clears ++ rest)) → Now s0 taken k s → is_taken on (worked b input (tests turned) s).flags ≡ c
      → ((s' : State) → s'.reg 13 ≡ from_test c → Now s0 taken (k + 4) s' → Stand s0.code (k + 4) rest → W true need s' p0)
      → W true (spent b (codes (tests turned)) (instruction_cost b (Jump on (pos 1)) + spent b (codes clears) need)) s p0
  test_goes turned on c need taken k rest s fits stands now flag go_on =
      works b input s0 p0 W steps (tests turned) (instruction_cost b (Jump on (pos 1)) + spent b (codes clears) need) taken k (k + 2) (Jump on (pos 1) ∷ (codes clears ++ rest)) s (tests_fit turned) (two_words turned k) now stands
      (λ now1 stands1. jumps b input s0 p0 W steps on (pos 1) true (spent b (codes clears) need) taken (k + 2) (k + 3) (k + 4) (codes clears ++ rest) (worked b input (tests turned) s) (omega arith) now1 stands1 fits (omega (arith, stands1.1))
      (λ took now2. steps.less true need (spent b (codes clears) need) _ p0 (omega arith)
      (go_on _ (one_in turned s ∙ ap from_test (sym took ∙ flag)) now2 (stand_at s0.code (k + 2 + 1 + 1) (k + 4) rest (omega arith) stands1.2.2)))
      (λ fell now2 stands2. works b input s0 p0 W steps clears need taken (k + 3) (k + 4) rest _ (refl, tt) (omega arith) now2 stands2
      (λ now3 stands3. go_on _ (ap from_test (sym fell ∙ flag)) now3 stands3)))

  abbrev Tested : Cond → Bool → (x y need taken k : ℕ) → List Instr → State → Bool → Type 0
  Tested on turned x y need taken k rest s c =
      Now s0 taken k s → s.reg 15 ≡ x → s.reg 14 ≡ y → x < 65536 → y < 65536
      → ((s' : State) → s'.reg 13 ≡ from_test c → Now s0 taken (k + 4) s' → Stand s0.code (k + 4) rest → W true need s' p0)
      → W true (spent b (codes (tests turned)) (instruction_cost b (Jump on (pos 1)) + spent b (codes clears) need)) s p0

  pub eq_goes : (x y need taken k : ℕ) (rest : List Instr) (s : State) → Stand s0.code k (code_of (less_core JEQ) ++ rest) → Tested JEQ false x y need taken k rest s (x == y)
  eq_goes x y need taken k rest s stands now r15 r14 low low' go_on =
      test_goes false JEQ (x == y) need taken k rest s refl stands now (ap (λ v. difference v (s.reg 14) == 0) r15 ∙ ap (λ v. difference x v == 0) r14 ∙ equal_is x y low low') go_on

  pub ne_goes : (x y need taken k : ℕ) (rest : List Instr) (s : State) → Stand s0.code k (code_of (less_core JNE) ++ rest) → Tested JNE false x y need taken k rest s (not (x == y))
  ne_goes x y need taken k rest s stands now r15 r14 low low' go_on =
      test_goes false JNE (not (x == y)) need taken k rest s refl stands now (ap (λ v. not (difference v (s.reg 14) == 0)) r15 ∙ ap (λ v. not (difference x v == 0)) r14 ∙ ap not (equal_is x y low low')) go_on

  pub ltu_goes : (x y need taken k : ℕ) (rest : List Instr) (s : State) → Stand s0.code k (code_of (less_core JNC) ++ rest) → Tested JNC false x y need taken k rest s (nat_lt x y)
  ltu_goes x y need taken k rest s stands now r15 r14 low low' go_on =
      test_goes false JNC (nat_lt x y) need taken k rest s refl stands now (ap (λ v. not (nat_le 65536 (v + (65535 - s.reg 14) + 1))) r15 ∙ ap (λ v. not (nat_le 65536 (x + (65535 - v) + 1))) r14 ∙ below_is x y low low') go_on

  pub lts_goes : (x y need taken k : ℕ) (rest : List Instr) (s : State) → Stand s0.code k (code_of (less_core JL) ++ rest) → Tested JL false x y need taken k rest s (int_lt (value I16 x) (value I16 y))
  lts_goes x y need taken k rest s stands now r15 r14 low low' go_on =
      test_goes false JL (int_lt (value I16 x) (value I16 y)) need taken k rest s refl stands now (ap (λ v. less_flag v (s.reg 14)) r15 ∙ ap (λ v. less_flag x v) r14 ∙ less_is x y low low') go_on

  pub les_goes : (x y need taken k : ℕ) (rest : List Instr) (s : State) → Stand s0.code k (code_of (turned_core JGE) ++ rest) → Tested JGE true x y need taken k rest s (not (int_lt (value I16 y) (value I16 x)))
  les_goes x y need taken k rest s stands now r15 r14 low low' go_on =
      test_goes true JGE (not (int_lt (value I16 y) (value I16 x))) need taken k rest s refl stands now (ap (λ v. not_less_flag v (s.reg 15)) r14 ∙ ap (λ v. not_less_flag y v) r15 ∙ not_less_is y x low' low) go_on

  pub leu_goes : (x y need taken k : ℕ) (rest : List Instr) (s : State) → Stand s0.code k (code_of (turned_core JC) ++ rest) → Tested JC true x y need taken k rest s (not (nat_lt y x))
  leu_goes x y need taken k rest s stands now r15 r14 low low' go_on =
      test_goes true JC (not (nat_lt y x)) need taken k rest s refl stands now (ap (λ v. nat_le 65536 (v + (65535 - s.reg 15) + 1)) r14 ∙ ap (λ v. nat_le 65536 (y + (65535 - v) + 1)) r15 ∙ not_below_is y x low' low) go_on
