-- From instruction to instruction inside of a template, whatever is to be shown of the run. Between its first and its last instruction
-- a template changes no memory and puts nothing.
use Rattle.std.proofs.Common.{◌≡◌, ℕ, ◌+◌, ◌*◌, ◌%◌, ◌≤◌, Bool, true, false, List, [], ◌∷◌, ◌++◌, None, refl, sym, ap, ◌∙◌, subst, arith}
use Rattle.std.specs.Prelude.{ℤ, ◌==◌, if◌then◌else◌}
use Rattle.std.proofs.lemmas.Bool.Decides.{nat_tests}
use Rattle.board_table.specs.declared.board.Board.{Board}
use Rattle.msp430_isa.specs.declared.instr.Cond.{Cond}
use Rattle.msp430_isa.specs.declared.instr.Instr.{Instr}
use Rattle.msp430_isa.specs.declared.instr.Instr.TheVariants.{Jump}
use Rattle.msp430_isa.specs.Encoding.{length_of, words_of}
use Rattle.msp430_isa.specs.Profile.{in_profile}
use Rattle.msp430_isa.specs.Results.{is_taken, jump_target}
use Rattle.msp430_machine.specs.State.{State, set_at}
use Rattle.msp430_machine.specs.Access.{access_fault}
use Rattle.msp430_machine.specs.Cost.{cost, instruction_cost}
use Rattle.msp430_machine.specs.Execution.{put_by, gone_to}
use Rattle.msp430_machine.specs.Steps.{Does, next, begun}
use Rattle.power_core.proofs.Covers.{extended}
use Rattle.power_core.proofs.Stands.{WordsAt, next_is}
pub use Rattle.emit_templates.specs.Layer.{Now, Stand, after}
use Rattle.emit_templates.specs.Layer.{WordsStand}
use Rattle.emit_templates.proofs.Work.{Work, instr_of, fits, SameBut, work_allowed, work_puts, work_costs, work_same, fits_profile, fits_work, fits_near}

-- ---- Instructions that stand one behind another, below the end of the code

words_same : (f : ℕ → ℕ) (k : ℕ) (ws : List ℕ) → WordsStand f k ws → WordsAt f k ws
words_same f k [] h = tt
words_same f k (w ∷ ws) h = (h.0, words_same f (k + 1) ws h.1)

pub stand_at : (code : ℕ → ℕ) (k k' : ℕ) (is : List Instr) → k ≡ k' → Stand code k is → Stand code k' is
stand_at code k k' is same h = subst (λ n. Stand code n is) same h

-- ---- Where the machine stands inside of a template

pub now_at : (mem : State) (taken k k' : ℕ) (s : State) → k ≡ k' → Now mem taken k s → Now mem taken k' s
now_at mem taken k k' s same now = subst (λ n. Now mem taken n s) same now

-- W says what is to be shown of a state: whether the template's first instruction is done, how much charge is needed from here on, and the words put.
-- It follows from what the next instruction leaves, and from a smaller need.
pub record Steps (b : Board) (input : List ℕ) (s0 : State) (p0 : List ℕ) (W : Bool → ℕ → State → List ℕ → Type 0) : Type 0 where
  pub step : (f : Bool) (need taken k : ℕ) (i : Instr) (s : State) → Now s0 taken k s → next s ≡ Does i
      → W true need (after b input i s) (extended p0 (put_by input i (begun (cost b s i) i s))) → W f (cost b s i + need) s p0
  pub less : (f : Bool) (need need' : ℕ) (s : State) (p : List ℕ) → need ≤ need' → W f need s p → W f need' s p

-- the state behind instructions of registers
abbrev pub worked : Board → List ℕ → List Work → State → State
worked b input [] s = s
worked b input (w ∷ ws) s = worked b input ws (after b input (instr_of w) s)

abbrev pub codes : List Work → List Instr
codes [] = []
codes (w ∷ ws) = instr_of w ∷ codes ws

abbrev pub words_in : List Work → ℕ
words_in [] = 0
words_in (w ∷ ws) = length_of (instr_of w) + words_in ws

-- what instructions cost, and what comes behind them
abbrev pub spent : Board → List Instr → ℕ → ℕ
spent b [] need = need
spent b (i ∷ is) need = instruction_cost b i + spent b is need

abbrev pub AllFit : List Work → Type 0
AllFit [] = Unit {0}
AllFit (w ∷ ws) = (fits w ≡ true) × AllFit ws

module _ (b : Board) (input : List ℕ) (s0 : State) (p0 : List ℕ) (W : Bool → ℕ → State → List ℕ → Type 0) (steps : Steps b input s0 p0 W) where
  -- an instruction that puts nothing
  pub one : (f : Bool) (need taken k : ℕ) (i : Instr) (rest : List Instr) (s : State) → Now s0 taken k s → Stand s0.code k (i ∷ rest)
      → in_profile i ≡ true → access_fault s i ≡ None → cost b s i ≡ instruction_cost b i → put_by input i (begun (cost b s i) i s) ≡ None
      → W true need (after b input i s) p0 → W f (instruction_cost b i + need) s p0
  one f need taken k i rest s now stands fits allowed costs puts on =
      subst (λ c. W f (c + need) s p0) costs
      (steps.step f need taken k i s now (next_is s0.code s k i now.has_code now.pc stands.1 fits (words_same s0.code k (words_of i) stands.0) allowed)
      (subst (λ o. W true need (after b input i s) (extended p0 o)) (sym puts) on))

  -- PC behind an instruction
  pub pc_behind : (k : ℕ) (i : Instr) (s : State) → s.reg 0 ≡ 0x8000 + 2 * k → k + length_of i ≤ 0x3FC0 → (s.reg 0 + 2 * length_of i) % 65536 ≡ 0x8000 + 2 * (k + length_of i)
  pc_behind k i s at room = omega (arith, at, room)

  pub now_begun : (taken k c : ℕ) (i : Instr) (s : State) → Now s0 taken k s → k + length_of i ≤ 0x3FC0 → Now s0 taken (k + length_of i) (begun c i s)
  now_begun taken k c i s now room = record {
    awake = now.awake;
    pc = pc_behind k i s now.pc room;
    has_code = now.has_code;
    has_sram = now.has_sram;
    has_fram = now.has_fram;
    has_taken = now.has_taken;
    kept = λ r low high. (let e : (r == 0) ≡ false = grind (arith, nat_tests) in ap (λ c. if c then (s.reg 0 + 2 * length_of i) % 65536 else s.reg r) e ∙ now.kept r low high);
  }

  now_same : (taken k : ℕ) (s s' : State) → Now s0 taken k s → SameBut s s' → Now s0 taken k s'
  now_same taken k s s' now same = record {
    awake = same.phase ∙ now.awake;
    pc = same.kept 0 (omega arith) ∙ now.pc;
    has_code = same.has_code ∙ now.has_code;
    has_sram = same.has_sram ∙ now.has_sram;
    has_fram = same.has_fram ∙ now.has_fram;
    has_taken = same.has_taken ∙ now.has_taken;
    kept = λ r low high. same.kept r high ∙ now.kept r low high;
  }

  -- instructions of registers
  pub works : (ws : List Work) (need taken k k1 : ℕ) (rest : List Instr) (s : State) → AllFit ws → k + words_in ws ≡ k1 → Now s0 taken k s → Stand s0.code k (codes ws ++ rest)
      → (Now s0 taken k1 (worked b input ws s) → Stand s0.code k1 rest → W true need (worked b input ws s) p0)
      → W true (spent b (codes ws) need) s p0
  works [] need taken k k1 rest s fit to now stands on =
      let same : k ≡ k1 = omega (arith, to) in
      on (subst (λ n. Now s0 taken n s) same now) (subst (λ n. Stand s0.code n rest) same stands)
  works (w ∷ ws) need taken k k1 rest s fit to now stands on =
      let i : Instr = instr_of w in
      let c : ℕ = cost b s i in
      let near = fits_near w fit.0 in
      one true (spent b (codes ws) need) taken k i (codes ws ++ rest) s now stands (fits_profile w fit.0) (work_allowed w s near) (work_costs b w s near) (work_puts input w (begun c i s))
      (works ws need taken (k + length_of i) k1 rest (after b input i s) fit.1 (omega (arith, to))
      (now_same taken (k + length_of i) (begun c i s) (after b input i s) (now_begun taken k c i s now stands.1) (work_same input w (begun c i s) (fits_work w fit.0) near))
      stands.2 on)

  -- ---- Jumps inside of the template

  -- the state behind a jump that is taken
  abbrev pub gone : Cond → ℤ → State → State
  gone on words s = (let x = begun (instruction_cost b (Jump on words)) (Jump on words) s in gone_to x (jump_target (x.reg 0) words))

  abbrev pub passed : Cond → ℤ → State → State
  passed on words s = begun (instruction_cost b (Jump on words)) (Jump on words) s

  now_gone : (on : Cond) (words : ℤ) (taken k k' : ℕ) (s : State) → Now s0 taken k s → k + 1 ≤ 0x3FC0 → jump_target (0x8000 + 2 * (k + 1)) words ≡ 0x8000 + 2 * k' → Now s0 taken k' (gone on words s)
  now_gone on words taken k k' s now room to =
      let x = now_begun taken k (instruction_cost b (Jump on words)) (Jump on words) s now room in record {
        awake = x.awake;
        pc = ap (λ a. jump_target a words) x.pc ∙ to;
        has_code = x.has_code;
        has_sram = x.has_sram;
        has_fram = x.has_fram;
        has_taken = x.has_taken;
        kept = λ r low high. (let e : (r == 0) ≡ false = grind (arith, nat_tests) in ap (λ c. if c then jump_target ((s.reg 0 + 2 * 1) % 65536) words else set_at s.reg 0 ((s.reg 0 + 2 * 1) % 65536) r) e ∙ x.kept r low high);
      }

  pub jumps : (on : Cond) (words : ℤ) (f : Bool) (need taken k k1 k' : ℕ) (rest : List Instr) (s : State) → k + 1 ≡ k1 → Now s0 taken k s → Stand s0.code k (Jump on words ∷ rest)
      → in_profile (Jump on words) ≡ true → jump_target (0x8000 + 2 * (k + 1)) words ≡ 0x8000 + 2 * k'
      → (is_taken on s.flags ≡ true → Now s0 taken k' (gone on words s) → W true need (gone on words s) p0)
      → (is_taken on s.flags ≡ false → Now s0 taken k1 (passed on words s) → Stand s0.code k1 rest → W true need (passed on words s) p0)
      → W f (instruction_cost b (Jump on words) + need) s p0
  jumps on words f need taken k k1 k' rest s next_ now stands fits to away behind =
      one f need taken k (Jump on words) rest s now stands fits refl refl refl
      (elim (is_taken on s.flags) as (λ c. is_taken on s.flags ≡ c → W true need (if c then gone on words s else passed on words s) p0) [
        | true ↦ λ e. away e (now_gone on words taken k k' s now stands.1 to)
        | false ↦ λ e. behind e (subst (λ n. Now s0 taken n (passed on words s)) next_ (now_begun taken k (instruction_cost b (Jump on words)) (Jump on words) s now stands.1)) (stand_at s0.code (k + 1) k1 rest next_ stands.2)
      ] refl)
