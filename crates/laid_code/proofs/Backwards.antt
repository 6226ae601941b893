-- From templates that are told backwards, by any property W that is closed under instructions, to paths. `Now` and `Steps` have the form in
-- which templates are proved.
use Rattle.std.proofs.Common.{◌≡◌, ◌⊎◌, ℕ, ◌+◌, ◌*◌, ◌≤◌, Bool, true, false, List, [], ◌∷◌, length, Option, Some, None, refl, ap, ◌∙◌, arith, length-append, inl, inr, ◌<◌}
use Rattle.board_table.specs.declared.board.Board.{Board}
use Rattle.msp430_isa.specs.declared.instr.Instr.{Instr}
use Rattle.msp430_machine.specs.State.{Awake, State}
use Rattle.msp430_machine.specs.Cost.{cost}
use Rattle.msp430_machine.specs.Execution.{done, put_by}
use Rattle.msp430_machine.specs.Steps.{Does, next, begun}
use Rattle.power_core.proofs.Covers.{extended}
use Rattle.msp430_machine.specs.Memory.{written}
use Rattle.laid_code.proofs.Homes.{Home, InSram, InFram, Changes}
use Rattle.laid_code.proofs.Words.{address, IsRoom, stored, written_home, stored_same}
use Rattle.laid_code.proofs.Leading.{Wrote}
use Rattle.resumed_runs.proofs.Paths.{Working, Takes, Path, Arrived, Through}

-- Awake at a word of the code, with the memories of this state and its R1 to R10, and so many input words taken.
pub record Now (mem : State) (taken k : ℕ) (s : State) : Type 0 where
  pub awake : s.phase ≡ Awake
  pub pc : s.reg 0 ≡ 0x8000 + 2 * k
  pub has_code : s.code ≡ mem.code
  pub has_sram : s.sram ≡ mem.sram
  pub has_fram : s.fram ≡ mem.fram
  pub has_taken : s.taken ≡ taken
  pub kept : (r : ℕ) → 1 ≤ r → r ≤ 10 → s.reg r ≡ mem.reg r

abbrev pub after : Board → List ℕ → Instr → State → State
after b input i s = done input i (begun (cost b s i) i s)

-- W holds before an instruction where it holds behind it; the flag tells that an instruction was executed.
pub record Steps (b : Board) (input : List ℕ) (s0 : State) (p0 : List ℕ) (W : Bool → ℕ → State → List ℕ → Type 0) : Type 0 where
  pub step : (f : Bool) (need taken k : ℕ) (i : Instr) (s : State) → Now s0 taken k s → next s ≡ Does i
      → W true need (after b input i s) (extended p0 (put_by input i (begun (cost b s i) i s))) → W f (cost b s i + need) s p0
  pub less : (f : Bool) (need need' : ℕ) (s : State) (p : List ℕ) → need ≤ need' → W f need s p → W f need' s p

-- Instructions that lead from s to an end, of which the last may put a word, within the need
pub record Led (b : Board) (input : List ℕ) (code : ℕ → ℕ) (p0 : List ℕ) (End : State → List ℕ → Type 0) (need : ℕ) (s : State) : Type 0 where
  pub mid : State
  pub last_state : State
  pub first : ℕ
  pub last : ℕ
  pub instruction : Instr
  pub puts : Option ℕ
  pub path : Path b input code mid first s
  pub working : Working code mid
  pub takes : Takes b input instruction last mid puts last_state
  pub cost : first + last ≤ need
  pub ends : End last_state (extended p0 puts)

nothing_put : (p : List ℕ) (o : Option ℕ) → extended p o ≡ p → o ≡ None
nothing_put p None e = refl
nothing_put p (Some v) e = absurd (let l = ap length e in omega (arith, l, length-append p (v ∷ [])))

module _ (b : Board) (input : List ℕ) (s0 : State) (p0 : List ℕ) (End : State → List ℕ → Type 0) (closed : s0.fram 0xC00 ≡ 0) where
  -- led to an end from here; or at the end, behind an instruction
  abbrev pub Reaches : Bool → ℕ → State → List ℕ → Type 0
  Reaches f need s p = ((p ≡ p0) × Led b input s0.code p0 End need s) ⊎ ((f ≡ true) × End s p)

  led_less : (need need' : ℕ) (s : State) → need ≤ need' → Led b input s0.code p0 End need s → Led b input s0.code p0 End need' s
  led_less need need' s le l = record {
    mid = l.mid;
    last_state = l.last_state;
    first = l.first;
    last = l.last;
    instruction = l.instruction;
    puts = l.puts;
    path = l.path;
    working = l.working;
    takes = l.takes;
    cost = (let c = l.cost in omega (arith, c, le));
    ends = l.ends;
  }

  pub led_steps : Steps b input s0 p0 Reaches
  led_steps = record {
    step = λ f need taken k i s now does behind.
        let working : Working s0.code s = record { awake = now.awake; closed = ap (λ x. x 0xC00) now.has_fram ∙ closed; has_code = now.has_code } in
        elim (behind) [
          | inl on ↦ inl (
            refl,
            (let l = on.1 in record {
              mid = l.mid;
              last_state = l.last_state;
              first = cost b s i + l.first;
              last = l.last;
              instruction = l.instruction;
              puts = l.puts;
              path = Through i (cost b s i) l.first s (after b input i s) working (record { does = does; costs = refl; put = nothing_put p0 (put_by input i (begun (cost b s i) i s)) on.0; leaves = refl }) l.path;
              working = l.working;
              takes = l.takes;
              cost = (let c = l.cost in omega (arith, c));
              ends = l.ends;
            }),
          )
          | inr end ↦ inl (
            refl,
            record {
              mid = s;
              last_state = after b input i s;
              first = 0;
              last = cost b s i;
              instruction = i;
              puts = put_by input i (begun (cost b s i) i s);
              path = Arrived;
              working = working;
              takes = record { does = does; costs = refl; put = refl; leaves = refl };
              cost = omega arith;
              ends = end.1;
            },
          )
        ];
    less = λ f need need' s p le w. elim (w) [ inl on ↦ inl (on.0, led_less need need' s le on.1) | inr end ↦ inr end ];
  }

  -- so what is proved of each such property gives a path
  pub led : (need : ℕ) (s : State) → Reaches false need s p0 → Led b input s0.code p0 End need s
  led need s w = elim (w) [ inl on ↦ on.1 | inr end ↦ let no : false ≡ true = end.0 in cc ]

-- ---- A word that such a template has written

changes_to : (h : Home) (i v : ℕ) (s0 u : State) → u.sram ≡ (stored h i v s0).sram → u.fram ≡ (stored h i v s0).fram → Changes h i v s0 u
changes_to (InSram w) i v s0 u a b = (a, b)
changes_to (InFram w) i v s0 u a b = (a, b)

pub wrote : (h : Home) (n i v k taken : ℕ) (s0 u : State) → IsRoom h n → i < n → Now (written false s0 (address h i) v) taken k u → Wrote s0.code s0 k taken h i v u
wrote h n i v k taken s0 u room low now =
    let is = written_home h n i v s0 room low in
    let same = stored_same h i v s0 in
    record {
      awake = now.awake;
      pc = now.pc;
      has_code = now.has_code ∙ ap (λ x. x.code) is ∙ same.code;
      same_sp = now.kept 1 (omega arith) (omega arith) ∙ ap (λ x. x.reg 1) is ∙ ap (λ r. r 1) same.reg;
      same_count = now.kept 10 (omega arith) (omega arith) ∙ ap (λ x. x.reg 10) is ∙ ap (λ r. r 10) same.reg;
      has_taken = now.has_taken;
      changes = changes_to h i v s0 u (now.has_sram ∙ ap (λ x. x.sram) is) (now.has_fram ∙ ap (λ x. x.fram) is);
    }
