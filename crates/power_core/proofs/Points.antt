-- Where an awake machine stands in its code, and how one instruction moves it on, or a cut ends its waking.
use Rattle.std.proofs.Common.{◌≡◌, ℕ, ◌+◌, ◌-◌, ◌*◌, ◌/◌, ◌%◌, ◌<◌, ◌≤◌, true, List, [], ◌∷◌, ◌++◌, Some, None, refl, sym, ap, ◌∙◌, subst, arith}
use Rattle.std.specs.Prelude.{nat_le, if◌then◌else◌}
use Rattle.std.proofs.lemmas.Bool.Decides.{nat_tests}
use Rattle.board_table.specs.declared.board.Board.{Board}
use Rattle.ti_txt.specs.Image.{Block}
use Rattle.msp430_isa.specs.declared.instr.Instr.{Instr}
use Rattle.msp430_isa.specs.Encoding.{length_of}
use Rattle.msp430_isa.specs.Decoding.{instruction_at}
use Rattle.msp430_machine.specs.declared.answer.Why.TheVariants.{Fetch}
use Rattle.msp430_machine.specs.Addresses.{fetch_end}
use Rattle.msp430_machine.specs.State.{Awake, State}
use Rattle.msp430_machine.specs.Access.{access_fault}
use Rattle.msp430_machine.specs.Cost.{cost}
use Rattle.msp430_machine.specs.Execution.{done, put_by}
use Rattle.msp430_machine.specs.Steps.{Does, Faults, next, next_decoded, next_checked, can_fetch, begun}
use Rattle.power_core.specs.Runs.{Event, Go, Trail, with_instruction, RunOf, Generous}
use Rattle.power_core.proofs.Covers.{Covers, covers_ran, ran, cut, extended, gone_ran, run_go, generous_front}

-- ---- The instruction that stands at a place of the code

can_fetch_at : (k : ℕ) → k < 0x3FC0 → can_fetch (0x8000 + 2 * k) ≡ true
can_fetch_at k high = let even : (0x8000 + 2 * k) % 2 ≡ 0 = omega arith in grind (arith, nat_tests)

ends_before : (k n : ℕ) → k + n ≤ 0x3FC0 → nat_le (0x8000 + 2 * k + 2 * n) fetch_end ≡ true
ends_before k n room = grind (arith, nat_tests)

pub fetched : (s : State) (k : ℕ) (i : Instr) → s.reg 0 ≡ 0x8000 + 2 * k → k < 0x3FC0 → k + length_of i ≤ 0x3FC0
    → instruction_at (s.code k) (s.code (k + 1)) (s.code (k + 2)) ≡ Some i → access_fault s i ≡ None → next s ≡ Does i
fetched s k i pc high room stands allowed =
    let half : (0x8000 + 2 * k - 0x8000) / 2 ≡ k = omega arith in
    ap (λ p. if can_fetch p then next_decoded s (instruction_at (s.code ((p - 0x8000) / 2)) (s.code ((p - 0x8000) / 2 + 1)) (s.code ((p - 0x8000) / 2 + 2))) else Faults Fetch) pc
    ∙ ap (λ c. if c then next_decoded s (instruction_at (s.code ((0x8000 + 2 * k - 0x8000) / 2)) (s.code ((0x8000 + 2 * k - 0x8000) / 2 + 1)) (s.code ((0x8000 + 2 * k - 0x8000) / 2 + 2))) else Faults Fetch) (can_fetch_at k high)
    ∙ ap (λ h. next_decoded s (instruction_at (s.code h) (s.code (h + 1)) (s.code (h + 2)))) half
    ∙ ap (λ o. next_decoded s o) stands
    ∙ ap (λ p. if nat_le (p + 2 * length_of i) fetch_end then next_checked i (access_fault s i) else Faults Fetch) pc
    ∙ ap (λ c. if c then next_checked i (access_fault s i) else Faults Fetch) (ends_before k (length_of i) room)
    ∙ ap (λ o. next_checked i o) allowed

-- ---- A point of the code

-- What a run happens in: the board, the input, the image and the code that it brings, and what the whole needs of a charge.
pub record Setting : Type 0 where
  pub board : Board
  pub input : List ℕ
  pub image : List Block
  pub code : ℕ → ℕ
  pub whole : ℕ

-- Where a run stands: at a word of the code, counted from 0x8000, with this FRAM and these words put, with so many input words taken
-- and not more than so many refills.
pub record Place : Type 0 where
  pub k : ℕ
  pub fram : ℕ → ℕ
  pub put : List ℕ
  pub taken : ℕ
  pub wakes : ℕ

-- the need is within the budget, and each refill so far has reached it
abbrev pub Rich : Board → ℕ → List Event → Type 0
Rich b whole past = (whole ≤ b.budget) × Generous b.budget past

pub rich_before : (b : Board) (whole : ℕ) (past more : List Event) → Rich b whole (past ++ more) → Rich b whole past
rich_before b whole past more r = (r.0, generous_front b.budget past more r.1)

-- never cut so far, and the charge has what is still to be spent
pub record Paid (b : Board) (wakes need : ℕ) (t : Trail) : Type 0 where
  pub no_cut : t.cuts ≡ 0
  pub few_wakes : t.wakes ≤ wakes
  pub paid : t.stretch + need ≤ b.budget
  pub has : b.budget ≤ t.state.charge + t.stretch

-- Awake at the place, after a run of the image with these events. The need is what is still to be spent in this stretch, of a supply
-- that is as it should be; without it all else holds too.
pub record At (g : Setting) (x : Place) (need : ℕ) (past : List Event) (t : Trail) : Type 0 where
  pub awake : t.state.phase ≡ Awake
  pub pc : t.state.reg 0 ≡ 0x8000 + 2 * x.k
  pub has_code : t.state.code ≡ g.code
  pub has_fram : t.state.fram ≡ x.fram
  pub has_taken : t.state.taken ≡ x.taken
  pub has_put : t.put ≡ x.put
  pub reached : RunOf g.image g.board g.input past t
  pub rich : Rich g.board g.whole past → Paid g.board x.wakes need t

-- a cut comes only of a poor supply
pub poor : (g : Setting) (x : Place) (c need : ℕ) (past : List Event) (t : Trail) → At g x (c + need) past t → t.state.charge < c → Rich g.board g.whole past → ⊥
poor g x c need past t at short r = (let p = at.rich r in omega (arith, p.paid, p.has, short))

-- less is needed
pub less : (g : Setting) (x : Place) (need need' : ℕ) (past : List Event) (t : Trail) → need' ≤ need → At g x need past t → At g x need' past t
less g x need need' past t le at = record {
  awake = at.awake;
  pc = at.pc;
  has_code = at.has_code;
  has_fram = at.has_fram;
  has_taken = at.has_taken;
  has_put = at.has_put;
  reached = at.reached;
  rich = λ r. let p = at.rich r in record { no_cut = p.no_cut; few_wakes = p.few_wakes; paid = omega (arith, p.paid, le); has = p.has };
}

-- the instruction, at this cost, leaves this state and goes on at the place
pub record Goes (g : Setting) (i : Instr) (c : ℕ) (t : Trail) (x : Place) (s : State) : Type 0 where
  pub leaves : done g.input i (begun c i t.state) ≡ s
  pub puts : extended t.put (put_by g.input i (begun c i t.state)) ≡ x.put
  pub awake : s.phase ≡ Awake
  pub pc : s.reg 0 ≡ 0x8000 + 2 * x.k
  pub has_code : s.code ≡ g.code
  pub has_fram : s.fram ≡ x.fram
  pub has_taken : s.taken ≡ x.taken
  pub pays : s.charge ≡ t.state.charge - c

-- the trail after it
abbrev pub onto : ℕ → List ℕ → State → Trail → Trail
onto c put s t = with_instruction c put s t

ran_onto : (g : Setting) (x : Place) (c : ℕ) (i : Instr) (t : Trail) (s : State) → cost g.board t.state i ≡ c → Goes g i c t x s → ran g.board g.input i t ≡ onto c x.put s t
ran_onto g x c i t s costs goes =
    ap (λ v. with_instruction v (extended t.put (put_by g.input i (begun v i t.state))) (done g.input i (begun v i t.state)) t) costs
    ∙ ap (λ p. with_instruction c p (done g.input i (begun c i t.state)) t) goes.puts
    ∙ ap (λ v. with_instruction c x.put v t) goes.leaves

-- One instruction that goes on, or is cut. What comes behind it is to be shown for both.
pub covers_at : (n : ℕ) (g : Setting) (P : List Event → Trail → Type 0) (x x' : Place) (c need : ℕ) (i : Instr) (past : List Event) (t : Trail) (s : State)
    → At g x (c + need) past t → P past t → cost g.board t.state i ≡ c → next t.state ≡ Does i → x.wakes ≤ x'.wakes → Goes g i c t x' s
    → (At g x' need (past ++ Go ∷ []) (onto c x'.put s t) → Covers n g.board g.input P (past ++ Go ∷ []) (onto c x'.put s t))
    → (t.state.charge < cost g.board t.state i → (Rich g.board g.whole past → ⊥) → Covers n g.board g.input P (past ++ Go ∷ []) (cut t))
    → Covers n g.board g.input P past t
covers_at n g P x x' c need i past t s at holds costs does few goes on off =
    covers_ran n g.board g.input P past t i at.awake holds does
    (λ le. subst (λ v. Covers n g.board g.input P (past ++ Go ∷ []) v) (sym same) (on (record {
      awake = goes.awake;
      pc = goes.pc;
      has_code = goes.has_code;
      has_fram = goes.has_fram;
      has_taken = goes.has_taken;
      has_put = refl;
      reached = subst (λ v. RunOf g.image g.board g.input (past ++ Go ∷ []) v) (gone_ran g.board g.input t i does le ∙ same) (run_go g.board g.input g.image past t at.reached at.awake);
      rich = λ r. let p = at.rich (rich_before g.board g.whole past (Go ∷ []) r) in record {
        no_cut = p.no_cut;
        few_wakes = omega (arith, p.few_wakes, few);
        paid = omega (arith, p.paid);
        has = omega (arith, p.has, p.paid, goes.pays);
      };
    })))
    (λ lt. off lt (poor g x c need past t at (omega (arith, lt, costs))))
  where
    same : ran g.board g.input i t ≡ onto c x'.put s t
    same = ran_onto g x' c i t s costs goes
