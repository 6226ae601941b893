-- Cuts inside a stretch are cuts, so a run without a cut has none.
use Rattle.std.proofs.Common.{◌≤◌, ℕ, Bool, true, false, List, [], ◌∷◌, subst, sym, arith}
use Rattle.std.specs.Prelude.{◌==◌, if◌then◌else◌}
use Rattle.board_table.specs.declared.board.Board.{Board}
use Rattle.msp430_machine.specs.Addresses.{gate}
use Rattle.msp430_machine.specs.Memory.{word_at}
use Rattle.msp430_machine.specs.State.{State}
use Rattle.msp430_machine.specs.Steps.{stepped}
use Rattle.msp430_machine.specs.declared.answer.Did.{Did}
use Rattle.msp430_machine.specs.declared.answer.Did.TheVariants.{Ran, Out, Slept, Ended, Trapped, Short, Fault}
use Rattle.power_core.specs.Runs.{Event, Go, Run, Step, Trail, Wake, one_if_closed, with_answer}

few_closed : (s : State) → one_if_closed s ≤ 1
few_closed s = by (word_at s gate == 1)
  where
    by : (c : Bool) → (if c then 0 else 1) ≤ 1
    by true = omega arith
    by false = omega arith

answer_closed : (d : Did) (c : ℕ) (s : State) (t : Trail) → t.closed_cuts ≤ t.cuts → (with_answer d c s t).closed_cuts ≤ (with_answer d c s t).cuts
answer_closed (Ran n) c s t h = h
answer_closed (Out v) c s t h = h
answer_closed Slept c s t h = h
answer_closed (Ended v) c s t h = h
answer_closed (Trapped v) c s t h = h
answer_closed (Short n k) c s t h = let one = few_closed s in omega (arith, h, one)
answer_closed (Fault pc why) c s t h = h

step_closed : (b : Board) (input : List ℕ) (t u : Trail) (event : Event) → Step b input t event u → t.closed_cuts ≤ t.cuts → u.closed_cuts ≤ u.cuts
step_closed b input t u Go step h =
    let o = stepped b input t.state in
    subst (λ (x : Trail). x.closed_cuts ≤ x.cuts) (sym step.1) (answer_closed o.answer o.spent o.state t h)
step_closed b input t u (Wake amount keep) step h = subst (λ (x : Trail). x.closed_cuts ≤ x.cuts) (sym step.1) h

pub closed_are_cuts : (b : Board) (input : List ℕ) (events : List Event) (t u : Trail) → Run b input t events u → t.closed_cuts ≤ t.cuts → u.closed_cuts ≤ u.cuts
closed_are_cuts b input [] t u run h = subst (λ (x : Trail). x.closed_cuts ≤ x.cuts) (sym run) h
closed_are_cuts b input (event ∷ events) t u run h = closed_are_cuts b input events run.0 u run.2 (step_closed b input t run.0 event run.1 h)
