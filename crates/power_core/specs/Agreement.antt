-- An image agrees with what a program does, whatever refills come that each reach the budget.
use Rattle.std.specs.Prelude.{ℕ, ◌≡◌, ◌+◌, ◌*◌, ◌<◌, ◌≤◌, ◌⊎◌, List, All}
use Rattle.board_table.specs.declared.board.Board.{Board}
use Rattle.ti_txt.specs.Image.{Block}
use Rattle.plain_meaning.specs.Behaviour.{Outcome, Going, EndedWith, TrappedWith, Behaviour, Begins}
use Rattle.msp430_machine.specs.State.{Phase, Off, Awake, Asleep, Ended, Trapped, Faulted}
use Rattle.power_core.specs.Runs.{Event, Trail, Generous, RunOf}

abbrev pub IsStopped : Phase → Type 0
IsStopped Off = ⊥
IsStopped Awake = ⊥
IsStopped Asleep = ⊥
IsStopped (Ended v) = Unit {0}
IsStopped (Trapped v) = Unit {0}
IsStopped (Faulted why) = Unit {0}

-- the stop that the program's own end or trap is on the device
abbrev pub StopsAs : Outcome → Phase → Type 0
StopsAs Going p = ⊥
StopsAs (EndedWith v) p = p ≡ Ended v
StopsAs (TrappedWith v) p = p ≡ Trapped v

-- A program that has stopped: a stopped run has put just its words and stopped like it, and any other has put a front of them and
-- has not taken more refills than n steps need.
pub record ForthStopped (n : ℕ) (outcome : Outcome) (words : List ℕ) (t : Trail) : Type 0 where
  pub stopped : IsStopped t.state.phase → (t.put ≡ words) × StopsAs outcome t.state.phase
  pub running : ¬ IsStopped t.state.phase → (t.wakes ≤ 8 * (n + 1)) × Begins t.put words

-- a program that goes on: a run that is stopped, or has taken more refills than n steps need, has put its words first
abbrev pub ForthGoing : ℕ → List ℕ → Trail → Type 0
ForthGoing n words t = (IsStopped t.state.phase ⊎ (8 * (n + 1) < t.wakes)) → Begins words t.put

-- what a run has to show for n steps of the program
abbrev pub ForthAt : ℕ → Outcome → List ℕ → Trail → Type 0
ForthAt n Going words t = ForthGoing n words t
ForthAt n (EndedWith v) words t = ForthStopped n (EndedWith v) words t
ForthAt n (TrappedWith v) words t = ForthStopped n (TrappedWith v) words t

abbrev pub Forth : Behaviour → List ℕ → Trail → Type 0
Forth program input t = (n : ℕ) → ForthAt n (program input n).outcome (program input n).words t

-- A run has done some steps of the program, of which there are not more than its instructions allow.
pub record Back (program : Behaviour) (nodes : ℕ) (input : List ℕ) (t : Trail) : Type 0 where
  pub steps : ℕ
  pub few : steps ≤ nodes * (t.instructions + 1)
  pub words : t.put ≡ (program input steps).words
  pub stopped : IsStopped t.state.phase → StopsAs (program input steps).outcome t.state.phase

-- no instruction fell short, and no stretch spent more than the budget
pub record Power (b : Board) (t : Trail) : Type 0 where
  pub no_cut : t.cuts ≡ 0
  pub stretch : t.stretch ≤ b.budget

-- Every run of the image on the board, over every input of words and every list of events whose refills each reach the
-- budget, shows what the program does and no more, and is never cut. Each front of a run is a run too, so this holds at each
-- of its moments, and of each of its stretches.
pub record Agrees (program : Behaviour) (nodes : ℕ) (image : List Block) (b : Board) : Type 0 where
  pub forth : (input : List ℕ) (events : List Event) (t : Trail) → All (λ w. w < 65536) input → Generous b.budget events → RunOf image b input events t → Forth program input t
  pub back : (input : List ℕ) (events : List Event) (t : Trail) → All (λ w. w < 65536) input → Generous b.budget events → RunOf image b input events t → Back program nodes input t
  pub power : (input : List ℕ) (events : List Event) (t : Trail) → All (λ w. w < 65536) input → Generous b.budget events → RunOf image b input events t → Power b t
