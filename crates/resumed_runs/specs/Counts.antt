-- Operations counted along a run: each charge that another refill follows does at least one. The count is tied to the device by a relation
-- `Shows`: a state shows that so many operations are done, as by where the machine stands and what FRAM holds.
use Rattle.std.specs.Prelude.{ℕ, ◌≡◌, ◌+◌, ◌≤◌, ◌⊎◌, Bool, List, [], ◌∷◌, ◌++◌}
use Rattle.board_table.specs.declared.board.Board.{Board}
use Rattle.plain_meaning.specs.Behaviour.{Going, Behaviour}
use Rattle.msp430_machine.specs.State.{State}
use Rattle.msp430_machine.specs.Wakes.{Wakes}
use Rattle.power_core.specs.Agreement.{StopsAs}
use Rattle.power_core.specs.Runs.{Event, Go, Wake, Trail, start, after_go, after_wake}

-- A step that leaves this state does no operation, or one: the state shows it, or the machine has stopped as the flow has.
abbrev pub DoesAtMostOne : Behaviour → (ℕ → State → Type 0) → List ℕ → ℕ → ℕ → State → Type 0
DoesAtMostOne flow Shows input done more u = (more ≡ done) ⊎ ((more ≡ done + 1) × (Shows more u ⊎ StopsAs (flow input more).outcome u.phase))

-- A run from this state, the number of operations that it has done, and the number that has to be done before it may be refilled again. Behind
-- each step just the words of the operations done are put. At a refill the flow goes on, the state shows how many operations are done, and what
-- had to be done is done; behind it one operation more has to be.
pub data Counts (b : Board) (input : List ℕ) (flow : Behaviour) (Shows : ℕ → State → Type 0) (s : State) : List Event → Trail → ℕ → ℕ → Type 0 where
  Begins : Counts b input flow Shows s [] (start s) 0 0
  Steps : (events : List Event) (t : Trail) (done due more : ℕ) → Counts b input flow Shows s events t done due → DoesAtMostOne flow Shows input done more (after_go b input t).state
      → (after_go b input t).put ≡ (flow input more).words → Counts b input flow Shows s (events ++ Go ∷ []) (after_go b input t) more due
  Refills : (events : List Event) (t : Trail) (done due amount : ℕ) (keep : Bool) (u : State) → Counts b input flow Shows s events t done due → Wakes amount keep t.state u
      → due ≤ done → t.put ≡ (flow input done).words → (flow input done).outcome ≡ Going → Shows done t.state
      → Counts b input flow Shows s (events ++ Wake amount keep ∷ []) (after_wake u t) done (done + 1)

-- a run is counted so, and has put just the words of the operations that it has done
pub record IsCounted (b : Board) (input : List ℕ) (flow : Behaviour) (Shows : ℕ → State → Type 0) (s : State) (events : List Event) (t : Trail) : Type 0 where
  pub operations : ℕ
  pub due : ℕ
  pub counts : Counts b input flow Shows s events t operations due
  pub shown : t.put ≡ (flow input operations).words
