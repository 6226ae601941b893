-- The run of a device on rows, as it is emulated.
use Rattle.std.specs.Prelude.{ℕ, ◌≡◌, ◌≢◌, ◌<◌, ◌≤◌, ◌++◌, true, List, [], ◌∷◌}
use Rattle.board_table.specs.declared.board.Board.{Board}
use Rattle.msp430_machine.specs.declared.answer.Refill.{Refill}
use Rattle.msp430_machine.specs.State.{Phase, Off, Awake, Asleep, Ended, Trapped, Faulted, State}
use Rattle.msp430_machine.specs.Wakes.{CanWake}
use Rattle.power_core.specs.declared.device.Event.{Event as Asked}
use Rattle.power_core.specs.declared.device.Event.TheVariants.{Go as AskGo, Wake as AskWake}
use Rattle.power_core.specs.declared.device.Seen.TheVariants.{Woke}
use Rattle.power_core.specs.Runs.{Trail, start, Step}
use Rattle.power_core.specs.Cores.{event_of, woke}
use Rattle.supplied_run.specs.declared.end.End.{End}
use Rattle.supplied_run.specs.declared.end.End.TheVariants as end

-- The junk word stands in each register but PC, and in all of SRAM; the status register stands apart, as flags. Behind the last
-- register and the last word of SRAM there is nothing.
pub record HoldsJunk (junk : ℕ) (s : State) : Type 0 where
  pub registers : (r : ℕ) → 0 < r → r < 16 → s.reg r ≡ junk
  pub sram : (k : ℕ) → k < 1024 → s.sram k ≡ junk
  pub no_more_registers : (r : ℕ) → 16 ≤ r → s.reg r ≡ 0
  pub no_more_sram : (k : ℕ) → 1024 ≤ k → s.sram k ≡ 0

-- A row at whose wake registers and SRAM are lost leaves its junk word there: one choice of the many that a run may take.
abbrev pub LeavesJunk : Asked → State → State → Type 0
LeavesJunk AskGo old new = Unit {0}
LeavesJunk (AskWake row) old new = woke old.phase row.keep ≡ Woke true → HoldsJunk row.junk new

-- Events of a run, one after another, each below the limit of instructions. By the steps of a run each Go finds the machine
-- awake, and each wake finds it off or asleep.
abbrev pub Emulates : Board → List ℕ → ℕ → Trail → List Asked → Trail → Type 0
Emulates b input limit old [] new = new ≡ old
Emulates b input limit old (asked ∷ events) new =
    (old.instructions < limit)
    × ((mid : Trail) × Step b input old (event_of asked) mid × LeavesJunk asked old.state mid.state × Emulates b input limit mid events new)

-- the rows that were taken
abbrev pub rows_in : List Asked → List Refill
rows_in [] = []
rows_in (AskGo ∷ events) = rows_in events
rows_in (AskWake row ∷ events) = row ∷ rows_in events

-- From this first state the run comes to this trail, each of its wakes by the next row, and these rows are left.
pub record Reaches (b : Board) (input : List ℕ) (limit : ℕ) (first : State) (rows left : List Refill) (t : Trail) : Type 0 where
  pub events : List Asked
  pub taken : rows ≡ rows_in events ++ left
  pub run : Emulates b input limit (start first) events t

-- ---- Its end

abbrev pub IsRunning : Phase → Type 0
IsRunning Off = Unit {0}
IsRunning Awake = Unit {0}
IsRunning Asleep = Unit {0}
IsRunning (Ended w) = ⊥
IsRunning (Trapped w) = ⊥
IsRunning (Faulted why) = ⊥

-- A wake is due below the limit.
pub record IsDue (limit : ℕ) (s : State) (instructions : ℕ) : Type 0 where
  pub waits : CanWake s.phase
  pub below : instructions < limit

-- How a run ends where it stands in this state, with so many instructions executed and these rows left: it is tested first
-- whether the machine has stopped, then the limit, and then whether a row can be had. Where a row is left, it can't be had
-- if the box that has it fails.
abbrev pub EndsAs : ℕ → State → ℕ → List Refill → End → Type 0
EndsAs limit s instructions left (end.Ended w) = s.phase ≡ Ended w
EndsAs limit s instructions left (end.Trapped n) = (s.phase ≡ Trapped n) × (n ≢ 4)
EndsAs limit s instructions left end.PowerFault = s.phase ≡ Trapped 4
EndsAs limit s instructions left (end.MachineFault pc why) = (s.phase ≡ Faulted why) × (pc ≡ s.reg 0)
EndsAs limit s instructions left end.StepLimit = IsRunning s.phase × (instructions ≡ limit)
EndsAs limit s instructions left end.SupplyEnded = IsDue limit s instructions × (left ≡ [])
EndsAs limit s instructions left end.SupplyFault = IsDue limit s instructions × (left ≢ [])
