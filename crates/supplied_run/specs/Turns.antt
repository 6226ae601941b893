-- What one event comes to, in a run that stands at a core.
use Rattle.std.specs.Prelude.{ℕ, ◌≡◌, ◌≤◌, ◌<◌, ◌+◌, ◌*◌, ◌-◌, ◌==◌, ◌++◌, if◌then◌else◌, List, [], ◌∷◌, length}
use Rattle.base_io.specs.Counts.{Rose}
use Rattle.board_table.specs.declared.board.Board.{Board}
use Rattle.msp430_machine.specs.declared.answer.Refill.{Refill}
use Rattle.msp430_machine.specs.declared.answer.Did.{Did}
use Rattle.msp430_machine.specs.declared.answer.Did.TheVariants.{Ran, Out, Slept, Ended as DidEnd, Trapped as DidTrap, Short, Fault}
use Rattle.msp430_machine.specs.State.{Phase, Off, Awake, Asleep, Ended, Trapped, Faulted, State}
use Rattle.msp430_machine.specs.Views.{state_of}
use Rattle.power_core.specs.Runs.{Trail}
use Rattle.power_core.specs.Cores.{CoreView, counts_of}
use Rattle.supplied_run.specs.declared.end.End.{End}
use Rattle.supplied_run.specs.declared.end.End.TheVariants as end
use Rattle.supplied_run.specs.declared.turn.Turn.{Turn}
use Rattle.supplied_run.specs.declared.turn.Turn.TheVariants.{On, Puts, Stops}
use Rattle.supplied_run.specs.Rows.{Reaches, EndsAs, IsRunning}

-- A run over these events stands at this core, with these words put and these rows left.
pub record Stands (b : Board) (input : List ℕ) (limit : ℕ) (first : State) (rows left : List Refill) (put : List ℕ) (core : CoreView) : Type 0 where
  pub trail : Trail
  pub reaches : Reaches b input limit first rows left trail
  pub state : trail.state ≡ state_of core.machine
  pub words : trail.put ≡ put
  pub counts : counts_of trail ≡ core.counts

abbrev pub words_of : Turn → List ℕ
words_of On = []
words_of (Puts w) = w ∷ []
words_of (Stops end) = []

abbrev pub one_if_awake : Phase → ℕ
one_if_awake Awake = 1
one_if_awake Off = 0
one_if_awake Asleep = 0
one_if_awake (Ended w) = 0
one_if_awake (Trapped n) = 0
one_if_awake (Faulted why) = 0

-- what is left to do at most: each instruction, each row, and a cut of the charge at hand
abbrev pub work : ℕ → List Refill → CoreView → ℕ
work limit left core = (limit - core.counts.instructions) + 2 * length left + one_if_awake core.machine.phase

-- the run goes on with less to do, or it ends so
abbrev pub Then : ℕ → Turn → List Refill → CoreView → List Refill → CoreView → Type 0
Then limit On rows old left new = IsRunning new.machine.phase × (work limit left new < work limit rows old)
Then limit (Puts w) rows old left new = IsRunning new.machine.phase × (work limit left new < work limit rows old)
Then limit (Stops end) rows old left new = EndsAs limit (state_of new.machine) new.counts.instructions left end

pub record Turns (b : Board) (input : List ℕ) (limit : ℕ) (turn : Turn) (rows : List Refill) (old : CoreView) (left : List Refill) (new : CoreView) : Type 0 where
  pub goes : (first : State) (all : List Refill) (put : List ℕ) → Stands b input limit first all rows put old → Stands b input limit first all left (put ++ words_of turn) new
  pub behind : Then limit turn rows old left new
  pub charges : new.counts.charges + length left ≡ old.counts.charges + length rows
  pub within : new.counts.instructions ≤ limit

-- how the count of faults of the box in front changes
abbrev pub TurnCounts : Turn → ℕ → ℕ → Type 0
TurnCounts On before now = now ≡ before
TurnCounts (Puts w) before now = now ≡ before
TurnCounts (Stops end.SupplyFault) before now = (before ≤ now) × Rose before now
TurnCounts (Stops (end.Ended w)) before now = now ≡ before
TurnCounts (Stops (end.Trapped n)) before now = now ≡ before
TurnCounts (Stops end.PowerFault) before now = now ≡ before
TurnCounts (Stops end.SupplyEnded) before now = now ≡ before
TurnCounts (Stops end.StepLimit) before now = now ≡ before
TurnCounts (Stops (end.MachineFault pc why)) before now = now ≡ before

-- ---- What a step means

abbrev pub turn_by_trap : ℕ → Turn
turn_by_trap n = if n == 4 then Stops end.PowerFault else Stops (end.Trapped n)

abbrev pub turn_of : Did → Turn
turn_of (Ran need) = On
turn_of Slept = On
turn_of (Short need charge) = On
turn_of (Out w) = Puts w
turn_of (DidEnd w) = Stops (end.Ended w)
turn_of (DidTrap n) = turn_by_trap n
turn_of (Fault pc why) = Stops (end.MachineFault pc why)
