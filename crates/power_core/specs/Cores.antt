-- What a core does with one event: what it tells, the state that it leaves, what it counts, and the run that it goes on with.
use Rattle.std.specs.Prelude.{ℕ, ◌≡◌, ◌+◌, Bool, true, false, List, [], ◌∷◌, ◌++◌}
use Rattle.board_table.specs.declared.board.Board.{Board}
use Rattle.msp430_machine.specs.declared.answer.Did.{Did}
use Rattle.msp430_machine.specs.declared.answer.Did.TheVariants.{Ran, Out, Slept, Ended as DidEnd, Trapped as DidTrap, Short, Fault}
use Rattle.msp430_machine.specs.State.{Phase, Off, Awake, Asleep, Ended, Trapped, Faulted, State}
use Rattle.msp430_machine.specs.Steps.{stepped}
use Rattle.msp430_machine.specs.Views.{Cells, state_of, refilled}
use Rattle.power_core.specs.declared.device.Event.{Event as Asked}
use Rattle.power_core.specs.declared.device.Event.TheVariants.{Go as AskGo, Wake as AskWake}
use Rattle.power_core.specs.declared.device.Seen.{Seen}
use Rattle.power_core.specs.declared.device.Seen.TheVariants.{Done, Woke, NotNow}
use Rattle.power_core.specs.Runs.{Event, Go, Wake, Trail, start, Step, Run}

-- the numbers of refills and of instructions executed, and what the instructions cost
pub record Counts : Type 0 where
  pub charges : ℕ
  pub instructions : ℕ
  pub spent : ℕ

abbrev pub no_counts : Counts
no_counts = record { charges = 0; instructions = 0; spent = 0 }

-- what callers see of a core
pub record CoreView : Type 0 where
  pub machine : Cells
  pub counts : Counts

-- ---- What is told. A Go is possible where the machine is awake, a refill where it is off or asleep.

abbrev pub went : Phase → Did → Seen
went Awake did = Done did
went Off did = NotNow
went Asleep did = NotNow
went (Ended v) did = NotNow
went (Trapped v) did = NotNow
went (Faulted why) did = NotNow

-- a sleeping machine that keeps its registers and SRAM wakes warm, every other cold
abbrev pub woke : Phase → Bool → Seen
woke Off keep = Woke true
woke Asleep true = Woke false
woke Asleep false = Woke true
woke Awake keep = NotNow
woke (Ended v) keep = NotNow
woke (Trapped v) keep = NotNow
woke (Faulted why) keep = NotNow

abbrev pub seen : Board → List ℕ → Asked → State → Seen
seen b input AskGo s = went s.phase (stepped b input s).answer
seen b input (AskWake refill) s = woke s.phase refill.keep

-- ---- What is left. A refill of a machine that is awake or has stopped leaves it as it is.

abbrev pub gone_on : Board → List ℕ → Phase → State → State
gone_on b input Awake s = (stepped b input s).state
gone_on b input Off s = s
gone_on b input Asleep s = s
gone_on b input (Ended v) s = s
gone_on b input (Trapped v) s = s
gone_on b input (Faulted why) s = s

abbrev pub left : Board → List ℕ → Asked → Cells → State
left b input AskGo m = gone_on b input m.phase (state_of m)
left b input (AskWake refill) m = state_of (refilled refill m)

-- ---- What is counted

-- whether an instruction was executed: not at a cut, and not at a fault
abbrev pub is_executed : Did → Bool
is_executed (Short need charge) = false
is_executed (Fault pc why) = false
is_executed (Ran need) = true
is_executed (Out v) = true
is_executed Slept = true
is_executed (DidEnd v) = true
is_executed (DidTrap v) = true

abbrev pub counted_if : Bool → ℕ → Counts → Counts
counted_if true cost c = record c { instructions = c.instructions + 1; spent = c.spent + cost }
counted_if false cost c = c

-- the counts after an event that told this, where a step spends so much
abbrev pub counted : Seen → ℕ → Counts → Counts
counted NotNow cost c = c
counted (Woke cold) cost c = record c { charges = c.charges + 1 }
counted (Done did) cost c = counted_if (is_executed did) cost c

-- ---- The run

-- the words told
abbrev pub words_of_step : Did → List ℕ
words_of_step (Out v) = v ∷ []
words_of_step (Short need charge) = []
words_of_step (Fault pc why) = []
words_of_step (Ran need) = []
words_of_step Slept = []
words_of_step (DidEnd v) = []
words_of_step (DidTrap v) = []

abbrev pub words_told : Seen → List ℕ
words_told (Done did) = words_of_step did
words_told (Woke cold) = []
words_told NotNow = []

-- The junk word that the emulator leaves where registers and SRAM are lost is one choice of many: no event of a run names it.
abbrev pub event_of : Asked → Event
event_of AskGo = Go
event_of (AskWake refill) = Wake refill.amount refill.keep

-- the event, if it was possible
abbrev pub happened : Asked → Seen → List Event
happened asked NotNow = []
happened asked (Done did) = event_of asked ∷ []
happened asked (Woke cold) = event_of asked ∷ []

-- the counts of a run
abbrev pub counts_of : Trail → Counts
counts_of t = record { charges = t.wakes; instructions = t.instructions; spent = t.spent }

-- A run over these events from this first state puts these words and ends where the core is, and the core's counts are the run's.
pub record Shows (b : Board) (input : List ℕ) (first : State) (events : List Event) (put : List ℕ) (core : CoreView) : Type 0 where
  pub trail : Trail
  pub run : Run b input (start first) events trail
  pub state : trail.state ≡ state_of core.machine
  pub words : trail.put ≡ put
  pub counts : counts_of trail ≡ core.counts

-- the run of no event, on every board and every input
abbrev pub Begins : State → CoreView → Type 0
Begins first core = (b : Board) (input : List ℕ) → Shows b input first [] [] core

-- whatever run led to the core, goes on with this event, if it was possible, and with the words that were told
abbrev pub GoesOn : Board → List ℕ → Asked → Seen → CoreView → CoreView → Type 0
GoesOn b input asked told old new = (first : State) (events : List Event) (put : List ℕ)
    → Shows b input first events put old → Shows b input first (events ++ happened asked told) (put ++ words_told told) new

-- ---- One step of any run that stands where the core does

abbrev pub WasPossible : Seen → Type 0
WasPossible (Done did) = Unit {0}
WasPossible (Woke cold) = Unit {0}
WasPossible NotNow = ⊥

-- A step by this event leads from the old trail to one that stands where the core does, with the words that were told.
pub record StepsTo (b : Board) (input : List ℕ) (asked : Asked) (told : Seen) (old : Trail) (core : CoreView) : Type 0 where
  pub trail : Trail
  pub step : Step b input old (event_of asked) trail
  pub state : trail.state ≡ state_of core.machine
  pub words : trail.put ≡ old.put ++ words_told told
  pub counts : counts_of trail ≡ core.counts

-- from each trail that stands where the old core does, an event that was possible is a step
abbrev pub StepsOn : Board → List ℕ → Asked → Seen → CoreView → CoreView → Type 0
StepsOn b input asked told old new = (t : Trail) → t.state ≡ state_of old.machine → counts_of t ≡ old.counts → WasPossible told → StepsTo b input asked told t new
