-- Runs of the machine over lists of events.
use Rattle.std.specs.Prelude.{ℕ, ◌≡◌, ◌+◌, ◌≤◌, ◌==◌, if◌then◌else◌, Bool, List, [], ◌∷◌, ◌++◌}
use Rattle.board_table.specs.declared.board.Board.{Board}
use Rattle.ti_txt.specs.Image.{Block}
use Rattle.msp430_machine.specs.declared.answer.Did.{Did}
use Rattle.msp430_machine.specs.declared.answer.Did.TheVariants.{Ran, Out, Slept, Ended, Trapped, Short, Fault}
use Rattle.msp430_machine.specs.Addresses.{gate}
use Rattle.msp430_machine.specs.State.{Awake, State}
use Rattle.msp430_machine.specs.Memory.{word_at}
use Rattle.msp430_machine.specs.Steps.{Outcome, stepped}
use Rattle.msp430_machine.specs.Wakes.{Wakes}
use Rattle.msp430_machine.specs.First.{IsFirst, HoldsBlocks}

-- one step of an awake machine, or a refill of this amount, at which a sleeping machine keeps registers and SRAM or not
pub data Event : Type 0 where
  Go : Event
  Wake : ℕ → Bool → Event

-- A run so far: the state, the words put, the numbers of refills, of instructions executed, of cuts, and of those cuts at
-- which the word GATE wasn't 1, and what the instructions cost: all of them, and those since the last refill, which are a
-- stretch.
pub record Trail : Type 0 where
  pub state : State
  pub put : List ℕ
  pub wakes : ℕ
  pub instructions : ℕ
  pub cuts : ℕ
  pub closed_cuts : ℕ
  pub spent : ℕ
  pub stretch : ℕ

-- the run of no event
abbrev pub start : State → Trail
start s = record { state = s; put = []; wakes = 0; instructions = 0; cuts = 0; closed_cuts = 0; spent = 0; stretch = 0 }

-- 0 where the word GATE is 1, and 1 elsewhere
abbrev pub one_if_closed : State → ℕ
one_if_closed s = if word_at s gate == 1 then 0 else 1

-- an instruction executed at this cost, with these words put so far
abbrev pub with_instruction : ℕ → List ℕ → State → Trail → Trail
with_instruction cost put s t = record t {
  state = s;
  put = put;
  instructions = t.instructions + 1;
  spent = t.spent + cost;
  stretch = t.stretch + cost;
}

-- a step that told this and left this state
abbrev pub with_answer : Did → ℕ → State → Trail → Trail
with_answer (Fault pc why) cost s t = record t { state = s }
with_answer (Short need charge) cost s t = record t { state = s; cuts = t.cuts + 1; closed_cuts = t.closed_cuts + one_if_closed s }
with_answer (Out v) cost s t = with_instruction cost (t.put ++ v ∷ []) s t
with_answer (Ran need) cost s t = with_instruction cost t.put s t
with_answer Slept cost s t = with_instruction cost t.put s t
with_answer (Ended v) cost s t = with_instruction cost t.put s t
with_answer (Trapped v) cost s t = with_instruction cost t.put s t

abbrev pub with_outcome : Outcome → Trail → Trail
with_outcome o t = with_answer o.answer o.spent o.state t

-- the run after one more step of an awake machine
abbrev pub after_go : Board → List ℕ → Trail → Trail
after_go b input t = with_outcome (stepped b input t.state) t

-- the run after a refill that left this state
abbrev pub after_wake : State → Trail → Trail
after_wake s t = record t { state = s; wakes = t.wakes + 1; stretch = 0 }

-- one event
abbrev pub Step : Board → List ℕ → Trail → Event → Trail → Type 0
Step b input old Go new = (old.state.phase ≡ Awake) × (new ≡ after_go b input old)
Step b input old (Wake amount keep) new = Wakes amount keep old.state new.state × (new ≡ after_wake new.state old)

-- a list of events, one after another
abbrev pub Run : Board → List ℕ → Trail → List Event → Trail → Type 0
Run b input old [] new = new ≡ old
Run b input old (event ∷ events) new = (mid : Trail) × Step b input old event mid × Run b input mid events new

-- a run from a first state that holds the image
abbrev pub RunOf : List Block → Board → List ℕ → List Event → Trail → Type 0
RunOf image b input events t = (s : State) × IsFirst s × HoldsBlocks s image × Run b input (start s) events t

-- each refill has at least this amount
abbrev pub Generous : ℕ → List Event → Type 0
Generous budget [] = Unit {0}
Generous budget (Go ∷ events) = Generous budget events
Generous budget (Wake amount keep ∷ events) = (budget ≤ amount) × Generous budget events
