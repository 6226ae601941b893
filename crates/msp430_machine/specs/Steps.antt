-- One step of an awake machine.
use Rattle.std.specs.Prelude.{ℕ, ◌+◌, ◌-◌, ◌*◌, ◌/◌, ◌%◌, ◌==◌, nat_lt, nat_le, if◌then◌else◌, Bool, ◌&&◌, List, Option, Some, None}
use Rattle.board_table.specs.declared.board.Board.{Board}
use Rattle.msp430_isa.specs.declared.instr.Instr.{Instr}
use Rattle.msp430_isa.specs.Encoding.{length_of}
use Rattle.msp430_isa.specs.Decoding.{instruction_at}
use Rattle.msp430_machine.specs.declared.answer.Why.{Why}
use Rattle.msp430_machine.specs.declared.answer.Why.TheVariants.{Fetch, Instruction}
use Rattle.msp430_machine.specs.declared.answer.Did.{Did}
use Rattle.msp430_machine.specs.declared.answer.Did.TheVariants.{Ran, Out, Slept, Ended as DidEnd, Trapped as DidTrap, Short, Fault}
use Rattle.msp430_machine.specs.Addresses.{code_start, fetch_end}
use Rattle.msp430_machine.specs.State.{Phase, Off, Awake, Asleep, Ended, Trapped, Faulted, State, set_at}
use Rattle.msp430_machine.specs.Access.{access_fault}
use Rattle.msp430_machine.specs.Cost.{cost}
use Rattle.msp430_machine.specs.Execution.{done, put_by}

-- what comes next: an instruction that may be executed, or a fault
pub data Next : Type 0 where
  Faults : Why → Next
  Does : Instr → Next

abbrev pub next_checked : Instr → Option Why → Next
next_checked i (Some why) = Faults why
next_checked i None = Does i

-- the last word of the instruction lies below the end
abbrev pub next_decoded : State → Option Instr → Next
next_decoded s None = Faults Instruction
next_decoded s (Some i) = if nat_le (s.reg 0 + 2 * length_of i) fetch_end then next_checked i (access_fault s i) else Faults Fetch

abbrev pub can_fetch : ℕ → Bool
can_fetch pc = pc % 2 == 0 && nat_le code_start pc && nat_lt pc fetch_end

abbrev pub next_at : State → ℕ → Next
next_at s k = if can_fetch (s.reg 0) then next_decoded s (instruction_at (s.code k) (s.code (k + 1)) (s.code (k + 2))) else Faults Fetch

abbrev pub next : State → Next
next s = next_at s ((s.reg 0 - code_start) / 2)

-- what a step leaves, what it tells, and what it spends: nothing where no instruction is executed
pub record Outcome : Type 0 where
  pub state : State
  pub answer : Did
  pub spent : ℕ

-- an instruction of this cost tells the word that it puts, how it ends the machine's waking, or its cost
abbrev pub answer_by : ℕ → Phase → Did
answer_by need Asleep = Slept
answer_by need (Ended v) = DidEnd v
answer_by need (Trapped v) = DidTrap v
answer_by need Off = Ran need
answer_by need Awake = Ran need
answer_by need (Faulted why) = Ran need

abbrev pub answer_of : ℕ → Option ℕ → Phase → Did
answer_of need (Some v) p = Out v
answer_of need None p = answer_by need p

-- the instruction is paid, and PC is behind it
abbrev pub begun : ℕ → Instr → State → State
begun need i s = record s { charge = s.charge - need; reg = set_at s.reg 0 ((s.reg 0 + 2 * length_of i) % 65536) }

abbrev pub outcome : List ℕ → Instr → ℕ → State → Outcome
outcome input i need s = record {
  state = done input i s;
  answer = answer_of need (put_by input i s) (done input i s).phase;
  spent = need;
}

abbrev pub executed : List ℕ → Instr → ℕ → State → Outcome
executed input i need s = outcome input i need (begun need i s)

-- the charge falls short: nothing is executed, and the machine is off
abbrev pub cut_off : ℕ → State → Outcome
cut_off need s = record { state = record s { phase = Off }; answer = Short need s.charge; spent = 0 }

abbrev pub faulted : Why → State → Outcome
faulted why s = record { state = record s { phase = Faulted why }; answer = Fault (s.reg 0) why; spent = 0 }

abbrev pub paid_or_cut : List ℕ → Instr → ℕ → State → Outcome
paid_or_cut input i need s = if nat_lt s.charge need then cut_off need s else executed input i need s

abbrev pub stepped_by : Board → List ℕ → State → Next → Outcome
stepped_by b input s (Faults why) = faulted why s
stepped_by b input s (Does i) = paid_or_cut input i (cost b s i) s

-- what one step of an awake machine comes to
abbrev pub stepped : Board → List ℕ → State → Outcome
stepped b input s = stepped_by b input s (next s)
