-- What callers see of the machine, and the state that it is.
use Rattle.std.specs.Prelude.{ℕ, ◌<◌, List, slice_index, slice_set, replicate, IsTrue, if◌then◌else◌, Result, Ok, Err}
use Rattle.msp430_isa.specs.Results.{Flags}
use Rattle.msp430_isa.specs.Profile.{guards_width}
use Rattle.msp430_isa.specs.declared.instr.Src.{Src}
use Rattle.msp430_isa.specs.declared.instr.Src.TheVariants.{Reg as FromReg, Index as FromIndex, Abs as FromAbs, At, AtPlus, Imm, Short}
use Rattle.msp430_isa.specs.declared.instr.Dst.{Dst}
use Rattle.msp430_isa.specs.declared.instr.Dst.TheVariants.{Reg as ToReg, Index as ToIndex, Abs as ToAbs}
use Rattle.msp430_isa.specs.declared.instr.Instr.{Instr}
use Rattle.msp430_isa.specs.declared.instr.Instr.TheVariants.{Two, One, Jump}
use Rattle.msp430_machine.specs.declared.answer.Why.{Why}
use Rattle.msp430_machine.specs.Steps.{Next, Faults, Does}
use Rattle.msp430_machine.specs.declared.arith.Flags.{Flags as FlagsKept}
use Rattle.msp430_machine.specs.declared.answer.Phase.{Phase as PhaseTold}
use Rattle.msp430_machine.specs.declared.answer.Phase.TheVariants.{Off as TellsOff, Awake as TellsAwake, Asleep as TellsAsleep, Stopped as TellsStopped}
use Rattle.msp430_machine.specs.declared.answer.Refill.{Refill}
use Rattle.msp430_machine.specs.declared.machine.Condition.{Condition}
use Rattle.msp430_machine.specs.declared.machine.Condition.TheVariants.{Off as IsOff, Awake as IsAwake, Asleep as IsAsleep, Ended as HasEnded, Trapped as HasTrapped, Faulted as HasFaulted}
use Rattle.msp430_machine.specs.declared.operand.Operand.{Operand as Place}
use Rattle.msp430_machine.specs.declared.operand.Operand.TheVariants.{Constant as IsConstant, InRegister as IsRegister, InMemory as IsMemory}
use Rattle.msp430_machine.specs.declared.access.Purpose.{Purpose as Use}
use Rattle.msp430_machine.specs.declared.access.Purpose.TheVariants.{AsSource as ForSource, AsDestination as ForDestination, ByMove as ForMove, ByOther as ForOther}
use Rattle.msp430_machine.specs.Access.{Purpose, AsSource, AsDestination, ByMove, ByOther}
use Rattle.msp430_machine.specs.Operands.{Operand, Constant, InRegister, InMemory}
use Rattle.msp430_machine.specs.State.{Phase, Off, Awake, Asleep, Ended, Trapped, Faulted, State, no_flags}

-- the words of registers and memories as lists: a model's value holds no functions
pub record Cells : Type 0 where
  pub phase : Phase
  pub charge : ℕ
  pub registers : List ℕ
  pub flags : Flags
  pub other_bits : ℕ
  pub sram : List ℕ
  pub fram : List ℕ
  pub code : List ℕ
  pub taken : ℕ

-- a memory, from its words
abbrev pub memory : List ℕ → ℕ → ℕ
memory words k = slice_index words k

abbrev pub state_of : Cells → State
state_of m = record {
  phase = m.phase;
  charge = m.charge;
  reg = memory m.registers;
  flags = m.flags;
  other_bits = m.other_bits;
  sram = memory m.sram;
  fram = memory m.fram;
  code = memory m.code;
  taken = m.taken;
}

-- what a cold refill leaves: the junk word in SRAM and in each register but PC, which is the word at 0xFFFE
abbrev pub cold_cells : Refill → Cells → Cells
cold_cells refill m = record m {
  phase = Awake;
  charge = refill.amount;
  registers = slice_set (replicate 16 refill.junk) 0 (slice_index m.code 16383);
  flags = no_flags;
  other_bits = 0;
  sram = replicate 1024 refill.junk;
}

-- what a refill leaves where it finds a machine that is off or asleep
abbrev pub refilled_from : Phase → Refill → Cells → Cells
refilled_from Asleep refill m = if refill.keep then record m { phase = Awake; charge = refill.amount } else cold_cells refill m
refilled_from Off refill m = cold_cells refill m
refilled_from Awake refill m = m
refilled_from (Ended v) refill m = m
refilled_from (Trapped v) refill m = m
refilled_from (Faulted why) refill m = m

abbrev pub refilled : Refill → Cells → Cells
refilled refill m = refilled_from m.phase refill m

abbrev pub flags_in : FlagsKept → Flags
flags_in f = record { carry = f.carry; zero_flag = f.zero_flag; negative = f.negative; overflow = f.overflow }

abbrev pub phase_of : Condition → Phase
phase_of IsOff = Off
phase_of IsAwake = Awake
phase_of IsAsleep = Asleep
phase_of (HasEnded v) = Ended v
phase_of (HasTrapped v) = Trapped v
phase_of (HasFaulted why) = Faulted why

abbrev pub operand_of : Place → Operand
operand_of (IsConstant v) = Constant v
operand_of (IsRegister r) = InRegister r
operand_of (IsMemory a) = InMemory a

abbrev pub purpose_of : Use → Purpose
purpose_of ForSource = AsSource
purpose_of ForDestination = AsDestination
purpose_of ForMove = ByMove
purpose_of ForOther = ByOther

-- the phase that callers are told: a stop is a stop
abbrev pub phase_told : Phase → PhaseTold
phase_told Off = TellsOff
phase_told Awake = TellsAwake
phase_told Asleep = TellsAsleep
phase_told (Ended v) = TellsStopped
phase_told (Trapped v) = TellsStopped
phase_told (Faulted why) = TellsStopped

-- what comes next, as the machine finds it
abbrev pub next_from : Result Instr Why → Next
next_from (Ok i) = Does i
next_from (Err why) = Faults why

-- ---- A register's number is below 16.

abbrev pub HasSource : Src → Type 0
HasSource (FromReg r) = r < 16
HasSource (FromIndex r x) = r < 16
HasSource (At r) = r < 16
HasSource (AtPlus r) = r < 16
HasSource (FromAbs a) = Unit {0}
HasSource (Imm v) = Unit {0}
HasSource (Short v) = Unit {0}

abbrev pub HasDestination : Dst → Type 0
HasDestination (ToReg r) = r < 16
HasDestination (ToIndex r x) = r < 16
HasDestination (ToAbs a) = Unit {0}

abbrev pub HasOperand : Place → Type 0
HasOperand (IsRegister r) = r < 16
HasOperand (IsMemory a) = Unit {0}
HasOperand (IsConstant v) = Unit {0}

-- RRC and RRA alone have a byte
abbrev pub CanExecute : Instr → Type 0
CanExecute (Two op byte src dst) = HasSource src × HasDestination dst
CanExecute (One op byte src) = HasSource src × IsTrue (guards_width op byte)
CanExecute (Jump on words) = Unit {0}
