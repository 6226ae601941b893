-- The machine's state, and its registers.
use Rattle.std.specs.Prelude.{ℕ, ◌+◌, ◌*◌, ◌/◌, ◌%◌, ◌<◌, ◌==◌, if◌then◌else◌, false, List, get_or}
use Rattle.msp430_isa.specs.Results.{Flags, one_if}
use Rattle.msp430_machine.specs.declared.answer.Why.{Why}

-- what the machine is doing; the last three are its stops: by END, by TRAP, by a fault
pub data Phase : Type 0 where
  Off : Phase
  Awake : Phase
  Asleep : Phase
  Ended : ℕ → Phase
  Trapped : ℕ → Phase
  Faulted : Why → Phase

-- Registers by their numbers: PC is 0, SP is 1. The status register stands as its flags, as other_bits (its bits 3 and
-- 5 to 7) and as the phase: CPUOFF, bit 4, is set just while the phase is Asleep. Memories by the number of the word,
-- counted from 0x1C00 in sram, from 0 in fram, which has the addresses below 0x8000, and from 0x8000 in code. taken is
-- the number of input words taken. The words put are no part of the state.
pub record State : Type 0 where
  pub phase : Phase
  pub charge : ℕ
  pub reg : ℕ → ℕ
  pub flags : Flags
  pub other_bits : ℕ
  pub sram : ℕ → ℕ
  pub fram : ℕ → ℕ
  pub code : ℕ → ℕ
  pub taken : ℕ

-- f, but v at k
abbrev pub set_at : (ℕ → ℕ) → ℕ → ℕ → ℕ → ℕ
set_at f k v x = if x == k then v else f x

-- the first n are words
abbrev pub AreWords : ℕ → (ℕ → ℕ) → Type 0
AreWords n f = (k : ℕ) → k < n → f k < 65536

-- word k of the input, which goes on with zeros behind its end
abbrev pub input_word : List ℕ → ℕ → ℕ
input_word input k = get_or input k 0

-- ---- Registers. PC is 0 and SP is 1. R3 holds nothing: reading it is a constant of its own.

abbrev pub status_word : State → ℕ
status_word s = one_if s.flags.carry + 2 * one_if s.flags.zero_flag + 4 * one_if s.flags.negative + s.other_bits + 256 * one_if s.flags.overflow

-- the machine sleeps where bit 4 of the status register is set
abbrev pub phase_by_status : Phase → ℕ → Phase
phase_by_status p v = if v / 16 % 2 == 1 then Asleep else p

-- the status register keeps bits 0 to 8
abbrev pub with_status : State → ℕ → State
with_status s v = record s {
  phase = phase_by_status s.phase v;
  flags = record {
    carry = v % 2 == 1;
    zero_flag = v / 2 % 2 == 1;
    negative = v / 4 % 2 == 1;
    overflow = v / 256 % 2 == 1;
  };
  other_bits = v / 8 % 2 * 8 + v / 32 % 8 * 32;
}

abbrev pub register : State → ℕ → ℕ
register s r = if r == 2 then status_word s else s.reg r

abbrev pub with_register : State → ℕ → ℕ → State
with_register s r v =
    if r == 2 then with_status s v
    else if r == 3 then s
    else record s { reg = set_at s.reg r v }

-- the flags of a status register that is 0
abbrev pub no_flags : Flags
no_flags = record { carry = false; zero_flag = false; negative = false; overflow = false }
