-- Refills.
use Rattle.std.specs.Prelude.{ℕ, ◌≡◌, Bool, true, false}
use Rattle.msp430_machine.specs.Addresses.{reset_vector}
use Rattle.msp430_machine.specs.State.{Phase, Off, Awake, Asleep, Ended, Trapped, Faulted, State, AreWords, no_flags}
use Rattle.msp430_machine.specs.Memory.{word_at}

-- a refill finds the machine off or asleep
abbrev pub CanWake : Phase → Type 0
CanWake Off = Unit {0}
CanWake Asleep = Unit {0}
CanWake Awake = ⊥
CanWake (Ended v) = ⊥
CanWake (Trapped v) = ⊥
CanWake (Faulted why) = ⊥

-- registers and SRAM stay
abbrev pub warm : ℕ → State → State
warm amount s = record s { phase = Awake; charge = amount }

-- PC is the word at 0xFFFE, SR is 0, and each other register and each word of SRAM is any word
pub record IsCold (old : State) (amount : ℕ) (new : State) : Type 0 where
  pub same : new ≡ record old { phase = Awake; charge = amount; reg = new.reg; flags = no_flags; other_bits = 0; sram = new.sram }
  pub starts : new.reg 0 ≡ word_at old reset_vector
  pub registers : AreWords 16 new.reg
  pub sram : AreWords 1024 new.sram

-- a refill of this amount, by the old phase and whether a sleeping machine keeps what it has
abbrev pub WakesFrom : Phase → Bool → ℕ → State → State → Type 0
WakesFrom Off keep amount old new = IsCold old amount new
WakesFrom Asleep false amount old new = IsCold old amount new
WakesFrom Asleep true amount old new = new ≡ warm amount old
WakesFrom Awake keep amount old new = ⊥
WakesFrom (Ended v) keep amount old new = ⊥
WakesFrom (Trapped v) keep amount old new = ⊥
WakesFrom (Faulted why) keep amount old new = ⊥

abbrev pub Wakes : ℕ → Bool → State → State → Type 0
Wakes amount keep old new = WakesFrom old.phase keep amount old new
