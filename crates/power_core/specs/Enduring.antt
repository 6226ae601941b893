-- What an image keeps under any supply, however short its refills are.
use Rattle.std.specs.Prelude.{ℕ, ◌≡◌, ◌≢◌, ◌⊎◌, ◌+◌, ◌*◌, ◌<◌, ◌≤◌, List, All}
use Rattle.board_table.specs.declared.board.Board.{Board}
use Rattle.ti_txt.specs.Image.{Block}
use Rattle.plain_meaning.specs.Behaviour.{Behaviour}
use Rattle.msp430_machine.specs.declared.answer.Why.{Why}
use Rattle.msp430_machine.specs.declared.answer.Did.{Did}
use Rattle.msp430_machine.specs.declared.answer.Did.TheVariants.{Ran, Out, Slept, Ended as DidEnd, Trapped as DidTrap, Short, Fault}
use Rattle.msp430_machine.specs.Addresses.{gate}
use Rattle.msp430_machine.specs.State.{Awake, Asleep, Trapped, Faulted}
use Rattle.msp430_machine.specs.Memory.{word_at}
use Rattle.msp430_machine.specs.Steps.{stepped}
use Rattle.power_core.specs.Runs.{Event, Trail, Run, RunOf, after_go}
use Rattle.power_core.specs.Agreement.{IsStopped, StopsAs}

-- boot has five instructions, at these addresses
abbrev pub IsBootAddress : ℕ → Type 0
IsBootAddress pc = (pc ≡ 0x8000) ⊎ (pc ≡ 0x8004) ⊎ (pc ≡ 0x8006) ⊎ (pc ≡ 0x800A) ⊎ (pc ≡ 0x800E)

-- the trap by which boot says that a stretch was cut
abbrev pub power_trap : ℕ
power_trap = 4

abbrev pub IsShort : Did → Type 0
IsShort (Short need charge) = Unit {0}
IsShort (Ran need) = ⊥
IsShort (Out v) = ⊥
IsShort Slept = ⊥
IsShort (DidEnd v) = ⊥
IsShort (DidTrap v) = ⊥
IsShort (Fault pc why) = ⊥

-- The next step of this run is a cut inside a stretch: GATE isn't 1.
pub record IsCutInside (b : Board) (input : List ℕ) (t : Trail) : Type 0 where
  pub awake : t.state.phase ≡ Awake
  pub short : IsShort (stepped b input t.state).answer
  pub closed : word_at t.state gate ≢ 1

-- After such a cut nothing more is put or taken, each instruction executed is one of boot's, and the only stop is boot's trap.
pub record StaysQuiet (cut t : Trail) : Type 0 where
  pub put : t.put ≡ cut.put
  pub taken : t.state.taken ≡ cut.state.taken
  pub in_boot : t.state.phase ≡ Awake → IsBootAddress (t.state.reg 0)
  pub not_asleep : t.state.phase ≢ Asleep
  pub trap : IsStopped t.state.phase → t.state.phase ≡ Trapped power_trap

-- what every run of the image keeps
pub record Endures (program : Behaviour) (nodes : ℕ) (image : List Block) (b : Board) : Type 0 where
  -- it has put the words of some steps of the program,
  pub back : (input : List ℕ) (events : List Event) (t : Trail) → All (λ w. w < 65536) input → RunOf image b input events t →
      (n : ℕ) × (n ≤ nodes * (t.instructions + 1)) × (t.put ≡ (program input n).words)
      × (IsStopped t.state.phase → t.state.phase ≢ Trapped power_trap → StopsAs (program input n).outcome t.state.phase)
  -- it never stops by a fault,
  pub no_fault : (input : List ℕ) (events : List Event) (t : Trail) → All (λ w. w < 65536) input → RunOf image b input events t →
      (why : Why) → t.state.phase ≢ Faulted why
  -- behind a cut inside a stretch no work is done,
  pub quiet : (input : List ℕ) (events more : List Event) (cut t : Trail) → All (λ w. w < 65536) input → RunOf image b input events cut →
      IsCutInside b input cut → Run b input (after_go b input cut) more t → StaysQuiet cut t
  -- and boot's trap comes only in a run that was cut so.
  pub power_trap_last : (input : List ℕ) (events : List Event) (t : Trail) → All (λ w. w < 65536) input → RunOf image b input events t →
      t.state.phase ≡ Trapped power_trap → 1 ≤ t.closed_cuts
