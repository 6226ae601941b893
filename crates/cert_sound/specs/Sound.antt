-- What a certificate promises of every run.
use Rattle.std.specs.Prelude.{ℕ, ◌≡◌, ◌+◌, ◌≤◌, ◌<◌, List, length, All, Some}
use Rattle.board_table.specs.declared.board.Board.{Board}
use Rattle.ti_txt.specs.Image.{Block, IsImage}
use Rattle.certificate.specs.declared.cert.StretchRow.{StretchRow}
use Rattle.certificate.specs.Rows.{Certificate}
use Rattle.msp430_isa.specs.declared.instr.Instr.{Instr}
use Rattle.msp430_machine.specs.State.{Phase, Off, Awake, Asleep, Ended, Trapped, Faulted, State}
use Rattle.msp430_machine.specs.Steps.{Does, next}
use Rattle.msp430_machine.specs.First.{IsFirst, HoldsBlocks}
use Rattle.power_core.specs.Runs.{Event, Generous}
use Rattle.cert_effects.specs.Written.{ReadsOnly}
use Rattle.cert_rules.specs.Tables.{head_at}
use Rattle.cert_rules.specs.Sweep.{Certified}
use Rattle.cert_sound.specs.Moments.{Moment, first, MomentRun}

abbrev pub IsNoFault : Phase → Type 0
IsNoFault Off = Unit {0}
IsNoFault Awake = Unit {0}
IsNoFault Asleep = Unit {0}
IsNoFault (Ended v) = Unit {0}
IsNoFault (Trapped v) = Unit {0}
IsNoFault (Faulted why) = ⊥

-- No cut and no fault; a stretch within the budget and within its row; and nothing is read that the stretch hasn't written.
pub record Safe (stretches : List StretchRow) (b : Board) (m : Moment) : Type 0 where
  pub no_cut : m.trail.cuts ≡ 0
  pub no_fault : IsNoFault m.trail.state.phase
  pub power : m.trail.stretch ≤ b.budget
  pub within_row : (row : StretchRow) → head_at stretches row.head ≡ Some row → m.resumes ≡ row.head + 18 → m.trail.stretch ≤ row.cost
  pub reads : (i : Instr) → m.trail.state.phase ≡ Awake → next m.trail.state ≡ Does i → ReadsOnly m.written m.trail.state i

-- every generous run of a certified image is safe
abbrev pub IsSound : Type 0
IsSound =
    (blocks : List Block) (c : Certificate) (b : Board) (input : List ℕ) (s : State) (events : List Event) (m : Moment) →
    IsImage blocks → Certified blocks c b → 1 ≤ length c.functions →
    All (λ w. w < 65536) input → IsFirst s → HoldsBlocks s blocks → Generous b.budget events → MomentRun b input (first s) events m → Safe c.stretches b m
