-- What a check of an image answers.
use Rattle.std.specs.Prelude.{ℕ, ◌≡◌, ◌<◌, List, All, Option, Some}
use Rattle.board_table.specs.declared.board.Board.{Board}
use Rattle.ti_txt.specs.Image.{Block}
use Rattle.certificate.specs.Rows.{Certificate}
use Rattle.msp430_machine.specs.State.{State}
use Rattle.msp430_machine.specs.First.{IsFirst, HoldsBlocks}
use Rattle.power_core.specs.Runs.{Event, Trail, Generous, RunOf}
use Rattle.cert_rules.specs.Faults.{Fault}
use Rattle.cert_rules.specs.Sweep.{Verdict, Certified}
use Rattle.cert_sound.specs.Moments.{Moment, first, MomentRun}
use Rattle.cert_sound.specs.Sound.{Safe}
use Rattle.cert_check.specs.declared.refused.Refused.{Refused}
use Rattle.cert_check.specs.declared.refused.Refused.TheVariants.{Rule as Breaks, Memory}

-- Why an image isn't certified: the first rule that fails, with its address and values. Nothing is said of want of memory.
abbrev pub IsRefusal : List Block → Certificate → Board → Refused → Type 0
IsRefusal blocks c b (Breaks rule address left right) = Verdict blocks c b (Some (record { rule = rule; address = address; left = left; right = right })) × (Certified blocks c b → ⊥)
IsRefusal blocks c b Memory = Unit {0}

-- A part's first fault, told as a refusal: never for want of memory.
abbrev pub Tells : Refused → Option Fault → Type 0
Tells (Breaks rule address left right) fault = fault ≡ Some (record { rule = rule; address = address; left = left; right = right })
Tells Memory fault = ⊥

-- Every run of a device that is loaded with the image, whose refills each reach the budget, is safe at each moment.
abbrev pub RunsSafely : List Block → Certificate → Board → Type 0
RunsSafely blocks c b =
    (input : List ℕ) (s : State) (events : List Event) (m : Moment) →
    All (λ w. w < 65536) input → IsFirst s → HoldsBlocks s blocks → Generous b.budget events → MomentRun b input (first s) events m → Safe c.stretches b m

-- So is every run of the machine itself: it is what a moment has run that the same events lead to, with what was written and read on the way.
abbrev pub EveryRunIsSafe : List Block → Certificate → Board → Type 0
EveryRunIsSafe blocks c b =
    (input : List ℕ) (events : List Event) (t : Trail) →
    All (λ w. w < 65536) input → Generous b.budget events → (run : RunOf blocks b input events t) →
    (m : Moment) × (m.trail ≡ t) × MomentRun b input (first run.0) events m × Safe c.stretches b m
