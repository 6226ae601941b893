-- All rules of one step of the sweep, in their order.
use Rattle.std.specs.Prelude.{ℕ, ◌+◌, ◌*◌, true, [], ◌∷◌, Option, Some, None}
use Rattle.std.specs.Option.{option_or}
use Rattle.msp430_isa.specs.declared.instr.Instr.{Instr}
use Rattle.msp430_isa.specs.Encoding.{length_of}
use Rattle.cert_rules.specs.Faults.{Fault, first_fault}
use Rattle.cert_rules.specs.Known.{Known}
use Rattle.cert_rules.specs.Places.{InReach}
use Rattle.cert_rules.specs.Forms.{Kind, Computes, kind_of}
use Rattle.cert_rules.specs.Sheet.{Sheet}
use Rattle.cert_rules.specs.Standing.{Standing, ACopy, AnInstruction, Nothing, standing, bytes_of}
use Rattle.cert_rules.specs.Shapes.{gap_fault, turns_at, counter_of, turns_fault, form_fault}
use Rattle.cert_rules.specs.Accesses.{sets_fault, access_faults}
use Rattle.cert_rules.specs.Calls.{call_fault}
use Rattle.cert_rules.specs.Outcomes.{Outcome, Ends, may_end, outcome_of}
use Rattle.cert_rules.specs.Going.{going_fault, falls_with}
use Rattle.cert_rules.specs.Copies.{copied_to, copy_fault, copied}

abbrev pub step_outcome : Sheet → ℕ → Known → Standing → Outcome
step_outcome t a κ (ACopy c) = may_end true (InReach (copied_to c)) (copied t.board c κ)
step_outcome t a κ (AnInstruction i) = outcome_of t (a + 2 * length_of i) κ i (kind_of i)
step_outcome t a κ Nothing = Ends κ

abbrev pub own_fault_by : Sheet → ℕ → Known → Instr → Kind → Option Fault
own_fault_by t a κ i Computes = option_or (sets_fault a κ i) (access_faults t a κ i)
own_fault_by t a κ i kind = option_or (sets_fault a κ i) (call_fault t a kind)

abbrev pub own_fault : Sheet → ℕ → Known → Standing → Option Fault
own_fault t a κ (ACopy c) = copy_fault t a κ c
own_fault t a κ (AnInstruction i) = own_fault_by t a κ i (kind_of i)
own_fault t a κ Nothing = None

abbrev pub standing_fault : Sheet → ℕ → Known → Standing → Option Fault
standing_fault t a κ s = first_fault (
    form_fault t a s
    ∷ own_fault t a κ s
    ∷ going_fault t κ.stretch a (a + bytes_of s) (step_outcome t a κ s)
    ∷ [])

abbrev pub known_fault : Sheet → ℕ → Option Known → Standing → Option Fault
known_fault t a None s = None
known_fault t a (Some κ) s = standing_fault t a κ s

-- all rules of the step at an address, with what comes to it
abbrev pub step_fault : Sheet → ℕ → Option Known → Option Fault
step_fault t a incoming =
    let s = standing t a in
    first_fault (
    gap_fault t a (bytes_of s) incoming
    ∷ turns_fault a (counter_of s) (turns_at t (a + bytes_of s))
    ∷ known_fault t a incoming s
    ∷ [])

abbrev pub step_leaves : Sheet → ℕ → Option Known → Option Known
step_leaves t a None = None
step_leaves t a (Some κ) = falls_with (step_outcome t a κ (standing t a))
