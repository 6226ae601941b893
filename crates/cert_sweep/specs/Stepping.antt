-- What a step of the sweep answers, and what the sweep asks of the rows.
use Rattle.std.specs.Prelude.{ℕ, ◌≡◌, ◌+◌, ◌<◌, ◌≤◌, true, Option, Some, None}
use Rattle.std.specs.Option.{option_map}
use Rattle.certificate.specs.Rows.{Point}
use Rattle.certificate.specs.Grammar.{IsPoint}
use Rattle.cert_rules.specs.Faults as rules
use Rattle.cert_rules.specs.Known.{Known}
use Rattle.cert_rules.specs.Tables.{point_at}
use Rattle.cert_rules.specs.Sheet.{Sheet, is_head}
use Rattle.cert_rules.specs.Standing.{Standing, standing, bytes_of}
use Rattle.cert_rules.specs.Going.{falls_with}
use Rattle.cert_rules.specs.Steps.{step_outcome, step_fault, step_leaves}
use Rattle.cert_rules.specs.Sweep.{Swept, head_step_fault, behind_head, known_here}
use Rattle.cert_state.specs.Shown.{fault_of}
use Rattle.cert_state.specs.Views.{known_of}
use Rattle.cert_sweep.specs.declared.steps.Step.{Step}
use Rattle.cert_sweep.specs.declared.steps.Step.TheVariants.{Breaks, Goes}
use Rattle.cert_sweep.specs.declared.sweeping.Advance.{Advance}
use Rattle.cert_sweep.specs.declared.sweeping.Advance.TheVariants.{Stops, Comes}

-- the first rule that fails, or, where none does, what is known behind
abbrev pub TakesStep : Step → Option rules.Fault → Option Known → Type 0
TakesStep (Breaks f) fault leaves = fault ≡ Some (fault_of f)
TakesStep (Goes s) fault leaves = (fault ≡ None) × (option_map known_of s ≡ leaves)

abbrev pub leaves_from : Sheet → ℕ → Standing → Option Known → Option Known
leaves_from t a s None = None
leaves_from t a s (Some κ) = falls_with (step_outcome t a κ s)

-- The sweep ends here with this fault; or it ends as it does from a later address on.
abbrev pub Advances : Sheet → ℕ → Option Known → Advance → Type 0
Advances t a incoming (Stops f) = Swept t a incoming (Some (fault_of f))
Advances t a incoming (Comes next s) = (a < next) × (next ≤ a + 22) × ((verdict : Option rules.Fault) → Swept t next (option_map known_of s) verdict → Swept t a incoming verdict)

-- a head is passed over, or its going on fails
abbrev pub PassesHead : Sheet → ℕ → Advance → Type 0
PassesHead t a (Stops f) = head_step_fault t a ≡ Some (fault_of f)
PassesHead t a (Comes next s) = (head_step_fault t a ≡ None) × (next ≡ a + 22) × (option_map known_of s ≡ Some (behind_head t a))

-- a step is taken, or a rule fails
abbrev pub PassesStep : Sheet → ℕ → Option Known → Advance → Type 0
PassesStep t a incoming (Stops f) = step_fault t a (known_here t a incoming) ≡ Some (fault_of f)
PassesStep t a incoming (Comes next s) =
    (step_fault t a (known_here t a incoming) ≡ None) × (next ≡ a + bytes_of (standing t a)) × (option_map known_of s ≡ step_leaves t a (known_here t a incoming))

-- each head lies below the end of memory, and each point is one of a certificate
pub record IsReady (t : Sheet) : Type 0 where
  pub heads : (a : ℕ) → is_head t a ≡ true → a + 22 ≤ 65535
  pub points : (a : ℕ) (p : Point) → point_at t.points a ≡ Some p → IsPoint p
