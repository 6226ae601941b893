-- The sweep, one head or one step on.
use Rattle.std.proofs.Common.{◌≡◌, ℕ, ◌+◌, ◌<◌, true, false, Option, subst, arith}
use Rattle.std.specs.Option.{option_map}
use Rattle.cert_state.specs.Views.{known_of}
use Rattle.cert_rules.specs.Known.{Known}
use Rattle.cert_rules.specs.Sheet.{Sheet, is_head}
use Rattle.cert_rules.specs.Standing.{standing, bytes_of}
use Rattle.cert_rules.specs.Sweep.{Swept, head_fails, head, fails, step}
use Rattle.cert_state.specs.Shown.{fault_of}
use Rattle.cert_sweep.specs.declared.sweeping.Advance.{Advance}
use Rattle.cert_sweep.specs.declared.sweeping.Advance.TheVariants.{Stops, Comes}
use Rattle.cert_sweep.specs.Stepping.{Advances, PassesHead, PassesStep}
use Rattle.cert_sweep.proofs.Total.{some_bytes, few_bytes}

pub by_head : (t : Sheet) (a : ℕ) (incoming : Option Known) (v : Advance) → a < t.here.end → is_head t a ≡ true → PassesHead t a v → Advances t a incoming v
by_head t a incoming (Stops f) low is h = head_fails a incoming (fault_of f) low is h
by_head t a incoming (Comes next s) low is h = (
  omega (arith, h.1),
  omega (arith, h.1),
  λ verdict rest. head a incoming verdict low is h.0 (subst (λ k. Swept t (a + 22) k verdict) h.2 (subst (λ n. Swept t n (option_map known_of s) verdict) h.1 rest)),
)

pub by_step : (t : Sheet) (a : ℕ) (incoming : Option Known) (v : Advance) → a < t.here.end → is_head t a ≡ false → PassesStep t a incoming v → Advances t a incoming v
by_step t a incoming (Stops f) low off h = fails a incoming (fault_of f) low off h
by_step t a incoming (Comes next s) low off h = (
  omega (arith, h.1, some_bytes (standing t a)),
  omega (arith, h.1, few_bytes (standing t a)),
  λ verdict rest. step a incoming verdict low off h.0 (subst (λ k. Swept t (a + bytes_of (standing t a)) k verdict) h.2 (subst (λ n. Swept t n (option_map known_of s) verdict) h.1 rest)),
)
