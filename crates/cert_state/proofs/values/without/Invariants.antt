use Rattle.std.proofs.Common.{◌≡◌, take}
use Rattle.std.specs.Prelude.{filter, not}
use Rattle.cert_state.specs.Views.{hit_by}
use Rattle.cert_state.proofs.values.without.Given as goal

-- what is kept of the ranges so far
abbrev pub invariant-loop-held : goal.invariant-loop-held
invariant-loop-held l = l.kept.items ≡ filter (λ h. not (hit_by l.hit h.of)) (take l.held-index l.values)
