use Rattle.std.proofs.Common.{ap, true, ◌∙◌}
use Rattle.cert_rules.specs.Copies.{copied_to}
use Rattle.cert_rules.specs.Outcomes.{may_end}
use Rattle.cert_rules.specs.Places.{InReach}
use Rattle.cert_state.specs.Views.{known_of}
use Rattle.cert_sweep.specs.Views.{copy_shown}
use Rattle.cert_sweep.proofs.steps.copy_outcome.Goals as goal

pub returns : goal.returns
returns c =
    c.may_end-outcome.ensures
    ∙ ap (λ p. may_end true p (known_of c.copied.new.s)) c.copied_to-to.ensures
    ∙ ap (may_end true (InReach (copied_to (copy_shown c.args.c)))) c.in_ok-copied.ensures
