use Rattle.std.proofs.Common.{rules, sym, ◌∙◌}
use denote.Enum.Bare.{same_true}
use Rattle.c_parse.specs.contracts.class.Class.{the_type}
use Rattle.c_parse.proofs.machine.is_same.Goals as goal

pub returns-clause-same : goal.returns-clause-same
returns-clause-same c = λ h. same_true the_type (search rules) _ _ (sym c.eq.ensures ∙ h)
