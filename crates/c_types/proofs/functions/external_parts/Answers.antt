use Rattle.std.proofs.Common.{List, subst}
use Rattle.c_typing.specs.Judged.{Judged}
use Rattle.c_typing.specs.Parts.{Makes}
use Rattle.c_typing.specs.Functions as spec
use Rattle.c_types.proofs.functions.external_parts.Goals as goal

pub returns : goal.returns
returns c = subst (λ (l : List Judged). Makes (spec.declared_by l) c.args.state.now c.declared.result c.declared.new.state) c.unstatic.ensures c.declared.ensures
