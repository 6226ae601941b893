use Rattle.std.proofs.Common.{[], map, subst}
use Rattle.c_typing.specs.declared.value.Base.{Base}
use Rattle.c_typing.specs.Parts.{Makes}
use Rattle.c_typing.specs.Programs.{judged}
use Rattle.c_typing.specs.Declarations as spec
use Rattle.c_statements.proofs.declarations.declare_typed.Goals as goal

pub returns : goal.returns
returns c = subst (λ (base : Base). Makes (spec.declare_each base [] (map judged c.args.rest.now)) c.args.state.now c.declare_each.result c.declare_each.new.state) c.based.ensures c.declare_each.ensures
