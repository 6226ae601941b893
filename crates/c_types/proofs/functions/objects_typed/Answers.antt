use Rattle.std.proofs.Common.{map, subst}
use Rattle.c_typing.specs.declared.value.Base.{Base}
use Rattle.c_typing.specs.Parts.{Makes}
use Rattle.c_typing.specs.Programs.{judged}
use Rattle.c_typing.specs.Declarations as spec
use Rattle.c_types.proofs.functions.objects_typed.Goals as goal

pub returns : goal.returns
returns c = subst (λ (base : Base). Makes (spec.declare_each_global base (map judged c.args.rest.now)) c.args.state.now c.declare_each_global.result c.declare_each_global.new.state) c.based.ensures c.declare_each_global.ensures
