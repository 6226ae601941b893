use Rattle.std.proofs.Common.{◌∙◌, Option, List}
use Rattle.c_values.specs.declared.ops.Ty.{Ty}
use Rattle.c_typing.specs.declared.value.Parameter.{Parameter}
use Rattle.c_typing.specs.Parts.{Part, either}
use Rattle.c_typing.specs.Judged.{is_token}
use Rattle.c_typing.specs.Programs.{judged}
use Rattle.c_typing.specs.Functions as spec
use Rattle.c_statements.proofs.Declarators.{makes_same}
use Rattle.c_types.proofs.functions.function_made.Goals as goal

pub returns : goal.returns
returns c =
    let ended : Option Ty → List Parameter → Part (Unit {0}) = λ r ps. either (is_token (judged c.args.ending.now)) (spec.prototype r (judged c.args.name.now) ps) (spec.definition r (judged c.args.name.now) ps (judged c.args.ending.now)) in
    makes_same (ended c.result_of.result c.as_slice.result.now) (ended (spec.result_of (judged c.args.ty.now)) (judged c.args.list.now).params) c.args.state.now c.function_ended.result c.function_ended.new.state
    (λ i. ended (c.result_of.ensures i) ((c.as_slice.ensures ∙ c.in_ok-ps.ensures) i)) c.function_ended.ensures
