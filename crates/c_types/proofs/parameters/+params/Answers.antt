use Rattle.std.proofs.Common.{◌∙◌, ap, map}
use Rattle.c_typing.specs.Judged.{Judged}
use Rattle.c_typing.specs.Programs.{judged}
use Rattle.c_typing.proofs.Judging.{judged_leaf, judged_node}
use Rattle.c_types.proofs.Behind.{nothing_behind, other_params}
use Rattle.c_types.proofs.parameters.+params.Goals as goal

pub add_params-returns-in-Leaf : goal.add_params-returns-in-Leaf
add_params-returns-in-Leaf t c = nothing_behind c.args.done.now (judged c.args.raw.now).params (ap (λ (j : Judged). j.params) (ap judged c.in-Leaf.is ∙ judged_leaf c.in-Leaf.kind c.in-Leaf.text c.in-Leaf.place))

pub add_params-returns-in_default : goal.add_params-returns-in_default
add_params-returns-in_default t c =
    nothing_behind c.args.done.now (judged c.args.raw.now).params
    (ap (λ (j : Judged). j.params) (ap judged c.in-Node.is ∙ judged_node c.in-Node.rule c.in-Node.parts) ∙ other_params c.in-Node.rule (map judged c.in-Node.parts) c.in_default.not-Params c.in_default.not-Param)
