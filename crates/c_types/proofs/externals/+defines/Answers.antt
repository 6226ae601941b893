use Rattle.std.proofs.Common.{◌∙◌, ap, map}
use Rattle.c_typing.specs.Judged.{Judged}
use Rattle.c_typing.specs.Programs.{judged}
use Rattle.c_typing.proofs.Judging.{judged_leaf, judged_node}
use Rattle.c_types.proofs.Behind.{nothing_behind, other_defines}
use Rattle.c_types.proofs.externals.+defines.Goals as goal

pub add_defines-returns-in-Leaf : goal.add_defines-returns-in-Leaf
add_defines-returns-in-Leaf t c = nothing_behind c.args.done.now (judged c.args.raw.now).defines (ap (λ (j : Judged). j.defines) (ap judged c.in-Leaf.is ∙ judged_leaf c.in-Leaf.kind c.in-Leaf.text c.in-Leaf.place))

pub add_defines-returns-in_default : goal.add_defines-returns-in_default
add_defines-returns-in_default t c =
    nothing_behind c.args.done.now (judged c.args.raw.now).defines
    (ap (λ (j : Judged). j.defines) (ap judged c.in-Node.is ∙ judged_node c.in-Node.rule c.in-Node.parts) ∙ other_defines c.in-Node.rule (map judged c.in-Node.parts) c.in_default.not-Program c.in_default.not-External)
