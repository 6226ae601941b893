use Rattle.std.proofs.Common.{refl}
use Rattle.c_typing.proofs.Judging.{judged_leaf, judged_node}
use Rattle.c_expressions.proofs.trees.rule.Goals as goal

pub returns-in-Leaf : goal.returns-in-Leaf
returns-in-Leaf c = rw (c.in-Leaf.is, judged_leaf) refl

pub returns-in-Node : goal.returns-in-Node
returns-in-Node c = rw (c.in-Node.is, judged_node) refl
