use Rattle.std.proofs.Common.{refl, sym, map}
use Rattle.c_typing.proofs.Judging.{judged_leaf, judged_node, other_ty}
use Rattle.c_typing.specs.Programs.{judged}
use Rattle.c_expressions.proofs.trees.type_of.Goals as goal

pub returns-in-Leaf : goal.returns-in-Leaf
returns-in-Leaf c = rw (c.in-Leaf.is, judged_leaf) refl

pub returns-in-TypeName : goal.returns-in-TypeName
returns-in-TypeName c = rw (c.in-Node.is, judged_node, c.in-TypeName.is, ← c.as_slice.ensures) c.type_of_words.ensures

pub returns-in_default : goal.returns-in_default
returns-in_default c = rw (c.in-Node.is, judged_node) (sym (other_ty c.in-Node.rule (map judged c.in-Node.parts) c.in_default.not-TypeName))
