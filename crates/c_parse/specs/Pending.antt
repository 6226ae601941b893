-- Operators that wait for their right operands, the last first.
use Rattle.std.specs.Prelude.{List, [], ◌∷◌, cond, nat_lt}
use Rattle.c_parse.specs.declared.raw.Raw.{Raw}
use Rattle.c_parse.specs.declared.raw.Raw.TheVariants.{Node}
use Rattle.c_parse.specs.declared.raw.RawRule.TheVariants.{Binary}
use Rattle.c_parse.specs.declared.grouping.Pending.{Pending}
use Rattle.c_parse.specs.Precedence.{level_of}

-- The tree where nothing more comes behind this one.
abbrev pub folded : List Pending → Raw → Raw
folded [] tree = tree
folded (last ∷ before) tree = folded before (Node Binary (last.left ∷ last.operator ∷ tree ∷ []))

-- What still waits where this operator comes behind the tree, and the operator's left operand.
abbrev pub reduced : Raw → List Pending → Raw → List Pending × Raw
reduced operator [] tree = ([], tree)
reduced operator (last ∷ before) tree =
    cond (nat_lt (level_of last.operator) (level_of operator)) (last ∷ before, tree) (reduced operator before (Node Binary (last.left ∷ last.operator ∷ tree ∷ [])))
