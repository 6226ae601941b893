-- The variables that the parts of a statement declare.
use Rattle.std.specs.Prelude.{ℕ, ◌++◌, Option, List, [], ◌∷◌, map}
use Rattle.std.specs.Option.{option_map}
use Rattle.c_tree.specs.declared.tree.Stmt.{Stmt}
use Rattle.c_tree.specs.declared.tree.Group.{Group}
use Rattle.c_tree.specs.declared.tree.BlockItem.{BlockItem}
use Rattle.lowered_graphs.specs.Stmts.{Within, lowered_stmt, lowered_item, all_in, all_of}

abbrev pub items_locals : Within → List BlockItem → List ℕ
items_locals w items = all_of (λ x. x.locals) (map (lowered_item w) items)

abbrev pub groups_locals : Within → List Group → List ℕ
groups_locals w [] = []
groups_locals w (g ∷ gs) = items_locals w g.items ++ groups_locals w gs

abbrev pub opt_locals : Within → Option Stmt → List ℕ
opt_locals w y = all_in (λ z. z.locals) (option_map (lowered_stmt w) y)
