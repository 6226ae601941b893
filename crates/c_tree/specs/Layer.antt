-- One level of the tree. `out-X` opens one level of an X, and X-F is that level: its parts are whole expressions, statements and items.
use Rattle.c_tree.specs.declared.tree.Expr.{Expr}
use Rattle.c_tree.specs.declared.tree.ExprKind.{ExprKind}
use Rattle.c_tree.specs.declared.tree.ExprKind.TheOpen.{ExprKind-F}
use Rattle.c_tree.specs.declared.tree.Stmt.{Stmt}
use Rattle.c_tree.specs.declared.tree.StmtKind.{StmtKind}
use Rattle.c_tree.specs.declared.tree.Group.{Group}
use Rattle.c_tree.specs.declared.tree.BlockItem.{BlockItem}
use Rattle.c_tree.specs.declared.tree.BlockItem.TheOpen.{StmtKind-F, BlockItem-F}

abbrev pub ExprLayer : Type 0
ExprLayer = ExprKind-F ExprKind Expr

abbrev pub StmtLayer : Type 0
StmtLayer = StmtKind-F BlockItem StmtKind Group Stmt

abbrev pub ItemLayer : Type 0
ItemLayer = BlockItem-F BlockItem StmtKind Group Stmt
