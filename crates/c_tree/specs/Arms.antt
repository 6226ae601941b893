-- The parts of levels that have functions of their own.
use Rattle.std.specs.Prelude.{ℕ, [], List, Option, slice_get}
use Rattle.c_tree.specs.declared.tree.Expr.{Expr}
use Rattle.c_tree.specs.declared.tree.Action.{Action}
use Rattle.c_tree.specs.declared.tree.Stmt.{Stmt}
use Rattle.c_tree.specs.declared.tree.ForFirst.{ForFirst}
use Rattle.c_tree.specs.declared.tree.Group.{Group}
use Rattle.c_tree.specs.declared.tree.Program.{Program}
use Rattle.c_tree.specs.declared.leaving.Leaving.{Leaving}
use Rattle.c_tree.specs.declared.leaving.Leaving.TheVariants.{Next, Returned}
use Rattle.c_tree.specs.Runs.{Part, ◌>>=◌, ◌>>◌, pure, put}
use Rattle.c_tree.specs.Nodes.{Within, values_onto, enter, act_by, value_or, arm_by, first_by, switch_by}

-- a word put; the value of that is 0
abbrev pub shown_by : ℕ → Part ℕ
shown_by w = put w >> pure 0

-- a call with its arguments
abbrev pub called_by : Program → Within → ℕ → List Expr → Part ℕ
called_by p d f args = values_onto d.expr [] args >>= enter d.stmt (slice_get p.functions f)

-- an action as a statement
abbrev pub acted_by : Program → Within → Action → Part Leaving
acted_by p d a = act_by p d.expr a >> pure Next

-- a `return`
abbrev pub returned_by : Within → Option Expr → Part Leaving
returned_by d e = value_or d.expr 0 e >>= (λ w. pure (Returned w))

-- an `if`
abbrev pub if_by : Within → Expr → Stmt → Option Stmt → Part Leaving
if_by d c a b = d.expr c >>= arm_by d.stmt a b

-- a `for`
abbrev pub for_by : Program → Within → Stmt → Option ForFirst → Part Leaving
for_by p d s f = first_by p d.expr f >> d.turns s

-- a `switch`
abbrev pub switch_on : Program → Within → Expr → List Group → Part Leaving
switch_on p d e groups = d.expr e >>= switch_by p d groups
