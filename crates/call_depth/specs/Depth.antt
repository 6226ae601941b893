-- How deep calls nest below a function.
use Rattle.std.specs.Prelude.{ℕ, zero, suc, ◌≡◌, ◌≤◌, List}
use Rattle.flow_graph.specs.declared.nodes.Next.TheVariants.{Into}
use Rattle.flow_graph.specs.declared.owned.Owned.{Owned}
use Rattle.flow_graph.specs.Owned.{IsAt}

-- one of these operations is a function's, and calls another function
pub record Calls (ops : List Owned) (caller callee : ℕ) : Type 0 where
  pub number : ℕ
  pub op : Owned
  pub is_there : IsAt ops number op
  pub own : op.function ≡ caller
  pub behind : ℕ
  pub calls : op.node.next ≡ Into callee behind

-- so many calls, each made while the one before it goes on, lead from a function to another
abbrev pub Lead : List Owned → ℕ → ℕ → ℕ → Type 0
Lead ops from zero to = from ≡ to
Lead ops from (suc n) to = (last : ℕ) × Lead ops from n last × Calls ops last to

-- so many calls nest below a function, and no more
pub record IsDeepest (ops : List Owned) (function depth : ℕ) : Type 0 where
  pub innermost : ℕ
  pub nests : Lead ops function depth innermost
  pub no_deeper : (n to : ℕ) → Lead ops function n to → n ≤ depth
