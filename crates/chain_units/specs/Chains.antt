-- The chains of a graph: which operations stand between two heads that are there in any case.
use Rattle.std.specs.Prelude.{ℕ, ◌+◌, ◌==◌, Option, Some, None, List, [], ◌∷◌, ◌++◌, length, slice_get, ◌||◌, if◌then◌else◌}
use Rattle.flow_graph.specs.declared.graph.Item.{Item}
use Rattle.flow_graph.specs.declared.graph.Func.{Func}
use Rattle.flow_graph.specs.Nodes.{around_body}
use Rattle.chain_units.specs.Known.{Known}
use Rattle.chain_units.specs.Marks.{Alone, Closes, Joins, Mark, ChainUnit, marks_of, placed_items}

-- A chain: units one behind the other, at most 32; or a conditional loop with the number of the operation behind it.
pub data PlacedChain : Type 0 where
  Plain : List ChainUnit → PlacedChain
  Turning : Item → ℕ → PlacedChain

-- the chain that is open closes
abbrev pub closed : List ChainUnit → List PlacedChain
closed [] = []
closed (u ∷ us) = Plain (u ∷ us) ∷ []

-- the chains of marks, behind the units of the chain that is open; a chain closes at 32 units
abbrev pub cut : List ChainUnit → List Mark → List PlacedChain
cut units [] = closed units
cut units (Joins u ∷ ms) = if length units == 31 then Plain (units ++ u ∷ []) ∷ cut [] ms else cut (units ++ u ∷ []) ms
cut units (Closes ∷ ms) = closed units ++ cut [] ms
cut units (Alone x n ∷ ms) = closed units ++ Turning x n ∷ cut [] ms

-- a chain with the function that it is of
pub record Of : Type 0 where
  pub function : ℕ
  pub chain : PlacedChain

abbrev pub all_of : ℕ → List PlacedChain → List Of
all_of f [] = []
all_of f (c ∷ cs) = record { function = f; chain = c } ∷ all_of f cs

-- the chains of a function's body
abbrev pub body_chains : Known → ℕ → List Item → List Of
body_chains k f body = all_of f (cut [] (marks_of k (placed_items k body) around_body))

abbrev pub function_chains : Known → ℕ → Option Func → List Of
function_chains k f None = []
function_chains k f (Some func) = body_chains k f func.body

-- the chains of a split function but `main`
abbrev pub other_chain : Known → ℕ → Func → List Of
other_chain k f func = if (f == k.graph.main) || k.is_flat f then [] else body_chains k f func.body

-- those of all of these, from a number on
abbrev pub other_chains : Known → ℕ → List Func → List Of
other_chains k f [] = []
other_chains k f (func ∷ more) = other_chain k f func ++ other_chains k (f + 1) more

-- The chains of a graph in the order of their numbers, from 1: those of `main`, and then of each other split function in the order of the text.
abbrev pub chains : Known → List Of
chains k = function_chains k k.graph.main (slice_get k.graph.functions k.graph.main) ++ other_chains k 0 k.graph.functions
