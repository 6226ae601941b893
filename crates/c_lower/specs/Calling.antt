-- Which functions are reached, by a table of calls.
use Rattle.std.specs.Prelude.{ℕ, ◌+◌, Bool, false, ◌||◌, ◌&&◌, List, [], ◌∷◌, slice_index_or}
use Rattle.c_tree.specs.declared.tree.Function.{Function}
use Rattle.c_tree.specs.declared.tree.Program.{Program}
use Rattle.lowered_graphs.specs.Stmts.{holds}
use Rattle.lowered_graphs.specs.GraphOf.{function_callees}

-- which of the functions, the first of them numbered n, call f
abbrev pub row : Program → ℕ → ℕ → List Function → List Bool
row p f n [] = []
row p f n (x ∷ xs) = holds f (function_callees p n x) ∷ row p f (n + 1) xs

-- the rows of the functions from f on
abbrev pub table : Program → ℕ → List Function → List (List Bool)
table p f [] = []
table p f (x ∷ xs) = row p f 0 p.functions ∷ table p (f + 1) xs

-- whether one of these that is set is marked; the first has the number n
abbrev pub any_marked : List Bool → ℕ → List Bool → Bool
any_marked marks n [] = false
any_marked marks n (b ∷ bs) = (slice_index_or marks n false && b) || any_marked marks (n + 1) bs

abbrev pub marked_by : List Bool → ℕ → List (List Bool) → List Bool
marked_by marks n [] = []
marked_by marks n (r ∷ rs) = (slice_index_or marks n false || any_marked marks 0 r) ∷ marked_by marks (n + 1) rs
