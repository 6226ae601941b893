-- Which functions are reached, by a table of calls.
use Rattle.std.proofs.Common.{◌≡◌, ℕ, ◌+◌, refl, ap, ◌∙◌, Bool, false, List, [], ◌∷◌}
use Rattle.std.specs.Prelude.{◌||◌, ◌&&◌, slice_index_or}
use Rattle.c_tree.specs.declared.tree.Function.{Function}
use Rattle.c_tree.specs.declared.tree.Program.{Program}
use Rattle.lowered_graphs.specs.Stmts.{holds}
use Rattle.lowered_graphs.specs.GraphOf.{function_callees, is_called, mark_on}
use Rattle.c_lower.specs.Calling.{row, table, any_marked, marked_by}

called_by : (p : Program) (marks : List Bool) (f n : ℕ) (xs : List Function) → any_marked marks n (row p f n xs) ≡ is_called p marks f n xs
called_by p marks f n [] = refl
called_by p marks f n (x ∷ xs) = ap (λ b. (slice_index_or marks n false && holds f (function_callees p n x)) || b) (called_by p marks f (n + 1) xs)

pub marked : (p : Program) (marks : List Bool) (n : ℕ) (xs : List Function) → marked_by marks n (table p n xs) ≡ mark_on p marks n xs
marked p marks n [] = refl
marked p marks n (x ∷ xs) = ap (λ b. (slice_index_or marks n false || b) ∷ marked_by marks (n + 1) (table p (n + 1) xs)) (called_by p marks n 0 p.functions)
    ∙ ap (λ l. (slice_index_or marks n false || is_called p marks n 0 p.functions) ∷ l) (marked p marks (n + 1) xs)
