-- The functions that so many calls lead to, as a list that marks them.
use Rattle.std.specs.Prelude.{ℕ, ◌≡◌, ◌<◌, ◌==◌, ◌&&◌, ◌||◌, ◌↔◌, Bool, true, false, List, [], ◌∷◌, length, slice_index_or}
use Rattle.flow_graph.specs.declared.nodes.Next.{Next}
use Rattle.flow_graph.specs.declared.nodes.Next.TheVariants.{Into}
use Rattle.flow_graph.specs.declared.owned.Owned.{Owned}
use Rattle.call_depth.specs.Depth.{Lead}

abbrev pub is_marked : List Bool → ℕ → Bool
is_marked marks f = slice_index_or marks f false

abbrev pub calls_it : Next → ℕ → Bool
calls_it (Into f n) h = f == h
calls_it _ h = false

-- one of these operations, of a function that is marked, calls it
abbrev pub called_in : List Owned → List Bool → ℕ → Bool
called_in [] callers f = false
called_in (x ∷ xs) callers f = (is_marked callers x.function && calls_it x.node.next f) || called_in xs callers f

abbrev pub some_marked : List Bool → Bool
some_marked [] = false
some_marked (mark ∷ marks) = mark || some_marked marks

-- of so many functions just those are marked that so many calls lead to
pub record IsLevel (ops : List Owned) (count function depth : ℕ) (marks : List Bool) : Type 0 where
  pub so_many : length marks ≡ count
  pub marked : (f : ℕ) → f < count → (is_marked marks f ≡ true) ↔ Lead ops function depth f
  -- and there is one
  pub some : ℕ
  pub some_there : some < count
  pub leads : Lead ops function depth some

-- calls lead to functions that there are, and fewer of them than functions lead on
pub record AreWithin (ops : List Owned) (count function : ℕ) : Type 0 where
  pub there : (n to : ℕ) → Lead ops function n to → to < count
  pub few : (n to : ℕ) → Lead ops function n to → n < count
