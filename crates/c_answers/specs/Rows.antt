-- Which functions are reached from which, as rows of marks.
use Rattle.std.specs.Prelude.{◌≡◌, ℕ, zero, suc, ◌<◌, List, [], ◌∷◌, ◌++◌, Bool, true, false, not, ◌&&◌, ◌||◌, if◌then◌else◌, replicate, slice_index_or, slice_set, length, All, Option, Some, None}
use Rattle.std.specs.List.{HoldsAt}
use Rattle.c_typing.specs.declared.call_site.CallSite.{CallSite}
use Rattle.c_typing.specs.Cycles.{Reaches}

-- the mark of a function in a row
abbrev pub mark : List Bool → ℕ → Bool
mark row b = slice_index_or row b false

abbrev pub row_at : List (List Bool) → ℕ → List Bool
row_at rows a = slice_index_or rows a []

-- A row behind a call of v in u: what v reaches, by its row `target`, is reached where u is.
abbrev pub joined_mark : ℕ → ℕ → List Bool → List Bool → ℕ → Bool
joined_mark u v target row b = if mark row u && not (mark row v) then (mark row b || mark target b) else mark row b

pub record IsJoined (u v : ℕ) (target old new : List Bool) : Type 0 where
  pub size : length new ≡ length old
  pub marks : (b : ℕ) → b < length old → mark new b ≡ joined_mark u v target old b

-- a row that marks one function
abbrev pub own_row : ℕ → ℕ → List Bool
own_row functions a = slice_set (replicate functions false) a true

-- the first rows of a program without calls
abbrev pub own_rows : ℕ → ℕ → List (List Bool)
own_rows functions zero = []
own_rows functions (suc a) = own_rows functions a ++ own_row functions a ∷ []

-- the rows mark just what is reached by these calls
pub record Exact (calls : List CallSite) (functions : ℕ) (rows : List (List Bool)) : Type 0 where
  pub height : length rows ≡ functions
  pub width : (a : ℕ) → a < functions → length (row_at rows a) ≡ functions
  pub sound : (a b : ℕ) → a < functions → b < functions → mark (row_at rows a) b ≡ true → Reaches calls a b
  pub whole : (a b : ℕ) → a < functions → b < functions → Reaches calls a b → mark (row_at rows a) b ≡ true

-- the caller of a call is marked in the row of its callee
abbrev pub is_marked : List (List Bool) → CallSite → Bool
is_marked rows call = mark (row_at rows call.callee) call.caller

-- the first call whose caller is marked so, or none where none is
abbrev pub IsFirstMarked : List (List Bool) → List CallSite → Option ℕ → Type 0
IsFirstMarked rows calls None = All (λ call. is_marked rows call ≡ false) calls
IsFirstMarked rows calls (Some i) = (i < length calls) × HoldsAt (λ call. is_marked rows call ≡ true) calls i × ((k : ℕ) → k < i → HoldsAt (λ call. is_marked rows call ≡ false) calls k)
