-- The keys of a document that no board has.
use Rattle.std.specs.Prelude.{◌≡◌, false, [], ◌∷◌, Option, Some, None, IsSome, option_and_then}
use Rattle.std.specs.Ordering.{nat_cmp, is_lt}
use Rattle.std.specs.Cmp.Lexicographic.{slice_cmp}
use Rattle.toml.specs.Data.{Data, table, Members, get}
use Rattle.board_table.specs.Keys.{Path, Text, is_board_path, written}

-- what stands at the end of a path
abbrev pub found : Path → Data → Option Data
found [] d = Some d
found (k ∷ ks) d = option_and_then (found ks) (get k d)

-- the text is the written path of a key of the document that no board has: the name of a table is a key too, and what an array holds is a value
pub record IsOtherPath (ms : Members) (t : Text) : Type 0 where
  pub path : Path
  pub key : IsSome (found path (table ms))
  pub other : is_board_path path ≡ false
  pub text : written path ≡ t

-- b is not below a, byte by byte
abbrev pub AtMost : Text → Text → Type 0
AtMost a b = is_lt (slice_cmp nat_cmp b a) ≡ false

-- the least text of which P holds, or none where P holds of none
abbrev pub IsLeast : (Text → Type 0) → Option Text → Type 0
IsLeast P None = (t : Text) → P t → ⊥
IsLeast P (Some t) = P t × ((s : Text) → P s → AtMost t s)

-- the least of the other keys, or none
abbrev pub IsLeastOther : Members → Option Text → Type 0
IsLeastOther ms o = IsLeast (IsOtherPath ms) o
