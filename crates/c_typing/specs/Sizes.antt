-- How many tokens and nodes a tree has.
use Rattle.std.specs.Prelude.{ℕ, ◌+◌, List, [], ◌∷◌, map}
use Rattle.c_parse.specs.declared.raw.Raw.{Raw}
use Rattle.c_parse.specs.declared.raw.Raw.TheOpen.{Raw-F}
use Rattle.c_parse.specs.declared.raw.Raw.TheFolds.{fold-Raw}

abbrev pub sum_of : List ℕ → ℕ
sum_of [] = 0
sum_of (n ∷ ns) = n + sum_of ns

abbrev pub size_by : Raw-F ℕ → ℕ
size_by (Raw-F.Leaf kind text place) = 1
size_by (Raw-F.Node rule parts) = 1 + sum_of parts

unfoldable pub size : Raw → ℕ
size raw = fold-Raw ℕ size_by raw

-- of several trees
abbrev pub total : List Raw → ℕ
total raws = sum_of (map size raws)
