-- Lists of trees, taken apart from the front.
use Rattle.std.specs.Prelude.{ℕ, ◌+◌, List, [], ◌∷◌}
use Rattle.c_parse.specs.declared.raw.Raw.{Raw}
use Rattle.c_typing.specs.Sizes.{size, total}
use Rattle.c_expressions.specs.declared.trees.Fronted.{Fronted}
use Rattle.c_expressions.specs.declared.trees.Fronted.TheVariants as front

abbrev pub items_of : Fronted → List Raw
items_of front.Empty = []
items_of (front.One a) = a.now ∷ []
items_of (front.More a b rest) = a.now ∷ b.now ∷ rest.now

-- how many tokens and nodes they have
abbrev pub weight : Fronted → ℕ
weight front.Empty = 0
weight (front.One a) = size a.now
weight (front.More a b rest) = size a.now + (size b.now + total rest.now)
