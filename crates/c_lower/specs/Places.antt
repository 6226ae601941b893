-- Where the items of a list stand.
use Rattle.std.specs.Prelude.{List, [], ◌∷◌}
use Rattle.lowered_graphs.specs.declared.positions.Position.{Position}
use Rattle.lowered_graphs.specs.declared.positions.Position.TheVariants.{Anywhere}

-- where an item stands that has these behind it
abbrev pub position : {A : Type 0} → List A → Position → Position
position [] last = last
position (x ∷ xs) last = Anywhere
