-- Before which operations a head stands where no plan says it.
use Rattle.std.specs.Prelude.{ℕ, ◌==◌, ◌&&◌, if◌then◌else◌, Bool, true, false, List, [], ◌∷◌}
use Rattle.flow_graph.specs.declared.graph.Item.{Item}
use Rattle.flow_graph.specs.declared.graph.Item.TheFolds.{fold-Item}
use Rattle.flow_graph.specs.declared.graph.Item.TheOpen.{Item-F}

abbrev pub all_of : List Bool → Bool
all_of [] = true
all_of (x ∷ xs) = x && all_of xs

-- neither a branch nor a loop nor a leave
abbrev pub straight_by : Item-F Bool → Bool
straight_by (Item-F.One op) = true
straight_by (Item-F.CallTo op f) = true
straight_by (Item-F.Switch items) = all_of items
straight_by (Item-F.Branch test a b) = false
straight_by (Item-F.Loop pre test post step back count) = false
straight_by (Item-F.Leave op to) = false

unfoldable pub is_straight : Item → Bool
is_straight item = fold-Item Bool straight_by item

abbrev pub are_straight : List Item → Bool
are_straight [] = true
are_straight (x ∷ xs) = is_straight x && are_straight xs

-- the operations with a head: the first alone where all is one stretch, and else each
abbrev pub has_head : (one_stretch : Bool) → ℕ → Bool
has_head one_stretch n = if one_stretch then n == 0 else true
