-- Whether an item has neither a branch nor a loop nor a leave, by its parts.
use Rattle.std.proofs.Common.{◌≡◌, ◌≤◌, ℕ, Bool, true, false, List, [], ◌∷◌, refl, sym, ap, subst, ◌∙◌, arith}
use Rattle.std.specs.Prelude.{◌&&◌, map}
use denote.Param.Weighed.{most}
use Rattle.flow_graph.specs.declared.graph.Item.{Item, out-Item, size-Item}
use Rattle.flow_graph.specs.declared.graph.Item.TheOpen.{Item-F}
use Rattle.flow_graph.specs.declared.graph.Item.TheFolds.{map-Item, fold_out-Item}
use Rattle.graph_code.specs.Heads.{all_of, are_straight, is_straight, straight_by}
use Rattle.emit_each.specs.Parts.{straight_in}

all_straight : (xs : List Item) → all_of (map is_straight xs) ≡ are_straight xs
all_straight [] = refl
all_straight (x ∷ xs) = ap (λ c. is_straight x && c) (all_straight xs)

mapped : (x : Item-F Item) → straight_by (map-Item Item Bool is_straight x) ≡ straight_in x
mapped (Item-F.One op) = refl
mapped (Item-F.Branch test a b) = refl
mapped (Item-F.Loop pre test post step back count) = refl
mapped (Item-F.Switch items) = all_straight items
mapped (Item-F.CallTo op f) = refl
mapped (Item-F.Leave op to) = refl

pub straight_level : (item : Item) → is_straight item ≡ straight_in (out-Item item)
unfolding is_straight
straight_level item = fold_out-Item Bool straight_by item ∙ mapped (out-Item item)

-- an item that is straight is passed over
pub straight_more : (item : Item) (left rest : List Item) → left ≡ item ∷ rest → true ≡ straight_in (out-Item item) → are_straight left ≡ are_straight rest
straight_more item left rest e h = ap are_straight e ∙ ap (λ c. c && are_straight rest) (straight_level item ∙ sym h)

-- and one that isn't ends it
pub straight_not : (item : Item) (left rest : List Item) → left ≡ item ∷ rest → false ≡ straight_in (out-Item item) → are_straight left ≡ false
straight_not item left rest e h = ap are_straight e ∙ ap (λ c. c && are_straight rest) (straight_level item ∙ sym h)

-- items that are left are no deeper
pub rest_smaller : (item : Item) (left rest : List Item) (m : ℕ) → left ≡ item ∷ rest → most size-Item left ≤ m → most size-Item rest ≤ m
rest_smaller item left rest m e h = let k = subst (λ (xs : List Item). most size-Item xs ≤ m) e h in omega (arith, k)
