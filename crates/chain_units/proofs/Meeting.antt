-- Marks that are met.
use Rattle.std.proofs.Common.{◌≡◌, ◌++◌, ℕ, List, [], ◌∷◌, refl, sym, ap, ◌∙◌, subst, append_assoc}
use Rattle.flow_graph.specs.declared.graph.Op.{Op}
use Rattle.flow_graph.specs.declared.graph.Item.{Item}
use Rattle.flow_graph.specs.declared.graph.Item.TheVariants as item
use Rattle.flow_graph.specs.declared.graph.Item.TheOpen.{Item-F}
use Rattle.flow_graph.specs.declared.graph.Item.TheFolds.{map-Item, fold_out-Item}
use Rattle.flow_graph.specs.declared.nodes.Node.{Node}
use Rattle.chain_units.specs.declared.pieces.Piece.{Piece}
use Rattle.chain_units.specs.declared.cutting.Placer.{Placer}
use Rattle.chain_units.specs.declared.cutting.Turning as code
use Rattle.chain_units.specs.Known.{Known}
use Rattle.chain_units.specs.Costs.{touched_by, touched_in, touched_in_all}
use Rattle.chain_units.specs.Marks.{Alone, Closes, End, Joins, Mark, ChainUnit, ends}
use Rattle.chain_units.specs.Pieces.{IsPieceOf}
use Rattle.chain_units.specs.Placements.{HasClosed, HasJoined, IsBehind, IsTurningOf, Places, StandsAlone}
use Rattle.chain_units.proofs.KeepingUp.{behind_alone, behind_close, behind_join}

pub touched-One : (k : Known) (op : Op) → touched_in k (item.One op) ≡ []
unfolding touched_in
touched-One k op = fold_out-Item (List ℕ) (touched_by k) (item.One op) ∙ ap (λ (l : Item-F Item). touched_by k (map-Item Item (List ℕ) (touched_in k) l)) (item.outs-One op)

pub touched-one : (k : Known) (op : Op) → touched_in_all k (item.One op ∷ []) ≡ []
touched-one k op = ap (λ (xs : List ℕ). xs ++ []) (touched-One k op)

pub places_join : (k : Known) (u : ChainUnit) (p : Piece) (old new : Placer) → IsPieceOf k u p → HasJoined old p new → Places k (Joins u ∷ []) old new
places_join k u p old new is joined before b = behind_join k before old new u p b is joined

pub places_end : (k : Known) (x : Node) (p : Piece) (old mid new : Placer) → IsPieceOf k (End x) p → HasJoined old p mid → HasClosed mid new → Places k (ends x) old new
places_end k x p old mid new is joined has before b =
    subst (λ (ms : List Mark). IsBehind k ms new) (append_assoc before (Joins (End x) ∷ []) (Closes ∷ [])) (behind_close k (before ++ Joins (End x) ∷ []) mid new (behind_join k before old mid (End x) p b is joined) has)

pub places_two : (k : Known) (ms ns : List Mark) (old mid new : Placer) → Places k ms old mid → Places k ns mid new → Places k (ms ++ ns) old new
places_two k ms ns old mid new first second before b = subst (λ (xs : List Mark). IsBehind k xs new) (append_assoc before ms ns) (second (before ++ ms) (first before b))

pub places_none : (k : Known) (p : Placer) → Places k [] p p
places_none k p before b = subst (λ (ms : List Mark). IsBehind k ms p) (sym (append-nil before)) b
  where
    append-nil : (xs : List Mark) → xs ++ [] ≡ xs
    append-nil [] = refl
    append-nil (x ∷ xs) = ap (λ (ys : List Mark). x ∷ ys) (append-nil xs)

pub places_close : (k : Known) (old new : Placer) → HasClosed old new → Places k (Closes ∷ []) old new
places_close k old new has before b = behind_close k before old new b has

pub places_alone : (k : Known) (x : Item) (n : ℕ) (t : code.Turning) (old new : Placer) → StandsAlone old t new → IsTurningOf k x n t → Places k (Alone x n ∷ []) old new
places_alone k x n t old new stands is before b = behind_alone k before old new x n t b stands is
