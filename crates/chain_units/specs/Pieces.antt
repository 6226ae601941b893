-- A chain as the code holds it: a piece for each unit.
use Rattle.std.specs.Prelude.{◌≡◌, ◌≤◌, ◌+◌, ℕ, Some, List, [], ◌∷◌, ◌++◌, length, slice_get, take, drop, Vec}
use Rattle.std.specs.declared.alloc.Global.{Global}
use Rattle.flow_graph.specs.declared.graph.Item.{Item}
use Rattle.loop_checkpoints.specs.declared.LoopWeight.{LoopWeight}
use Rattle.loop_checkpoints.specs.Loops as loops
use Rattle.chain_plans.specs.Plans as plans
use Rattle.chain_units.specs.declared.pieces.Piece.{Piece}
use Rattle.chain_units.specs.declared.weighing.Behind.{Behind}
use Rattle.chain_units.specs.declared.weighing.Behind.TheVariants.{Before, BeforeEither}
use Rattle.chain_units.specs.Known.{Known, Weighs, both, nothing, or_nothing, told_weights, weight_in_fram}
use Rattle.chain_units.specs.Costs.{Weighed, touched_in_all, turns_cost, weighed, words_taken}
use Rattle.chain_units.specs.Wanted.{IsWeightOf, wanted}
use Rattle.chain_units.specs.Marks.{ChainUnit}
use Rattle.chain_units.specs.Planned.{unit_behind, unit_first, unit_items}

-- ---- the costs of pieces

abbrev pub pieces_sum : Weighs → List Piece → Weighs
pieces_sum w [] = w
pieces_sum w (p ∷ ps) = pieces_sum (both w (told_weights p.weights)) ps

abbrev pub pieces_touched : List Piece → List ℕ
pieces_touched [] = []
pieces_touched (p ∷ ps) = p.touched.items ++ pieces_touched ps

abbrev pub first_in : Piece → ℕ
first_in p = p.first

abbrev pub pieces_first : List Piece → ℕ
pieces_first [] = 0
pieces_first (p ∷ ps) = p.first

abbrev pub pieces_behind : List Piece → Behind
pieces_behind [] = Before 0
pieces_behind (p ∷ []) = p.behind
pieces_behind (p ∷ (q ∷ ps)) = pieces_behind (q ∷ ps)

abbrev pub pieces_weighed : Known → List Piece → Weighed
pieces_weighed k ps = weighed k k.overhead 0 (pieces_touched ps) (k.before (pieces_first ps)) (wanted k (pieces_behind ps)) (pieces_sum nothing ps)

abbrev pub pieces_costs : Known → List Piece → plans.Costs
pieces_costs k ps = record {
  objects = λ first items. loops.objects (pieces_weighed k (take items (drop first ps))).objects;
  words = λ first items homes. words_taken (pieces_weighed k (take items (drop first ps))) homes;
  cost = λ first items homes. turns_cost (pieces_weighed k (take items (drop first ps))) 1 homes;
}

-- the weights of the stretches that begin with the first piece, by rising numbers of pieces
pub record IsRow (k : Known) (row : List LoopWeight) (ps : List Piece) : Type 0 where
  pub count : length row ≡ length ps
  pub weights : (i : ℕ) (w : LoopWeight) → slice_get row i ≡ Some w → IsWeightOf w (pieces_weighed k (take (i + 1) ps))

-- a row for each piece
abbrev pub AreRows : Known → List (Vec LoopWeight Global) → List Piece → Type 0
AreRows k [] [] = Unit {0}
AreRows k (row ∷ rows) (p ∷ ps) = IsRow k row.items (p ∷ ps) × AreRows k rows ps
AreRows k _ _ = ⊥

-- a piece fits by itself with all objects in FRAM
abbrev pub FitsAlone : Known → Piece → Type 0
FitsAlone k p = weight_in_fram k.board (told_weights p.weights) + k.overhead ≤ k.board.budget

-- ---- the pieces of units

pub record IsPieceOf (k : Known) (u : ChainUnit) (p : Piece) : Type 0 where
  pub first : p.first ≡ unit_first u
  pub behind : p.behind ≡ unit_behind u
  pub touched : p.touched.items ≡ touched_in_all k (unit_items u)
  pub weights : told_weights p.weights ≡ or_nothing (k.weights (unit_items u))

-- the piece of a turn of a loop, by the items of the turn, the operation that it begins with, and the one behind the loop
pub record IsTurnOf (k : Known) (items : List Item) (top next : ℕ) (p : Piece) : Type 0 where
  pub first : p.first ≡ top
  pub behind : p.behind ≡ BeforeEither top next
  pub touched : p.touched.items ≡ touched_in_all k items
  pub weights : told_weights p.weights ≡ or_nothing (k.weights items)

abbrev pub ArePieces : Known → List ChainUnit → List Piece → Type 0
ArePieces k [] [] = Unit {0}
ArePieces k (u ∷ us) (p ∷ ps) = IsPieceOf k u p × ArePieces k us ps
ArePieces k _ _ = ⊥
