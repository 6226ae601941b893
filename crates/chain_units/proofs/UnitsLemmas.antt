-- The pieces of units cost what the units do.
use Rattle.std.specs.Prelude.{length, take, drop}
use Rattle.std.proofs.Common.{◌≡◌, ◌++◌, ℕ, zero, suc, List, [], ◌∷◌, refl, sym, ap, ◌∙◌, subst, arith, append_assoc}
use Rattle.flow_graph.specs.declared.graph.Item.{Item}
use Rattle.loop_checkpoints.specs.Loops as loops
use Rattle.chain_plans.specs.Plans as plans
use Rattle.chain_plans.specs.declared.Stretch.{Stretch}
use Rattle.chain_units.specs.declared.pieces.Piece.{Piece}
use Rattle.chain_units.specs.declared.weighing.Behind.{Behind}
use Rattle.chain_units.specs.Known.{Known, Weighs, both, nothing, or_nothing}
use Rattle.chain_units.specs.Costs.{touched_in, touched_in_all, turns_cost, weighed, words_taken}
use Rattle.chain_units.specs.Wanted.{wanted}
use Rattle.chain_units.specs.Marks.{ChainUnit}
use Rattle.chain_units.specs.Pieces.{ArePieces, pieces_behind, pieces_costs, pieces_first, pieces_sum, pieces_touched, pieces_weighed}
use Rattle.chain_units.specs.Planned.{all_items, chain_costs, stretch_weighed, unit_items, units_behind, units_first, units_sum, units_weighed}

module _ (k : Known) where
  pub sum_same : (w : Weighs) (us : List ChainUnit) (ps : List Piece) → ArePieces k us ps → pieces_sum w ps ≡ units_sum k w us
  sum_same w [] [] are = refl
  sum_same w (u ∷ us) (p ∷ ps) are = ap (λ (v : Weighs). pieces_sum (both w v) ps) are.0.weights ∙ sum_same (both w (or_nothing (k.weights (unit_items u)))) us ps are.1
  sum_same w [] (p ∷ ps) are = absurd are
  sum_same w (u ∷ us) [] are = absurd are

  pub touched-append : (xs ys : List Item) → touched_in_all k (xs ++ ys) ≡ touched_in_all k xs ++ touched_in_all k ys
  touched-append [] ys = refl
  touched-append (x ∷ xs) ys = ap (λ (zs : List ℕ). touched_in k x ++ zs) (touched-append xs ys) ∙ sym (append_assoc (touched_in k x) (touched_in_all k xs) (touched_in_all k ys))

  pub touched_same : (us : List ChainUnit) (ps : List Piece) → ArePieces k us ps → pieces_touched ps ≡ touched_in_all k (all_items us)
  touched_same [] [] are = refl
  touched_same (u ∷ us) (p ∷ ps) are =
      ap (λ (xs : List ℕ). xs ++ pieces_touched ps) are.0.touched
      ∙ (ap (λ (xs : List ℕ). touched_in_all k (unit_items u) ++ xs) (touched_same us ps are.1) ∙ sym (touched-append (unit_items u) (all_items us)))
  touched_same [] (p ∷ ps) are = absurd are
  touched_same (u ∷ us) [] are = absurd are

  pub first_same : (us : List ChainUnit) (ps : List Piece) → ArePieces k us ps → pieces_first ps ≡ units_first us
  first_same [] [] are = refl
  first_same (u ∷ us) (p ∷ ps) are = are.0.first
  first_same [] (p ∷ ps) are = absurd are
  first_same (u ∷ us) [] are = absurd are

  pub behind_same : (us : List ChainUnit) (ps : List Piece) → ArePieces k us ps → pieces_behind ps ≡ units_behind us
  behind_same [] [] are = refl
  behind_same (u ∷ []) (p ∷ []) are = are.0.behind
  behind_same (u ∷ (v ∷ us)) (p ∷ (q ∷ ps)) are = behind_same (v ∷ us) (q ∷ ps) are.1
  behind_same [] (p ∷ ps) are = absurd are
  behind_same (u ∷ us) [] are = absurd are
  behind_same (u ∷ []) (p ∷ (q ∷ ps)) are = absurd are.1
  behind_same (u ∷ (v ∷ us)) (p ∷ []) are = absurd are.1

  pub take_pieces : (n : ℕ) (us : List ChainUnit) (ps : List Piece) → ArePieces k us ps → ArePieces k (take n us) (take n ps)
  take_pieces zero us ps are = tt
  take_pieces (suc n) [] [] are = tt
  take_pieces (suc n) (u ∷ us) (p ∷ ps) are = (are.0, take_pieces n us ps are.1)
  take_pieces (suc n) [] (p ∷ ps) are = absurd are
  take_pieces (suc n) (u ∷ us) [] are = absurd are

  pub drop_pieces : (n : ℕ) (us : List ChainUnit) (ps : List Piece) → ArePieces k us ps → ArePieces k (drop n us) (drop n ps)
  drop_pieces zero us ps are = are
  drop_pieces (suc n) [] [] are = tt
  drop_pieces (suc n) (u ∷ us) (p ∷ ps) are = drop_pieces n us ps are.1
  drop_pieces (suc n) [] (p ∷ ps) are = absurd are
  drop_pieces (suc n) (u ∷ us) [] are = absurd are

  weighed_same : (us : List ChainUnit) (ps : List Piece) → ArePieces k us ps → pieces_weighed k ps ≡ units_weighed k us
  weighed_same us ps are =
      ap (λ (xs : List ℕ). weighed k k.overhead 0 xs (k.before (pieces_first ps)) (wanted k (pieces_behind ps)) (pieces_sum nothing ps)) (touched_same us ps are)
      ∙ (ap (λ (n : ℕ). weighed k k.overhead 0 (touched_in_all k (all_items us)) (k.before n) (wanted k (pieces_behind ps)) (pieces_sum nothing ps)) (first_same us ps are)
      ∙ (ap (λ (b : Behind). weighed k k.overhead 0 (touched_in_all k (all_items us)) (k.before (units_first us)) (wanted k b) (pieces_sum nothing ps)) (behind_same us ps are)
      ∙ ap (λ (w : Weighs). weighed k k.overhead 0 (touched_in_all k (all_items us)) (k.before (units_first us)) (wanted k (units_behind us)) w) (sum_same nothing us ps are)))

  stretch_same : (us : List ChainUnit) (ps : List Piece) (first items : ℕ) → ArePieces k us ps → pieces_weighed k (take items (drop first ps)) ≡ stretch_weighed k us first items
  stretch_same us ps first items are = weighed_same (take items (drop first us)) (take items (drop first ps)) (take_pieces items (drop first us) (drop first ps) (drop_pieces first us ps are))

  pub costs_same : (us : List ChainUnit) (ps : List Piece) → ArePieces k us ps → pieces_costs k ps ≡ chain_costs k us
  costs_same us ps are = λ i. record {
    objects = λ first items. loops.objects (stretch_same us ps first items are i).objects;
    words = λ first items homes. words_taken (stretch_same us ps first items are i) homes;
    cost = λ first items homes. turns_cost (stretch_same us ps first items are i) 1 homes;
  }

  pub pieces_count : (us : List ChainUnit) (ps : List Piece) → ArePieces k us ps → length ps ≡ length us
  pieces_count [] [] are = refl
  pieces_count (u ∷ us) (p ∷ ps) are = omega (arith, pieces_count us ps are.1)
  pieces_count [] (p ∷ ps) are = absurd are
  pieces_count (u ∷ us) [] are = absurd are

  -- a best plan of the pieces is one of the units
  pub best_same : (us : List ChainUnit) (ps : List Piece) (ss : List Stretch) → ArePieces k us ps → plans.IsBestPlan (pieces_costs k ps) 1024 k.board.budget (length ps) ss
      → plans.IsBestPlan (chain_costs k us) 1024 k.board.budget (length us) ss
  best_same us ps ss are best =
      subst (λ (n : ℕ). plans.IsBestPlan (chain_costs k us) 1024 k.board.budget n ss) (pieces_count us ps are)
      (subst (λ (c : plans.Costs). plans.IsBestPlan c 1024 k.board.budget (length ps) ss) (costs_same us ps are) best)
