-- The whole table of a chain's stretches.
use Rattle.std.specs.Prelude.{Result, Ok, Err, IfOk, Some, slice_get, length, take, drop, Vec}
use Rattle.std.specs.declared.alloc.Global.{Global}
use Rattle.std.specs.List.{AllByRecursion}
use Rattle.std.proofs.Common.{◌≡◌, ◌<◌, ◌≤◌, ◌+◌, ◌-◌, ◌*◌, ◌++◌, ℕ, zero, suc, List, [], ◌∷◌, refl, sym, ap, ◌∙◌, subst, arith}
use Rattle.std.proofs.Common.{length-drop}
use Rattle.std.proofs.lemmas.Option.{slice_get_within}
use Rattle.loop_checkpoints.specs.declared.LoopObject.{LoopObject}
use Rattle.loop_checkpoints.specs.declared.LoopWeight.{LoopWeight}
use Rattle.loop_checkpoints.specs.Loops as loops
use Rattle.base_io.specs.declared.memory.Memory.{Memory}
use Rattle.chain_plans.specs.declared.Stretch.{Stretch}
use Rattle.chain_plans.specs.Plans.{AreTold, Costs, IsBestPlan, IsPlan, NoneBelow, parts_of, plan_cost}
use Rattle.chain_plans.specs.Weights.{AllTell, IsAt, IsTable, Rows}
use Rattle.chain_units.specs.declared.pieces.Piece.{Piece}
use Rattle.chain_units.specs.Known.{Known, Weighs, both, nothing, told_weights, weight_in_fram}
use Rattle.chain_units.specs.Costs.{turns_cost, words_taken}
use Rattle.chain_units.specs.Sums.{Rises}
use Rattle.chain_units.specs.Wanted.{IsWeightOf, wanted}
use Rattle.chain_units.specs.Pieces.{AreRows, FitsAlone, IsRow, pieces_behind, pieces_costs, pieces_first, pieces_sum, pieces_touched, pieces_weighed}
use Rattle.chain_units.proofs.Sorted.{objects_differ, rises_all}
use Rattle.chain_units.proofs.Alone.{alone_cost, fram_turn, fram_words}

-- ---- filling it row by row

-- rows for the pieces before those that are left
abbrev pub IsFilled : Known → Rows → List Piece → List Piece → Type 0
IsFilled k rows left all = (more : Rows) → AreRows k more left → AreRows k (rows ++ more) all

pub filled_more : (k : Known) (rows rows' : Rows) (row : Vec LoopWeight Global) (p : Piece) (behind all : List Piece) → IsFilled k rows (p ∷ behind) all → IsRow k row.items (p ∷ behind) → rows' ≡ rows ++ row ∷ []
    → IsFilled k rows' behind all
filled_more k rows rows' row p behind all filled is e more are =
    subst (λ (rs : Rows). AreRows k rs all) (sym (ap (λ (rs : Rows). rs ++ more) e ∙ together rows row more)) (filled (row ∷ more) (is, are))
  where
    together : (xs : Rows) (x : Vec LoopWeight Global) (ys : Rows) → (xs ++ x ∷ []) ++ ys ≡ xs ++ x ∷ ys
    together [] x ys = refl
    together (z ∷ xs) x ys = ap (λ (zs : Rows). z ∷ zs) (together xs x ys)

pub filled_end : (k : Known) (rows : Rows) (all : List Piece) → IsFilled k rows [] all → AreRows k rows all
filled_end k rows all filled = subst (λ (rs : Rows). AreRows k rs all) (append-nil rows) (filled [] tt)
  where
    append-nil : (xs : Rows) → xs ++ [] ≡ xs
    append-nil [] = refl
    append-nil (x ∷ xs) = ap (λ (ys : Rows). x ∷ ys) (append-nil xs)

-- ---- reading it

pub rows_count : (k : Known) (rows : Rows) (ps : List Piece) → AreRows k rows ps → length rows ≡ length ps
rows_count k [] [] are = refl
rows_count k (row ∷ rows) (p ∷ ps) are = omega (arith, rows_count k rows ps are.1)
rows_count k [] (p ∷ ps) are = absurd are
rows_count k (row ∷ rows) [] are = absurd are

same_some : (u v : Vec LoopWeight Global) → Some u ≡ Some v → u ≡ v
same_some u v e = cc

row_at : (k : Known) (rows : Rows) (ps : List Piece) (first : ℕ) (row : Vec LoopWeight Global) → AreRows k rows ps → slice_get rows first ≡ Some row → IsRow k row.items (drop first ps)
row_at k [] [] first row are at = absurd (omega (arith, slice_get_within [] first row at))
row_at k [] (p ∷ ps) first row are at = absurd are
row_at k (r ∷ rows) [] first row are at = absurd are
row_at k (r ∷ rows) (p ∷ ps) zero row are at = subst (λ (v : Vec LoopWeight Global). IsRow k v.items (p ∷ ps)) (same_some r row at) are.0
row_at k (r ∷ rows) (p ∷ ps) (suc first) row are at = row_at k rows ps first row are.1 at

-- the weight of a stretch
weight_at : (k : Known) (rows : Rows) (ps : List Piece) (first items : ℕ) (w : LoopWeight) → AreRows k rows ps → IsAt rows first items w → IsWeightOf w (pieces_weighed k (take items (drop first ps)))
weight_at k rows ps first items w are (row, at, some, in_row) =
    subst (λ (n : ℕ). IsWeightOf w (pieces_weighed k (take n (drop first ps)))) (omega (arith, some)) ((row_at k rows ps first row are at).weights (items - 1) w in_row)

-- ---- it tells the costs

pub table_tells : (k : Known) (rows : Rows) (ps : List Piece) → AreRows k rows ps → AllTell rows (pieces_costs k ps)
table_tells k rows ps are first items w at =
    let is = weight_at k rows ps first items w are at in
    let e = pieces_weighed k (take items (drop first ps)) in record {
      objects = ap (λ (os : List LoopObject). loops.objects os) is.objects;
      words = λ homes. ap (λ (os : List LoopObject). loops.words_of os homes) is.objects;
      cost = λ homes.
          ap (λ (n : ℕ). (n + 1 * w.base) + loops.objects_cost 1 w.objects.items homes) is.fixed
          ∙ (ap (λ (n : ℕ). (e.fixed + 1 * n) + loops.objects_cost 1 w.objects.items homes) is.base ∙ ap (λ (os : List LoopObject). (e.fixed + 1 * e.base) + loops.objects_cost 1 os homes) is.objects);
    }

-- ---- it is whole

pieces_rise : (ps : List Piece) (w : Weighs) → Rises w.uses → Rises (pieces_sum w ps).uses
pieces_rise [] w rises = rises
pieces_rise (p ∷ ps) w rises = pieces_rise ps (both w (told_weights p.weights)) (rises_all w.uses (told_weights p.weights).uses rises)

differ_at : (k : Known) (ps : List Piece) (w : LoopWeight) → IsWeightOf w (pieces_weighed k ps) → loops.Differ w.objects.items
differ_at k ps w is =
    subst (λ (os : List LoopObject). loops.Differ os) (sym is.objects)
    (objects_differ k (k.before (pieces_first ps)) (wanted k (pieces_behind ps)) (pieces_touched ps) (pieces_sum nothing ps).uses (pieces_rise ps nothing tt))

alone_at : (k : Known) (ps : List Piece) (first : ℕ) (w : LoopWeight) → AllByRecursion (FitsAlone k) ps → first < length ps → IsWeightOf w (pieces_weighed k (take 1 (drop first ps))) → loops.Fits w 1024 k.board.budget 1
alone_at k [] first w all lt is = absurd (omega arith)
alone_at k (p ∷ ps) zero w all lt is =
    let e = pieces_weighed k (p ∷ []) in
    let sum = both nothing (told_weights p.weights) in
    let turn : turns_cost e 1 [] ≤ (k.overhead + 0) + weight_in_fram k.board sum = fram_turn k (k.before p.first) (wanted k p.behind) (pieces_touched (p ∷ [])) k.overhead 0 sum in
    let words : words_taken e [] ≡ 0 = fram_words k (k.before p.first) (wanted k p.behind) (pieces_touched (p ∷ [])) k.overhead 0 sum in
    let same_words = ap (λ (os : List LoopObject). loops.words_of os []) is.objects in
    let same : loops.cost_of w 1 [] ≡ turns_cost e 1 [] =
    ap (λ (n : ℕ). (n + 1 * w.base) + loops.objects_cost 1 w.objects.items []) is.fixed
    ∙ (ap (λ (n : ℕ). (e.fixed + 1 * n) + loops.objects_cost 1 w.objects.items []) is.base ∙ ap (λ (os : List LoopObject). (e.fixed + 1 * e.base) + loops.objects_cost 1 os []) is.objects) in
    ([], omega (arith, same_words, words), omega (arith, same, turn, alone_cost k.board (told_weights p.weights), all.0))
alone_at k (p ∷ ps) (suc first) w all lt is = alone_at k ps first w all.1 (omega arith) is

pub table_whole : (k : Known) (rows : Rows) (ps : List Piece) → AreRows k rows ps → AllByRecursion (FitsAlone k) ps → IsTable rows 1024 k.board.budget
table_whole k rows ps are all = record {
  shape = λ first row at. omega (arith, (row_at k rows ps first row are at).count, length-drop first ps, rows_count k rows ps are);
  differ = λ first items w at. differ_at k (take items (drop first ps)) w (weight_at k rows ps first items w are at);
  alone = λ first w at.
      let (row, there, some, in_row) = at in
      alone_at k ps first w all (omega (arith, slice_get_within rows first row there, rows_count k rows ps are)) (weight_at k rows ps first 1 w are at);
}

pub filled_done : (k : Known) (rows : Rows) (left all : List Piece) → length left < 1 → IsFilled k rows left all → AreRows k rows all
filled_done k rows [] all lt filled = filled_end k rows all filled
filled_done k rows (p ∷ ps) all lt filled = absurd (omega arith)

-- ---- the plan over the table

pub best_of : (k : Known) (r : Result (Vec Stretch Global) Memory) (rows : Rows) (ps : List Piece) (budget : ℕ) → AreRows k rows ps → budget ≡ k.board.budget
    → IfOk r (λ s. (costs : Costs) → AllTell rows costs → IsPlan costs 1024 budget 0 (length rows) (parts_of s.items)) → IfOk r (λ s. (costs : Costs) → AllTell rows costs → AreTold costs 0 s.items)
    → IfOk r (λ s. (costs : Costs) → AllTell rows costs → NoneBelow costs 1024 budget 0 (length rows) (plan_cost costs 0 (parts_of s.items)))
    → IfOk r (λ s. IsBestPlan (pieces_costs k ps) 1024 k.board.budget (length ps) s.items)
best_of k (Err e) rows ps budget are same plan told least = tt
best_of k (Ok s) rows ps budget are same plan told least =
    let costs = pieces_costs k ps in
    let tell = table_tells k rows ps are in
    let count = rows_count k rows ps are in
    subst (λ (n : ℕ). IsBestPlan costs 1024 k.board.budget n s.items) count
    (subst (λ (n : ℕ). IsBestPlan costs 1024 n (length rows) s.items) same (record { plan = plan costs tell; told = told costs tell; least = least costs tell }))
