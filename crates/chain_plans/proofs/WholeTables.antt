-- A table is whole where it is so row by row.
use Rattle.std.specs.Prelude.{Some, Vec, slice_get}
use Rattle.std.specs.List.{IsDistinct}
use Rattle.std.specs.declared.alloc.Global.{Global}
use Rattle.std.proofs.Common.{◌≡◌, ◌≢◌, ◌==◌, ◌+◌, ◌-◌, ℕ, zero, suc, List, [], ◌∷◌, length, refl, subst, arith}
use Rattle.std.proofs.lemmas.Bool.Decides.{nat_tests}
use Rattle.std.proofs.lemmas.Map.Keys.{IsDistinct-cons, IsDistinct-head, IsDistinct-tail}
use Rattle.loop_checkpoints.specs.declared.LoopObject.{LoopObject}
use Rattle.loop_checkpoints.specs.declared.LoopWeight.{LoopWeight}
use Rattle.loop_checkpoints.specs.Loops as loops
use Rattle.chain_plans.specs.Tables.{AllDiffer, AreRows, IsAlone, IsNoneOf, IsRow}
use Rattle.chain_plans.specs.Weights.{IsTable, Rows}

-- ---- one object more

pub none_more : (object : ℕ) (o : LoopObject) (os : List LoopObject) → object ≢ o.object → IsNoneOf object os → IsNoneOf object (o ∷ os)
none_more object o os other none = (grind (arith, nat_tests), none)

pub not_none : (object : ℕ) (o : LoopObject) (os : List LoopObject) → object ≡ o.object → IsNoneOf object (o ∷ os) → ⊥
not_none object o os same none = let e = none.0 in grind (arith, nat_tests)

-- objects that differ, one by one

pub differ_none : loops.Differ []
unfolding IsDistinct
differ_none = tt

pub differ_more : (o : LoopObject) (os : List LoopObject) → IsNoneOf o.object os → loops.Differ os → loops.Differ (o ∷ os)
differ_more o os none rest = IsDistinct-cons (λ a b. a == b) o.object (loops.objects os) none rest

pub differ_first : (o : LoopObject) (os : List LoopObject) → loops.Differ (o ∷ os) → IsNoneOf o.object os
differ_first o os d = IsDistinct-head (λ a b. a == b) o.object (loops.objects os) d

pub differ_rest : (o : LoopObject) (os : List LoopObject) → loops.Differ (o ∷ os) → loops.Differ os
differ_rest o os d = IsDistinct-tail (λ a b. a == b) o.object (loops.objects os) d

-- ---- the weights of a row

same_weight : (v w : LoopWeight) → Some v ≡ Some w → v ≡ w
same_weight v w e = cc

differ_at : (ws : List LoopWeight) (k : ℕ) (w : LoopWeight) → AllDiffer ws → slice_get ws k ≡ Some w → loops.Differ w.objects.items
differ_at [] k w d e = absurd cc
differ_at (v ∷ ws) zero w d e = subst (λ (u : LoopWeight). loops.Differ u.objects.items) (same_weight v w e) d.0
differ_at (v ∷ ws) (suc k) w d e = differ_at ws k w d.1 e

at_differ : (ws : List LoopWeight) → ((k : ℕ) (w : LoopWeight) → slice_get ws k ≡ Some w → loops.Differ w.objects.items) → AllDiffer ws
at_differ [] f = tt
at_differ (w ∷ ws) f = (f 0 w refl, at_differ ws (λ k v e. f (suc k) v e))

alone_at : (room budget : ℕ) (ws : List LoopWeight) (w : LoopWeight) → IsAlone room budget ws → slice_get ws 0 ≡ Some w → loops.Fits w room budget 1
alone_at room budget [] w a e = absurd cc
alone_at room budget (v ∷ ws) w a e = subst (λ (u : LoopWeight). loops.Fits u room budget 1) (same_weight v w e) a

at_alone : (room budget : ℕ) (ws : List LoopWeight) → ((w : LoopWeight) → slice_get ws 0 ≡ Some w → loops.Fits w room budget 1) → IsAlone room budget ws
at_alone room budget [] f = tt
at_alone room budget (w ∷ ws) f = f w refl

-- ---- the rows

same_row : (r s : Vec LoopWeight Global) → Some r ≡ Some s → r ≡ s
same_row r s e = cc

row_at : (room budget : ℕ) (rows : Rows) (first : ℕ) (row : Vec LoopWeight Global) → AreRows room budget rows → slice_get rows first ≡ Some row → IsRow room budget (length rows - first) row.items
row_at room budget [] first row are e = absurd cc
row_at room budget (r ∷ rs) zero row are e = subst (λ (s : Vec LoopWeight Global). IsRow room budget (length (r ∷ rs) - 0) s.items) (same_row r row e)
    (subst (λ n. IsRow room budget n r.items) (omega arith) are.0)
row_at room budget (r ∷ rs) (suc first) row are e = subst (λ n. IsRow room budget n row.items) (omega arith) (row_at room budget rs first row are.1 e)

pub rows_table : (room budget : ℕ) (rows : Rows) → AreRows room budget rows → IsTable rows room budget
rows_table room budget rows are = record {
  shape = λ first row e. (row_at room budget rows first row are e).so_many;
  differ = λ first items w at. differ_at at.0.items (items - 1) w (row_at room budget rows first at.0 are at.1).differ at.3;
  alone = λ first w at. alone_at room budget at.0.items w (row_at room budget rows first at.0 are at.1).alone at.3;
}

rest_table : (room budget : ℕ) (r : Vec LoopWeight Global) (rs : Rows) → IsTable (r ∷ rs) room budget → IsTable rs room budget
rest_table room budget r rs t = record {
  shape = λ first row e. let h = t.shape (suc first) row e in omega arith;
  differ = λ first items w at. t.differ (suc first) items w at;
  alone = λ first w at. t.alone (suc first) w at;
}

first_row : (room budget : ℕ) (r : Vec LoopWeight Global) (rs : Rows) → IsTable (r ∷ rs) room budget → IsRow room budget (length (r ∷ rs)) r.items
first_row room budget r rs t = record {
  so_many = let h = t.shape 0 r refl in omega arith;
  differ = at_differ r.items (λ k w e. t.differ 0 (k + 1) w (r, refl, omega arith, subst (λ n. slice_get r.items n ≡ Some w) (omega arith) e));
  alone = at_alone room budget r.items (λ w e. t.alone 0 w (r, refl, omega arith, e));
}

pub table_rows : (room budget : ℕ) (rows : Rows) → IsTable rows room budget → AreRows room budget rows
table_rows room budget [] t = tt
table_rows room budget (r ∷ rs) t = (first_row room budget r rs t, table_rows room budget rs (rest_table room budget r rs t))
