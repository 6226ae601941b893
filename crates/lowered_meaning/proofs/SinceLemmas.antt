-- What holds since an earlier spot, one part after another.
use Rattle.std.proofs.Common.{◌≡◌, ℕ, Bool, true, false, refl, ◌∙◌, arith}
use Rattle.c_tree.specs.Runs.{State}
use Rattle.flow_graph.specs.declared.graph.Operand.{Operand}
use Rattle.flow_graph.specs.Flow.{Spot}
use Rattle.lowered_meaning.specs.Keeps.{Ground, Ready, Agrees, Evaluated}
use Rattle.lowered_meaning.specs.Leaves.{Since}
use Rattle.lowered_meaning.proofs.KeepLemmas.{kept_both, store_both, shape_both, ready_on}

true_is_false : (b : Bool) → true ≡ false → b ≡ false
true_is_false b e = cc

-- nothing since the spot itself
pub since_start : (w : Ground) (scope : ℕ → Type 0) (s : Spot) (d : State) → Agrees w scope d s → Ready w s.objects → Since w scope s d d s
since_start w scope s d agrees ready = record { calls = refl; agrees = agrees; ready = ready; kept = λ o fixed. refl; shape = λ o. refl; store = λ x fixed. refl }

-- another operation is executed next
pub since_at : (w : Ground) (scope : ℕ → Type 0) (s : Spot) (old d : State) (z : Spot) (n : ℕ) → Since w scope s old d z → Since w scope s old d (record z { at = n })
since_at w scope s old d z n h = record {
  calls = h.calls;
  agrees = record { variables = h.agrees.variables; shape = h.agrees.shape; input = h.agrees.input; fit = h.agrees.fit };
  ready = h.ready;
  kept = h.kept;
  shape = h.shape;
  store = h.store;
}

-- the steps that are left don't count
pub since_left : (w : Ground) (scope : ℕ → Type 0) (s : Spot) (old d : State) (z : Spot) (j : ℕ) → Since w scope s old d z → Since w scope s old (record d { left = j }) z
since_left w scope s old d z j h = record {
  calls = h.calls;
  agrees = record { variables = h.agrees.variables; shape = h.agrees.shape; input = h.agrees.input; fit = h.agrees.fit };
  ready = h.ready;
  kept = h.kept;
  shape = h.shape;
  store = h.store;
}

pub since_both : (w : Ground) (scope scope' : ℕ → Type 0) (s : Spot) (old d e : State) (z y : Spot) → Since w scope s old d z → Since w scope' z d e y → Since w scope' s old e y
since_both w scope scope' s old d e z y h i = record {
  calls = i.calls ∙ h.calls;
  agrees = i.agrees;
  ready = i.ready;
  kept = kept_both w true true true 0 0 0 s.objects z.objects y.objects (λ x. x) (λ x. x) (omega arith) (omega arith) h.kept i.kept;
  shape = shape_both s.objects z.objects y.objects h.shape i.shape;
  store = store_both w true true true 0 0 0 old d e (λ x. x) (λ x. x) (omega arith) (omega arith) h.store i.store;
}

-- an expression was evaluated
pub since_expr : (w : Ground) (scope : ℕ → Type 0) (called : Bool) (t : ℕ) (a : Operand) (s : Spot) (old d e : State) (v : ℕ) (z y : Spot)
    → Since w scope s old d z → y.calls ≡ z.calls → Evaluated w scope called t a z d v e y → Since w scope s old e y
since_expr w scope called t a s old d e v z y h calls r = record {
  calls = calls ∙ h.calls;
  agrees = r.agrees;
  ready = ready_on w z.objects y.objects r.shape h.ready;
  kept = kept_both w true true called 0 0 t s.objects z.objects y.objects (λ x. x) (true_is_false called) (omega arith) (omega arith) h.kept r.kept;
  shape = shape_both s.objects z.objects y.objects h.shape r.shape;
  store = store_both w true true called 0 0 t old d e (λ x. x) (true_is_false called) (omega arith) (omega arith) h.store r.store;
}
