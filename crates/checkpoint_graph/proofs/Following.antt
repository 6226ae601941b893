-- The chains of functions, one behind the other.
use Rattle.std.specs.Prelude.{length, if◌then◌else◌, slice_get, ◌||◌}
use Rattle.std.proofs.Common.{◌≡◌, ◌==◌, ◌+◌, ◌++◌, ℕ, Bool, List, [], ◌∷◌, refl, sym, ap, ◌∙◌, subst, append_assoc}
use Rattle.flow_graph.specs.declared.graph.Func.{Func}
use Rattle.flow_graph.specs.declared.graph.Graph.{Graph}
use Rattle.chain_units.specs.declared.plan.Chain.{Chain}
use Rattle.chain_units.specs.Known.{Known}
use Rattle.chain_units.specs.Chains.{Of, body_chains, chains, function_chains, other_chain, other_chains}
use Rattle.chain_units.specs.Planned.{AddsPlans, ArePlans}
use Rattle.chain_units.proofs.Following.{adds_two}

append-nil : {A : Type 0} (xs : List A) → xs ++ [] ≡ xs
append-nil [] = refl
append-nil (x ∷ xs) = ap (λ ys. x ∷ ys) (append-nil xs)

module _ (k : Known) where
  pub adds_none : (cs : List Chain) → AddsPlans k [] cs cs
  adds_none cs before are = subst (λ (os : List Of). ArePlans k 1 os cs) (sym (append-nil before)) are

  pub adds_same : (os ps : List Of) (old new : List Chain) → os ≡ ps → AddsPlans k os old new → AddsPlans k ps old new
  adds_same os ps old new e adds = subst (λ (qs : List Of). AddsPlans k qs old new) e adds

  -- a function that is left out, and one that isn't
  pub out_is : (f : ℕ) (func : Func) (main : ℕ) (t : Bool) → main ≡ k.graph.main → ((f == main) || k.is_flat f) ≡ t → other_chain k f func ≡ (if t then [] else body_chains k f func.body)
  out_is f func main t e is = ap (λ (b : Bool). if b then [] else body_chains k f func.body) (sym (ap (λ (m : ℕ). (f == m) || k.is_flat f) e) ∙ is)

  -- so far some functions are done, and the others are still to come
  pub record SoFar (all left : List Func) (f : ℕ) (old new : List Chain) : Type 0 where
    pub done : List Of
    pub whole : other_chains k 0 all ≡ done ++ other_chains k f left
    pub adds : AddsPlans k done old new
    pub count : length all ≡ f + length left

  pub start : (all : List Func) (cs : List Chain) → length all ≡ 0 + length all → SoFar all all 0 cs cs
  start all cs e = record { done = []; whole = refl; adds = adds_none cs; count = e }

  pub next : (all left rest : List Func) (func : Func) (f : ℕ) (old mid new : List Chain) → left ≡ func ∷ rest → length all ≡ (f + 1) + length rest → AddsPlans k (other_chain k f func) mid new → SoFar all left f old mid
      → SoFar all rest (f + 1) old new
  next all left rest func f old mid new e count adds so = record {
    done = so.done ++ other_chain k f func;
    whole = so.whole
        ∙ (ap (λ (fs : List Func). so.done ++ other_chains k f fs) e ∙ sym (append_assoc so.done (other_chain k f func) (other_chains k (f + 1) rest)));
    adds = adds_two k so.done (other_chain k f func) old mid new so.adds adds;
    count = count;
  }

  pub done_all : (all left : List Func) (f : ℕ) (old new : List Chain) → left ≡ [] → SoFar all left f old new → AddsPlans k (other_chains k 0 all) old new
  done_all all left f old new e so = adds_same so.done (other_chains k 0 all) old new (sym (so.whole ∙ (ap (λ (fs : List Func). so.done ++ other_chains k f fs) e ∙ append-nil so.done))) so.adds

  -- the chains of `main` and of the others are those of the graph
  pub placed_all : (g : Graph) (fs gs : List Func) (old mid new : List Chain) → old ≡ [] → fs ≡ g.functions → gs ≡ g.functions → g ≡ k.graph → AddsPlans k (function_chains k g.main (slice_get fs g.main)) old mid
      → AddsPlans k (other_chains k 0 gs) mid new → ArePlans k 1 (chains k) new
  placed_all g fs gs old mid new none e f is first second =
      let all = λ (h : Graph) (xs ys : List Func). function_chains k h.main (slice_get xs h.main) ++ other_chains k 0 ys in
      let same = ap (λ (xs : List Func). all g xs gs) e ∙ (ap (λ (ys : List Func). all g g.functions ys) f ∙ ap (λ (h : Graph). all h h.functions h.functions) is) in
      let adds = adds_two k (function_chains k g.main (slice_get fs g.main)) (other_chains k 0 gs) old mid new first second in
      subst (λ (os : List Of). ArePlans k 1 os new) same (adds [] (subst (λ (cs : List Chain). ArePlans k 1 [] cs) (sym none) tt))
