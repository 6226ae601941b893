-- The chains of functions that are explained, one behind the other.
use Rattle.std.specs.Prelude.{length, if◌then◌else◌, slice_get, ◌||◌}
use Rattle.std.proofs.Common.{◌≡◌, ◌==◌, ◌+◌, ◌++◌, ℕ, Bool, List, [], ◌∷◌, refl, sym, ap, ◌∙◌, subst, append_assoc}
use Rattle.std.proofs.lemmas.List.{append-nil}
use Rattle.flow_graph.specs.declared.graph.Func.{Func}
use Rattle.flow_graph.specs.declared.graph.Graph.{Graph}
use Rattle.chain_units.specs.declared.plan.Chain.{Chain}
use Rattle.chain_units.specs.declared.telling.ExplainedChain.{ExplainedChain}
use Rattle.chain_units.specs.Known.{Known}
use Rattle.chain_units.specs.Chains.{Of, body_chains, chains, function_chains, other_chain, other_chains}
use Rattle.chain_units.specs.Explained.{AddsExplained, AreExplained}
use Rattle.chain_units.proofs.ExplainedChains.{adds_both, adds_nothing}

module _ (k : Known) (cs : List Chain) where
  pub explains_same : (os ps : List Of) (old new : List ExplainedChain) → os ≡ ps → AddsExplained k os cs old new → AddsExplained k ps cs old new
  explains_same os ps old new e adds = subst (λ (qs : List Of). AddsExplained k qs cs old new) e adds

  -- so far some functions are done, and the others are still to come
  pub record StillExplains (all left : List Func) (f : ℕ) (old new : List ExplainedChain) : Type 0 where
    pub done : List Of
    pub whole : other_chains k 0 all ≡ done ++ other_chains k f left
    pub adds : AddsExplained k done cs old new
    pub count : length all ≡ f + length left

  pub still_all : (all : List Func) (es : List ExplainedChain) → length all ≡ 0 + length all → StillExplains all all 0 es es
  still_all all es e = record { done = []; whole = refl; adds = adds_nothing k cs es; count = e }

  pub still_next : (all left rest : List Func) (func : Func) (f : ℕ) (old mid new : List ExplainedChain) → left ≡ func ∷ rest → length all ≡ (f + 1) + length rest → AddsExplained k (other_chain k f func) cs mid new
      → StillExplains all left f old mid → StillExplains all rest (f + 1) old new
  still_next all left rest func f old mid new e count adds so = record {
    done = so.done ++ other_chain k f func;
    whole = so.whole
        ∙ (ap (λ (fs : List Func). so.done ++ other_chains k f fs) e ∙ sym (append_assoc so.done (other_chain k f func) (other_chains k (f + 1) rest)));
    adds = adds_both k cs so.done (other_chain k f func) old mid new so.adds adds;
    count = count;
  }

  pub still_none : (all left : List Func) (f : ℕ) (old new : List ExplainedChain) → left ≡ [] → StillExplains all left f old new → AddsExplained k (other_chains k 0 all) cs old new
  still_none all left f old new e so = explains_same so.done (other_chains k 0 all) old new (sym (so.whole ∙ (ap (λ (fs : List Func). so.done ++ other_chains k f fs) e ∙ append-nil so.done))) so.adds

  -- the chains of `main` and of the others are those of the graph
  pub explained_all : (g : Graph) (fs gs : List Func) (old mid new : List ExplainedChain) → old ≡ [] → fs ≡ g.functions → gs ≡ g.functions → g ≡ k.graph
      → AddsExplained k (function_chains k g.main (slice_get fs g.main)) cs old mid → AddsExplained k (other_chains k 0 gs) cs mid new → AreExplained k (chains k) cs new
  explained_all g fs gs old mid new none e f is first second =
      let all = λ (h : Graph) (xs ys : List Func). function_chains k h.main (slice_get xs h.main) ++ other_chains k 0 ys in
      let same = ap (λ (xs : List Func). all g xs gs) e ∙ (ap (λ (ys : List Func). all g g.functions ys) f ∙ ap (λ (h : Graph). all h h.functions h.functions) is) in
      let adds = adds_both k cs (function_chains k g.main (slice_get fs g.main)) (other_chains k 0 gs) old mid new first second in
      subst (λ (os : List Of). AreExplained k os cs new) same (adds [] none)
