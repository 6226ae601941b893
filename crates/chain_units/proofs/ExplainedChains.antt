-- Chains that are explained, one behind the other.
use Rattle.std.specs.Prelude.{Option, Some, None, length, slice_get, unwrap_or}
use Rattle.std.proofs.Common.{◌≡◌, ◌++◌, ℕ, List, [], ◌∷◌, refl, sym, ap, ◌∙◌, subst, append_assoc}
use Rattle.chain_plans.specs.declared.Stretch.{Stretch}
use Rattle.chain_units.specs.declared.cutting.Run.{Run}
use Rattle.chain_units.specs.declared.explaining.Explained.{Explained}
use Rattle.chain_units.specs.declared.plan.Chain.{Chain}
use Rattle.chain_units.specs.declared.telling.ExplainedChain.{ExplainedChain}
use Rattle.chain_units.specs.Known.{Known}
use Rattle.chain_units.specs.Chains.{Of, PlacedChain, all_of}
use Rattle.chain_units.specs.Placements.{AreRuns, IsRun}
use Rattle.chain_units.specs.Explained.{AddsExplained, AreEach, AreExplained, IsChainExplained, IsOneExplained}
use Rattle.chain_units.proofs.Following.{all_of-append, append-nil}

-- ---- the stretches of a chain

each_more : (Q : Stretch → Explained → Type 0) (ss : List Stretch) (es : List Explained) (s : Stretch) (e : Explained) → AreEach Q ss es → Q s e → AreEach Q (ss ++ s ∷ []) (es ++ e ∷ [])
each_more Q [] [] s e are is = (is, tt)
each_more Q (t ∷ ss) (f ∷ es) s e are is = (are.0, each_more Q ss es s e are.1 is)
each_more Q [] (f ∷ es) s e are is = absurd are
each_more Q (t ∷ ss) [] s e are is = absurd are

-- so far some of the stretches are explained, and the others are still to come
pub record AreSome (k : Known) (run : Run) (all left : List Stretch) (made : List Explained) : Type 0 where
  pub done : List Stretch
  pub whole : all ≡ done ++ left
  pub each : (o : PlacedChain) → IsRun k o run → AreEach (IsOneExplained k o) done made

pub some_none : (k : Known) (run : Run) (all : List Stretch) (made : List Explained) → made ≡ [] → AreSome k run all all made
some_none k run all made e = record { done = []; whole = refl; each = λ o is. subst (λ (es : List Explained). AreEach (IsOneExplained k o) [] es) (sym e) tt }

pub some_more : (k : Known) (run : Run) (all left behind : List Stretch) (made new : List Explained) (s : Stretch) (e : Explained) → left ≡ s ∷ behind → new ≡ made ++ e ∷ []
    → ((o : PlacedChain) → IsRun k o run → IsOneExplained k o s e) → AreSome k run all left made → AreSome k run all behind new
some_more k run all left behind made new s e is is' one so = record {
  done = so.done ++ s ∷ [];
  whole = so.whole ∙ (ap (λ (ss : List Stretch). so.done ++ ss) is ∙ sym (append_assoc so.done (s ∷ []) behind));
  each = λ o run_is. subst (λ (es : List Explained). AreEach (IsOneExplained k o) (so.done ++ s ∷ []) es) (sym is') (each_more (IsOneExplained k o) so.done made s e (so.each o run_is) (one o run_is));
}

pub some_all : (k : Known) (run : Run) (all left : List Stretch) (made : List Explained) → left ≡ [] → AreSome k run all left made → (o : PlacedChain) → IsRun k o run → AreEach (IsOneExplained k o) all made
some_all k run all left made e so o is =
    subst (λ (ss : List Stretch). AreEach (IsOneExplained k o) ss made) (sym (so.whole ∙ (ap (λ (ss : List Stretch). so.done ++ ss) e ∙ append-nil so.done))) (so.each o is)

-- ---- chains

module _ (k : Known) where
  none_more : (before : List Of) (cs : List Chain) (es : List ExplainedChain) (o : Of) → AreExplained k before cs es → slice_get cs (length es) ≡ None → AreExplained k (before ++ o ∷ []) cs es
  none_more [] [] es o are end = are
  none_more [] (c ∷ cs) [] o are end = absurd (cc)
  none_more [] (c ∷ cs) (e ∷ es) o are end = absurd (cc)
  none_more (b ∷ bs) [] es o are end = are
  none_more (b ∷ bs) (c ∷ cs) [] o are end = absurd are
  none_more (b ∷ bs) (c ∷ cs) (e ∷ es) o are end = (are.0, none_more bs cs es o are.1 end)

  of_some : {A : Type 0} (x y : A) → Some x ≡ Some y → x ≡ y
  of_some {A} x y e = ap (λ (o : Option A). unwrap_or o x) e

  one_more : (before : List Of) (cs : List Chain) (es : List ExplainedChain) (o : Of) (c : Chain) (e : ExplainedChain) → AreExplained k before cs es → slice_get cs (length es) ≡ Some c → IsChainExplained k o.chain c e
      → AreExplained k (before ++ o ∷ []) cs (es ++ e ∷ [])
  one_more [] [] es o c e are at is = absurd (cc)
  one_more [] (d ∷ cs) [] o c e are at is = (subst (λ (x : Chain). IsChainExplained k o.chain x e) (sym (of_some d c at)) is, refl)
  one_more [] (d ∷ cs) (f ∷ es) o c e are at is = absurd (cc)
  one_more (b ∷ bs) [] es o c e are at is = absurd (cc)
  one_more (b ∷ bs) (d ∷ cs) [] o c e are at is = absurd are
  one_more (b ∷ bs) (d ∷ cs) (f ∷ es) o c e are at is = (are.0, one_more bs cs es o c e are.1 at is)

  pub adds_none_more : (cs : List Chain) (es : List ExplainedChain) (at : ℕ) (o : Of) → at ≡ length es → slice_get cs at ≡ None → AddsExplained k (o ∷ []) cs es es
  adds_none_more cs es at o e end before are = none_more before cs es o are (subst (λ (n : ℕ). slice_get cs n ≡ None) e end)

  pub adds_one_more : (cs : List Chain) (old new : List ExplainedChain) (at : ℕ) (o : Of) (c : Chain) (e : ExplainedChain) → at ≡ length old → slice_get cs at ≡ Some c → new ≡ old ++ e ∷ [] → IsChainExplained k o.chain c e
      → AddsExplained k (o ∷ []) cs old new
  adds_one_more cs old new at o c e same found is told before are =
      subst (λ (es : List ExplainedChain). AreExplained k (before ++ o ∷ []) cs es) (sym is) (one_more before cs old o c e are (subst (λ (n : ℕ). slice_get cs n ≡ Some c) same found) told)

  pub adds_nothing : (cs : List Chain) (es : List ExplainedChain) → AddsExplained k [] cs es es
  adds_nothing cs es before are = subst (λ (os : List Of). AreExplained k os cs es) (sym (append-nil before)) are

  pub adds_both : (cs : List Chain) (os ps : List Of) (old mid new : List ExplainedChain) → AddsExplained k os cs old mid → AddsExplained k ps cs mid new → AddsExplained k (os ++ ps) cs old new
  adds_both cs os ps old mid new first second before are = subst (λ (qs : List Of). AreExplained k qs cs new) (append_assoc before os ps) (second (before ++ os) (first before are))

  -- so far some of the chains are explained, and the others are still to come
  pub record StillExplains (f : ℕ) (all : List PlacedChain) (left : List Run) (cs : List Chain) (old new : List ExplainedChain) : Type 0 where
    pub done : List PlacedChain
    pub rest : List PlacedChain
    pub whole : all ≡ done ++ rest
    pub still : AreRuns k rest left
    pub adds : AddsExplained k (all_of f done) cs old new

  pub still_all : (f : ℕ) (all : List PlacedChain) (runs : List Run) (cs : List Chain) (made : List ExplainedChain) → AreRuns k all runs → StillExplains f all runs cs made made
  still_all f all runs cs made are = record { done = []; rest = all; whole = refl; still = are; adds = adds_nothing cs made }

  pub still_next : (f : ℕ) (all : List PlacedChain) (left behind : List Run) (r : Run) (cs : List Chain) (old mid new : List ExplainedChain) → left ≡ r ∷ behind
      → ((o : Of) → IsRun k o.chain r → AddsExplained k (o ∷ []) cs mid new) → StillExplains f all left cs old mid → StillExplains f all behind cs old new
  still_next f all left behind r cs old mid new e one so = by so.rest so.whole (subst (λ (rs : List Run). AreRuns k so.rest rs) e so.still)
    where
      by : (rest : List PlacedChain) → all ≡ so.done ++ rest → AreRuns k rest (r ∷ behind) → StillExplains f all behind cs old new
      by [] whole still = absurd still
      by (o ∷ os) whole still = record {
        done = so.done ++ o ∷ [];
        rest = os;
        whole = whole ∙ sym (append_assoc so.done (o ∷ []) os);
        still = still.1;
        adds = subst (λ (ps : List Of). AddsExplained k ps cs old new) (sym (all_of-append k f so.done (o ∷ [])))
            (adds_both cs (all_of f so.done) (record { function = f; chain = o } ∷ []) old mid new so.adds (one (record { function = f; chain = o }) still.0));
      }

  pub still_none : (f : ℕ) (all : List PlacedChain) (left : List Run) (cs : List Chain) (old new : List ExplainedChain) → left ≡ [] → StillExplains f all left cs old new → AddsExplained k (all_of f all) cs old new
  still_none f all left cs old new e so = by so.rest so.whole (subst (λ (rs : List Run). AreRuns k so.rest rs) e so.still)
    where
      by : (rest : List PlacedChain) → all ≡ so.done ++ rest → AreRuns k rest [] → AddsExplained k (all_of f all) cs old new
      by [] whole still = subst (λ (ds : List PlacedChain). AddsExplained k (all_of f ds) cs old new) (sym (whole ∙ append-nil so.done)) so.adds
      by (o ∷ os) whole still = absurd still
