-- Chains with their plans, one behind the other.
use Rattle.std.specs.Prelude.{length}
use Rattle.std.proofs.Common.{◌≡◌, ◌+◌, ◌++◌, ℕ, List, [], ◌∷◌, refl, sym, ap, ◌∙◌, subst, arith, append_assoc}
use Rattle.chain_units.specs.declared.cutting.Run.{Run}
use Rattle.chain_units.specs.declared.plan.Chain.{Chain}
use Rattle.chain_units.specs.Known.{Known}
use Rattle.chain_units.specs.Chains.{Of, PlacedChain, all_of}
use Rattle.chain_units.specs.Placements.{AreRuns, IsRun}
use Rattle.chain_units.specs.Planned.{AddsPlans, ArePlans, IsPlanOf}

pub append-nil : {A : Type 0} (xs : List A) → xs ++ [] ≡ xs
append-nil [] = refl
append-nil (x ∷ xs) = ap (λ ys. x ∷ ys) (append-nil xs)

module _ (k : Known) where
  plans_more : (n : ℕ) (os : List Of) (cs : List Chain) (o : Of) (c : Chain) → ArePlans k n os cs → c.number ≡ n + length cs → c.function ≡ o.function → IsPlanOf k o.chain c
      → ArePlans k n (os ++ o ∷ []) (cs ++ c ∷ [])
  plans_more n [] [] o c are number function plan = (omega (arith, number), function, plan, tt)
  plans_more n (p ∷ os) (d ∷ cs) o c are number function plan = (are.0, are.1, are.2, plans_more (n + 1) os cs o c are.3 (omega (arith, number)) function plan)
  plans_more n [] (d ∷ cs) o c are number function plan = absurd are
  plans_more n (p ∷ os) [] o c are number function plan = absurd are

  adds_none : (cs : List Chain) → AddsPlans k [] cs cs
  adds_none cs before are = subst (λ (os : List Of). ArePlans k 1 os cs) (sym (append-nil before)) are

  adds_one : (os : List Of) (o : Of) (old mid new : List Chain) (c : Chain) → AddsPlans k os old mid → new ≡ mid ++ c ∷ [] → c.number ≡ length mid + 1 → c.function ≡ o.function → IsPlanOf k o.chain c
      → AddsPlans k (os ++ o ∷ []) old new
  adds_one os o old mid new c adds is number function plan before are =
      subst (λ (cs : List Chain). ArePlans k 1 (before ++ (os ++ o ∷ [])) cs) (sym is)
      (subst (λ (ps : List Of). ArePlans k 1 ps (mid ++ c ∷ [])) (append_assoc before os (o ∷ [])) (plans_more 1 (before ++ os) mid o c (adds before are) (omega (arith, number)) function plan))

  pub adds_two : (os ps : List Of) (old mid new : List Chain) → AddsPlans k os old mid → AddsPlans k ps mid new → AddsPlans k (os ++ ps) old new
  adds_two os ps old mid new first second before are = subst (λ (qs : List Of). ArePlans k 1 qs new) (append_assoc before os ps) (second (before ++ os) (first before are))

  pub all_of-append : (f : ℕ) (cs ds : List PlacedChain) → all_of f (cs ++ ds) ≡ all_of f cs ++ all_of f ds
  all_of-append f [] ds = refl
  all_of-append f (c ∷ cs) ds = ap (λ (os : List Of). record { function = f; chain = c } ∷ os) (all_of-append f cs ds)

  -- so far some of the chains have their plans, and the others are still to come
  pub record SoFar (f : ℕ) (cs : List PlacedChain) (left : List Run) (old new : List Chain) : Type 0 where
    pub done : List PlacedChain
    pub rest : List PlacedChain
    pub whole : cs ≡ done ++ rest
    pub still : AreRuns k rest left
    pub adds : AddsPlans k (all_of f done) old new

  pub start : (f : ℕ) (cs : List PlacedChain) (runs : List Run) (chains : List Chain) → AreRuns k cs runs → SoFar f cs runs chains chains
  start f cs runs chains are = record { done = []; rest = cs; whole = refl; still = are; adds = adds_none chains }

  pub next : (f : ℕ) (cs : List PlacedChain) (left behind : List Run) (r : Run) (c : Chain) (old mid new : List Chain) → left ≡ r ∷ behind → c.number ≡ length mid + 1 → c.function ≡ f
      → ((o : PlacedChain) → IsRun k o r → IsPlanOf k o c) → new ≡ mid ++ c ∷ [] → SoFar f cs left old mid → SoFar f cs behind old new
  next f cs left behind r c old mid new e number function plan is so = by so.rest so.whole (subst (λ (rs : List Run). AreRuns k so.rest rs) e so.still)
    where
      by : (rest : List PlacedChain) → cs ≡ so.done ++ rest → AreRuns k rest (r ∷ behind) → SoFar f cs behind old new
      by [] whole still = absurd still
      by (o ∷ os) whole still = record {
        done = so.done ++ o ∷ [];
        rest = os;
        whole = whole ∙ sym (append_assoc so.done (o ∷ []) os);
        still = still.1;
        adds = subst (λ (ps : List Of). AddsPlans k ps old new) (sym (all_of-append f so.done (o ∷ [])))
            (adds_one (all_of f so.done) (record { function = f; chain = o }) old mid new c so.adds is number function (plan o still.0));
      }

  pub done_all : (f : ℕ) (cs : List PlacedChain) (left : List Run) (old new : List Chain) → left ≡ [] → SoFar f cs left old new → AddsPlans k (all_of f cs) old new
  done_all f cs left old new e so = by so.rest so.whole (subst (λ (rs : List Run). AreRuns k so.rest rs) e so.still)
    where
      by : (rest : List PlacedChain) → cs ≡ so.done ++ rest → AreRuns k rest [] → AddsPlans k (all_of f cs) old new
      by [] whole still = subst (λ (ds : List PlacedChain). AddsPlans k (all_of f ds) old new) (sym (whole ∙ append-nil so.done)) so.adds
      by (o ∷ os) whole still = absurd still
