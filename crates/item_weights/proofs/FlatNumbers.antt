-- Numbers of flat functions, by the depth of their calls.
use Rattle.std.proofs.Common.{◌≡◌, ◌+◌, ◌-◌, ◌≤◌, ℕ, zero, suc, Bool, List, refl, sym, ap, inl, inr, ◌∙◌, add-one, arith}
use Rattle.std.specs.Prelude.{Option, None, Some, if◌then◌else◌, ◌==◌}
use Rattle.std.proofs.lemmas.Bool.Decides.{eqb_tells}
use Rattle.flow_graph.specs.declared.graph.Func.{Func}
use Rattle.flow_graph.specs.declared.graph.Graph.{Graph}
use Rattle.item_weights.specs.declared.weighing.Tally.{Tally}
use Rattle.item_weights.specs.Weights.{Weight, items_weight}
use Rattle.item_weights.specs.Tallies.{IsPart, IsTally}
use Rattle.item_weights.specs.Flat.{Rule, flat_by, flats, flats_to, next_flats, no_numbers, number_of}

told_number : (rule : Rule) (n : ℕ) (a : Option Weight) (t : Tally) (r : Option ℕ) → IsPart n a (Some t) → ((w : Weight) → IsTally n w t → r ≡ rule.number w) → r ≡ number_of rule a
told_number rule n None t r p f = absurd p
told_number rule n (Some w) t r p f = f w p

not_main : (f main : ℕ) (x : Option ℕ) → (f ≡ main → ⊥) → (if f == main then None else x) ≡ x
not_main f main x ne = elim (eqb_tells f main) [ inl t ↦ absurd (ne t.1) | inr e ↦ ap (λ (b : Bool). if b then None else x) e.0 ]

pub flat_is : (rule : Rule) (main : ℕ) (flats : List (Option ℕ)) (f : ℕ) (func : Func) (n : ℕ) (t : Tally) (r : Option ℕ) → (f ≡ main → ⊥) → IsPart n (items_weight rule.own flats func.body) (Some t)
    → ((w : Weight) → IsTally n w t → r ≡ rule.number w) → r ≡ flat_by rule main flats f func
flat_is rule main flats f func n t r ne p h = told_number rule n (items_weight rule.own flats func.body) t r p h ∙ sym (not_main f main (number_of rule (items_weight rule.own flats func.body)) ne)

pub first_flats : (rule : Rule) (g : Graph) → flats_to rule g 0 ≡ no_numbers g.functions
unfolding flats_to
first_flats rule g = refl

pub deeper : (rule : Rule) (g : Graph) (k : ℕ) → flats_to rule g (k + 1) ≡ next_flats rule g (flats_to rule g k)
unfolding flats_to
deeper rule g k = ap (flats_to rule g) (add-one k)

-- once nothing changes, nothing changes further on
stays : (rule : Rule) (g : Graph) (k : ℕ) → next_flats rule g (flats_to rule g k) ≡ flats_to rule g k → (j : ℕ) → flats_to rule g (k + j) ≡ flats_to rule g k
stays rule g k h zero = ap (flats_to rule g) (omega arith)
stays rule g k h (suc j) = ap (flats_to rule g) (omega arith) ∙ (deeper rule g (k + j) ∙ (ap (next_flats rule g) (stays rule g k h j) ∙ h))

pub at_last : (rule : Rule) (g : Graph) (k n : ℕ) → k ≤ n → next_flats rule g (flats_to rule g k) ≡ flats_to rule g k → next_flats rule g (flats_to rule g k) ≡ flats_to rule g n
at_last rule g k n le h = h ∙ (sym (stays rule g k h (n - k)) ∙ ap (flats_to rule g) (omega arith))
