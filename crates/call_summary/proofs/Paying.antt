-- What the rule for flat functions says of a function that has a cost.
use Rattle.std.proofs.Common.{◌≡◌, ◌+◌, ◌≤◌, ℕ, zero, suc, Bool, true, false, List, [], ◌∷◌, length, refl, sym, ap, subst, inl, inr, ◌∙◌, zero-add, arith}
use Rattle.std.specs.Prelude.{Option, None, Some, slice_get, nat_le, ◌==◌, if◌then◌else◌}
use Rattle.std.specs.Option.{option_map}
use Rattle.std.proofs.lemmas.Bool.Decides.{leb_tells}
use Rattle.board_table.specs.declared.board.Board.{Board}
use Rattle.flow_graph.specs.declared.graph.Func.{Func}
use Rattle.flow_graph.specs.declared.graph.Graph.{Graph}
use Rattle.op_cost.specs.Weights.{overhead}
use Rattle.item_weights.specs.Weights.{Weight, items_weight}
use Rattle.flow_graph.specs.Rules.{IsGraph}
use Rattle.item_weights.proofs.Heights.{flats_are_flats}
use Rattle.item_weights.specs.Flat.{AreFlats, Rule, flat_by, flats, flats_by, next_flats, number_of}
use Rattle.board_weights.specs.OnBoard.{call_cost, fram_cost, own, rule_on}
use Rattle.weighed_runs.specs.Spending.{AreNumbers}
use Rattle.weighed_runs.proofs.Laws.{bodies_cost_at_most}
use Rattle.call_summary.specs.Costs.{ArePaid, RunsCostNoMore, force_on}

number_at : (rule : Rule) (main : ℕ) (fs : List (Option ℕ)) (base : ℕ) (funcs : List Func) (k : ℕ) → slice_get (flats_by rule main fs base funcs) k ≡ option_map (flat_by rule main fs (base + k)) (slice_get funcs k)
number_at rule main fs base [] k = refl
number_at rule main fs base (x ∷ xs) zero = ap (λ f. Some (flat_by rule main fs f x)) (omega arith)
number_at rule main fs base (x ∷ xs) (suc k) = number_at rule main fs (base + 1) xs k ∙ ap (λ f. option_map (flat_by rule main fs f) (slice_get xs k)) (omega arith)

next_at : (rule : Rule) (g : Graph) (fs : List (Option ℕ)) (k : ℕ) → slice_get (next_flats rule g fs) k ≡ option_map (flat_by rule g.main fs k) (slice_get g.functions k)
next_at rule g fs k = number_at rule g.main fs 0 g.functions k ∙ ap (λ f. option_map (flat_by rule g.main fs f) (slice_get g.functions k)) (zero-add k)

-- a weight that a charge pays for
record Pays (b : Board) (objects : ℕ) (o : Option Weight) (cost : ℕ) : Type 0 where
  weight : Weight
  weighs : o ≡ Some weight
  is : fram_cost b objects weight ≡ cost
  paid : call_cost b + cost + overhead b ≤ b.budget

fits_parts : (cost call over budget n : ℕ) → (if nat_le (call + cost + over) budget then Some cost else None) ≡ Some n → (cost ≡ n) × (call + n + over ≤ budget)
fits_parts cost call over budget n e = elim (leb_tells (call + cost + over) budget) [
  | inl t ↦
      let one : Some cost ≡ Some n = sym (ap (λ (x : Bool). if x then Some cost else None) t.0) ∙ e in
      let same : cost ≡ n = cc in
      let le = t.1 in (same, omega (arith, same, le))
  | inr f ↦ let bad : None ≡ Some n = sym (ap (λ (x : Bool). if x then Some cost else None) f.0) ∙ e in absurd (cc)
]

pays : (b : Board) (objects : ℕ) (o : Option Weight) (cost : ℕ) → number_of (rule_on b objects) o ≡ Some cost → Pays b objects o cost
pays b objects None cost e = absurd (cc)
pays b objects (Some w) cost e =
    let p = fits_parts (fram_cost b objects w) (call_cost b) (overhead b) b.budget cost e in
    record { weight = w; weighs = refl; is = p.0; paid = p.1 }

not_main : (f main : ℕ) (x : Option ℕ) (cost : ℕ) → (if f == main then None else x) ≡ Some cost → x ≡ Some cost
not_main f main x cost e = by_case (f == main) e
  where
    by_case : (t : Bool) → (if t then None else x) ≡ Some cost → x ≡ Some cost
    by_case true h = absurd (cc)
    by_case false h = h

record HasCost (b : Board) (g : Graph) (costs : List (Option ℕ)) (f cost : ℕ) : Type 0 where
  func : Func
  is_function : slice_get g.functions f ≡ Some func
  pays_it : Pays b (length g.objects) (items_weight (own b) costs func.body) cost

has_cost : (b : Board) (g : Graph) (costs : List (Option ℕ)) (f cost : ℕ) → AreFlats (rule_on b (length g.objects)) g costs → slice_get costs f ≡ Some (Some cost) → HasCost b g costs f cost
has_cost b g costs f cost flats e = by_function (slice_get g.functions f) refl (sym (next_at (rule_on b (length g.objects)) g costs f) ∙ (sym (ap (λ xs. slice_get xs f) flats) ∙ e))
  where
    by_function : (x : Option Func) → slice_get g.functions f ≡ x → option_map (flat_by (rule_on b (length g.objects)) g.main costs f) (slice_get g.functions f) ≡ Some (Some cost) → HasCost b g costs f cost
    by_function None is h = let bad : None ≡ Some (Some cost) = sym (ap (option_map (flat_by (rule_on b (length g.objects)) g.main costs f)) is) ∙ h in absurd (cc)
    by_function (Some func) is h =
        let one : Some (flat_by (rule_on b (length g.objects)) g.main costs f func) ≡ Some (Some cost) = sym (ap (option_map (flat_by (rule_on b (length g.objects)) g.main costs f)) is) ∙ h in
        let same : flat_by (rule_on b (length g.objects)) g.main costs f func ≡ Some cost = cc in
        record { func = func; is_function = is; pays_it = pays b (length g.objects) (items_weight (own b) costs func.body) cost (not_main f g.main (number_of (rule_on b (length g.objects)) (items_weight (own b) costs func.body)) cost same) }

pub are_paid : (b : Board) (g : Graph) (costs : List (Option ℕ)) → AreFlats (rule_on b (length g.objects)) g costs → ArePaid b costs
are_paid b g costs flats f cost e = (has_cost b g costs f cost flats e).pays_it.paid

pub are_numbers : (b : Board) (g : Graph) (costs : List (Option ℕ)) → AreFlats (rule_on b (length g.objects)) g costs → (sram : List ℕ) → AreNumbers g (force_on b sram (length g.objects)) costs
are_numbers b g costs flats sram f cost e =
    let h = has_cost b g costs f cost flats e in
    let is = h.pays_it.is in
    record { func = h.func; is_function = h.is_function; weight = h.pays_it.weight; weighs = h.pays_it.weighs; enough = omega (arith, is) }

pub runs_cost_no_more : (b : Board) (g : Graph) (costs : List (Option ℕ)) → IsGraph g → AreFlats (rule_on b (length g.objects)) g costs → RunsCostNoMore b g costs
runs_cost_no_more b g costs rules flats f cost s m e sized at =
    let h = has_cost b g costs f cost flats e in
    let is = h.pays_it.is in
    let run = bodies_cost_at_most g (force_on b [] (length g.objects)) costs f h.func h.pays_it.weight s m rules (are_numbers b g costs flats []) h.is_function h.pays_it.weighs sized at in
    omega (arith, run, is)

pub made_flat : (b : Board) (g : Graph) (costs : List (Option ℕ)) → IsGraph g → costs ≡ flats (rule_on b (length g.objects)) g → AreFlats (rule_on b (length g.objects)) g costs
made_flat b g costs rules e = subst (λ xs. AreFlats (rule_on b (length g.objects)) g xs) (sym e) (flats_are_flats (rule_on b (length g.objects)) g rules.heights rules.calls)
