-- Lists of summaries, by one more.
use Rattle.std.proofs.Common.{◌≡◌, ◌+◌, ◌<◌, ℕ, suc, List, [], ◌∷◌, ◌++◌, length, refl, sym, ap, subst, inl, inr, ◌∙◌, arith, length-append}
use Rattle.std.specs.Prelude.{Option, Some, slice_get}
use Rattle.std.proofs.lemmas.Bool.{cases_lt}
use Rattle.std.proofs.lemmas.Option.{slice_get-get_or, slice_get_within}
use Rattle.std.proofs.lemmas.List.{get_or_append_left}
use Rattle.std.proofs.Math.Seq.{get_or-append_seam}
use Rattle.flow_graph.specs.declared.graph.Func.{Func}
use Rattle.flow_graph.specs.declared.graph.Graph.{Graph}
use Rattle.flow_graph.proofs.ListLemmas.{append_step}
use Rattle.item_weights.specs.Flat.{AreFlats, Rule, flats_by}
use Rattle.call_summary.specs.declared.telling.Summary.{Summary}
use Rattle.call_summary.specs.Summaries.{TellTouched, TellsTouched, cost_in, costs_in}

costs_behind : (xs : List Summary) (s : Summary) → costs_in (xs ++ s ∷ []) ≡ costs_in xs ++ cost_in s ∷ []
costs_behind [] s = refl
costs_behind (x ∷ xs) s = ap (λ cs. cost_in x ∷ cs) (costs_behind xs s)

pub costs_more : (xs ys : List Summary) (s : Summary) (cost : Option ℕ) (left rest all : List (Option ℕ)) → ys ≡ xs ++ s ∷ [] → cost_in s ≡ cost → left ≡ cost ∷ rest
    → costs_in xs ++ left ≡ all → costs_in ys ++ rest ≡ all
costs_more xs ys s cost left rest all longer is front told =
    append_step (costs_in xs) (costs_in ys) all (cost_in s ∷ []) rest left (ap costs_in longer ∙ costs_behind xs s) (front ∙ ap (λ c. c ∷ rest) (sym is)) told

summary_left : (xs : List Summary) (s : Summary) (f : ℕ) → f < length xs → slice_get (xs ++ s ∷ []) f ≡ slice_get xs f
summary_left xs s f lt = let n = length-append xs (s ∷ []) in
    slice_get-get_or (xs ++ s ∷ []) f s (omega (arith, lt, n)) ∙ (ap Some (get_or_append_left xs (s ∷ []) s f lt) ∙ sym (slice_get-get_or xs f s lt))

summary_last : (xs : List Summary) (s : Summary) → slice_get (xs ++ s ∷ []) (length xs) ≡ Some s
summary_last xs s = let n = length-append xs (s ∷ []) in slice_get-get_or (xs ++ s ∷ []) (length xs) s (omega (arith, n)) ∙ ap Some (get_or-append_seam xs s [] s)

pub tell_none : (g : Graph) → TellTouched g []
tell_none g f s e = absurd (cc)

pub tell_more : (g : Graph) (xs : List Summary) (s : Summary) → TellTouched g xs → TellsTouched g (length xs) s → TellTouched g (xs ++ s ∷ [])
tell_more g xs s h t f x e = elim (cases_lt f (length xs)) [
  | inl l ↦ h f x (sym (summary_left xs s f l) ∙ e)
  | inr ge ↦
      let within = slice_get_within (xs ++ s ∷ []) f x e in
      let n = length-append xs (s ∷ []) in
      let at : length xs ≡ f = omega (arith, n, within, ge) in
      let same : Some s ≡ Some x = sym (summary_last xs s) ∙ (ap (λ k. slice_get (xs ++ s ∷ []) k) at ∙ e) in
      let is : s ≡ x = cc in
      subst (λ y. TellsTouched g f y) is (subst (λ k. TellsTouched g k s) at t)
]

so_many_by : (rule : Rule) (main : ℕ) (fs : List (Option ℕ)) (f : ℕ) (funcs : List Func) → length (flats_by rule main fs f funcs) ≡ length funcs
so_many_by rule main fs f [] = refl
so_many_by rule main fs f (x ∷ xs) = ap suc (so_many_by rule main fs (f + 1) xs)

pub so_many_costs : (rule : Rule) (g : Graph) (costs : List (Option ℕ)) → AreFlats rule g costs → length costs ≡ length g.functions
so_many_costs rule g costs flats = ap length flats ∙ so_many_by rule g.main costs 0 g.functions
