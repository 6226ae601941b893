-- A graph is planned on a board, or is refused for one reason.
use Rattle.std.proofs.Common.{◌≡◌, ◌⊎◌, ◌<◌, ◌≤◌, ℕ, Option, Some, sym, ap, subst, ◌∙◌, inl, inr, arith}
use Rattle.std.proofs.Math.Nat.{eq-or-lt_of_le}
use Rattle.std.proofs.lemmas.Bool.Decides.{leb_tells}
use Rattle.base_io.specs.declared.place.Place.{Place}
use Rattle.board_table.specs.declared.board.Board.{Board}
use Rattle.flow_graph.specs.declared.graph.Graph.{Graph}
use Rattle.flow_graph.specs.declared.graph.OpKind.{OpKind}
use Rattle.flow_graph.specs.declared.owned.Owned.{Owned}
use Rattle.flow_graph.specs.Owned.{IsAt, operations}
use Rattle.op_cost.specs.Weights.{need as need_of}
use Rattle.checkpoint_graph.specs.Placings.{AllFit, IsTooSmall}
use Rattle.graph_code.specs.Homes.{data_bytes, most_data}
use Rattle.job_files.specs.Refusals.{Refusal, budget_too_small, calls_too_deep, data_too_large}
use Rattle.plan_job.specs.Graphs.{Fits, RefusesGraph}
use Rattle.plan_job.specs.Room.{HasRoom, Nest, most_calls}

-- ---- The first operation for which one charge doesn't pay

which : (n m : ℕ) → (n ≡ m) ⊎ ((n < m) ⊎ (m < n))
which n m = elim (leb_tells n m) [
  | inl t ↦ elim (eq-or-lt_of_le t.1) [ inl same ↦ inl same | inr less ↦ inr (inl less) ]
  | inr f ↦ let more = f.1 in inr (inr (omega (arith, more)))
]

module _ (b : Board) (g : Graph) (op : OpKind) (place : Place) (need budget : ℕ) (h : IsTooSmall b (operations g) op place need budget) where
  -- it costs more than the budget
  dear : b.budget < need_of b h.first.node.op
  dear = subst (λ n. b.budget < n) h.need_is (subst (λ n. n < need) h.budget_is h.above)

  pub not_all : AllFit b (operations g) → ⊥
  not_all all = let fits = all h.number h.first h.is_there in let lacks = dear in omega (arith, fits, lacks)

same_there : (g : Graph) (n : ℕ) (x y : Owned) → IsAt (operations g) n x → IsAt (operations g) n y → x ≡ y
same_there g n x y e f = some_owned x y (sym e ∙ f)
  where
    some_owned : (x y : Owned) → (let s : Option Owned = Some x in s ≡ Some y) → x ≡ y
    some_owned x y e = cc

four_same : (op other : OpKind) (at there : Place) (n m k l : ℕ) → op ≡ other → at ≡ there → n ≡ k → m ≡ l → budget_too_small op at n m ≡ budget_too_small other there k l
four_same op other at there n m k l o p e d =
    ap (λ x. budget_too_small x at n m) o ∙ ap (λ x. budget_too_small other x n m) p ∙ ap (λ x. budget_too_small other there x m) e ∙ ap (λ x. budget_too_small other there k x) d

module _ (b : Board) (g : Graph) where
  -- the first is one
  one_number : (op other : OpKind) (at there : Place) (n m k l : ℕ) (h : IsTooSmall b (operations g) op at n m) (t : IsTooSmall b (operations g) other there k l) → h.number ≡ t.number
  one_number op other at there n m k l h t = elim (which h.number t.number) [
    | inl same ↦ same
    | inr (inl less) ↦ absurd (let fits = t.others h.number h.first less h.is_there in let lacks = dear b g op at n m h in omega (arith, fits, lacks))
    | inr (inr more) ↦ absurd (let fits = h.others t.number t.first more t.is_there in let lacks = dear b g other there k l t in omega (arith, fits, lacks))
  ]

  one_budget : (op other : OpKind) (at there : Place) (n m k l : ℕ) → IsTooSmall b (operations g) op at n m → IsTooSmall b (operations g) other there k l → budget_too_small op at n m ≡ budget_too_small other there k l
  one_budget op other at there n m k l h t =
      let same = same_there g t.number h.first t.first (subst (λ i. IsAt (operations g) i h.first) (one_number op other at there n m k l h t) h.is_there) t.is_there in
      four_same op other at there n m k l
      (h.kind_is ∙ ap (λ (x : Owned). x.node.op.kind) same ∙ sym t.kind_is)
      (h.place_is ∙ ap (λ (x : Owned). x.node.op.place) same ∙ sym t.place_is)
      (h.need_is ∙ ap (λ (x : Owned). need_of b x.node.op) same ∙ sym t.need_is)
      (h.budget_is ∙ sym t.budget_is)

  -- ---- Reasons

  above : (n m : ℕ) → m < n → n ≤ m → ⊥
  above n m lt le = omega (arith, lt, le)

  two_same : (f : ℕ → ℕ → Refusal) (n m k l : ℕ) → n ≡ k → m ≡ l → f n m ≡ f k l
  two_same f n m k l e d = ap (λ x. f x m) e ∙ ap (λ x. f k x) d

  -- so many calls nest, and no other number of them
  one_depth : (n m : ℕ) → Nest g n → Nest g m → n ≡ m
  one_depth n m h k = let le = k.no_deeper n h.innermost h.nests in let ge = h.no_deeper m k.innermost k.nests in omega (arith, le, ge)

  deep : (n : ℕ) → Nest g n → most_calls < n → HasRoom g → ⊥
  deep n h lt room = let c = room.calls_fit in let same = one_depth n c.0 h c.1 in let le = c.2 in omega (arith, same, le, lt)

  by_data : (n m : ℕ) (s : Refusal) → RefusesGraph b g (data_too_large n m) → RefusesGraph b g s → data_too_large n m ≡ s
  by_data n m (data_too_large k l) h t = two_same data_too_large n m k l (h.1 ∙ sym t.1) (h.2 ∙ sym t.2)
  by_data n m (calls_too_deep k l) h t = absurd (above (data_bytes g) most_data h.0 t.0)
  by_data n m (budget_too_small op at k l) h t = absurd (above (data_bytes g) most_data h.0 t.0.data_fits)
  by_data n m s h t = absurd t

  by_calls : (n m : ℕ) (s : Refusal) → RefusesGraph b g (calls_too_deep n m) → RefusesGraph b g s → calls_too_deep n m ≡ s
  by_calls n m (data_too_large k l) h t = absurd (above (data_bytes g) most_data t.0 h.0)
  by_calls n m (calls_too_deep k l) h t = two_same calls_too_deep n m k l (one_depth n k h.1.0 t.1.0) (h.1.2 ∙ sym t.1.2)
  by_calls n m (budget_too_small op at k l) h t = absurd (deep n h.1.0 h.1.1 t.0)
  by_calls n m s h t = absurd t

  by_budget : (op : OpKind) (at : Place) (n m : ℕ) (s : Refusal) → RefusesGraph b g (budget_too_small op at n m) → RefusesGraph b g s → budget_too_small op at n m ≡ s
  by_budget op at n m (data_too_large k l) h t = absurd (above (data_bytes g) most_data t.0 h.0.data_fits)
  by_budget op at n m (calls_too_deep k l) h t = absurd (deep k t.1.0 t.1.1 h.0)
  by_budget op at n m (budget_too_small other there k l) h t = one_budget op other at there n m k l h.1 t.1
  by_budget op at n m s h t = absurd t

  pub one_refusal : (r s : Refusal) → RefusesGraph b g r → RefusesGraph b g s → r ≡ s
  one_refusal (data_too_large n m) s h t = by_data n m s h t
  one_refusal (calls_too_deep n m) s h t = by_calls n m s h t
  one_refusal (budget_too_small op at n m) s h t = by_budget op at n m s h t
  one_refusal r s h t = absurd h

  pub refused_or_planned : (r : Refusal) → RefusesGraph b g r → Fits b g → ⊥
  refused_or_planned (data_too_large n m) h f = above (data_bytes g) most_data h.0 f.room.data_fits
  refused_or_planned (calls_too_deep n m) h f = deep n h.1.0 h.1.1 f.room
  refused_or_planned (budget_too_small op at n m) h f = not_all b g op at n m h.1 f.operations_fit
  refused_or_planned r h f = absurd h
