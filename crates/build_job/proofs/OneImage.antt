-- A graph has an image on a board, or is refused for one reason.
use Rattle.std.proofs.Common.{◌≡◌, ◌<◌, ◌≤◌, ℕ, List, [], ◌∷◌, sym, ap, ◌∙◌, arith, inl, inr}
use Rattle.base_io.specs.declared.place.Place.{Place}
use Rattle.board_table.specs.declared.board.Board.{Board}
use Rattle.ti_txt.specs.Image.{Block}
use Rattle.flow_graph.specs.declared.graph.Graph.{Graph}
use Rattle.flow_graph.specs.declared.graph.Op.{Op}
use Rattle.flow_graph.specs.declared.graph.OpKind.{OpKind}
use Rattle.flow_graph.specs.declared.nodes.Node.{Node}
use Rattle.flow_graph.specs.Nodes.{graph_nodes}
use Rattle.graph_code.specs.Homes.{data_bytes, most_data}
use Rattle.op_cost.specs.Weights.{need as need_of}
use Rattle.each_image.specs.Each.{each_heads}
use Rattle.each_image.specs.Image.{code_words}
use Rattle.emit_each.specs.Emitting.{AllFit, IsEmitted, IsFirstMisfit, most_code}
use Rattle.job_files.specs.Refusals.{Refusal, budget_too_small, code_too_large, data_too_large}
use Rattle.build_job.specs.Images.{RefusesGraph}

-- ---- The first operation for which one charge doesn't pay

first_one : (b : Board) (xs : List Node) (x y : Op) → IsFirstMisfit b xs x → IsFirstMisfit b xs y → x ≡ y
first_one b [] x y h k = absurd h
first_one b (z ∷ zs) x y (inl h) (inl k) = first_one b zs x y h.1 k.1
first_one b (z ∷ zs) x y (inl h) (inr k) = absurd (k.0 h.0)
first_one b (z ∷ zs) x y (inr h) (inl k) = absurd (h.0 k.0)
first_one b (z ∷ zs) x y (inr h) (inr k) = h.1 ∙ sym k.1

none_misfits : (b : Board) (xs : List Node) (x : Op) → AllFit b xs → IsFirstMisfit b xs x → ⊥
none_misfits b [] x all h = h
none_misfits b (z ∷ zs) x all (inl h) = none_misfits b zs x all.1 h.1
none_misfits b (z ∷ zs) x all (inr h) = h.0 all.0

-- ---- Reasons

above : (n m : ℕ) → m < n → n ≤ m → ⊥
above n m lt le = omega (arith, lt, le)

two_same : (f : ℕ → ℕ → Refusal) (n m k l : ℕ) → n ≡ k → m ≡ l → f n m ≡ f k l
two_same f n m k l e d = ap (λ x. f x m) e ∙ ap (λ x. f k x) d

four_same : (op other : OpKind) (at there : Place) (n m k l : ℕ) → op ≡ other → at ≡ there → n ≡ k → m ≡ l → budget_too_small op at n m ≡ budget_too_small other there k l
four_same op other at there n m k l o p e d =
    ap (λ x. budget_too_small x at n m) o ∙ ap (λ x. budget_too_small other x n m) p ∙ ap (λ x. budget_too_small other there x m) e ∙ ap (λ x. budget_too_small other there k x) d

module _ (b : Board) (g : Graph) where
  by_data : (n m : ℕ) (s : Refusal) → RefusesGraph b g (data_too_large n m) → RefusesGraph b g s → data_too_large n m ≡ s
  by_data n m (data_too_large k l) h t = two_same data_too_large n m k l (h.1 ∙ sym t.1) (h.2 ∙ sym t.2)
  by_data n m (budget_too_small op at k l) h t = absurd (above (data_bytes g) most_data h.0 t.0)
  by_data n m (code_too_large k l) h t = absurd (above (data_bytes g) most_data h.0 t.0)
  by_data n m s h t = absurd t

  by_budget : (op : OpKind) (at : Place) (n m : ℕ) (s : Refusal) → RefusesGraph b g (budget_too_small op at n m) → RefusesGraph b g s → budget_too_small op at n m ≡ s
  by_budget op at n m (data_too_large k l) h t = absurd (above (data_bytes g) most_data t.0 h.0)
  by_budget op at n m (budget_too_small other there k l) h t =
      let same : h.1.0 ≡ t.1.0 = first_one b (graph_nodes g) h.1.0 t.1.0 h.1.1 t.1.1 in
      four_same op other at there n m k l
      (h.1.2 ∙ ap (λ (x : Op). x.kind) same ∙ sym t.1.2) (h.1.3 ∙ ap (λ (x : Op). x.place) same ∙ sym t.1.3) (h.1.4 ∙ ap (need_of b) same ∙ sym t.1.4) (h.2 ∙ sym t.2)
  by_budget op at n m (code_too_large k l) h t = absurd (none_misfits b (graph_nodes g) h.1.0 t.1 h.1.1)
  by_budget op at n m s h t = absurd t

  by_code : (n m : ℕ) (s : Refusal) → RefusesGraph b g (code_too_large n m) → RefusesGraph b g s → code_too_large n m ≡ s
  by_code n m (data_too_large k l) h t = absurd (above (data_bytes g) most_data t.0 h.0)
  by_code n m (budget_too_small op at k l) h t = absurd (none_misfits b (graph_nodes g) t.1.0 h.1 t.1.1)
  by_code n m (code_too_large k l) h t = two_same code_too_large n m k l (h.3 ∙ sym t.3) (h.4 ∙ sym t.4)
  by_code n m s h t = absurd t

  pub one_refusal : (r s : Refusal) → RefusesGraph b g r → RefusesGraph b g s → r ≡ s
  one_refusal (data_too_large n m) s h t = by_data n m s h t
  one_refusal (budget_too_small op at n m) s h t = by_budget op at n m s h t
  one_refusal (code_too_large n m) s h t = by_code n m s h t
  one_refusal r s h t = absurd h

  pub refused_or_emitted : (r : Refusal) (image : List Block) → RefusesGraph b g r → IsEmitted b g image → ⊥
  refused_or_emitted (data_too_large n m) image h e = above (data_bytes g) most_data h.0 e.objects
  refused_or_emitted (budget_too_small op at n m) image h e = none_misfits b (graph_nodes g) h.1.0 e.fits h.1.1
  refused_or_emitted (code_too_large n m) image h e = above (code_words (each_heads b g) g) most_code h.2 e.room
  refused_or_emitted r image h e = absurd h
