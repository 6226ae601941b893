-- What an emitted image keeps.
use Rattle.std.proofs.Common.{◌≡◌, ℕ, zero, suc, ◌+◌, ◌<◌, ◌≤◌, Bool, Some, List, [], ◌∷◌, length, sym, ap, ◌∙◌, subst, arith, append-nil}
use Rattle.std.specs.Prelude.{◌&&◌, nat_le, Result, Ok, Err, IfErr, IfOk, slice_get}
use Rattle.std.proofs.lemmas.Result.{IfOk-weaker}
use Rattle.board_table.specs.declared.board.Board.{Board}
use Rattle.ti_txt.specs.Image.{Block}
use Rattle.ti_txt.specs.Bytes.{blocks_of}
use Rattle.ti_txt.specs.declared.image.Image.{Image}
use Rattle.power_core.specs.Agreement.{Agrees}
use Rattle.power_core.specs.Enduring.{Endures}
use Rattle.flow_graph.specs.declared.graph.Func.{Func}
use Rattle.flow_graph.specs.declared.graph.Graph.{Graph}
use Rattle.flow_graph.specs.declared.nodes.Node.{Node}
use Rattle.flow_graph.specs.Nodes.{all_nodes, body_nodes, graph_nodes}
use Rattle.flow_graph.specs.Rules.{IsGraph}
use Rattle.graph_code.specs.Heads.{are_straight, has_head}
use Rattle.graph_code.specs.Homes.{data_bytes, most_data}
use Rattle.graph_code.specs.Order.{IsAlone}
use Rattle.op_cost.specs.Weights.{Fits, overhead}
use Rattle.each_image.specs.Each.{all_weights, each_heads, is_first_straight, one_stretch}
use Rattle.each_image.specs.Laws.{ChargesWork}
use Rattle.each_image.proofs.Agreeing.{each_charges_work, each_images_agree, each_images_endure}
use Rattle.each_image.proofs.EachHeads.{each_heads_stand}
use Rattle.each_image.proofs.Holding.{are_held}
use Rattle.emit_each.specs.declared.fault.EmitFault.{EmitFault}
use Rattle.emit_each.specs.declared.fault.EmitFault.TheVariants.{BudgetTooSmall, DataTooLarge, CodeTooLarge, Memory}
use Rattle.emit_each.specs.Emitting.{AgreesWithEach, AllFit, EnduresWithEach, HasNoRoom, IsEmitted, IsHeld, IsLaid, IsRefused, WorksWithEach}
use Rattle.emit_each.proofs.Same.{blocks_by_heads, words_by_heads}

fits_at : (b : Board) (xs : List Node) → AllFit b xs → (i : ℕ) (x : Node) → slice_get xs i ≡ Some x → Fits b x.op
fits_at b [] all i x e = absurd (cc)
fits_at b (y ∷ ys) all zero x e = let same : y ≡ x = cc in subst (λ (z : Node). Fits b z.op) same all.0
fits_at b (y ∷ ys) all (suc i) x e = fits_at b ys all.1 i x e

module _ (b : Board) (g : Graph) (rules : IsGraph g) (alone : IsAlone g) (blocks : List Block) (is : IsEmitted b g blocks) where
  agrees : AgreesWithEach b g blocks
  agrees program nodes carries =
      let heads = each_heads_stand b g rules alone (fits_at b (graph_nodes g) is.fits) in
      subst (λ (bs : List Block). Agrees program nodes bs b) (sym is.image)
      (each_images_agree b program nodes (each_heads b g) g (record { rules = rules; alone = alone; stand = heads.0; objects = is.objects; room = is.room; carries = carries }) heads.1)

  works : WorksWithEach b g blocks
  works program nodes carries =
      let heads = each_heads_stand b g rules alone (fits_at b (graph_nodes g) is.fits) in
      subst (λ (bs : List Block). ChargesWork b (each_heads b g) g bs) (sym is.image)
      (each_charges_work b program nodes (each_heads b g) g (record { rules = rules; alone = alone; stand = heads.0; objects = is.objects; room = is.room; carries = carries }) heads.1)

  endures : EnduresWithEach b g blocks
  endures program nodes carries =
      let heads = each_heads_stand b g rules alone (fits_at b (graph_nodes g) is.fits) in
      subst (λ (bs : List Block). Endures program nodes bs b) (sym is.image)
      (each_images_endure b program nodes (each_heads b g) g (record { rules = rules; alone = alone; stand = heads.0; objects = is.objects; room = is.room; carries = carries }))

  is_held : IsHeld blocks
  is_held = subst (λ (bs : List Block). IsHeld bs) (sym is.image) (are_held (each_heads b g) g rules is.objects is.room)

-- ---- of an answer

module _ (b : Board) (g : Graph) (rules : IsGraph g) (alone : IsAlone g) (r : Result Image EmitFault) (h : IfOk r (λ image. IsEmitted b g (blocks_of image))) where
  pub kept_agrees : IfOk r (λ image. AgreesWithEach b g (blocks_of image))
  kept_agrees = IfOk-weaker r (λ image. IsEmitted b g (blocks_of image)) (λ image. AgreesWithEach b g (blocks_of image)) (λ image is. agrees b g rules alone (blocks_of image) is) h

  pub kept_works : IfOk r (λ image. WorksWithEach b g (blocks_of image))
  kept_works = IfOk-weaker r (λ image. IsEmitted b g (blocks_of image)) (λ image. WorksWithEach b g (blocks_of image)) (λ image is. works b g rules alone (blocks_of image) is) h

  pub kept_endures : IfOk r (λ image. EnduresWithEach b g (blocks_of image))
  kept_endures = IfOk-weaker r (λ image. IsEmitted b g (blocks_of image)) (λ image. EnduresWithEach b g (blocks_of image)) (λ image is. endures b g rules alone (blocks_of image) is) h

  pub kept_held : IfOk r (λ image. IsHeld (blocks_of image))
  kept_held = IfOk-weaker r (λ image. IsEmitted b g (blocks_of image)) (λ image. IsHeld (blocks_of image)) (λ image is. is_held b g rules alone (blocks_of image) is) h

-- ---- with the heads where no plan says them

-- a graph of this function, its operations, and heads that are those where no plan says them
pub record Fitting (b : Board) (g : Graph) (main : Func) (nodes : List Node) (h : ℕ → Bool) : Type 0 where
  pub rules : IsGraph g
  pub alone : g.functions ≡ main ∷ []
  pub nodes_are : nodes ≡ body_nodes main
  pub fits : AllFit b nodes
  pub objects : data_bytes g ≤ most_data
  pub one : Bool
  pub one_is : one ≡ (are_straight main.body && nat_le (all_weights b nodes + overhead b) b.budget)
  pub heads_are : (n : ℕ) → n < length nodes → h n ≡ has_head one n

module _ (b : Board) (g : Graph) (main : Func) (nodes : List Node) (h : ℕ → Bool) (f : Fitting b g main nodes h) where
  pub all_nodes_are : nodes ≡ graph_nodes g
  all_nodes_are = f.nodes_are ∙ (sym (append-nil (body_nodes main)) ∙ ap (λ fs. all_nodes fs) (sym f.alone))

  one_same : f.one ≡ one_stretch b g
  one_same =
      f.one_is
      ∙ (ap (λ fs. is_first_straight fs && nat_le (all_weights b nodes + overhead b) b.budget) (sym f.alone)
      ∙ ap (λ xs. is_first_straight g.functions && nat_le (all_weights b xs + overhead b) b.budget) all_nodes_are)

  rules : IsGraph g
  rules = f.rules

  fits : AllFit b (graph_nodes g)
  fits = subst (λ (xs : List Node). AllFit b xs) all_nodes_are f.fits

  same : (n : ℕ) → n < length (graph_nodes g) → h n ≡ each_heads b g n
  same n low = f.heads_are n (let e = ap (λ (xs : List Node). length xs) all_nodes_are in omega (arith, e, low)) ∙ ap (λ c. has_head c n) one_same

  emitted : (blocks : List Block) → IsLaid h g blocks → IsEmitted b g blocks
  emitted blocks is = record {
    fits = fits;
    objects = is.objects;
    room = subst (λ n. n ≤ 0x3FC0) (words_by_heads g rules h (each_heads b g) same) is.room;
    image = is.image ∙ blocks_by_heads g rules h (each_heads b g) same;
  }

  refused : (fault : EmitFault) → HasNoRoom h g fault → IsRefused b g fault
  refused (BudgetTooSmall op place least budget) none = absurd none
  refused (DataTooLarge what bytes room) none = absurd none
  refused (CodeTooLarge bytes room) is =
      let e = words_by_heads g rules h (each_heads b g) same in
      (f.objects, fits, omega (arith, is.0, e), omega (arith, is.1, e), is.2)
  refused Memory is = tt

  pub emitted_ok : (r : Result Image EmitFault) → IfOk r (λ image. IsLaid h g (blocks_of image)) → IfOk r (λ image. IsEmitted b g (blocks_of image))
  emitted_ok r is = IfOk-weaker r (λ image. IsLaid h g (blocks_of image)) (λ image. IsEmitted b g (blocks_of image)) (λ image x. emitted (blocks_of image) x) is

  pub refused_err : (r : Result Image EmitFault) → IfErr r (λ fault. HasNoRoom h g fault) → IfErr r (λ fault. IsRefused b g fault)
  refused_err r is = on_fault r (λ fault. HasNoRoom h g fault) (λ fault. IsRefused b g fault) refused is
    where
      on_fault : (q : Result Image EmitFault) (P Q : EmitFault → Type 0) → ((e : EmitFault) → P e → Q e) → IfErr q P → IfErr q Q
      on_fault (Ok x) P Q f h = tt
      on_fault (Err e) P Q f h = f e h
