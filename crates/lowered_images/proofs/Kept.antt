-- The image of a program is that of a graph that carries it.
use Rattle.std.proofs.Common.{◌≡◌, ℕ, zero, suc, Bool, Some, List, [], ◌∷◌, sym, subst}
use Rattle.std.specs.Prelude.{slice_get}
use Rattle.board_table.specs.declared.board.Board.{Board}
use Rattle.ti_txt.specs.Image.{Block, IsImage}
use Rattle.c_tree.specs.Meaning.{meaning}
use Rattle.c_tree.specs.declared.tree.Program.{Program}
use Rattle.flow_graph.specs.declared.graph.Graph.{Graph}
use Rattle.flow_graph.specs.declared.nodes.Node.{Node}
use Rattle.flow_graph.specs.Nodes.{graph_nodes}
use Rattle.flow_graph.specs.Rules.{IsGraph}
use Rattle.msp430_machine.specs.State.{State}
use Rattle.msp430_machine.specs.First.{IsFirst, HoldsBlocks}
use Rattle.power_core.specs.Agreement.{Agrees}
use Rattle.power_core.specs.Enduring.{Endures}
use Rattle.lowered_graphs.specs.GraphOf.{graph_of}
use Rattle.lowered_rules.proofs.Obeyed.{graphs_obey}
use Rattle.op_cost.specs.Weights.{Fits}
use Rattle.each_image.specs.Each.{EachHeadsStand, each_heads}
use Rattle.each_image.specs.Image.{HeadsStand, StretchesFit}
use Rattle.each_image.specs.Laws.{AreEachHeld, AreEachImages, ChargesWork, EachChargesWork, EachImagesAgree, EachImagesEndure, IsEach}
use Rattle.lowered_carries.specs.Laws.{LoweredGraphsAreEach}
use Rattle.emit_each.specs.Emitting.{AllFit}
use Rattle.lowered_images.specs.Images.{AreLoweredHeld, AreLoweredImages, IsImageOf, LoweredImagesAgree, LoweredImagesEndure, LoweredImagesWork}

some_same : {A : Type 0} (x y : A) → Some x ≡ Some y → x ≡ y
some_same x y e = cc

each_of : (b : Board) (xs : List Node) → AllFit b xs → (i : ℕ) (x : Node) → slice_get xs i ≡ Some x → Fits b x.op
each_of b [] all i x e = absurd (cc)
each_of b (y ∷ ys) all zero x e = subst (λ (z : Node). Fits b z.op) (some_same y x e) all.0
each_of b (y ∷ ys) all (suc i) x e = each_of b ys all.1 i x e

module _ (are_each : LoweredGraphsAreEach) (agree : EachImagesAgree) (work : EachChargesWork) (endure : EachImagesEndure) (heads_stand : EachHeadsStand) (are_images : AreEachImages) (are_held : AreEachHeld) where
  module _ (b : Board) (p : Program) (image : List Block) (h : IsImageOf b p image) where
    abbrev g : Graph
    g = graph_of p

    abbrev heads : ℕ → Bool
    heads = each_heads b g

    rules : IsGraph g
    rules = graphs_obey p h.sound h.scoped h.few

    stand : HeadsStand heads g × StretchesFit b heads g
    stand = heads_stand b g rules h.alone (λ i x e. each_of b (graph_nodes g) h.emitted.fits i x e)

    is_each : IsEach (meaning p) p.nodes heads g
    is_each = are_each p heads h.sound h.scoped h.few h.alone stand.0 h.emitted.objects h.emitted.room

    agrees : Agrees (meaning p) p.nodes image b
    agrees = subst (λ x. Agrees (meaning p) p.nodes x b) (sym h.emitted.image) (agree b (meaning p) p.nodes heads g is_each stand.1)

    works : ChargesWork b heads g image
    works = subst (λ x. ChargesWork b heads g x) (sym h.emitted.image) (work b (meaning p) p.nodes heads g is_each stand.1)

    endures : Endures (meaning p) p.nodes image b
    endures = subst (λ x. Endures (meaning p) p.nodes x b) (sym h.emitted.image) (endure b (meaning p) p.nodes heads g is_each)

    is_image : IsImage image
    is_image = subst (λ x. IsImage x) (sym h.emitted.image) (are_images heads g rules h.emitted.objects h.emitted.room)

    is_held : (s : State) × IsFirst s × HoldsBlocks s image
    is_held = subst (λ (x : List Block). (s : State) × IsFirst s × HoldsBlocks s x) (sym h.emitted.image) (are_held heads g rules h.emitted.objects h.emitted.room)

  pub images_agree : LoweredImagesAgree
  images_agree b p image h = agrees b p image h

  pub images_work : LoweredImagesWork
  images_work b p image h = works b p image h

  pub images_endure : LoweredImagesEndure
  images_endure b p image h = endures b p image h

  pub images : AreLoweredImages
  images b p image h = is_image b p image h

  pub images_held : AreLoweredHeld
  images_held b p image h = is_held b p image h
