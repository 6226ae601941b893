use Rattle.graph_code.specs.Pieces.{pieces_by}
use Rattle.emit_each.specs.Parts.{address_in, head_in, placed_template}
use Rattle.emit_each.proofs.Same.{image_by}
use Rattle.emit_each.proofs.image.image_of.Goals as goal

pub invariant_of-result : goal.invariant_of-result
invariant_of-result c = record {
  ordered = image_by c.args.objects.now (pieces_by (placed_template c.args.places.now.of.items) (head_in c.args.heads.now) (address_in c.args.starts.now.of.items c.args.starts.now.end) c.args.nodes.now)
      c.in_ok-code.code.items _ c.in_ok-segments.ensures c.in_ok-code.ensures c.requires.is_image;
}
