use Rattle.std.proofs.Common.{◌≡◌, ◌+◌, ◌*◌, ◌≤◌, ◌++◌, length}
use Rattle.graph_code.specs.Pieces.{pieces_by}
use Rattle.emit_each.specs.Parts.{AllHave, end_from, head_in, placed_template, starts_from}
use Rattle.emit_each.proofs.places.starts_of.Given as goal

-- the starts so far and those of the operations that are left make the whole
abbrev pub invariant-loop-node : goal.invariant-loop-node
invariant-loop-node l = record {
  listed : l.starts.items ++ starts_from l.at (pieces_by (placed_template l.fn.places.of.items) (head_in l.fn.heads) (λ m. 0) l.left)
      ≡ starts_from 9 (pieces_by (placed_template l.fn.places.of.items) (head_in l.fn.heads) (λ m. 0) l.fn.nodes);
  last : end_from l.at (pieces_by (placed_template l.fn.places.of.items) (head_in l.fn.heads) (λ m. 0) l.left)
      ≡ end_from 9 (pieces_by (placed_template l.fn.places.of.items) (head_in l.fn.heads) (λ m. 0) l.fn.nodes);
  have : AllHave l.fn.places.of.items l.left;
  small : l.at + 299 * length l.left ≤ 1224713;
}

abbrev pub decreases-loop-node : goal.decreases-loop-node
decreases-loop-node l = length l.left
