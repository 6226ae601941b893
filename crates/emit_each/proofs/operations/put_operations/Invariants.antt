use Rattle.std.proofs.Common.{◌≡◌, ◌++◌, length}
use Rattle.resumed_runs.specs.Bytes.{bytes_in}
use Rattle.laid_code.specs.Chosen.{chosen_code}
use Rattle.graph_code.specs.Pieces.{pieces_by}
use Rattle.emit_each.specs.Parts.{AllAllowed, AllHave, address_in, end_from, head_in, placed_template}
use Rattle.emit_each.proofs.operations.put_operations.Given as goal

-- what is there and the code of the operations that are left make the whole
abbrev pub invariant-loop-node : goal.invariant-loop-node
invariant-loop-node l = record {
  listed : l.to.items ++ bytes_in (chosen_code l.at (pieces_by (placed_template l.fn.places.of.items) (head_in l.fn.heads) (address_in l.fn.starts.of.items l.fn.starts.end) l.left))
      ≡ l.fn.to.items ++ bytes_in (chosen_code 9 (pieces_by (placed_template l.fn.places.of.items) (head_in l.fn.heads) (address_in l.fn.starts.of.items l.fn.starts.end) l.fn.nodes));
  last : end_from l.at (pieces_by (placed_template l.fn.places.of.items) (head_in l.fn.heads) (address_in l.fn.starts.of.items l.fn.starts.end) l.left)
      ≡ end_from 9 (pieces_by (placed_template l.fn.places.of.items) (head_in l.fn.heads) (address_in l.fn.starts.of.items l.fn.starts.end) l.fn.nodes);
  have : AllHave l.fn.places.of.items l.left;
  allowed : AllAllowed (placed_template l.fn.places.of.items) (address_in l.fn.starts.of.items l.fn.starts.end) l.left;
}

abbrev pub decreases-loop-node : goal.decreases-loop-node
decreases-loop-node l = length l.left
