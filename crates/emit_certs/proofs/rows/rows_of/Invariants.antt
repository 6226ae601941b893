use Rattle.std.proofs.Common.{◌≡◌, ◌+◌, ◌*◌, ◌≤◌, ◌++◌, false, map, length}
use Rattle.certificate.specs.Rows.{point_of}
use Rattle.emit_templates.specs.Placed.{home_in}
use Rattle.cert_templates.specs.Frames.{bytes_of_all, points_from, stretch_rows}
use Rattle.emit_certs.specs.Standing.{HaveHomes, head_in, points_of_all, rows_of_all, still}
use Rattle.emit_certs.proofs.rows.rows_of.Given as goal

-- the rows so far and those of the operations that are left make the whole
abbrev pub invariant-loop-node : goal.invariant-loop-node
invariant-loop-node l = record {
  rows : l.stretches.items ++ rows_of_all l.fn.b (home_in l.fn.places.of.items) l.s (still (head_in l.fn.heads) l.left)
      ≡ stretch_rows l.fn.b (home_in l.fn.places.of.items) 0x8012 (still (head_in l.fn.heads) l.fn.nodes);
  points : map point_of l.points.items ++ points_of_all l.fn.b (home_in l.fn.places.of.items) l.s (still (head_in l.fn.heads) l.left)
      ≡ points_from l.fn.b (home_in l.fn.places.of.items) 0x8012 0 0x8012 false (still (head_in l.fn.heads) l.fn.nodes);
  room : l.s.at + bytes_of_all (home_in l.fn.places.of.items) (still (head_in l.fn.heads) l.left) ≡ 0x8012 + bytes_of_all (home_in l.fn.places.of.items) (still (head_in l.fn.heads) l.fn.nodes);
  low : l.s.spent + 171395000000 * length l.left ≤ 171395000000 * length l.fn.nodes;
  have : HaveHomes l.fn.places.of.items l.left;
}

abbrev pub decreases-loop-node : goal.decreases-loop-node
decreases-loop-node l = length l.left
