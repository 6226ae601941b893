use Rattle.std.proofs.Common.{◌≡◌, ◌+◌, ◌*◌, ◌≤◌, ◌++◌, length, map, sum_by}
use Rattle.ti_txt.specs.Image.{block_of}
use Rattle.emit_each.specs.Parts.{blocks_at, led_by}
use Rattle.emit_each.proofs.data.put_objects.Given as goal

-- the segments so far, the last one and those of the objects that are left make the whole
abbrev pub invariant-loop-object : goal.invariant-loop-object
invariant-loop-object l = record {
  listed : map block_of l.to.items ++ led_by l.last.start l.last.bytes.items (blocks_at l.at l.left) ≡ map block_of l.fn.to.items ++ blocks_at 0x4400 l.fn.objects;
  room : l.at + 2 * sum_by (λ x. x.words) l.left ≤ 0x7F00;
}

abbrev pub decreases-loop-object : goal.decreases-loop-object
decreases-loop-object l = length l.left
