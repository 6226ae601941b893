use Rattle.std.proofs.Common.{◌≡◌, ◌+◌, ◌*◌, ◌≤◌, ◌++◌, length, sum_by}
use Rattle.emit_each.specs.Parts.{addresses_from}
use Rattle.emit_each.proofs.data.places_of.Given as goal

-- the addresses so far and those of the objects that are left make the whole
abbrev pub invariant-loop-object : goal.invariant-loop-object
invariant-loop-object l = record {
  listed : l.places.items ++ addresses_from l.at l.left ≡ addresses_from 0x4400 l.fn.objects;
  room : l.at + 2 * sum_by (λ x. x.words) l.left ≤ 0x7F00;
}

abbrev pub decreases-loop-object : goal.decreases-loop-object
decreases-loop-object l = length l.left
