use Rattle.std.proofs.Common.{◌≡◌, length}
use Rattle.item_weights.specs.Flat.{flats_to}
use Rattle.item_weights.proofs.flat.flat_numbers.Given as goal

abbrev pub invariant-loop-depth : goal.invariant-loop-depth
invariant-loop-depth g l = l.numbers.items ≡ flats_to (record { own = g.R.OwnWeights.own l.rule; number = g.R.FlatRule.number_by l.rule (length l.fn.g.objects) }) l.fn.g l._depth
