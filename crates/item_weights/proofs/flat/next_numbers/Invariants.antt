use Rattle.std.proofs.Common.{◌≡◌, ◌+◌, ◌++◌, length}
use Rattle.item_weights.specs.Flat.{flats_by, next_flats}
use Rattle.item_weights.proofs.flat.next_numbers.Given as goal

abbrev pub invariant-loop-func : goal.invariant-loop-func
invariant-loop-func g l = record {
  told : l.made.items ++ flats_by (record { own = g.R.OwnWeights.own l.rule; number = g.R.FlatRule.number_by l.rule l.objects }) l.fn.g.main l.flats l.function l.left
      ≡ next_flats (record { own = g.R.OwnWeights.own l.rule; number = g.R.FlatRule.number_by l.rule l.objects }) l.fn.g l.flats;
  filled : length l.made.items ≡ l.function;
  places : l.function + length l.left ≡ length l.fn.g.functions;
}

abbrev pub decreases-loop-func : goal.decreases-loop-func
decreases-loop-func g l = length l.left
