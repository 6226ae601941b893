use Rattle.std.proofs.Common.{◌≡◌, ◌≤◌, ◌+◌, ◌-◌, ◌^◌, length, min}
use Rattle.chain_units.specs.Known.{all_fram, told_weights, weight_in_fram}
use Rattle.chain_units.proofs.flat.weight_in_fram.Given as goal

abbrev pub invariant-loop-left : goal.invariant-loop-left
invariant-loop-left l = record {
  same : min (l.cost + all_fram l.board l.left) (2 ^ 64 - 1) ≡ min (weight_in_fram l.board (told_weights l.weights)) (2 ^ 64 - 1);
  within : l.cost ≤ 2 ^ 64 - 1;
}

abbrev pub decreases-loop-left : goal.decreases-loop-left
decreases-loop-left l = length l.left
