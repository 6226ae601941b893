use Rattle.std.proofs.Common.{◌≡◌}
use Rattle.board_weights.specs.Sums.{uses_sum}
use Rattle.board_weights.proofs.numbers.uses_cost.Given as goal

abbrev pub invariant-loop-at : goal.invariant-loop-at
invariant-loop-at l = l.total ≡ uses_sum l.b l.reads l.writes l.at
