use Rattle.std.proofs.Common.{◌≡◌, ◌+◌, ◌++◌, length}
use Rattle.call_summary.specs.Summaries.{TellTouched, costs_in}
use Rattle.call_summary.proofs.telling.with_costs.Given as goal

abbrev pub invariant-loop-cost : goal.invariant-loop-cost
invariant-loop-cost l = record {
  told : costs_in l.made.items ++ l.left ≡ l.costs;
  touched : TellTouched l.g l.made.items;
  so_many : length l.made.items ≡ l.function;
  places : l.function + length l.left ≡ length l.g.functions;
}

abbrev pub decreases-loop-cost : goal.decreases-loop-cost
decreases-loop-cost l = length l.left
