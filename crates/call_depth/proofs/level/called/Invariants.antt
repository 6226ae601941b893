use Rattle.std.proofs.Common.{◌≡◌, ◌<◌, ℕ, length}
use Rattle.std.specs.Prelude.{◌||◌}
use Rattle.call_depth.specs.Levels.{called_in, is_marked}
use Rattle.call_depth.proofs.level.called.Given as goal

abbrev pub invariant-loop-operation : goal.invariant-loop-operation
invariant-loop-operation l = record {
  so_many : length l.made.items ≡ l.count;
  called : (f : ℕ) → f < l.count → (is_marked l.made.items f || called_in l.left l.callers f) ≡ called_in l.operations l.callers f;
}

abbrev pub decreases-loop-operation : goal.decreases-loop-operation
decreases-loop-operation l = length l.left
