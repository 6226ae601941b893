use Rattle.std.proofs.Common.{◌≡◌, ◌<◌, ℕ, false, length, slice_index_or}
use Rattle.std.specs.Prelude.{◌||◌}
use Rattle.touched_objects.specs.Touched.{named_by}
use Rattle.touched_objects.proofs.flags.flags.Given as goal

abbrev pub invariant-loop-operation : goal.invariant-loop-operation
invariant-loop-operation l = record {
  so_many : length l.made.items ≡ l.count;
  named : (f : ℕ) → f < l.count → (slice_index_or l.made.items f false || named_by l.left f l.object) ≡ named_by l.operations f l.object;
}

abbrev pub decreases-loop-operation : goal.decreases-loop-operation
decreases-loop-operation l = length l.left
