use Rattle.std.specs.Prelude.{slice_index_or, ◌&&◌, nat_lt}
use Rattle.std.proofs.Common.{◌≡◌, ℕ, false, length}
use Rattle.checkpoint_graph.specs.Knowing.{some_names}
use Rattle.checkpoint_graph.proofs.arrays.arrays.Given as goal

abbrev pub invariant-loop-object : goal.invariant-loop-object
invariant-loop-object l = record {
  flags : (o : ℕ) → slice_index_or l.made.items o false ≡ (nat_lt o l.object && some_names l.operations o);
  count : length l.made.items ≡ l.object;
}
