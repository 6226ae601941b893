use Rattle.std.proofs.Common.{length, ◌≡◌, ◌++◌}
use Rattle.std.specs.Prelude.{map}
use Rattle.c_tree.specs.Meaning.{first_words}
use Rattle.c_tree.proofs.saying.first_store.Given as goal

abbrev pub invariant-loop-v : goal.invariant-loop-v
invariant-loop-v l = l.store.items ++ map first_words l.rest ≡ map first_words l.variables

abbrev pub decreases-loop-v : goal.decreases-loop-v
decreases-loop-v l = length l.rest
