use Rattle.std.specs.Prelude.{filter}
use Rattle.std.proofs.Common.{◌≡◌, ◌++◌, length}
use Rattle.chain_units.specs.Explained.{is_restored}
use Rattle.chain_units.proofs.explaining.restored_of.Given as goal

abbrev pub invariant-loop-left : goal.invariant-loop-left
invariant-loop-left g l = l.made.items ++ filter (is_restored (g.K.Knowledge.known l.k) l.first) l.left ≡ filter (is_restored (g.K.Knowledge.known l.k) l.first) l.homes

abbrev pub decreases-loop-left : goal.decreases-loop-left
decreases-loop-left g l = length l.left
