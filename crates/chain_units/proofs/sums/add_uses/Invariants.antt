use Rattle.std.proofs.Common.{◌≡◌, length}
use Rattle.chain_units.specs.Known.{with_uses}
use Rattle.chain_units.proofs.sums.add_uses.Given as goal

abbrev pub invariant-loop-left : goal.invariant-loop-left
invariant-loop-left l = with_uses l.uses.items l.left ≡ with_uses l.fn.uses.items l.more

abbrev pub decreases-loop-left : goal.decreases-loop-left
decreases-loop-left l = length l.left
