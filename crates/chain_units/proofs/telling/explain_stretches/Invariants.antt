use Rattle.std.proofs.Common.{length}
use Rattle.chain_units.proofs.ExplainedChains.{AreSome}
use Rattle.chain_units.proofs.telling.explain_stretches.Given as goal

abbrev pub invariant-loop-stretch : goal.invariant-loop-stretch
invariant-loop-stretch g l = AreSome (g.K.Knowledge.known l.k) l.run l.stretches l.left l.made.items

abbrev pub decreases-loop-stretch : goal.decreases-loop-stretch
decreases-loop-stretch g l = length l.left
