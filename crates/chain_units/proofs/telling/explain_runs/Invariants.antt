use Rattle.std.proofs.Common.{ℕ, List, length}
use Rattle.chain_units.specs.Chains.{PlacedChain}
use Rattle.chain_units.specs.Placements.{AreRuns}
use Rattle.chain_units.proofs.ExplainedChains.{StillExplains}
use Rattle.chain_units.proofs.telling.explain_runs.Given as goal

abbrev pub invariant-loop-run : goal.invariant-loop-run
invariant-loop-run g l = (f : ℕ) (os : List PlacedChain) → AreRuns (g.K.Knowledge.known l.k) os l.runs → StillExplains (g.K.Knowledge.known l.k) f os l.left l.chains l.fn.made.items l.made.items

abbrev pub decreases-loop-run : goal.decreases-loop-run
decreases-loop-run g l = length l.left
