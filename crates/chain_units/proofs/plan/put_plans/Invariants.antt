use Rattle.std.specs.List.{AllByRecursion}
use Rattle.std.proofs.Common.{List, length}
use Rattle.chain_units.specs.Chains.{PlacedChain}
use Rattle.chain_units.specs.Placements.{AreRuns, RunFits}
use Rattle.chain_units.proofs.Following.{SoFar}
use Rattle.chain_units.proofs.plan.put_plans.Given as goal

abbrev pub invariant-loop-run : goal.invariant-loop-run
invariant-loop-run g l = record {
  fits : AllByRecursion (RunFits (g.K.Knowledge.known l.k)) l.left;
  so_far : (os : List PlacedChain) → AreRuns (g.K.Knowledge.known l.k) os l.runs → SoFar (g.K.Knowledge.known l.k) l.function os l.left l.fn.chains.items l.chains.items;
}

abbrev pub decreases-loop-run : goal.decreases-loop-run
decreases-loop-run g l = length l.left
