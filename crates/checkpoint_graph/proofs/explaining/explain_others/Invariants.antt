use Rattle.std.specs.List.{AllByRecursion}
use Rattle.std.proofs.Common.{length}
use Rattle.flow_graph.specs.declared.graph.Func.{Func}
use Rattle.chain_units.specs.Fits.{BodyFits}
use Rattle.checkpoint_graph.proofs.ExplainedFunctions.{StillExplains}
use Rattle.checkpoint_graph.proofs.explaining.explain_others.Given as goal

abbrev pub invariant-loop-func : goal.invariant-loop-func
invariant-loop-func g l = record {
  fits : AllByRecursion (λ (f : Func). BodyFits (g.K.Knowledge.known l.k) f.body) l.left;
  so_far : StillExplains (g.K.Knowledge.known l.k) l.chains l.functions l.left l.function l.fn.made.items l.made.items;
}

abbrev pub decreases-loop-func : goal.decreases-loop-func
decreases-loop-func g l = length l.left
