use Rattle.std.specs.List.{AllByRecursion}
use Rattle.std.proofs.Common.{List, length, ap, subst, arith}
use Rattle.flow_graph.specs.declared.graph.Func.{Func}
use Rattle.chain_units.specs.Fits.{BodyFits}
use Rattle.checkpoint_graph.proofs.ExplainedFunctions.{still_next}
use Rattle.checkpoint_graph.proofs.explaining.explain_others.Goals as goal

pub loop-func-preserved : goal.loop-func-preserved
loop-func-preserved g c =
    let k = g.K.Knowledge.known c.args.k.now in
    let so = c.loop-func.invariant.so_far in
    let longer = ap (λ (fs : List Func). length fs) c.in-Some.ensures in
    record {
      fits = (subst (λ (fs : List Func). AllByRecursion (λ (f : Func). BodyFits k f.body) fs) c.in-Some.ensures c.loop-func.invariant.fits).1;
      so_far = still_next k c.args.chains.now c.args.functions.now c.loop-func.left.now c.in-Some.rest.now c.in-Some.func.now c.loop-func.function c.args.made.now.items c.loop-func.made.items c.explain_other.new.made.items c.in-Some.ensures
          (omega (arith, so.count, longer)) c.in_ok-explain_other.ensures so;
    }
