use Rattle.std.proofs.Common.{◌+◌, ◌<◌, List, length, ap, subst, refl, arith}
use Rattle.std.specs.List.{AllByRecursion}
use Rattle.flow_graph.specs.declared.owned.Owned.{Owned}
use Rattle.live_objects.specs.GraphArcs.{arcs_from, arcs_of}
use Rattle.flow_graph.proofs.ListLemmas.{append_step}
use Rattle.live_objects.proofs.links.arcs.Goals as goal

pub loop-operation-preserved : goal.loop-operation-preserved
loop-operation-preserved c =
    let count = length c.args.operations.now in let es = c.args.entries.now in let at = c.loop-operation.at in
    record {
      told = append_step c.loop-operation.made.items c.put_arcs.new.arcs.items _ (arcs_of count es at c.in-Some.operation.now.function c.in-Some.operation.now.node.next) (arcs_from count es (at + 1) c.in-Some.rest.now)
          (arcs_from count es at c.loop-operation.left.now) c.in_ok-put_arcs.ensures (ap (arcs_from count es at) c.in-Some.ensures) c.loop-operation.invariant.told;
      functions = (subst (λ (xs : List Owned). AllByRecursion (λ x. x.function < length es) xs) c.in-Some.ensures c.loop-operation.invariant.functions).1;
      places = let h = ap length c.in-Some.ensures in let n = c.loop-operation.invariant.places in omega (arith, h, n);
      count = refl;
    }
