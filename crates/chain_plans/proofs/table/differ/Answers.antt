use Rattle.std.proofs.Common.{List, sym, subst}
use Rattle.loop_checkpoints.specs.declared.LoopObject.{LoopObject}
use Rattle.loop_checkpoints.specs.Loops as loops
use Rattle.chain_plans.proofs.WholeTables.{differ_first, differ_more, differ_none, differ_rest}
use Rattle.chain_plans.proofs.table.differ.Goals as goal

pub returns-then-not-is_none_of : goal.returns-then-not-is_none_of
returns-then-not-is_none_of c =
    let object = c.in-Some.object.now in let rest = c.in-Some.rest.now in
    λ d. c.if-not-is_none_of.ensures (differ_first object rest (subst (λ (os : List LoopObject). loops.Differ os) c.in-Some.ensures (c.loop-object.invariant.backward d)))

pub loop-object-preserved : goal.loop-object-preserved
loop-object-preserved c =
    let object = c.in-Some.object.now in let rest = c.in-Some.rest.now in
    record {
      onward = λ d. c.loop-object.invariant.onward (subst (λ (os : List LoopObject). loops.Differ os) (sym c.in-Some.ensures) (differ_more object rest c.if-not-is_none_of.ensures d));
      backward = λ d. differ_rest object rest (subst (λ (os : List LoopObject). loops.Differ os) c.in-Some.ensures (c.loop-object.invariant.backward d));
    }

pub returns : goal.returns
returns c = c.loop-object.invariant.onward (subst (λ (os : List LoopObject). loops.Differ os) (sym c.in_default.ensures) differ_none)
