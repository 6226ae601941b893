use Rattle.std.proofs.Common.{◌≡◌, suc, List, Bool, length, ap, ◌∙◌, arith}
use Rattle.lowered_graphs.specs.GraphOf.{marks_after}
use Rattle.c_lower.specs.Calling.{marked_by}
use Rattle.c_lower.proofs.CallLemmas.{marked}
use Rattle.c_lower.proofs.reached.reached.Goals as goal

pub loop-rest-preserved : goal.loop-rest-preserved
loop-rest-preserved c =
    let k = c.loop-rest.invariant.0 in
    let far = c.loop-rest.invariant.1 in
    let shorter = ap length c.in-Some.ensures in
    let marks : c.as_slice.result.now ≡ marks_after c.args.p.now c.loop-rest.invariant.0 = cc (c.loop-rest.invariant.2) in
    let calls : c.as_slice-in-Some.result.now ≡ c.in_ok-table.table = cc in (
      suc k,
      omega (arith, far, shorter),
      c.in_ok-marks-2.ensures
          ∙ (ap (λ (m : List Bool). marked_by m 0 c.as_slice-in-Some.result.now) marks
          ∙ (ap (marked_by (marks_after c.args.p.now c.loop-rest.invariant.0) 0) (calls ∙ c.in_ok-table.ensures)
          ∙ marked c.args.p.now (marks_after c.args.p.now c.loop-rest.invariant.0) 0 c.args.p.now.functions)),
    )
