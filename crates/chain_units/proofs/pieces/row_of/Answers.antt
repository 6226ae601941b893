use Rattle.std.proofs.Common.{◌≡◌, ◌++◌, ℕ, List, ap, ◌∙◌}
use Rattle.chain_units.specs.Known.{both, told_weights}
use Rattle.chain_units.proofs.Rows.{row_step, sum_step, touched_step}
use Rattle.chain_units.proofs.pieces.row_of.Goals as goal

pub loop-piece-preserved : goal.loop-piece-preserved
loop-piece-preserved g c =
    let k = g.K.Knowledge.known c.args.k.now in
    let ps = c.args.pieces.now in
    let i = c.loop-piece.piece-index in
    let p = c.piece-item.result in
    let before = told_weights c.loop-piece.sum in
    let old = c.loop-piece.barred.items in
    let sum : told_weights c.add.new.weights ≡ both before (told_weights p.weights) = c.in_ok-add.ensures in
    let barred : c.put_all.new.objects.items ≡ old ++ p.touched.items = c.in_ok-put_all.ensures ∙ ap (λ (xs : List ℕ). old ++ xs) c.deref.ensures.value in
    record {
      sum = sum_step ps i p before (told_weights c.add.new.weights) c.loop-piece-test.true c.piece-item.is c.loop-piece.invariant.sum sum;
      barred = touched_step ps i p old c.put_all.new.objects.items c.loop-piece-test.true c.piece-item.is c.loop-piece.invariant.barred barred;
      row = row_step k c.loop-piece.row.items c.put_weight.new.row.items ps i p c.in_ok-weight.weight c.overhead-overhead.result c.first_of-first.result (told_weights c.add.new.weights) before
          c.deref-in-loop-piece.result.now old c.loop-piece-test.true c.piece-item.is c.loop-piece.invariant.row c.loop-piece.invariant.sum sum c.loop-piece.invariant.barred
          (c.deref-in-loop-piece.ensures.value ∙ barred) c.overhead-overhead.ensures.value c.first_of-first.ensures c.in_ok-weight.ensures c.in_ok-put_weight.ensures;
    }
