use Rattle.std.proofs.Common.{◌∙◌, ◌∷◌, [], map, sym, arith, length-append}
use Rattle.std.proofs.lemmas.List.{length-map, length-set}
use Rattle.run_job.proofs.Boxes.{as_yielded, err_of, next_loaded, not_loaded, ok_of}
use Rattle.run_job.proofs.opened_run.load_each.Goals as goal

pub returns-then-is_err : goal.returns-then-is_err
returns-then-is_err g c = record {
  rows = map (λ v. v.items) c.loop-more.yielded;
  are =
      not_loaded (λ b. (goal.Supply-dyn g (b.vtable, b.value)).rows_left b.value) (λ b. (goal.Supply-dyn g (b.vtable, b.value)).supply_faults b.value)
      c.loop-more.supplies.items c.index_mut.result.now c.load_box.new.b c.loop-more.i c.index_mut.ensures.value
      (err_of c.load_box.result _ _ (sym c.is_err.ensures.value ∙ c.if-is_err.true) c.load_box.ensures.rows) c.load_box.ensures.faults
      ∙ c.loop-more.invariant.boxes;
}

pub loop-more-preserved : goal.loop-more-preserved
loop-more-preserved g c =
    let count = c.loop-more.invariant.count in
    let same = length-append c.loop-more.yielded (c.in-Some.more ∷ []) in
    record {
      count = omega (arith, count, same);
      number = length-set c.loop-more.supplies.items c.loop-more.i c.load_box.new.b ∙ c.loop-more.invariant.number;
      boxes = as_yielded _ c.loop-more.yielded c.in-Some.more (λ v. v.items) _
          (next_loaded (λ b. (goal.Supply-dyn g (b.vtable, b.value)).rows_left b.value) (λ b. (goal.Supply-dyn g (b.vtable, b.value)).supply_faults b.value)
          c.args.supplies.now.items c.loop-more.supplies.items c.index_mut.result.now c.load_box.new.b c.loop-more.i (map (λ v. v.items) c.loop-more.yielded) c.in-Some.more.items
          (c.loop-more.invariant.count ∙ sym (length-map c.loop-more.yielded (λ v. v.items))) c.index_mut.ensures.value
          (ok_of c.load_box.result _ _ (sym c.is_err.ensures.value ∙ c.if-is_err.false) c.load_box.ensures.rows) c.load_box.ensures.faults c.loop-more.invariant.boxes);
    }
