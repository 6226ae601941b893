use Rattle.std.proofs.Common.{◌+◌, ◌∷◌, [], length, ap, ◌∙◌, arith}
use Rattle.std.proofs.lemmas.List.{length-append}
use Rattle.op_cost.specs.Templates.{template}
use Rattle.emit_templates.specs.Placed.{home_in}
use Rattle.emit_certs.proofs.Counting.{timed_next}
use Rattle.emit_certs.proofs.timing.timed.Goals as goal

pub loop-instr-preserved : goal.loop-instr-preserved
loop-instr-preserved c =
    let more = ap (λ ts. length ts) c.in_ok-put.ensures ∙ length-append c.loop-instr.code.items (record { instr = c.in-Some.instr.now; times = c.times_in.result } ∷ []) in
    let less = ap (λ is. length is) c.in-Some.ensures in
    let count = c.loop-instr.invariant.count in
    let few = c.loop-instr.invariant.few in
    record {
      whole = timed_next c.args.op.now.kind c.in-Some.instr.now c.loop-instr.left.now c.in-Some.rest.now c.in-Some.ensures c.loop-instr.index c.loop-instr.code.items c.put.new.to.items c.times_in.result
          (template (home_in c.args.places.now.of.items) 0 c.args.op.now) c.loop-instr.invariant.count c.in_ok-put.ensures c.times_in.ensures c.loop-instr.invariant.whole;
      count = omega (arith, more, count);
      few = omega (arith, more, less, few);
    }
