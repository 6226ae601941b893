use Rattle.std.proofs.Common.{ap, sym, ◌∙◌, ◌++◌, ℕ}
use Rattle.lowered_graphs.specs.GraphOf.{bodies_from}
use Rattle.c_lower.proofs.bodies.bodies.Goals as goal

pub loop-f-preserved : goal.loop-f-preserved
loop-f-preserved c = record {
  functions = ap (λ (k : ℕ). c.add_reached.new.functions ++ (bodies_from c.args.p.now c.args.homes.now k c.in_ok-op.op c.add_reached.new.m c.in-Some.rest.now).functions) c.in_ok-n.ensures
      ∙ (c.in_ok-op.ensures.functions c.in-Some.rest.now
      ∙ (ap (λ l. c.loop-f.functions ++ (bodies_from c.args.p.now c.args.homes.now c.loop-f.n c.loop-f.op c.loop-f.m l).functions) (sym c.in-Some.ensures) ∙ c.loop-f.invariant.functions));
  ops = ap (λ (k : ℕ). (bodies_from c.args.p.now c.args.homes.now k c.in_ok-op.op c.add_reached.new.m c.in-Some.rest.now).ops) c.in_ok-n.ensures
      ∙ (c.in_ok-op.ensures.ops c.in-Some.rest.now
      ∙ (ap (λ l. (bodies_from c.args.p.now c.args.homes.now c.loop-f.n c.loop-f.op c.loop-f.m l).ops) (sym c.in-Some.ensures) ∙ c.loop-f.invariant.ops));
}
