use Rattle.std.proofs.Common.{Option, subst, refl}
use Rattle.std.specs.Prelude.{IfOk}
use Rattle.c_tree.specs.declared.tree.Function.{Function}
use Rattle.flow_graph.specs.declared.graph.Operand.TheVariants.{Const}
use Rattle.lowered_graphs.specs.Exprs as spec
use Rattle.c_lower.specs.Emitting.{Emits}
use Rattle.c_lower.proofs.EmitLemmas.{emits_pure}
use Rattle.c_lower.proofs.exprs.call.Goals as goal

pub returns-in-None : goal.returns-in-None
returns-in-None c = subst (λ (o : Option Function). Emits (spec.call (spec.setting_of c.args.p.now c.args.homes.now) c.args.function o c.args.args.now c.args.place) (Const 0) c.args.to.now c.args.to.now)
    c.in-None.ensures.value (emits_pure (Const 0) c.args.to.now)

pub returns-in-Some : goal.returns-in-Some
returns-in-Some c = subst (λ (o : Option Function). IfOk c.call_known.result (λ x. Emits (spec.call (spec.setting_of c.args.p.now c.args.homes.now) c.args.function o c.args.args.now c.args.place) x c.args.to.now c.call_known.new.to))
    c.in-Some.ensures.value (c.call_known.ensures (spec.setting_of c.args.p.now c.args.homes.now) refl)
