use Rattle.std.proofs.Common.{Option, subst}
use Rattle.std.specs.Prelude.{IfOk}
use Rattle.c_tree.specs.declared.tree.Variable.{Variable}
use Rattle.lowered_graphs.specs.Exprs.{setting_of}
use Rattle.lowered_graphs.specs.Stmts as spec
use Rattle.c_lower.specs.Emitting.{Emits}
use Rattle.c_lower.proofs.EmitLemmas.{emits_pure}
use Rattle.c_lower.proofs.declarations.declare_one.Goals as goal

pub returns-in-None : goal.returns-in-None
returns-in-None c = subst (λ (o : Option Variable). Emits (spec.declare_one (setting_of c.args.p.now c.args.homes.now) o c.args.d.now) tt c.args.to.now c.args.to.now)
    c.in-None.ensures.value (emits_pure tt c.args.to.now)

pub returns-in-Some : goal.returns-in-Some
returns-in-Some c = subst (λ (o : Option Variable). IfOk c.declare_known.result (λ u. Emits (spec.declare_one (setting_of c.args.p.now c.args.homes.now) o c.args.d.now) tt c.args.to.now c.declare_known.new.to))
    c.in-Some.ensures.value c.declare_known.ensures
