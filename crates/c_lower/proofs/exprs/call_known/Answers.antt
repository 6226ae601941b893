use Rattle.std.proofs.Common.{ℕ, List, subst}
use Rattle.lowered_graphs.specs.Making.{◌>>◌}
use Rattle.lowered_graphs.specs.Exprs as spec
use Rattle.c_lower.specs.Emitting.{Emits}
use Rattle.c_lower.proofs.EmitLemmas.{emits_tail}
use Rattle.c_lower.proofs.exprs.call_known.Goals as goal

pub returns : goal.returns
returns c = λ s h. emits_tail (spec.copy_arguments s c.args.called.now.params c.args.args.now c.args.place)
    (λ u. spec.call_to s c.args.function c.args.place >> spec.take_result s c.args.function c.args.called.now.result c.args.place)
    tt c.take_result.result c.args.to.now c.copy_arguments.new.to c.take_result.new.to
    (subst (λ (xs : List ℕ). Emits (spec.copy_arguments s xs c.args.args.now c.args.place) tt c.args.to.now c.copy_arguments.new.to) c.as_slice.ensures (c.in_ok-copy_arguments.ensures s h))
    (emits_tail (spec.call_to s c.args.function c.args.place) (λ u. spec.take_result s c.args.function c.args.called.now.result c.args.place)
    tt c.take_result.result c.copy_arguments.new.to c.call_to.new.to c.take_result.new.to (c.in_ok-call_to.ensures s h) (c.take_result.ensures s h))
