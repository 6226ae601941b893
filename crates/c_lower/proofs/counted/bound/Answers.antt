use Rattle.std.proofs.Common.{ap, sym, ◌∙◌}
use Rattle.lowered_graphs.specs.Counted as spec
use Rattle.lowered_graphs.proofs.ConstantLevels.{constant_ty}
use Rattle.c_lower.proofs.counted.bound.Goals as goal

pub returns : goal.returns
returns c = c.bound_of.ensures (spec.constant c.as_written-written.result.now) (constant_ty c.as_written-written.result.now) (sym c.in_ok-worth.ensures)
    ∙ ap (λ e. spec.bound_of c.args.ty (spec.constant e)) c.as_written-written.ensures
