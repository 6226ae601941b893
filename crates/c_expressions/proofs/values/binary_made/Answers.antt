use Rattle.c_typing.specs.Expressions as spec
use Rattle.c_typing.proofs.Making.{makes_then}
use Rattle.c_expressions.proofs.values.binary_made.Goals as goal

pub returns : goal.returns
returns c = rw (← c.left_type.ensures) (makes_then (spec.converted c.left_type.result c.args.a) (spec.right_converted c.args.place c.args.op c.args.a.ty c.args.b) c.args.state.now c.in-Ok.a c.converted.new.state c.right_converted.result c.right_converted.new.state c.in-Ok.ensures c.right_converted.ensures)
