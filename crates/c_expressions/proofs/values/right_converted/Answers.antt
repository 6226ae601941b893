use Rattle.c_typing.specs.Expressions as spec
use Rattle.c_typing.proofs.Making.{makes_then}
use Rattle.c_expressions.proofs.values.right_converted.Goals as goal

pub returns : goal.returns
returns c = rw (← c.right_type.ensures, ← c.result_type.ensures) (makes_then (spec.converted c.right_type.result c.args.b) (spec.binary_node c.args.place c.args.op c.result_type.result c.args.a) c.args.state.now c.in-Ok.b c.converted.new.state c.binary_node.result c.binary_node.new.state c.in-Ok.ensures c.binary_node.ensures)
