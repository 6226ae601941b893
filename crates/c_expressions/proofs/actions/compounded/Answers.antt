use Rattle.std.proofs.Common.{Some}
use Rattle.c_typing.specs.Expressions.{converted}
use Rattle.c_typing.specs.Actions as spec
use Rattle.c_typing.proofs.Making.{makes_then}
use Rattle.c_expressions.proofs.actions.compounded.Goals as goal

pub returns : goal.returns
returns c = rw (← c.right_type.ensures, ← c.left_type.ensures) (makes_then (converted c.right_type.result c.args.e) (λ x. spec.update c.args.aim c.args.at c.args.op c.left_type.result (Some x)) c.args.state.now c.in_ok-by.by c.converted.new.state c.update.result c.update.new.state c.in_ok-by.ensures c.update.ensures)
