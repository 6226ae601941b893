use Rattle.std.proofs.Common.{map}
use Rattle.c_typing.specs.Declarations.{declare_by}
use Rattle.c_typing.specs.Programs.{judged}
use Rattle.c_statements.proofs.Declarators.{declare_is, makes_same}
use Rattle.c_statements.proofs.declarations.declare.Goals as goal

pub returns-in-Declarator : goal.returns-in-Declarator
returns-in-Declarator c =
    let parts = c.as_slice.result.now in
    makes_same (declare_by (map judged parts) c.args.base) ((judged c.args.raw.now).declare c.args.base) c.args.state.now c.declare_parts.result c.declare_parts.new.state
    (declare_is c.args.raw.now c.in-Node.rule parts c.args.base (cc) (cc)) c.declare_parts.ensures
