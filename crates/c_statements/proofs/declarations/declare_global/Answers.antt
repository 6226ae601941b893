use Rattle.std.proofs.Common.{map}
use Rattle.c_typing.specs.Declarations.{declare_global_by}
use Rattle.c_typing.specs.Programs.{judged}
use Rattle.c_statements.proofs.Declarators.{declare_global_is, makes_same}
use Rattle.c_statements.proofs.declarations.declare_global.Goals as goal

pub returns-in-Declarator : goal.returns-in-Declarator
returns-in-Declarator c =
    let parts = c.as_slice.result.now in
    makes_same (declare_global_by (map judged parts) c.args.base) ((judged c.args.raw.now).declare_global c.args.base) c.args.state.now c.declare_global_parts.result c.declare_global_parts.new.state
    (declare_global_is c.args.raw.now c.in-Node.rule parts c.args.base (cc) (cc)) c.declare_global_parts.ensures
