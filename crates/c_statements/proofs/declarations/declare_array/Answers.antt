use Rattle.std.proofs.Common.{map, Some, None}
use Rattle.c_typing.specs.Parts.{◌>>=◌}
use Rattle.c_typing.specs.Programs.{judged}
use Rattle.c_typing.specs.Declarations as spec
use Rattle.c_typing.proofs.Making.{makes_then}
use Rattle.c_statements.proofs.declarations.declare_array.Goals as goal

pub returns : goal.returns
returns c =
    let name = judged c.args.name.now in
    let values = spec.list_values c.args.base.ty c.args.length (map judged c.args.rest.now) in
    let made = spec.made_local c.args.base name (Some c.args.length) 2 in
    makes_then (spec.begin_initialiser name.text) (λ _. values >>= made) c.args.state.now tt c.begin_initialiser.new.state c.made_local.result c.made_local.new.state (rw (← c.text.ensures) c.in_ok-begin_initialiser.ensures)
    (makes_then values made c.begin_initialiser.new.state c.in_ok-values.values c.list_values.new.state c.made_local.result c.made_local.new.state c.in_ok-values.ensures c.made_local.ensures)
