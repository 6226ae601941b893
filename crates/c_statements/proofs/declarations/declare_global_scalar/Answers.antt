use Rattle.std.proofs.Common.{map, Some, None}
use Rattle.c_typing.specs.Parts.{◌>>=◌}
use Rattle.c_typing.specs.Programs.{judged}
use Rattle.c_typing.specs.Declarations as spec
use Rattle.c_typing.proofs.Making.{makes_then}
use Rattle.c_statements.proofs.declarations.declare_global_scalar.Goals as goal

pub returns : goal.returns
returns c =
    let name = judged c.args.name.now in
    let values = spec.words_from (spec.scalar_values c.args.base.ty (map judged c.args.rest.now)) in
    let made = spec.made_global c.args.base name None in
    makes_then (spec.begin_initialiser name.text) (λ _. values >>= made) c.args.state.now tt c.begin_initialiser.new.state c.made_global.result c.made_global.new.state (rw (← c.text.ensures) c.in_ok-begin_initialiser.ensures)
    (makes_then values made c.begin_initialiser.new.state c.in_ok-first.first c.scalar_words.new.state c.made_global.result c.made_global.new.state c.in_ok-first.ensures c.made_global.ensures)
