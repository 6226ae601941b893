use Rattle.std.proofs.Common.{◌≡◌, ◌++◌}
use Rattle.c_parse.specs.declared.raw.RawRule.TheVariants as rule
use Rattle.c_parse.specs.declared.raw.Raw.TheVariants.{Node}
use Rattle.c_statements.proofs.Grouped.{node_label}
use Rattle.c_statements.proofs.switches.label.Goals as goal

pub returns-in-Label : goal.returns-in-Label
returns-in-Label c =
    let is : c.args.raw.now ≡ Node rule.Label c.as_slice.result.now = cc in
    node_label c.args.raw.now c.as_slice.result.now c.args.ty (c.args.before.now ++ c.args.labels.now) c.args.state.now c.label_parts.result c.label_parts.new.state is c.label_parts.ensures
