use Rattle.c_parse.proofs.Groups.{only_tree}
use Rattle.c_parse.proofs.laws.one_grouping.Goals as goal

pub returns : goal.returns
returns c = only_tree
