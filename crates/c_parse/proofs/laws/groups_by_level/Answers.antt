use Rattle.c_parse.proofs.Groups.{some_tree}
use Rattle.c_parse.proofs.laws.groups_by_level.Goals as goal

pub returns : goal.returns
returns c = some_tree
