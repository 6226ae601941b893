use Rattle.c_parse.proofs.Whole.{same_tree}
use Rattle.c_parse.proofs.laws.one_tree.Goals as goal

pub returns : goal.returns
returns c = same_tree
