use Rattle.c_parse.proofs.Whole.{one_level}
use Rattle.c_parse.proofs.laws.one_level.Goals as goal

pub returns : goal.returns
returns c = one_level
