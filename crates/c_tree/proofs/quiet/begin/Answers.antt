use Rattle.c_tree.proofs.Chain.{quiet_begin}
use Rattle.c_tree.proofs.quiet.begin.Goals as goal

pub returns-clause-meets : goal.returns-clause-meets
returns-clause-meets c = quiet_begin _ _ _ c.begin.ensures.meets
