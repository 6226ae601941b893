use Rattle.std.proofs.Common.{sym}
use Rattle.chain_units.proofs.ExplainedUnits.{behind_is}
use Rattle.chain_units.proofs.explaining.behind_of.Goals as goal

pub loop-left-init : goal.loop-left-init
loop-left-init c = sym (behind_is c.args.pieces.now)
