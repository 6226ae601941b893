use Rattle.std.proofs.Common.{arith}
use Rattle.home_planner.proofs.Walking.{least_of-le}
use Rattle.home_planner.proofs.choose.least_within.Goals as goal

pub loop-left-init : goal.loop-left-init
loop-left-init c = record { least = omega (arith, least_of-le c.args.room c.args.pairs.now); limit = omega arith }
