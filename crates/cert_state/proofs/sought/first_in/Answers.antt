use Rattle.std.proofs.Common.{◌≡◌, false, ◌∙◌, arith}
use Rattle.cert_state.specs.Views.{sought}
use Rattle.cert_state.proofs.FirstWords.{first_further}
use Rattle.cert_state.proofs.sought.first_in.Goals as goal

pub loop-left-preserved : goal.loop-left-preserved
loop-left-preserved c =
    let missed : sought c.args.sought.now c.loop-left.at ≡ false = cc in
    record {
      found = first_further (sought c.args.sought.now) c.loop-left.at c.loop-left.left (omega arith) missed ∙ c.loop-left.invariant.found;
      room = omega arith;
    }
