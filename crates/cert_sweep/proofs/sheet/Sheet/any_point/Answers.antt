use Rattle.std.proofs.Common.{◌≡◌, false, ◌∙◌, arith}
use Rattle.cert_rules.specs.Sheet.{is_point}
use Rattle.cert_sweep.specs.Views.{sheet_of}
use Rattle.cert_sweep.proofs.Rows.{points_further}
use Rattle.cert_sweep.proofs.sheet.Sheet.any_point.Goals as goal

pub loop-left-preserved : goal.loop-left-preserved
loop-left-preserved c =
    let no : is_point (sheet_of c.args.self.now) c.loop-left.at ≡ false = cc in
    record {
      none = points_further (sheet_of c.args.self.now) c.loop-left.at c.loop-left.left (omega arith) no ∙ c.loop-left.invariant.none;
      room = omega arith;
    }
