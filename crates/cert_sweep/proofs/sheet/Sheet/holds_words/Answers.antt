use Rattle.std.proofs.Common.{◌≡◌, true, ◌∙◌, arith}
use Rattle.std.specs.Prelude.{is_some}
use Rattle.cert_rules.specs.Words.{word_in}
use Rattle.cert_sweep.specs.Views.{sheet_of}
use Rattle.cert_sweep.proofs.Rows.{holds_further}
use Rattle.cert_sweep.proofs.sheet.Sheet.holds_words.Goals as goal

pub loop-left-preserved : goal.loop-left-preserved
loop-left-preserved c =
    let there : is_some (word_in (sheet_of c.args.self.now).blocks c.loop-left.at) ≡ true = grind arith in
    record {
      held = holds_further (sheet_of c.args.self.now) c.loop-left.at c.loop-left.left (omega arith) there ∙ c.loop-left.invariant.held;
      room = omega arith;
    }
