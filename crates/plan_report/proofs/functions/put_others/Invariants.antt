use Rattle.std.proofs.Common.{◌≡◌, ◌+◌, ◌++◌, length}
use Rattle.std.specs.Prelude.{string_bytes}
use Rattle.plan_report.specs.Report.{others_text}
use Rattle.plan_report.proofs.functions.put_others.Given as goal

abbrev pub invariant-loop-func : goal.invariant-loop-func
invariant-loop-func l = record {
  told : string_bytes l.text ++ others_text l.told.summaries.now l.told.chains.now l.main l.function l.left
      ≡ string_bytes l.fn.text ++ others_text l.told.summaries.now l.told.chains.now l.main 0 l.functions;
  so_many : l.function + length l.left ≡ length l.functions;
}

abbrev pub decreases-loop-func : goal.decreases-loop-func
decreases-loop-func l = length l.left
