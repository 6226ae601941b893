use Rattle.std.proofs.Common.{◌≡◌, ◌++◌, length}
use Rattle.std.specs.Prelude.{string_bytes}
use Rattle.plan_report.specs.Report.{name_text}
use Rattle.plan_report.proofs.functions.put_name.Given as goal

abbrev pub invariant-loop-letter : goal.invariant-loop-letter
invariant-loop-letter l = string_bytes l.text ++ name_text l.left ≡ string_bytes l.fn.text ++ name_text l.name

abbrev pub decreases-loop-letter : goal.decreases-loop-letter
decreases-loop-letter l = length l.left
