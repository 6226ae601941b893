use Rattle.std.proofs.Common.{◌≡◌, ◌++◌, length}
use Rattle.std.specs.Prelude.{string_bytes}
use Rattle.plan_report.specs.Report.{chains_text}
use Rattle.plan_report.proofs.chains.put_chains.Given as goal

abbrev pub invariant-loop-chain : goal.invariant-loop-chain
invariant-loop-chain l = string_bytes l.text ++ chains_text l.function l.left ≡ string_bytes l.fn.text ++ chains_text l.function l.chains

abbrev pub decreases-loop-chain : goal.decreases-loop-chain
decreases-loop-chain l = length l.left
