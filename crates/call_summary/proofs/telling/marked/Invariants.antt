use Rattle.call_summary.specs.Summaries.{AreMarked}
use Rattle.call_summary.proofs.telling.marked.Given as goal

abbrev pub invariant-loop-object : goal.invariant-loop-object
invariant-loop-object l = AreMarked l.rows l.function l.object l.made.items
