use Rattle.std.proofs.Common.{take}
use Rattle.c_answers.specs.Rows.{Exact}
use Rattle.c_answers.proofs.cycles.reached.Given as goal

-- the rows are right for the calls so far
abbrev pub invariant-loop-call : goal.invariant-loop-call
invariant-loop-call l = Exact (take l.call-index l.calls) l.functions l.rows.items
