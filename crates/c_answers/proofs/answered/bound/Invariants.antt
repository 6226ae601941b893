use Rattle.std.proofs.Common.{ℕ, ◌≤◌, length}
use Rattle.c_typing.specs.Cycles.{AreAmong}
use Rattle.c_answers.proofs.answered.bound.Given as goal

-- all calls are among any number of functions that is large enough for those seen and for those that are left
abbrev pub invariant-loop-call : goal.invariant-loop-call
invariant-loop-call l = (m : ℕ) → l.n ≤ m → AreAmong m l.rest → AreAmong m l.calls

abbrev pub decreases-loop-call : goal.decreases-loop-call
decreases-loop-call l = length l.rest
