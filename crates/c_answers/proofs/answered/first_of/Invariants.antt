use Rattle.std.proofs.Common.{◌≡◌, length}
use Rattle.c_typing.specs.FirstFaults.{first_of, sooner}
use Rattle.c_answers.proofs.answered.first_of.Given as goal

abbrev pub invariant-loop-fault : goal.invariant-loop-fault
invariant-loop-fault l = first_of l.faults ≡ sooner l.first (first_of l.rest)

abbrev pub decreases-loop-fault : goal.decreases-loop-fault
decreases-loop-fault l = length l.rest
