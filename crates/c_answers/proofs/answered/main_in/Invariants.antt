use Rattle.std.proofs.Common.{◌≡◌, length}
use Rattle.c_typing.specs.Programs.{main_in}
use Rattle.c_answers.proofs.answered.main_in.Given as goal

abbrev pub invariant-loop-f : goal.invariant-loop-f
invariant-loop-f l = main_in 0 l.fs ≡ main_in l.at l.rest

abbrev pub decreases-loop-f : goal.decreases-loop-f
decreases-loop-f l = length l.rest
