use Rattle.std.proofs.Common.{◌≡◌}
use Rattle.c_typing.specs.Sizes.{size}
use Rattle.c_typing.specs.Programs.{judged}
use Rattle.c_expressions.proofs.trees.place.Given as goal

abbrev pub invariant-loop-at : goal.invariant-loop-at
invariant-loop-at l = (judged l.raw).place ≡ (judged l.at).place

abbrev pub decreases-loop-at : goal.decreases-loop-at
decreases-loop-at l = size l.at
