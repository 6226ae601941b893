use Rattle.std.proofs.Common.{◌≡◌, length}
use Rattle.c_typing.specs.Expressions.{place_in}
use Rattle.c_expressions.proofs.names.place_in.Given as goal

abbrev pub invariant-loop-first : goal.invariant-loop-first
invariant-loop-first l = place_in l.from l.names l.name ≡ place_in l.at l.rest l.name

abbrev pub decreases-loop-first : goal.decreases-loop-first
decreases-loop-first l = length l.rest
