use Rattle.std.proofs.Common.{◌≡◌, length, map}
use Rattle.c_typing.specs.Texts.{has}
use Rattle.c_typing.specs.Programs.{judged, texts}
use Rattle.c_expressions.proofs.trees.has.Given as goal

abbrev pub invariant-loop-first : goal.invariant-loop-first
invariant-loop-first l = has l.word (texts (map judged l.words)) ≡ has l.word (texts (map judged l.rest))

abbrev pub decreases-loop-first : goal.decreases-loop-first
decreases-loop-first l = length l.rest
