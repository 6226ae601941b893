use Rattle.std.proofs.Common.{◌≡◌, ◌++◌, length, reverse}
use Rattle.c_parse.proofs.grouping.reversed.Given as goal

abbrev pub invariant-loop-part : goal.invariant-loop-part
invariant-loop-part l = l.parts ++ reverse l.rest.items ≡ l.fn.parts

abbrev pub decreases-loop-part : goal.decreases-loop-part
decreases-loop-part l = length l.parts
