use Rattle.std.proofs.Common.{◌≡◌, length}
use Rattle.c_parse.specs.Endings.{have_names}
use Rattle.c_parse.proofs.endings.have_names.Given as goal

abbrev pub invariant-loop-rest : goal.invariant-loop-rest
invariant-loop-rest l = have_names l.rest ≡ have_names l.parts

abbrev pub decreases-loop-rest : goal.decreases-loop-rest
decreases-loop-rest l = length l.rest
