use Rattle.std.proofs.Common.{[], reverse}
use Rattle.c_parse.specs.Machine.{Moves}
use Rattle.c_parse.proofs.Effort.{effort}
use Rattle.c_parse.proofs.machine.Machine.finish.Given as goal

abbrev pub invariant-turns : goal.invariant-turns
invariant-turns l = Moves (reverse l.initial.self.waits.stack.items) (reverse l.initial.self.builds.items) [] (reverse l.self.waits.stack.items) (reverse l.self.builds.items) []

abbrev pub decreases-turns : goal.decreases-turns
decreases-turns l = effort (reverse l.self.waits.stack.items)
