use Rattle.std.proofs.Common.{◌≡◌, reverse}
use Rattle.c_parse.specs.Machine.{level}
use Rattle.c_parse.specs.Steps.{Reaches}
use Rattle.c_parse.specs.Turning.{as_word}
use Rattle.c_parse.proofs.Effort.{effort}
use Rattle.c_parse.proofs.machine.Machine.step.Given as goal

abbrev pub invariant-turns : goal.invariant-turns
invariant-turns l = record {
  reaches : Reaches (as_word l.class l.fn.leaf) (reverse l.initial.self.waits.stack.items) (reverse l.initial.self.builds.items) (reverse l.self.waits.stack.items) (reverse l.self.builds.items);
  same : l.leaf ≡ l.fn.leaf;
  lies : l.depth ≡ level (reverse l.self.waits.stack.items);
}

abbrev pub decreases-turns : goal.decreases-turns
decreases-turns l = effort (reverse l.self.waits.stack.items)
