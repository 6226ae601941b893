use Rattle.std.proofs.Common.{◌≤◌, ◌-◌, length, take, reverse}
use Rattle.c_parse.specs.Steps.{Stands}
use Rattle.c_parse.specs.Words.{words_of}
use Rattle.c_parse.proofs.fitting.behind.Given as goal

abbrev pub invariant-tokens : goal.invariant-tokens
invariant-tokens l = record {
  stands : Stands (take l.at (words_of l.text l.before)) (reverse l.machine.waits.stack.items) (reverse l.machine.builds.items);
  within : l.at ≤ length l.before;
}

abbrev pub decreases-tokens : goal.decreases-tokens
decreases-tokens l = length l.before - l.at
