use Rattle.std.proofs.Common.{◌≡◌, ◌≤◌, ◌-◌, length, take, reverse}
use Rattle.c_parse.specs.declared.tally.Last.TheVariants.{Other}
use Rattle.c_parse.specs.Steps.{Stands}
use Rattle.c_parse.specs.Tally.{outside, tally_of, IsSparse}
use Rattle.c_parse.specs.Words.{words_of}
use Rattle.c_parse.proofs.parsing.read.Given as goal

abbrev pub invariant-tokens : goal.invariant-tokens
invariant-tokens l = record {
  stands : Stands (take l.at (words_of l.text l.tokens)) (reverse l.machine.waits.stack.items) (reverse l.machine.builds.items);
  within : l.at ≤ length l.tokens;
  counted : l.tally ≡ tally_of (outside Other) (take l.at (words_of l.text l.tokens));
  sparse : IsSparse (take l.at (words_of l.text l.tokens));
  brackets : l.tally.brackets ≤ l.at;
  operators : l.tally.operators ≤ 1000;
}

abbrev pub decreases-tokens : goal.decreases-tokens
decreases-tokens l = length l.tokens - l.at
