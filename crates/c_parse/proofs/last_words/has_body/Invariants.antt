use Rattle.std.proofs.Common.{◌≡◌, ◌≤◌, ◌+◌, length}
use Rattle.c_parse.specs.Profile.{has_body}
use Rattle.c_parse.proofs.last_words.has_body.Given as goal

abbrev pub invariant-loop-rest : goal.invariant-loop-rest
invariant-loop-rest l = record {
  same : has_body l.closed l.rest ≡ has_body 0 l.classes;
  few : l.closed + length l.rest ≤ length l.classes;
}

abbrev pub decreases-loop-rest : goal.decreases-loop-rest
decreases-loop-rest l = length l.rest
