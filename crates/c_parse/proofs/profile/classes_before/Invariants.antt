use Rattle.std.proofs.Common.{◌≡◌, ◌≤◌, ◌++◌, length, take}
use Rattle.c_parse.specs.Profile.{nearest}
use Rattle.c_parse.specs.Words.{words_of}
use Rattle.c_parse.proofs.profile.classes_before.Given as goal

abbrev pub invariant-loop-left : goal.invariant-loop-left
invariant-loop-left l = record {
  read : l.classes.items ++ nearest (take l.left (words_of l.text l.before)) ≡ nearest (words_of l.text l.before);
  within : l.left ≤ length l.before;
}

abbrev pub decreases-loop-left : goal.decreases-loop-left
decreases-loop-left l = l.left
