use Rattle.std.proofs.Common.{◌≡◌, ◌+◌, ◌*◌, ◌≤◌}
use Rattle.cert_rules.specs.Slots.{first_in, first_word}
use Rattle.cert_state.specs.Views.{sought}
use Rattle.cert_state.proofs.sought.first_in.Given as goal

-- no word so far is sought
abbrev pub invariant-loop-left : goal.invariant-loop-left
invariant-loop-left l = record {
  found : first_word (sought l.sought) l.at l.left ≡ first_in (sought l.sought) l.least l.greatest;
  room : l.at + 2 * l.left ≤ 2097160;
}

abbrev pub decreases-loop-left : goal.decreases-loop-left
decreases-loop-left l = l.left
