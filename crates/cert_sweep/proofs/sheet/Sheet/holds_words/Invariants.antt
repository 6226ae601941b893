use Rattle.std.proofs.Common.{◌≡◌, ◌+◌, ◌*◌, ◌≤◌}
use Rattle.cert_rules.specs.Sheet.{holds_words}
use Rattle.cert_sweep.specs.Views.{sheet_of}
use Rattle.cert_sweep.proofs.sheet.Sheet.holds_words.Given as goal

-- the words so far are there
abbrev pub invariant-loop-left : goal.invariant-loop-left
invariant-loop-left l = record {
  held : holds_words (sheet_of l.self) l.at l.left ≡ holds_words (sheet_of l.self) l.a l.n;
  room : l.at + 2 * l.left ≤ 1049600;
}

abbrev pub decreases-loop-left : goal.decreases-loop-left
decreases-loop-left l = l.left
