use Rattle.std.proofs.Common.{◌≡◌, ◌+◌, ◌≤◌}
use Rattle.cert_rules.specs.Sheet.{any_point}
use Rattle.cert_sweep.specs.Views.{sheet_of}
use Rattle.cert_sweep.proofs.sheet.Sheet.any_point.Given as goal

-- no point stands at one so far
abbrev pub invariant-loop-left : goal.invariant-loop-left
invariant-loop-left l = record {
  none : any_point (sheet_of l.self) l.at l.left ≡ any_point (sheet_of l.self) l.a l.n;
  room : l.at + l.left ≤ 1049600;
}

abbrev pub decreases-loop-left : goal.decreases-loop-left
decreases-loop-left l = l.left
