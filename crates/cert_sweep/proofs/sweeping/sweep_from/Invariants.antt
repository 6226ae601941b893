use Rattle.std.proofs.Common.{◌≤◌, ◌-◌}
use Rattle.std.specs.Prelude.{Option}
use Rattle.std.specs.Option.{option_map}
use Rattle.cert_rules.specs.Faults.{Fault}
use Rattle.cert_rules.specs.Sweep.{Swept}
use Rattle.cert_state.specs.Views.{known_of}
use Rattle.cert_sweep.specs.Views.{sheet_of}
use Rattle.cert_sweep.proofs.sweeping.sweep_from.Given as goal

-- the sweep ends as it does from here on
abbrev pub invariant-loop-a : goal.invariant-loop-a
invariant-loop-a l = record {
  room : l.a ≤ 65557;
  goes : (verdict : Option Fault) → Swept (sheet_of l.t) l.a (option_map known_of l.incoming) verdict →
      Swept (sheet_of l.t) (sheet_of l.t).here.start (option_map known_of l.fn.entry) verdict;
}

abbrev pub decreases-loop-a : goal.decreases-loop-a
decreases-loop-a l = l.end - l.a
