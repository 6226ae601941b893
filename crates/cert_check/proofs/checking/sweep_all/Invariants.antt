use Rattle.std.proofs.Common.{length, true}
use Rattle.std.specs.Prelude.{Option}
use Rattle.ti_txt.specs.Bytes.{blocks_of}
use Rattle.certificate.specs.Whole.{certificate_of}
use Rattle.cert_rules.specs.Faults.{Fault}
use Rattle.cert_rules.specs.Sweep.{AllSwept}
use Rattle.cert_state.specs.Shown.{functions_in}
use Rattle.cert_check.proofs.checking.sweep_all.Given as goal

-- what the functions left give is the verdict of all
abbrev pub invariant-loop-here : goal.invariant-loop-here
invariant-loop-here l = (verdict : Option Fault) → AllSwept (blocks_of l.img) (certificate_of l.c) l.b l.is_first (functions_in l.rest) verdict → AllSwept (blocks_of l.img) (certificate_of l.c) l.b true (certificate_of l.c).functions verdict

abbrev pub decreases-loop-here : goal.decreases-loop-here
decreases-loop-here l = length l.rest
