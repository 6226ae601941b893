use Rattle.std.proofs.Common.{◌≡◌, Some, refl, sym, ap, ◌∙◌}
use Rattle.cert_rules.specs.Sweep.{entry, entry_fault}
use Rattle.cert_state.specs.Shown.{fault_of, shown_fault}
use Rattle.cert_sweep.specs.Views.{sheet_of}
use Rattle.cert_sweep.proofs.Total.{total, swept_with}
use Rattle.cert_sweep.proofs.sweeping.sweep.Goals as goal

pub returns-in-Some : goal.returns-in-Some
returns-in-Some c =
    let t = sheet_of c.args.t.now in
    let e : entry_fault t (entry t.here t.here.flat) ≡ Some (fault_of c.in-Some.fault) = ap (entry_fault t) (sym c.in_ok-begins.ensures) ∙ sym c.in_ok-first.ensures ∙ ap shown_fault c.in-Some.is in
    let rest = total t t.here.start (entry t.here t.here.flat) in
    swept_with t (Some (fault_of c.in-Some.fault)) rest.0 (Some (fault_of c.in-Some.fault)) e rest.1 refl
