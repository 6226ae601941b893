use Rattle.std.proofs.Common.{◌≡◌, Some, None, sym, ap, ◌∙◌}
use Rattle.ti_txt.specs.Bytes.{blocks_of}
use Rattle.certificate.specs.Whole.{certificate_of}
use Rattle.cert_rules.specs.Faults.{first_of}
use Rattle.cert_rules.specs.Tables.{point_fault, tables_fault}
use Rattle.cert_state.specs.Shown.{fault_of, functions_in, shown_fault}
use Rattle.cert_sweep.specs.Views.{points_in}
use Rattle.cert_check.proofs.All.{by_tables, by_points}
use Rattle.cert_check.proofs.checking.verdict.Goals as goal

pub returns-in-Some : goal.returns-in-Some
returns-in-Some c =
    let blocks = blocks_of c.args.img.now in
    let rows = certificate_of c.args.c.now in
    let is : tables_fault blocks rows.budget rows.functions rows.stretches c.args.b.now ≡ Some (fault_of c.in-Some.fault) =
    ap (λ s. tables_fault blocks rows.budget rows.functions s c.args.b.now) (sym c.as_slice-stretches.ensures.value)
    ∙ ap (λ f. tables_fault blocks rows.budget (functions_in f) c.as_slice-stretches.result.now c.args.b.now) (sym c.as_slice-functions.ensures.value)
    ∙ sym c.first_fault.ensures ∙ ap shown_fault c.in-Some.is in
    by_tables blocks rows c.args.b.now (fault_of c.in-Some.fault) is

pub returns-in-Some-points_order : goal.returns-in-Some-points_order
returns-in-Some-points_order c =
    let blocks = blocks_of c.args.img.now in
    let rows = certificate_of c.args.c.now in
    let holds : tables_fault blocks rows.budget rows.functions rows.stretches c.args.b.now ≡ None =
    ap (λ s. tables_fault blocks rows.budget rows.functions s c.args.b.now) (sym c.as_slice-stretches.ensures.value)
    ∙ ap (λ f. tables_fault blocks rows.budget (functions_in f) c.as_slice-stretches.result.now c.args.b.now) (sym c.as_slice-functions.ensures.value)
    ∙ sym c.first_fault.ensures ∙ ap shown_fault c.in_default.is in
    let is : first_of (point_fault rows.functions rows.stretches) rows.points ≡ Some (fault_of c.in-Some-points_order.fault) =
    ap (λ p. first_of (point_fault rows.functions rows.stretches) (points_in p)) (sym c.as_slice.ensures.value)
    ∙ ap (λ s. first_of (point_fault rows.functions s) (points_in c.as_slice.result.now)) (sym c.as_slice-stretches.ensures.value)
    ∙ ap (λ f. first_of (point_fault (functions_in f) c.as_slice-stretches.result.now) (points_in c.as_slice.result.now)) (sym c.as_slice-functions.ensures.value)
    ∙ sym c.points_order.ensures ∙ ap shown_fault c.in-Some-points_order.is in
    by_points blocks rows c.args.b.now (fault_of c.in-Some-points_order.fault) holds is
