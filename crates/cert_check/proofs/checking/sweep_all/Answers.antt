use Rattle.std.proofs.Common.{Some, None, sym, subst}
use Rattle.ti_txt.specs.Bytes.{blocks_of}
use Rattle.certificate.specs.Rows.{function_of}
use Rattle.certificate.specs.Whole.{certificate_of}
use Rattle.cert_rules.specs.Sweep.{AllSwept, SweptFrom, done, fault, next, sheet}
use Rattle.cert_state.specs.Shown.{fault_of, functions_in, shown_fault}
use Rattle.cert_check.proofs.checking.sweep_all.Goals as goal

pub returns-in-Some-2 : goal.returns-in-Some-2
returns-in-Some-2 c =
    let blocks = blocks_of c.args.img.now in
    let rows = certificate_of c.args.c.now in
    let f = function_of c.in-Some.here.now in
    let x = fault_of c.in-Some-2.fault in
    let own : SweptFrom (sheet blocks rows c.args.b.now c.loop-here.is_first f) (Some x) = subst (λ o. SweptFrom (sheet blocks rows c.args.b.now c.loop-here.is_first f) (shown_fault o)) c.in-Some-2.is c.in_ok-fault.ensures in
    c.loop-here.invariant (Some x)
    (subst (λ rest. AllSwept blocks rows c.args.b.now c.loop-here.is_first (functions_in rest) (Some x)) (sym c.in-Some.ensures)
    (fault c.loop-here.is_first f (functions_in c.in-Some.after.now) x own))

pub loop-here-preserved : goal.loop-here-preserved
loop-here-preserved c = λ verdict swept.
    let blocks = blocks_of c.args.img.now in
    let rows = certificate_of c.args.c.now in
    let f = function_of c.in-Some.here.now in
    let own : SweptFrom (sheet blocks rows c.args.b.now c.loop-here.is_first f) None = subst (λ o. SweptFrom (sheet blocks rows c.args.b.now c.loop-here.is_first f) (shown_fault o)) c.in_default-2.is c.in_ok-fault.ensures in
    c.loop-here.invariant verdict
    (subst (λ rest. AllSwept blocks rows c.args.b.now c.loop-here.is_first (functions_in rest) verdict) (sym c.in-Some.ensures)
    (next c.loop-here.is_first f (functions_in c.in-Some.after.now) verdict own swept))

pub returns : goal.returns
returns c =
    let blocks = blocks_of c.args.img.now in
    let rows = certificate_of c.args.c.now in
    c.loop-here.invariant None
    (subst (λ rest. AllSwept blocks rows c.args.b.now c.loop-here.is_first (functions_in rest) None) (sym c.in_default.ensures) (done c.loop-here.is_first))
