use Rattle.std.proofs.Common.{Some, sym, subst}
use Rattle.ti_txt.specs.Bytes.{blocks_of}
use Rattle.certificate.specs.Whole.{certificate_of}
use Rattle.cert_rules.specs.Sweep.{Certified, Verdict}
use Rattle.cert_sound.proofs.Soundness.{sound}
use Rattle.cert_state.specs.Shown.{fault_of, shown_fault}
use Rattle.cert_check.specs.Checking.{IsRefusal}
use Rattle.cert_check.proofs.Moments.{every_run}
use Rattle.cert_check.proofs.One.{excludes}
use Rattle.cert_check.proofs.checking.check.Goals as goal

pub returns-in-Ok-None-clause-safe : goal.returns-in-Ok-None-clause-safe
returns-in-Ok-None-clause-safe c = λ input s events m small is_first holds generous run.
    let blocks = blocks_of c.args.img.now in
    let rows = certificate_of c.args.c.now in
    let certified : Certified blocks rows c.args.b.now = subst (λ o. Verdict blocks rows c.args.b.now (shown_fault o)) c.in-Ok-None.field-0-is c.in-Ok-None.ensures in
    sound blocks rows c.args.b.now input s events m c.args.img.now.ordered certified c.args.c.now.ruled.some small is_first holds generous run

pub returns-in-Ok-None-clause-every_run : goal.returns-in-Ok-None-clause-every_run
returns-in-Ok-None-clause-every_run c = every_run (blocks_of c.args.img.now) (certificate_of c.args.c.now) c.args.b.now (returns-in-Ok-None-clause-safe c)

pub returns-in-Ok-Some-clause-refused : goal.returns-in-Ok-Some-clause-refused
returns-in-Ok-Some-clause-refused c =
    let blocks = blocks_of c.args.img.now in
    let rows = certificate_of c.args.c.now in
    let x = fault_of c.in-Ok-Some.fault in
    let breaks : Verdict blocks rows c.args.b.now (Some x) = subst (λ o. Verdict blocks rows c.args.b.now (shown_fault o)) c.in-Ok-Some.field-0-is c.in-Ok-Some.ensures in
    subst (λ r. IsRefusal blocks rows c.args.b.now r) (sym c.refusal.ensures) (breaks, excludes blocks rows c.args.b.now x breaks)
