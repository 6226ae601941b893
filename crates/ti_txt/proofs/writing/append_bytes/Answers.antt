use Rattle.std.proofs.Common.{arith}
use Rattle.std.proofs.lemmas.Result.{err_from_is_err_and}
use Rattle.ti_txt.proofs.Appending.{fit_all, grown}
use Rattle.ti_txt.proofs.writing.append_bytes.Goals as goal

pub returns-in_err-append_byte-clause-appended : goal.returns-in_err-append_byte-clause-appended
returns-in_err-append_byte-clause-appended c =
    let p = err_from_is_err_and c.from_residual.result c.from_residual.ensures.1 in
    rw (p.1) (grown c.loop-rest.invariant.0 _ _ _ c.loop-rest.invariant.1 c.in_err-append_byte.ensures)

pub returns-in_err-append_byte-clause-fit : goal.returns-in_err-append_byte-clause-fit
returns-in_err-append_byte-clause-fit c = fit_all c.args.bytes.now (λ i. omega (arith, c.type_inv.bytes i))

pub returns-clause-fit : goal.returns-clause-fit
returns-clause-fit c = fit_all c.args.bytes.now (λ i. omega (arith, c.type_inv.bytes i))
