use Rattle.std.proofs.lemmas.Result.{err_from_is_err_and}
use Rattle.certificate.specs.Line.{function}
use Rattle.certificate.specs.Rows.{function_of}
use Rattle.certificate.proofs.Appends.{grown}
use Rattle.certificate.proofs.Written.{row_more}
use Rattle.certificate.proofs.writing.append_functions.Goals as goal

pub returns-in_err-append_function : goal.returns-in_err-append_function
returns-in_err-append_function c =
    let p = err_from_is_err_and c.from_residual.result c.from_residual.ensures.1 in
    rw (p.1) (grown c.loop-row.invariant.0 _ _ _ c.loop-row.invariant.1 c.in_err-append_function.ensures)

pub loop-row-preserved : goal.loop-row-preserved
loop-row-preserved c =
    row_more function function_of c.args.functions.now c.loop-row.row-index c.row-item.result _ _ _ c.loop-row-test.true c.row-item.is c.in_ok-append_function.ensures c.loop-row.invariant
