use Rattle.std.proofs.lemmas.Result.{err_from_is_err_and}
use Rattle.certificate.proofs.Appends.{grown}
use Rattle.certificate.proofs.writing.append_terms.Goals as goal

pub returns-in_err-append_term : goal.returns-in_err-append_term
returns-in_err-append_term c =
    let p = err_from_is_err_and c.from_residual.result c.from_residual.ensures.1 in
    rw (p.1) (grown c.loop-term.invariant.0 _ _ _ c.loop-term.invariant.1 c.in_err-append_term.ensures)
