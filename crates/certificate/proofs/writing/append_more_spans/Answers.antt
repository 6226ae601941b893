use Rattle.std.proofs.lemmas.Result.{err_from_is_err_and}
use Rattle.certificate.proofs.Appends.{grown}
use Rattle.certificate.proofs.writing.append_more_spans.Goals as goal

pub returns-in_err-append_next_span : goal.returns-in_err-append_next_span
returns-in_err-append_next_span c =
    let p = err_from_is_err_and c.from_residual.result c.from_residual.ensures.1 in
    rw (p.1) (grown c.loop-span.invariant.0 _ _ _ c.loop-span.invariant.1 c.in_err-append_next_span.ensures)
