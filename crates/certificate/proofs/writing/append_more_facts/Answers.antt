use Rattle.std.proofs.lemmas.Result.{err_from_is_err_and}
use Rattle.certificate.proofs.Appends.{grown}
use Rattle.certificate.proofs.writing.append_more_facts.Goals as goal

pub returns-in_err-append_next_fact : goal.returns-in_err-append_next_fact
returns-in_err-append_next_fact c =
    let p = err_from_is_err_and c.from_residual.result c.from_residual.ensures.1 in
    rw (p.1) (grown c.loop-fact.invariant.0 _ _ _ c.loop-fact.invariant.1 c.in_err-append_next_fact.ensures)
