use Rattle.std.proofs.lemmas.Result.{err_from_is_err_and}
use Rattle.ti_txt.proofs.Appending.{grown}
use Rattle.ti_txt.proofs.writing.append_segments.Goals as goal

pub returns-in_err-append_segment-clause-appended : goal.returns-in_err-append_segment-clause-appended
returns-in_err-append_segment-clause-appended c =
    let p = err_from_is_err_and c.from_residual.result c.from_residual.ensures.1 in
    rw (p.1) (grown c.loop-segment.invariant.0 _ _ _ c.loop-segment.invariant.1 c.in_err-append_segment.ensures.appended)
