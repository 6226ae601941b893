use Rattle.std.proofs.Common.{◌≡◌, length, arith}
use Rattle.std.proofs.lemmas.Result.{err_from_is_err_and}
use Rattle.ti_txt.proofs.Filling.{comes_through, loads, stops_within, too_short}
use Rattle.ti_txt.proofs.reading.fill.Goals as goal

pub returns-in_err-spot-clause-fault : goal.returns-in_err-spot-clause-fault
returns-in_err-spot-clause-fault c =
    let p = err_from_is_err_and c.from_residual.result c.from_residual.ensures.1 in
    rw (p.1, p.2) (stops_within c.args.text.now c.loop-rest.rest.now c.args.cells.now c.loop-rest.cells c.loop-rest.at c.loop-rest.spot c.in_err-spot.field-0.0 c.requires c.in-len1-up.len_at_least c.loop-rest.invariant.1 c.in_err-spot.ensures.cells)

pub returns-in-Ended-clause-loaded : goal.returns-in-Ended-clause-loaded
returns-in-Ended-clause-loaded c =
    loads c.args.text.now c.loop-rest.cells c.loop-rest.spot (comes_through c.args.text.now c.loop-rest.rest.now c.args.cells.now c.loop-rest.cells c.loop-rest.at c.loop-rest.spot c.requires c.in_default.len_below c.loop-rest.invariant.1) c.in-Ended.is

pub returns-in_default-spot : goal.returns-in_default-spot
returns-in_default-spot c =
    let place : c.loop-rest.at ≡ length c.args.text.now = omega (arith, c.loop-rest.invariant.2, c.in_default.len_below) in
    record {
      loaded = tt;
      fault = too_short c.args.text.now c.loop-rest.cells c.loop-rest.spot c.loop-rest.at
          (comes_through c.args.text.now c.loop-rest.rest.now c.args.cells.now c.loop-rest.cells c.loop-rest.at c.loop-rest.spot c.requires c.in_default.len_below c.loop-rest.invariant.1)
          c.in_default-spot.not-Ended place;
    }
