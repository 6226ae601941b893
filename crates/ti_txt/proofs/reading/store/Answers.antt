use Rattle.std.proofs.Common.{sym, ap, arith}
use Rattle.ti_txt.specs.Spots.{put_of, stored}
use Rattle.ti_txt.proofs.reading.store.Goals as goal

pub bounds-cells-address : goal.bounds-cells-address
bounds-cells-address c = omega (arith, c.in-None.ensures.none, c.requires)

pub returns-in-Some-clause-cells : goal.returns-in-Some-clause-cells
returns-in-Some-clause-cells c =
    ap (stored c.args.cells.now (put_of c.args.at c.args.address c.args.value)) (sym (c.in-Some.ensures.exact c.args.value))

pub returns-in-None-clause-cells : goal.returns-in-None-clause-cells
returns-in-None-clause-cells c =
    ap (stored c.args.cells.now (put_of c.args.at c.args.address c.args.value)) (sym (c.in-None.ensures.exact c.args.value))

pub returns-in-None-clause-placed : goal.returns-in-None-clause-placed
returns-in-None-clause-placed c = c.in-None.ensures.none
