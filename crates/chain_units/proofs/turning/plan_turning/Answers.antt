use Rattle.std.proofs.Common.{List, ap, sym, subst}
use Rattle.board_table.specs.declared.board.Board.{Board}
use Rattle.loop_checkpoints.specs.declared.LoopObject.{LoopObject}
use Rattle.loop_checkpoints.specs.Loops as loops
use Rattle.chain_units.specs.Known.{told_weights}
use Rattle.chain_units.specs.declared.weighing.Behind.TheVariants.{BeforeEither}
use Rattle.chain_units.specs.Wanted.{wanted}
use Rattle.chain_units.specs.Marks.{turning_of}
use Rattle.chain_units.proofs.Sorted.{objects_differ}
use Rattle.chain_units.proofs.Turns.{every_is, split_is}
use Rattle.chain_units.proofs.turning.plan_turning.Goals as goal

pub turns-requires-clause-differ : goal.turns-requires-clause-differ
turns-requires-clause-differ g c =
    let k = g.K.Knowledge.known c.args.k.now in
    subst (λ (os : List LoopObject). loops.Differ os) (sym c.in_ok-weight.ensures.objects)
    (objects_differ k (k.before c.args.top) (wanted k (BeforeEither c.args.top c.args.behind)) c.args.touched.now c.args.weights.now.uses.items c.requires)

pub returns-clause-split : goal.returns-clause-split
returns-clause-split g c =
    let k = g.K.Knowledge.known c.args.k.now in
    split_is c.in_ok-weight.weight (turning_of k c.args.touched.now c.args.top c.args.behind (told_weights c.args.weights.now)) c.in_ok-weight.ensures c.turns.result 1024 c.board-board.result.budget k.board.budget
    (ap (λ (b : Board). b.budget) c.board-board.ensures) c.turns.ensures.split

pub returns-clause-every : goal.returns-clause-every
returns-clause-every g c =
    let k = g.K.Knowledge.known c.args.k.now in
    let e = c.turns.ensures in
    every_is c.in_ok-weight.weight (turning_of k c.args.touched.now c.args.top c.args.behind (told_weights c.args.weights.now)) c.in_ok-weight.ensures c.turns.result 1024 c.board-board.result.budget k.board.budget
    (ap (λ (b : Board). b.budget) c.board-board.ensures) e.range e.greatest e.fits e.cost e.within e.least e.of_loop e.ascending
