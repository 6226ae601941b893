use Rattle.std.proofs.Common.{ℕ, length, subst, sym, ap, arith}
use Rattle.board_table.specs.declared.board.Board.{Board}
use Rattle.chain_plans.specs.Weights.{IsTable, Rows}
use Rattle.chain_units.specs.Pieces.{AreRows}
use Rattle.chain_units.proofs.Tables.{best_of, rows_count, table_whole}
use Rattle.chain_units.proofs.pieces.plan_pieces.Goals as goal

pub least_plan-requires-clause-few : goal.least_plan-requires-clause-few
least_plan-requires-clause-few g c =
    let e = ap (λ (rs : Rows). length rs) c.deref.ensures.value in
    omega (arith, e, rows_count (g.K.Knowledge.known c.args.k.now) c.in_ok-rows.rows.items c.args.pieces.now c.in_ok-rows.ensures, c.requires.few)

pub least_plan-requires-clause-table : goal.least_plan-requires-clause-table
least_plan-requires-clause-table g c =
    let k = g.K.Knowledge.known c.args.k.now in
    let budget = ap (λ (b : Board). b.budget) c.board-board.ensures in
    subst (λ (n : ℕ). IsTable c.deref.result.now 1024 n) (sym budget)
    (subst (λ (rs : Rows). IsTable rs 1024 k.board.budget) (sym c.deref.ensures.value) (table_whole k c.in_ok-rows.rows.items c.args.pieces.now c.in_ok-rows.ensures c.requires.alone))

pub returns : goal.returns
returns g c =
    let k = g.K.Knowledge.known c.args.k.now in
    let are = subst (λ (rs : Rows). AreRows k rs c.args.pieces.now) (sym c.deref.ensures.value) c.in_ok-rows.ensures in
    best_of k c.least_plan.result c.deref.result.now c.args.pieces.now c.board-board.result.budget are (ap (λ (b : Board). b.budget) c.board-board.ensures)
    c.least_plan.ensures.plan c.least_plan.ensures.told c.least_plan.ensures.least
