use Rattle.std.proofs.Common.{ℕ, Bool, List, ◌∷◌, length, sym, ap, subst}
use Rattle.std.specs.Bool.{MatchBool}
use Rattle.loop_checkpoints.specs.declared.LoopWeight.{LoopWeight}
use Rattle.chain_plans.specs.Tables.{AreRows, IsRow}
use Rattle.chain_plans.specs.Weights.{Rows}
use Rattle.chain_plans.proofs.WholeTables.{rows_table, table_rows}
use Rattle.chain_plans.proofs.table.is_table.Goals as goal

pub returns-then-not-branch : goal.returns-then-not-branch
returns-then-not-branch c = λ t.
    let room = c.args.room in let budget = c.args.budget in let row = c.deref.result.now in
    let are = subst (λ (rows : Rows). AreRows room budget rows) c.in-Some.ensures (c.loop-row.invariant.backward (table_rows room budget c.args.rows.now t)) in
    let is_row = subst (λ (ws : List LoopWeight). IsRow room budget (length (c.in-Some.row.now ∷ c.in-Some.rest.now)) ws) (sym c.deref.ensures.value) are.0 in
    let no = subst (λ (yes : Bool). MatchBool yes (IsRow room budget (length c.loop-row.left.now) row) (¬ IsRow room budget (length c.loop-row.left.now) row)) c.if-not-branch.true c.in_ok-is_row.ensures in
    no (subst (λ (n : ℕ). IsRow room budget n row) (sym (ap length c.in-Some.ensures)) is_row)

pub returns : goal.returns
returns c =
    rows_table c.args.room c.args.budget c.args.rows.now
    (c.loop-row.invariant.onward (subst (λ (rows : Rows). AreRows c.args.room c.args.budget rows) (sym c.in_default.ensures) tt))
