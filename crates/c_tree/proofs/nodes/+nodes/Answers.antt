use Rattle.std.specs.Prelude.{slice_get, Some, None}
use Rattle.std.specs.Result.{result_map_both}
use Rattle.std.proofs.Common.{rules, ◌≡◌, ◌+◌, ◌∷◌, length, arith, Err, Ok, refl, ◌∙◌, ap}
use Rattle.c_tree.specs.Runs as runs
use Rattle.c_tree.specs.Nodes as nodes
use Rattle.c_tree.specs.declared.halt.Halt.TheVariants as halt
use Rattle.c_tree.specs.declared.leaving.Leaving.TheVariants as leaving
use Rattle.c_tree.specs.declared.tree.ExprKind.{out-ExprKind}
use Rattle.c_tree.specs.declared.tree.ExprKind.TheVariants.{outs-Call}
use Rattle.c_tree.specs.declared.tree.StmtKind.{out-StmtKind}
use Rattle.c_tree.specs.declared.tree.StmtKind.TheVariants.{outs-Block, outs-Act, outs-Return, outs-If, outs-While, outs-Do, outs-For, outs-Switch}
use Rattle.c_tree.specs.declared.tree.BlockItem.TheVariants.{outs-Declare}
use Rattle.c_tree.proofs.Chain.{fails, follows_ok, follows_quiet, gives_up_after, expr_begun, expr_stopped, stmt_begun, stmt_stopped, turns_stopped, turns_fail, turns_left, turns_on}
use Rattle.c_tree.proofs.Operands.{node_fails, node_parted, node_leaf, chain_start, chain_next, chain_stopped, chain_gives_up, rests_next, rests_fail}
use Rattle.c_tree.proofs.nodes.+nodes.Goals as goal

pub expressions::expr-returns-in_err-begin-clause-meets : goal.expressions::expr-returns-in_err-begin-clause-meets
expressions::expr-returns-in_err-begin-clause-meets g t c = λ d le.
    let e : c.from_residual.result ≡ Err c.in_err-begin.field-0.0 = search rules in
    expr_stopped _ _ d _ _ _ _ _ _ le e (c.in_err-begin.ensures.meets _)

pub expressions::expr-returns-clause-meets : goal.expressions::expr-returns-clause-meets
expressions::expr-returns-clause-meets g t c = λ d le. expr_begun _ _ d _ _ _ _ _ _ _ le (c.in_ok-begin.ensures.meets _) c.node.ensures.meets

pub expressions::node-returns-in_err-word-in-Some-clause-meets : goal.expressions::node-returns-in_err-word-in-Some-clause-meets
expressions::node-returns-in_err-word-in-Some-clause-meets g t c = λ d le.
    let e : c.from_residual.result ≡ Err c.in_err-word-in-Some.field-0.0 = search rules in
    node_fails c.args.p.now (nodes.to_depth c.args.p.now d) c.args.e.now.ty (out-ExprKind c.args.e.now.kind) c.in-Some.part.now _ _ _ _ _ _ c.in-Some.ensures e (c.in_err-word-in-Some.ensures.meets d (omega arith))

pub expressions::node-returns-in_ok-word-in-Some-clause-meets : goal.expressions::node-returns-in_ok-word-in-Some-clause-meets
expressions::node-returns-in_ok-word-in-Some-clause-meets g t c = λ d le. node_parted c.args.p.now (nodes.to_depth c.args.p.now d) c.args.e.now.ty (out-ExprKind c.args.e.now.kind) c.in-Some.part.now _ _ _ _ _ _ _ _ c.in-Some.ensures (c.in_ok-word-in-Some.ensures.meets d (omega arith)) (c.rest.ensures.meets d (omega arith))

pub expressions::node-returns-in-None-clause-meets : goal.expressions::node-returns-in-None-clause-meets
expressions::node-returns-in-None-clause-meets g t c = λ d le. node_leaf c.args.p.now (nodes.to_depth c.args.p.now d) c.args.e.now.ty (out-ExprKind c.args.e.now.kind) _ _ _ _ _ c.in-None.ensures (c.leaf.ensures.meets d (omega arith))

pub expressions::leaf-returns-in-Call-clause-meets : goal.expressions::leaf-returns-in-Call-clause-meets
expressions::leaf-returns-in-Call-clause-meets g t c = λ d le. rw (c.in-Call.is, outs-Call, ← c.as_slice-args.ensures) (c.called.ensures.meets d (omega arith))

pub operands::chain-loop-part-init : goal.operands::chain-loop-part-init
operands::chain-loop-part-init g t c = (λ d le. (d, le, chain_start _ _ _ d _ _ (rw c.new-above.ensures.items refl)), omega arith)

pub operands::chain-returns-in_err-begin-clause-meets : goal.operands::chain-returns-in_err-begin-clause-meets
operands::chain-returns-in_err-begin-clause-meets g t c = λ d le.
    let e : c.from_residual.result ≡ Err c.in_err-begin.field-0.0 = search rules in
    let n = c.loop-part.invariant.0 d le in
    n.2 _ _ _ (chain_stopped _ _ _ n.0 _ _ _ _ _ _ n.1 e (c.in_err-begin.ensures.meets _))

pub operands::chain-returns-in_err-keep-clause-meets : goal.operands::chain-returns-in_err-keep-clause-meets
operands::chain-returns-in_err-keep-clause-meets g t c = λ d le.
    let e : c.from_residual-in_err-keep.result ≡ Err c.in_err-keep.field-0.0 = search rules in
    let q : c.from_residual-in_err-keep.result ≡ Err halt.Memory = e ∙ ap Err c.in_err-keep.ensures in
    let n = c.loop-part.invariant.0 d le in
    n.2 _ _ _ (chain_gives_up _ _ _ n.0 _ _ _ _ _ n.1 q (c.in_ok-begin.ensures.meets _))

pub operands::chain-loop-part-preserved : goal.operands::chain-loop-part-preserved
operands::chain-loop-part-preserved g t c = (
  λ d le. chain_next _ _ _ _ _ _ _ _ _ _ _ _ c.in-Some.ensures c.in_ok-keep.ensures (c.in_ok-begin.ensures.meets _) (c.loop-part.invariant.0 d le),
  omega (arith, c.loop-part.invariant.1, c.in_ok-begin.ensures.fewer),
)

pub operands::chain-returns-in_err-word-clause-meets : goal.operands::chain-returns-in_err-word-clause-meets
operands::chain-returns-in_err-word-clause-meets g t c = λ d le.
    let e : c.from_residual-in_err-word.result ≡ Err c.in_err-word.field-0.0 = search rules in
    let n = c.loop-part.invariant.0 d le in
    n.2 _ _ _ (fails _ _ _ _ _ _ _ _ e (c.in_err-word.ensures.meets n.0 n.1))

pub operands::chain-returns-clause-meets : goal.operands::chain-returns-clause-meets
operands::chain-returns-clause-meets g t c = λ d le.
    let n = c.loop-part.invariant.0 d le in
    n.2 _ _ _ (follows_ok _ _ _ _ _ _ _ _ _ _ (c.in_ok-word.ensures.meets n.0 n.1) (c.rests.ensures.meets n.0 (omega (arith, n.1, c.in_ok-word.ensures.fewer))))

pub operands::rests-returns-in_err-word-clause-meets : goal.operands::rests-returns-in_err-word-clause-meets
operands::rests-returns-in_err-word-clause-meets g t c = λ d le.
    let e : c.from_residual.result ≡ Err c.in_err-word.field-0.0 = search rules in
    let n = c.loop-e.invariant.0 d le in
    n.2 _ _ _ (rests_fail _ _ _ _ n.0 _ _ _ _ _ _ _ c.in-Some.ensures e (c.in_err-word.ensures.meets n.0 n.1))

pub operands::rests-loop-e-preserved : goal.operands::rests-loop-e-preserved
operands::rests-loop-e-preserved g t c = (
  λ d le. rests_next _ _ _ _ _ _ _ _ _ _ _ _ _ c.in-Some.ensures c.in_ok-word.ensures.fewer c.in_ok-word.ensures.meets (c.loop-e.invariant.0 d le),
  omega (arith, c.loop-e.invariant.1, c.in_ok-word.ensures.fewer),
)

pub operands::rests-returns-clause-meets : goal.operands::rests-returns-clause-meets
operands::rests-returns-clause-meets g t c = λ d le.
    let n = c.loop-e.invariant.0 d le in
    n.2 (Ok _) _ _ (rw c.in_default.ensures (follows_quiet _ _ _ _ _ refl refl))

pub operands::second-returns-else-decides-clause-meets : goal.operands::second-returns-else-decides-clause-meets
operands::second-returns-else-decides-clause-meets g t c = λ d le. rw (← c.decides.ensures, c.if-decides.false) (c.worked.ensures.meets d le)

pub operands::worked-returns-in_err-y-clause-meets : goal.operands::worked-returns-in_err-y-clause-meets
operands::worked-returns-in_err-y-clause-meets g t c = λ d le.
    let e : c.from_residual.result ≡ Err c.in_err-y.field-0.0 = search rules in
    fails _ _ _ _ _ _ _ _ e (c.in_err-y.ensures.meets d (omega arith))

pub operands::worked-returns-clause-meets : goal.operands::worked-returns-clause-meets
operands::worked-returns-clause-meets g t c = λ d le. follows_ok _ _ _ _ _ _ _ _ _ _ (c.in_ok-y.ensures.meets d (omega arith)) (c.work.ensures.meets _)

pub calls::called-returns-in_err-values-clause-meets : goal.calls::called-returns-in_err-values-clause-meets
calls::called-returns-in_err-values-clause-meets g t c = λ d le.
    let e : c.from_residual.result ≡ Err c.in_err-values.field-0.0 = search rules in
    fails _ _ _ _ _ _ _ _ e (c.in_err-values.ensures.meets d (omega arith))

pub calls::called-returns-clause-meets : goal.calls::called-returns-clause-meets
calls::called-returns-clause-meets g t c = λ d le. follows_ok _ _ _ _ _ _ _ _ _ _ (c.in_ok-values.ensures.meets d (omega arith)) (rw (← c.as_slice-values.ensures.value) (c.call.ensures.meets d (omega arith)))

pub calls::arguments-returns-in_err-word-clause-meets : goal.calls::arguments-returns-in_err-word-clause-meets
calls::arguments-returns-in_err-word-clause-meets g t c = λ d le.
    let e : c.from_residual.result ≡ Err c.in_err-word.field-0.0 = search rules in
    c.loop-e.invariant.0 d le _ _ _ (rw c.in-Some.ensures (fails _ _ _ _ _ _ _ _ (ap (result_map_both (λ v. v.items) (λ h. h)) e) (c.in_err-word.ensures.meets d (omega arith))))

pub calls::arguments-returns-in_err-push-clause-meets : goal.calls::arguments-returns-in_err-push-clause-meets
calls::arguments-returns-in_err-push-clause-meets g t c = λ d le.
    let e : c.from_residual-in_err-push.result ≡ Err c.in_err-push.field-0.0 = search rules in
    let q : (result_map_both (λ v. v.items) (λ h. h)) c.from_residual-in_err-push.result ≡ Err halt.Memory = ap (result_map_both (λ v. v.items) (λ h. h)) e ∙ ap Err c.in_err-push.ensures in
    c.loop-e.invariant.0 d le _ _ _ (rw c.in-Some.ensures (gives_up_after _ _ _ _ _ _ _ _ _ q (c.in_ok-word.ensures.meets d (omega arith))))

pub calls::arguments-loop-e-preserved : goal.calls::arguments-loop-e-preserved
calls::arguments-loop-e-preserved g t c = (
  λ d le r s2 a2 k. c.loop-e.invariant.0 d le r s2 a2 (rw c.in-Some.ensures (follows_ok _ _ _ _ _ _ _ _ _ _ (c.in_ok-word.ensures.meets d (omega arith)) (rw (← c.in_ok-push.ensures) k))),
  omega (arith, c.loop-e.invariant.1, c.in_ok-word.ensures.fewer),
)

pub calls::arguments-returns-clause-meets : goal.calls::arguments-returns-clause-meets
calls::arguments-returns-clause-meets g t c = λ d le. c.loop-e.invariant.0 d le (Ok _) _ _ (rw c.in_default.ensures (follows_quiet _ _ _ _ _ refl refl))

pub calls::call-returns-in-Some-clause-meets : goal.calls::call-returns-in-Some-clause-meets
calls::call-returns-in-Some-clause-meets g t c = λ d le.
    let q : slice_get c.args.p.now.functions c.args.function ≡ Some c.in-Some.function.now = search rules in
    rw (q, ← c.as_slice.ensures) (follows_ok _ _ _ _ _ _ _ _ tt _ (follows_quiet _ _ _ _ tt c.bind.ensures.is c.bind.ensures.steps) (c.run_body.ensures.meets d (omega arith)))

pub calls::run_body-returns-in_err-left-clause-meets : goal.calls::run_body-returns-in_err-left-clause-meets
calls::run_body-returns-in_err-left-clause-meets g t c = λ d le.
    let e : c.from_residual.result ≡ Err c.in_err-left.field-0.0 = search rules in
    fails _ _ _ _ _ _ _ _ e (c.in_err-left.ensures.meets d (omega arith))

pub calls::run_body-returns-clause-meets : goal.calls::run_body-returns-clause-meets
calls::run_body-returns-clause-meets g t c = λ d le. follows_ok _ _ _ _ _ _ _ _ _ _ (c.in_ok-left.ensures.meets d (omega arith)) (c.come_back.ensures.meets _)

pub actions::act-returns-in_err-expr-in-Value-clause-meets : goal.actions::act-returns-in_err-expr-in-Value-clause-meets
actions::act-returns-in_err-expr-in-Value-clause-meets g t c = λ d le.
    let e : c.from_residual.result ≡ Err c.in_err-expr-in-Value.field-0.0 = search rules in
    rw (c.in-Value.is) (fails _ _ _ _ _ _ _ _ e (c.in_err-expr-in-Value.ensures.meets d (omega arith)))

pub actions::act-returns-in-Assign-clause-meets : goal.actions::act-returns-in-Assign-clause-meets
actions::act-returns-in-Assign-clause-meets g t c = λ d le. rw (c.in-Assign.is, ← c.unboxed-index.ensures) (c.assign.ensures.meets d (omega arith))

pub actions::act-returns-in-Update-clause-meets : goal.actions::act-returns-in-Update-clause-meets
actions::act-returns-in-Update-clause-meets g t c = λ d le. rw (c.in-Update.is, ← c.unboxed-index-in-Update.ensures, ← c.type_of-own.ensures, ← c.as_ref-by.ensures.value) (c.update.ensures.meets d (omega arith))

pub actions::assign-returns-in_err-i-clause-meets : goal.actions::assign-returns-in_err-i-clause-meets
actions::assign-returns-in_err-i-clause-meets g t c = λ d le.
    let e : c.from_residual.result ≡ Err c.in_err-i.field-0.0 = search rules in
    fails _ _ _ _ _ _ _ _ e (c.in_err-i.ensures.meets d (omega arith))

pub actions::assign-returns-clause-meets : goal.actions::assign-returns-clause-meets
actions::assign-returns-clause-meets g t c = λ d le. follows_ok _ _ _ _ _ _ _ _ _ _ (c.in_ok-i.ensures.meets d (omega arith)) (c.assigned.ensures.meets d (omega arith))

pub actions::assigned-returns-in_err-word-clause-meets : goal.actions::assigned-returns-in_err-word-clause-meets
actions::assigned-returns-in_err-word-clause-meets g t c = λ d le.
    let e : c.from_residual.result ≡ Err c.in_err-word.field-0.0 = search rules in
    fails _ _ _ _ _ _ _ _ e (c.in_err-word.ensures.meets d (omega arith))

pub actions::assigned-returns-clause-meets : goal.actions::assigned-returns-clause-meets
actions::assigned-returns-clause-meets g t c = λ d le. follows_ok _ _ _ _ _ _ _ _ _ _ (c.in_ok-word.ensures.meets d (omega arith)) (c.store.ensures.meets _)

pub actions::update-returns-in_err-i-clause-meets : goal.actions::update-returns-in_err-i-clause-meets
actions::update-returns-in_err-i-clause-meets g t c = λ d le.
    let e : c.from_residual.result ≡ Err c.in_err-i.field-0.0 = search rules in
    fails _ _ _ _ _ _ _ _ e (c.in_err-i.ensures.meets d (omega arith))

pub actions::update-returns-clause-meets : goal.actions::update-returns-clause-meets
actions::update-returns-clause-meets g t c = λ d le. follows_ok _ _ _ _ _ _ _ _ _ _ (c.in_ok-i.ensures.meets d (omega arith)) (c.updated.ensures.meets d (omega arith))

pub actions::updated-returns-in_err-x-clause-meets : goal.actions::updated-returns-in_err-x-clause-meets
actions::updated-returns-in_err-x-clause-meets g t c = λ d le.
    let e : c.from_residual.result ≡ Err c.in_err-x.field-0.0 = search rules in
    fails _ _ _ _ _ _ _ _ e (c.in_err-x.ensures.meets _)

pub actions::updated-returns-clause-meets : goal.actions::updated-returns-clause-meets
actions::updated-returns-clause-meets g t c = λ d le. follows_ok _ _ _ _ _ _ _ _ _ _ (c.in_ok-x.ensures.meets _) (c.finished.ensures.meets d (omega arith))

pub actions::finished-returns-in_err-y-clause-meets : goal.actions::finished-returns-in_err-y-clause-meets
actions::finished-returns-in_err-y-clause-meets g t c = λ d le.
    let e : c.from_residual.result ≡ Err c.in_err-y.field-0.0 = search rules in
    fails _ _ _ _ _ _ _ _ e (c.in_err-y.ensures.meets d (omega arith))

pub actions::finished-returns-clause-meets : goal.actions::finished-returns-clause-meets
actions::finished-returns-clause-meets g t c = λ d le. rw (← c.amount_type-from.ensures) (follows_ok _ _ _ _ _ _ _ _ _ _ (c.in_ok-y.ensures.meets d (omega arith)) (c.finish.ensures.meets _))

pub declarations::declare_list-returns-clause-meets : goal.declarations::declare_list-returns-clause-meets
declarations::declare_list-returns-clause-meets g t c = λ d le. rw (← c.as_slice-declared.ensures) (c.declare_each.ensures.meets d le)

pub declarations::declare_each-returns-in_err-begin-clause-meets : goal.declarations::declare_each-returns-in_err-begin-clause-meets
declarations::declare_each-returns-in_err-begin-clause-meets g t c = λ d le.
    let e : c.from_residual.result ≡ Err c.in_err-begin.field-0.0 = search rules in
    c.loop-declarator.invariant.0 d le _ _ _ (rw c.in-Some.ensures (fails _ _ _ _ _ _ _ _ e (c.in_err-begin.ensures.meets _)))

pub declarations::declare_each-returns-in_err-declare-clause-meets : goal.declarations::declare_each-returns-in_err-declare-clause-meets
declarations::declare_each-returns-in_err-declare-clause-meets g t c = λ d le.
    let e : c.from_residual-in_err-declare.result ≡ Err c.in_err-declare.field-0.0 = search rules in
    c.loop-declarator.invariant.0 d le _ _ _ (rw c.in-Some.ensures (follows_ok _ _ _ _ _ _ _ _ _ _ (c.in_ok-begin.ensures.meets _) (fails _ _ _ _ _ _ _ _ e (c.in_err-declare.ensures.meets d (omega arith)))))

pub declarations::declare_each-loop-declarator-preserved : goal.declarations::declare_each-loop-declarator-preserved
declarations::declare_each-loop-declarator-preserved g t c = (
  λ d le r s2 a2 k. c.loop-declarator.invariant.0 d le r s2 a2 (rw c.in-Some.ensures (follows_ok _ _ _ _ _ _ _ _ _ _ (c.in_ok-begin.ensures.meets _) (follows_ok _ _ _ _ _ _ _ _ _ _ (c.in_ok-declare.ensures.meets d (omega arith)) k))),
  omega (arith, c.loop-declarator.invariant.1, c.in_ok-begin.ensures.fewer, c.in_ok-declare.ensures.fewer),
)

pub declarations::declare_each-returns-clause-meets : goal.declarations::declare_each-returns-clause-meets
declarations::declare_each-returns-clause-meets g t c = λ d le. c.loop-declarator.invariant.0 d le (Ok tt) _ _ (rw c.in_default.ensures (follows_quiet _ _ _ _ _ refl refl))

pub declarations::declare-returns-in-Some-clause-meets : goal.declarations::declare-returns-in-Some-clause-meets
declarations::declare-returns-in-Some-clause-meets g t c = λ d le.
    let q : slice_get c.args.p.now.variables c.args.declarator.now.variable ≡ Some c.in-Some.variable.now = search rules in
    rw (q, ← c.as_slice-values.ensures) (c.declare_sized.ensures.meets d le)

pub declarations::declare_sized-returns-in-Some-clause-meets : goal.declarations::declare_sized-returns-in-Some-clause-meets
declarations::declare_sized-returns-in-Some-clause-meets g t c = λ d le. rw c.in-Some.is (c.declare_array.ensures.meets d le)

pub declarations::declare_sized-returns-in-Some-first_and_rest-clause-meets : goal.declarations::declare_sized-returns-in-Some-first_and_rest-clause-meets
declarations::declare_sized-returns-in-Some-first_and_rest-clause-meets g t c = λ d le. rw (c.in-None.is, c.in-Some-first_and_rest.ensures) (c.declare_scalar.ensures.meets d le)

pub declarations::declare_scalar-returns-in_err-word-clause-meets : goal.declarations::declare_scalar-returns-in_err-word-clause-meets
declarations::declare_scalar-returns-in_err-word-clause-meets g t c = λ d le.
    let e : c.from_residual.result ≡ Err c.in_err-word.field-0.0 = search rules in
    fails _ _ _ _ _ _ _ _ e (c.in_err-word.ensures.meets d (omega arith))

pub declarations::declare_scalar-returns-clause-meets : goal.declarations::declare_scalar-returns-clause-meets
declarations::declare_scalar-returns-clause-meets g t c = λ d le. follows_ok _ _ _ _ _ _ _ _ _ _ (c.in_ok-word.ensures.meets d (omega arith)) (c.write.ensures.meets _)

pub declarations::declare_array-returns-in_err-open_array-clause-meets : goal.declarations::declare_array-returns-in_err-open_array-clause-meets
declarations::declare_array-returns-in_err-open_array-clause-meets g t c = λ d le.
    let e : c.from_residual.result ≡ Err c.in_err-open_array.field-0.0 = search rules in
    fails _ _ _ _ _ _ _ _ e (c.in_err-open_array.ensures.meets _)

pub declarations::declare_array-returns-clause-meets : goal.declarations::declare_array-returns-clause-meets
declarations::declare_array-returns-clause-meets g t c = λ d le. follows_ok _ _ _ _ _ _ _ _ _ _ (c.in_ok-open_array.ensures.meets _) (c.fill.ensures.meets d (omega arith))

pub declarations::fill-loop-value-preserved : goal.declarations::fill-loop-value-preserved
declarations::fill-loop-value-preserved g t c =
    let q : length c.loop-value.rest.now ≡ length (c.in-Some.value.now ∷ c.in-Some.after.now) = ap (λ l. length l) c.in-Some.ensures in (
      λ d le r s2 a2 k. c.loop-value.invariant.0 d le r s2 a2 (rw c.in-Some.ensures (follows_ok _ _ _ _ _ _ _ _ _ _ (c.in_ok-word.ensures.meets d (omega arith))
          (follows_ok (runs.write_place c.args.variable c.loop-value.place c.in_ok-word.word c.expr.new.run) (λ _. nodes.fill (nodes.to_depth c.args.p.now d).expr c.args.variable (c.loop-value.place + 1) c.in-Some.after.now) _ _ _ _ _ _ tt _
          (follows_quiet (runs.write_place c.args.variable c.loop-value.place c.in_ok-word.word c.expr.new.run) _ _ _ tt c.write_place.ensures.is c.write_place.ensures.steps) k))),
      omega (arith, c.loop-value.invariant.1, c.in_ok-word.ensures.fewer, c.write_place.ensures.steps),
      omega (arith, c.loop-value.invariant.2, q),
    )

pub declarations::fill-returns-in_err-word-clause-meets : goal.declarations::fill-returns-in_err-word-clause-meets
declarations::fill-returns-in_err-word-clause-meets g t c = λ d le.
    let e : c.from_residual.result ≡ Err c.in_err-word.field-0.0 = search rules in
    c.loop-value.invariant.0 d le _ _ _ (rw c.in-Some.ensures (fails _ _ _ _ _ _ _ _ e (c.in_err-word.ensures.meets d (omega arith))))

pub declarations::fill-returns-clause-meets : goal.declarations::fill-returns-clause-meets
declarations::fill-returns-clause-meets g t c = λ d le. c.loop-value.invariant.0 d le (Ok tt) _ _ (rw c.in_default.ensures (follows_quiet _ _ _ _ _ refl refl))

pub statements::stmt-returns-in_err-begin-clause-meets : goal.statements::stmt-returns-in_err-begin-clause-meets
statements::stmt-returns-in_err-begin-clause-meets g t c = λ d le.
    let e : c.from_residual.result ≡ Err c.in_err-begin.field-0.0 = search rules in
    stmt_stopped _ _ d _ _ _ _ _ _ le e (c.in_err-begin.ensures.meets _)

pub statements::stmt-returns-clause-meets : goal.statements::stmt-returns-clause-meets
statements::stmt-returns-clause-meets g t c = λ d le. stmt_begun _ _ d _ _ _ _ _ _ _ le (c.in_ok-begin.ensures.meets _) c.stmt_node.ensures.meets

pub statements::stmt_node-returns-in-Block-clause-meets : goal.statements::stmt_node-returns-in-Block-clause-meets
statements::stmt_node-returns-in-Block-clause-meets g t c = λ d le. rw (c.in-Block.is, outs-Block, ← c.as_slice.ensures) (c.block.ensures.meets d (omega arith))

pub statements::stmt_node-returns-in-Act-clause-meets : goal.statements::stmt_node-returns-in-Act-clause-meets
statements::stmt_node-returns-in-Act-clause-meets g t c = λ d le. rw (c.in-Act.is, outs-Act) (c.acted.ensures.meets d (omega arith))

pub statements::stmt_node-returns-in-Return-clause-meets : goal.statements::stmt_node-returns-in-Return-clause-meets
statements::stmt_node-returns-in-Return-clause-meets g t c = λ d le. rw (c.in-Return.is, outs-Return, ← c.as_ref-value.ensures.value) (c.returned.ensures.meets d (omega arith))

pub statements::stmt_node-returns-in-If-clause-meets : goal.statements::stmt_node-returns-in-If-clause-meets
statements::stmt_node-returns-in-If-clause-meets g t c = λ d le. rw (c.in-If.is, outs-If, ← c.get-yes.ensures) (c.if_arm.ensures.meets d (omega arith))

pub statements::stmt_node-returns-in-While-clause-meets : goal.statements::stmt_node-returns-in-While-clause-meets
statements::stmt_node-returns-in-While-clause-meets g t c = λ d le. let q = ap out-StmtKind c.in-While.is ∙ outs-While _ _ in rw q (c.turns.ensures.meets d (omega arith))

pub statements::stmt_node-returns-in-Do-clause-meets : goal.statements::stmt_node-returns-in-Do-clause-meets
statements::stmt_node-returns-in-Do-clause-meets g t c = λ d le. let q = ap out-StmtKind c.in-Do.is ∙ outs-Do _ _ in rw q (c.turns-in-Do.ensures.meets d (omega arith))

pub statements::stmt_node-returns-in-For-clause-meets : goal.statements::stmt_node-returns-in-For-clause-meets
statements::stmt_node-returns-in-For-clause-meets g t c = λ d le. let q = ap out-StmtKind c.in-For.is ∙ outs-For _ _ _ _ in rw q (c.for_loop.ensures.meets d (omega arith))

pub statements::stmt_node-returns-in-Switch-clause-meets : goal.statements::stmt_node-returns-in-Switch-clause-meets
statements::stmt_node-returns-in-Switch-clause-meets g t c = λ d le. rw (c.in-Switch.is, outs-Switch, ← c.as_slice-groups.ensures) (c.switch.ensures.meets d (omega arith))

pub statements::acted-returns-in_err-act-clause-meets : goal.statements::acted-returns-in_err-act-clause-meets
statements::acted-returns-in_err-act-clause-meets g t c = λ d le.
    let e : c.from_residual.result ≡ Err c.in_err-act.field-0.0 = search rules in
    fails _ _ _ _ _ _ _ _ e (c.in_err-act.ensures.meets d (omega arith))

pub statements::acted-returns-clause-meets : goal.statements::acted-returns-clause-meets
statements::acted-returns-clause-meets g t c = λ d le. follows_ok _ (λ _. runs.pure leaving.Next) _ _ _ _ _ _ _ (Ok leaving.Next) (c.in_ok-act.ensures.meets d (omega arith)) (follows_quiet _ _ _ _ _ refl refl)

pub statements::returned-returns-in_err-word-clause-meets : goal.statements::returned-returns-in_err-word-clause-meets
statements::returned-returns-in_err-word-clause-meets g t c = λ d le.
    let e : c.from_residual.result ≡ Err c.in_err-word.field-0.0 = search rules in
    fails _ _ _ _ _ _ _ _ e (c.in_err-word.ensures.meets d (omega arith))

pub statements::returned-returns-clause-meets : goal.statements::returned-returns-clause-meets
statements::returned-returns-clause-meets g t c = λ d le. follows_ok _ (λ w. runs.pure (leaving.Returned w)) _ _ _ _ _ _ _ (Ok (leaving.Returned c.in_ok-word.word)) (c.in_ok-word.ensures.meets d (omega arith)) (follows_quiet _ _ _ _ _ refl refl)

pub statements::if_arm-returns-in_err-word-clause-meets : goal.statements::if_arm-returns-in_err-word-clause-meets
statements::if_arm-returns-in_err-word-clause-meets g t c = λ d le.
    let e : c.from_residual.result ≡ Err c.in_err-word.field-0.0 = search rules in
    fails _ _ _ _ _ _ _ _ e (c.in_err-word.ensures.meets d (omega arith))

pub statements::if_arm-returns-clause-meets : goal.statements::if_arm-returns-clause-meets
statements::if_arm-returns-clause-meets g t c = λ d le. follows_ok _ _ _ _ _ _ _ _ _ _ (c.in_ok-word.ensures.meets d (omega arith)) (c.arm.ensures.meets d (omega arith))

pub statements::block-returns-in_err-left-clause-meets : goal.statements::block-returns-in_err-left-clause-meets
statements::block-returns-in_err-left-clause-meets g t c = λ d le.
    let e : c.from_residual.result ≡ Err c.in_err-left.field-0.0 = search rules in
    c.loop-item.invariant.0 d le _ _ _ (rw c.in-Some.ensures (fails _ _ _ _ _ _ _ _ e (c.in_err-left.ensures.meets d (omega arith))))

pub statements::block-loop-item-preserved : goal.statements::block-loop-item-preserved
statements::block-loop-item-preserved g t c = (
  λ d le r s2 a2 k. c.loop-item.invariant.0 d le r s2 a2 (rw c.in-Some.ensures (follows_ok _ _ _ _ _ _ _ _ _ _ (c.in_ok-left.ensures.meets d (omega arith)) (rw (← c.ends.ensures, c.if-ends.false) k))),
  omega (arith, c.loop-item.invariant.1, c.in_ok-left.ensures.fewer),
)

pub statements::block-returns-then-ends-clause-meets : goal.statements::block-returns-then-ends-clause-meets
statements::block-returns-then-ends-clause-meets g t c = λ d le. c.loop-item.invariant.0 d le (Ok _) _ _ (rw c.in-Some.ensures (follows_ok _ _ _ _ _ _ _ _ _ (Ok _) (c.in_ok-left.ensures.meets d (omega arith)) (rw (← c.ends.ensures, c.if-ends.true) (follows_quiet _ _ _ _ _ refl refl))))

pub statements::block-returns-clause-meets : goal.statements::block-returns-clause-meets
statements::block-returns-clause-meets g t c = λ d le. c.loop-item.invariant.0 d le (Ok leaving.Next) _ _ (rw c.in_default.ensures (follows_quiet _ _ _ _ _ refl refl))

pub statements::block_item-returns-in_err-declare_list-in-Declare-clause-meets : goal.statements::block_item-returns-in_err-declare_list-in-Declare-clause-meets
statements::block_item-returns-in_err-declare_list-in-Declare-clause-meets g t c = λ d le.
    let e : c.from_residual.result ≡ Err c.in_err-declare_list-in-Declare.field-0.0 = search rules in
    rw (c.in-Declare.is, outs-Declare) (fails _ _ _ _ _ _ _ _ e (c.in_err-declare_list-in-Declare.ensures.meets d (omega arith)))

pub switches::switch-returns-in_err-word-clause-meets : goal.switches::switch-returns-in_err-word-clause-meets
switches::switch-returns-in_err-word-clause-meets g t c = λ d le.
    let e : c.from_residual.result ≡ Err c.in_err-word.field-0.0 = search rules in
    fails _ _ _ _ _ _ _ _ e (c.in_err-word.ensures.meets d (omega arith))

pub switches::switch-returns-clause-meets : goal.switches::switch-returns-clause-meets
switches::switch-returns-clause-meets g t c = λ d le. follows_ok _ _ _ _ _ _ _ _ _ _ (c.in_ok-word.ensures.meets d (omega arith)) (c.select.ensures.meets d (omega arith))

pub switches::select-returns-in_err-items-clause-meets : goal.switches::select-returns-in_err-items-clause-meets
switches::select-returns-in_err-items-clause-meets g t c = λ d le.
    let e : c.from_residual.result ≡ Err c.in_err-items.field-0.0 = search rules in
    fails _ _ _ _ _ _ _ _ e (c.in_err-items.ensures.meets _)

pub switches::select-returns-clause-meets : goal.switches::select-returns-clause-meets
switches::select-returns-clause-meets g t c = λ d le. follows_ok _ _ _ _ _ _ _ _ _ _ (c.in_ok-items.ensures.meets _) (c.switched.ensures.meets d (omega arith))

pub switches::switched-returns-in_err-left-clause-meets : goal.switches::switched-returns-in_err-left-clause-meets
switches::switched-returns-in_err-left-clause-meets g t c = λ d le.
    let e : c.from_residual.result ≡ Err c.in_err-left.field-0.0 = search rules in
    fails _ _ _ _ _ _ _ _ e (c.in_err-left.ensures.meets d (omega arith))

pub loops::for_loop-returns-in_err-for_first-clause-meets : goal.loops::for_loop-returns-in_err-for_first-clause-meets
loops::for_loop-returns-in_err-for_first-clause-meets g t c = λ d le.
    let e : c.from_residual.result ≡ Err c.in_err-for_first.field-0.0 = search rules in
    fails _ _ _ _ _ _ _ _ e (c.in_err-for_first.ensures.meets d (omega arith))

pub loops::for_loop-returns-clause-meets : goal.loops::for_loop-returns-clause-meets
loops::for_loop-returns-clause-meets g t c = λ d le. follows_ok _ _ _ _ _ _ _ _ _ _ (c.in_ok-for_first.ensures.meets d (omega arith)) (c.turns.ensures.meets d (omega arith))

pub loops::turns-returns-in_err-begin-clause-meets : goal.loops::turns-returns-in_err-begin-clause-meets
loops::turns-returns-in_err-begin-clause-meets g t c = λ d le.
    let e : c.from_residual.result ≡ Err c.in_err-begin.field-0.0 = search rules in
    let n = c.loop-run.invariant.0 d le in
    n.2 _ _ _ (turns_stopped _ _ n.0 _ _ _ _ _ _ n.1 e (c.in_err-begin.ensures.meets _))

pub loops::turns-returns-in_err-turned-clause-meets : goal.loops::turns-returns-in_err-turned-clause-meets
loops::turns-returns-in_err-turned-clause-meets g t c = λ d le.
    let e : c.from_residual-in_err-turned.result ≡ Err c.in_err-turned.field-0.0 = search rules in
    let n = c.loop-run.invariant.0 d le in
    n.2 _ _ _ (turns_fail _ _ n.0 _ _ _ _ _ _ _ _ n.1 e (c.in_ok-begin.ensures.meets _) c.in_err-turned.ensures.meets)

pub loops::turns-returns-in-Some-clause-meets : goal.loops::turns-returns-in-Some-clause-meets
loops::turns-returns-in-Some-clause-meets g t c = λ d le.
    let n = c.loop-run.invariant.0 d le in
    n.2 (Ok _) _ _ (turns_left _ _ n.0 _ _ _ _ _ _ _ _ n.1 c.in-Some.is (c.in_ok-begin.ensures.meets _) c.in_ok-turned.ensures.meets)

pub loops::turns-loop-run-preserved : goal.loops::turns-loop-run-preserved
loops::turns-loop-run-preserved g t c = (
  λ d le.
      let n = c.loop-run.invariant.0 d le in
      let m = turns_on _ _ n.0 _ _ _ _ _ _ _ n.1 c.in_default.is (c.in_ok-begin.ensures.meets _) c.in_ok-turned.ensures.fewer c.in_ok-turned.ensures.meets in
      (m.0, m.1, λ r s a k. n.2 r s a (m.2 r s a k)),
  omega (arith, c.loop-run.invariant.1, c.in_ok-begin.ensures.fewer, c.in_ok-turned.ensures.fewer),
)

pub loops::turn-returns-in_err-word-in-While-clause-meets : goal.loops::turn-returns-in_err-word-in-While-clause-meets
loops::turn-returns-in_err-word-in-While-clause-meets g t c = λ d le.
    let e : c.from_residual.result ≡ Err c.in_err-word-in-While.field-0.0 = search rules in
    rw (c.in-While.is, outs-While, ← c.get-body.ensures) (fails _ _ _ _ _ _ _ _ e (c.in_err-word-in-While.ensures.meets d (omega arith)))

pub loops::turn-returns-in_ok-word-in-While-clause-meets : goal.loops::turn-returns-in_ok-word-in-While-clause-meets
loops::turn-returns-in_ok-word-in-While-clause-meets g t c = λ d le. rw (c.in-While.is, outs-While, ← c.get-body.ensures) (follows_ok _ _ _ _ _ _ _ _ _ _ (c.in_ok-word-in-While.ensures.meets d (omega arith)) (c.loop_body.ensures.meets d (omega arith)))

pub loops::turn-returns-in_err-left-in-Do-clause-meets : goal.loops::turn-returns-in_err-left-in-Do-clause-meets
loops::turn-returns-in_err-left-in-Do-clause-meets g t c = λ d le.
    let e : c.from_residual-in_err-left-in-Do.result ≡ Err c.in_err-left-in-Do.field-0.0 = search rules in
    rw (c.in-Do.is, outs-Do, ← c.get-body-in-Do.ensures) (fails _ _ _ _ _ _ _ _ e (c.in_err-left-in-Do.ensures.meets d (omega arith)))

pub loops::turn-returns-in_ok-left-in-Do-clause-meets : goal.loops::turn-returns-in_ok-left-in-Do-clause-meets
loops::turn-returns-in_ok-left-in-Do-clause-meets g t c = λ d le. rw (c.in-Do.is, outs-Do, ← c.get-body-in-Do.ensures) (follows_ok _ _ _ _ _ _ _ _ _ _ (c.in_ok-left-in-Do.ensures.meets d (omega arith)) (c.do_test.ensures.meets d (omega arith)))

pub loops::turn-returns-in_err-word-in-For-clause-meets : goal.loops::turn-returns-in_err-word-in-For-clause-meets
loops::turn-returns-in_err-word-in-For-clause-meets g t c = λ d le.
    let e : c.from_residual-in_err-word-in-For.result ≡ Err c.in_err-word-in-For.field-0.0 = search rules in
    rw (c.in-For.is, outs-For, ← c.get-body-in-For.ensures, ← c.as_ref-test.ensures.value, ← c.as_ref-step.ensures.value) (fails _ _ _ _ _ _ _ _ e (c.in_err-word-in-For.ensures.meets d (omega arith)))

pub loops::turn-returns-in_ok-word-in-For-clause-meets : goal.loops::turn-returns-in_ok-word-in-For-clause-meets
loops::turn-returns-in_ok-word-in-For-clause-meets g t c = λ d le. rw (c.in-For.is, outs-For, ← c.get-body-in-For.ensures, ← c.as_ref-test.ensures.value, ← c.as_ref-step.ensures.value) (follows_ok _ _ _ _ _ _ _ _ _ _ (c.in_ok-word-in-For.ensures.meets d (omega arith)) (c.loop_body-in-For.ensures.meets d (omega arith)))

pub loops::loop_body-returns-then-is_set-clause-meets : goal.loops::loop_body-returns-then-is_set-clause-meets
loops::loop_body-returns-then-is_set-clause-meets g t c = λ d le. rw (← c.is_set.ensures, c.if-is_set.true) (c.full_turn.ensures.meets d le)

pub loops::full_turn-returns-in_err-left-clause-meets : goal.loops::full_turn-returns-in_err-left-clause-meets
loops::full_turn-returns-in_err-left-clause-meets g t c = λ d le.
    let e : c.from_residual.result ≡ Err c.in_err-left.field-0.0 = search rules in
    fails _ _ _ _ _ _ _ _ e (c.in_err-left.ensures.meets d (omega arith))

pub loops::full_turn-returns-clause-meets : goal.loops::full_turn-returns-clause-meets
loops::full_turn-returns-clause-meets g t c = λ d le. follows_ok _ _ _ _ _ _ _ _ _ _ (c.in_ok-left.ensures.meets d (omega arith)) (c.stepped.ensures.meets d (omega arith))

pub loops::stepped-returns-then-goes_on-clause-meets : goal.loops::stepped-returns-then-goes_on-clause-meets
loops::stepped-returns-then-goes_on-clause-meets g t c = λ d le. rw (← c.goes_on.ensures, c.if-goes_on.true) (c.step_on.ensures.meets d le)

pub loops::step_on-returns-in_err-act_opt-clause-meets : goal.loops::step_on-returns-in_err-act_opt-clause-meets
loops::step_on-returns-in_err-act_opt-clause-meets g t c = λ d le.
    let e : c.from_residual.result ≡ Err c.in_err-act_opt.field-0.0 = search rules in
    fails _ _ _ _ _ _ _ _ e (c.in_err-act_opt.ensures.meets d (omega arith))

pub loops::step_on-returns-clause-meets : goal.loops::step_on-returns-clause-meets
loops::step_on-returns-clause-meets g t c = λ d le. follows_ok _ (λ _. runs.pure None) _ _ _ _ _ _ _ (Ok None) (c.in_ok-act_opt.ensures.meets d (omega arith)) (follows_quiet _ _ _ _ _ refl refl)

pub loops::do_test-returns-then-goes_on-clause-meets : goal.loops::do_test-returns-then-goes_on-clause-meets
loops::do_test-returns-then-goes_on-clause-meets g t c = λ d le. rw (← c.goes_on.ensures, c.if-goes_on.true) (c.last_test.ensures.meets d le)

pub loops::last_test-returns-in_err-word-clause-meets : goal.loops::last_test-returns-in_err-word-clause-meets
loops::last_test-returns-in_err-word-clause-meets g t c = λ d le.
    let e : c.from_residual.result ≡ Err c.in_err-word.field-0.0 = search rules in
    fails _ _ _ _ _ _ _ _ e (c.in_err-word.ensures.meets d (omega arith))
