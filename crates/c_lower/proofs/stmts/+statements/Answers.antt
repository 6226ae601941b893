use Rattle.std.proofs.Common.{Option, ap, subst, refl, sym, ◌∙◌, map, arith}
use Rattle.c_tree.specs.declared.tree.BlockItem.{size-BlockItem}
use Rattle.c_tree.specs.declared.tree.Group.{size-Group}
use Rattle.lowered_graphs.specs.declared.loops.Count.{Count}
use Rattle.lowered_graphs.specs.Making.{Emit, made_on}
use Rattle.lowered_graphs.specs.Exprs.{setting_of}
use Rattle.lowered_graphs.specs.GraphOf.{within_of}
use Rattle.lowered_graphs.specs.Stmts as spec
use Rattle.lowered_graphs.proofs.StmtLevels.{stmt_level}
use Rattle.std.specs.Prelude.{IfOk}
use Rattle.c_lower.specs.Arms.{nested_made}
use Rattle.c_lower.specs.Emitting.{Emits, Emitted}
use Rattle.c_lower.proofs.EmitLemmas.{emits_tail, leads_start, leads_on, leads_end}
use Rattle.c_tree.specs.Nodes.{has_default}
use Rattle.c_tree.specs.declared.tree.BlockItem.{out-BlockItem}
use Rattle.c_tree.specs.declared.tree.BlockItem.TheVariants.{outs-Declare, outs-Act}
use Rattle.c_lower.proofs.ItemLemmas.{each_more, position_map, default_here, default_on, group_given, group_left, most_rest}
use Rattle.c_lower.proofs.NameLemmas.{item_declared, item_acted}
use Rattle.c_lower.proofs.stmts.+statements.Goals as goal

pub items-loop-first-init : goal.items-loop-first-init
items-loop-first-init t c = record { whole = leads_start _ _ _ (λ k. refl); smaller = omega arith }

pub items-returns : goal.items-returns
items-returns t c = leads_end _ _ _ _ _ c.loop-first.invariant.whole
    (ap (λ xs. spec.each_item c.args.last (map (spec.lowered_item (within_of c.args.p.now c.args.homes.now c.args.n)) xs) c.loop-first.to.counts) c.in_default.ensures)

pub chain-loop-group-preserved : goal.chain-loop-group-preserved
chain-loop-group-preserved t c = record {
  whole = λ others. c.loop-group.invariant.whole others
      ∙ (ap (λ l. nested_made c.loop-group.arms (spec.groups_from c.args.v (map (spec.lowered_group (within_of c.args.p.now c.args.homes.now c.args.n)) l) others c.args.place c.loop-group.to.counts)) c.in-Some.ensures
      ∙ c.in_ok-add_group.ensures.whole (map (spec.lowered_group (within_of c.args.p.now c.args.homes.now c.args.n)) c.in-Some.rest.now) others);
  outer = c.in_ok-add_group.ensures.outer ∙ c.loop-group.invariant.outer;
  smaller = most_rest size-Group c.in-Some.group.now c.loop-group.left.now c.in-Some.rest.now _ c.in-Some.ensures c.loop-group.invariant.smaller;
}

pub stmt-returns : goal.stmt-returns
stmt-returns t c = subst (λ (x : spec.LoweredStmt). IfOk c.kind.result (λ u. Emits (x.emit c.args.at) tt c.args.to.now c.kind.new.to)) (stmt_level (within_of c.args.p.now c.args.homes.now c.args.n) c.args.s.now) c.kind.ensures

pub item-returns-in-Declare : goal.item-returns-in-Declare
item-returns-in-Declare t c = subst (λ (x : spec.LoweredStmt). IfOk c.declare.result (λ u. Emits (x.emit c.args.at) tt c.args.to.now c.declare.new.to))
    (ap (spec.declares (within_of c.args.p.now c.args.homes.now c.args.n)) c.as_slice.ensures ∙ item_declared (within_of c.args.p.now c.args.homes.now c.args.n) c.args.item.now c.in-Declare.ds (ap out-BlockItem c.in-Declare.is ∙ outs-Declare _)) c.declare.ensures

pub item-returns-in-Act : goal.item-returns-in-Act
item-returns-in-Act t c = subst (λ (x : spec.LoweredStmt). IfOk c.stmt.result (λ u. Emits (x.emit c.args.at) tt c.args.to.now c.stmt.new.to))
    (item_acted (within_of c.args.p.now c.args.homes.now c.args.n) c.args.item.now c.in-Act.s (ap out-BlockItem c.in-Act.is ∙ outs-Act _)) c.stmt.ensures

pub add_group-returns-then-has_default : goal.add_group-returns-then-has_default
add_group-returns-then-has_default t c = group_left (within_of c.args.p.now c.args.homes.now c.args.n) c.args.v c.args.group.now c.args.place c.args.arms.now c.args.to.now
    (ap has_default (sym c.as_slice.ensures) ∙ (sym c.has_default.ensures ∙ c.if-has_default.true))

pub add_group-returns-in_ok-put_arm : goal.add_group-returns-in_ok-put_arm
add_group-returns-in_ok-put_arm t c = group_given (within_of c.args.p.now c.args.homes.now c.args.n) c.args.v c.args.group.now c.args.place c.args.arms.now c.put_arm.new.arms c.in_ok-arm.arm c.args.to.now c.group_arm.new.to
    (ap has_default (sym c.as_slice.ensures) ∙ (sym c.has_default.ensures ∙ c.if-has_default.false)) c.in_ok-arm.ensures c.in_ok-put_arm.ensures

pub default_items-loop-group-preserved : goal.default_items-loop-group-preserved
default_items-loop-group-preserved t c = record {
  whole = c.loop-group.invariant.whole ∙ (ap (λ l. spec.default_items (map (spec.lowered_group (within_of c.args.p.now c.args.homes.now c.args.n)) l)) c.in-Some.ensures
      ∙ default_on (within_of c.args.p.now c.args.homes.now c.args.n) c.in-Some.group.now (map (spec.lowered_group (within_of c.args.p.now c.args.homes.now c.args.n)) c.in-Some.rest.now)
      (ap has_default (sym c.as_slice.ensures) ∙ (sym c.has_default.ensures ∙ c.if-has_default.false)));
  same = c.loop-group.invariant.same;
  smaller = most_rest size-Group c.in-Some.group.now c.loop-group.left.now c.in-Some.rest.now _ c.in-Some.ensures c.loop-group.invariant.smaller;
}

pub items-loop-first-preserved : goal.items-loop-first-preserved
items-loop-first-preserved t c = record {
  whole = leads_on _ _ ((spec.lowered_item (within_of c.args.p.now c.args.homes.now c.args.n) c.in-Some.first.now).emit c.position-at.result)
      (λ u. spec.each_item c.args.last (map (spec.lowered_item (within_of c.args.p.now c.args.homes.now c.args.n)) c.in-Some.rest.now)) _ _ _ _ c.loop-first.invariant.whole
      (ap (λ xs. spec.each_item c.args.last (map (spec.lowered_item (within_of c.args.p.now c.args.homes.now c.args.n)) xs) c.loop-first.to.counts) c.in-Some.ensures
      ∙ (each_more c.args.last (spec.lowered_item (within_of c.args.p.now c.args.homes.now c.args.n) c.in-Some.first.now) (map (spec.lowered_item (within_of c.args.p.now c.args.homes.now c.args.n)) c.in-Some.rest.now) c.loop-first.to.counts
      ∙ ap (λ at. made_on ((spec.lowered_item (within_of c.args.p.now c.args.homes.now c.args.n) c.in-Some.first.now).emit at c.loop-first.to.counts) (λ u. spec.each_item c.args.last (map (spec.lowered_item (within_of c.args.p.now c.args.homes.now c.args.n)) c.in-Some.rest.now)))
      (position_map (spec.lowered_item (within_of c.args.p.now c.args.homes.now c.args.n)) c.in-Some.rest.now c.args.last ∙ sym c.position-at.ensures)))
      c.in_ok-item.ensures;
  smaller = most_rest size-BlockItem c.in-Some.first.now c.loop-first.left.now c.in-Some.rest.now _ c.in-Some.ensures c.loop-first.invariant.smaller;
}

pub for_at-returns-in-Some : goal.for_at-returns-in-Some
for_at-returns-in-Some t c = subst (λ (o : Option Count). IfOk c.counted_loop.result (λ u. Emits (spec.for_by (setting_of c.args.p.now c.args.homes.now) c.args.first.now c.args.e.now c.args.step.now
    (spec.lowered_stmt (within_of c.args.p.now c.args.homes.now c.args.n) c.args.body.now) c.args.place o) tt c.args.to.now c.counted_loop.new.to))
    (sym c.in-Some.is ∙ c.in_ok-count.ensures (within_of c.args.p.now c.args.homes.now c.args.n) refl) c.counted_loop.ensures

pub for_at-returns-in_ok-first_of-in-None : goal.for_at-returns-in_ok-first_of-in-None
for_at-returns-in_ok-first_of-in-None t c = subst (λ (o : Option Count). IfOk c.for_loop.result (λ u. Emits (spec.for_by (setting_of c.args.p.now c.args.homes.now) c.args.first.now c.args.e.now c.args.step.now
    (spec.lowered_stmt (within_of c.args.p.now c.args.homes.now c.args.n) c.args.body.now) c.args.place o) tt c.args.to.now c.for_loop.new.to))
    (sym c.in-None.is ∙ c.in_ok-count.ensures (within_of c.args.p.now c.args.homes.now c.args.n) refl)
    (emits_tail (spec.first_of (setting_of c.args.p.now c.args.homes.now) c.args.first.now)
    (λ u. spec.for_loop (setting_of c.args.p.now c.args.homes.now) c.args.e.now c.args.step.now (spec.lowered_stmt (within_of c.args.p.now c.args.homes.now c.args.n) c.args.body.now) c.args.place) tt c.for_loop.result
    c.args.to.now c.first_of.new.to c.for_loop.new.to c.in_ok-first_of-in-None.ensures c.for_loop.ensures)

pub default_items-returns-then-has_default : goal.default_items-returns-then-has_default
default_items-returns-then-has_default t c = subst (λ (q : Emit (Unit {0})). IfOk c.group_items.result (λ u. Emits q tt c.args.to.now c.group_items.new.to))
    (sym (c.loop-group.invariant.whole ∙ (ap (λ l. spec.default_items (map (spec.lowered_group (within_of c.args.p.now c.args.homes.now c.args.n)) l)) c.in-Some.ensures
    ∙ default_here (within_of c.args.p.now c.args.homes.now c.args.n) c.in-Some.group.now (map (spec.lowered_group (within_of c.args.p.now c.args.homes.now c.args.n)) c.in-Some.rest.now)
    (ap has_default (sym c.as_slice.ensures) ∙ (sym c.has_default.ensures ∙ c.if-has_default.true)))))
    (subst (λ (s : Emitted). IfOk c.group_items.result (λ u. Emits (spec.group_items (spec.group_parts (within_of c.args.p.now c.args.homes.now c.args.n) c.in-Some.group.now)) tt s c.group_items.new.to)) c.loop-group.invariant.same c.group_items.ensures)
