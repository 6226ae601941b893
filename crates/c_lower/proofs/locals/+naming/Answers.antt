use Rattle.std.proofs.Common.{ap, ◌∙◌, ◌++◌}
use Rattle.c_tree.specs.declared.tree.BlockItem.{out-BlockItem}
use Rattle.c_tree.specs.declared.tree.BlockItem.TheVariants.{outs-Declare, outs-Act}
use Rattle.c_tree.specs.declared.tree.StmtKind.{out-StmtKind}
use Rattle.c_tree.specs.declared.tree.StmtKind.TheVariants.{outs-Switch}
use Rattle.lowered_graphs.specs.Stmts as spec
use Rattle.c_lower.specs.Naming as naming
use Rattle.c_lower.proofs.NameLemmas.{ok_then, stmt_locals, item_declares, item_acts, switch_locals}
use Rattle.c_lower.proofs.locals.+naming.Goals as goal

pub put_item-returns-in-Declare : goal.put_item-returns-in-Declare
put_item-returns-in-Declare t c = ok_then c.put_declared.result c.put_declared.ensures (λ h w. h ∙ ap (λ l. c.args.onto.now ++ l)
    (ap spec.declared_locals c.as_slice.ensures ∙ item_declares w c.args.item.now c.in-Declare.ds (ap out-BlockItem c.in-Declare.is ∙ outs-Declare _)))

pub put_item-returns-in-Act : goal.put_item-returns-in-Act
put_item-returns-in-Act t c = ok_then c.put_locals.result c.put_locals.ensures (λ h w. h w ∙ ap (λ l. c.args.onto.now ++ l)
    (item_acts w c.args.item.now c.in-Act.s (ap out-BlockItem c.in-Act.is ∙ outs-Act _)))

pub put_kind-returns-in-Switch : goal.put_kind-returns-in-Switch
put_kind-returns-in-Switch t c = ok_then c.put_groups.result c.put_groups.ensures (λ h w. h w ∙ ap (λ l. c.args.onto.now ++ l)
    (ap (naming.groups_locals w) c.as_slice-in-Switch.ensures ∙ switch_locals w (out-StmtKind c.args.kind.now) c.in-Switch.value c.in-Switch.groups (ap out-StmtKind c.in-Switch.is ∙ outs-Switch _ _)))

pub put_locals-returns : goal.put_locals-returns
put_locals-returns t c = ok_then c.put_kind.result c.put_kind.ensures (λ h w. h w ∙ ap (λ l. c.args.onto.now ++ l) (stmt_locals w c.args.s.now))
