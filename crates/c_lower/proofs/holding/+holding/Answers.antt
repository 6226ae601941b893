use Rattle.std.proofs.Common.{ap, sym, ◌∙◌}
use Rattle.c_tree.specs.declared.tree.BlockItem.{out-BlockItem}
use Rattle.c_tree.specs.declared.tree.BlockItem.TheVariants.{outs-Declare, outs-Act}
use Rattle.c_lower.specs.Holding as spec
use Rattle.c_lower.proofs.HoldLemmas.{stmt_has_level, item_has_level}
use Rattle.c_lower.proofs.holding.+holding.Goals as goal

pub has-returns : goal.has-returns
has-returns t c = λ w. c.has_kind.ensures w ∙ stmt_has_level w c.args.sought c.args.s.now

pub has_item-returns-in-Declare : goal.has_item-returns-in-Declare
has_item-returns-in-Declare t c = λ w. c.declared_have.ensures w.setting ∙ (ap (spec.declared_have w.setting c.args.sought) c.as_slice.ensures
    ∙ (sym (ap (spec.layer_item w c.args.sought) (ap out-BlockItem c.in-Declare.is ∙ outs-Declare _)) ∙ item_has_level w c.args.sought c.args.item.now))

pub has_item-returns-in-Act : goal.has_item-returns-in-Act
has_item-returns-in-Act t c = λ w. c.has.ensures w
    ∙ (sym (ap (spec.layer_item w c.args.sought) (ap out-BlockItem c.in-Act.is ∙ outs-Act _)) ∙ item_has_level w c.args.sought c.args.item.now)
