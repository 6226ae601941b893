use Rattle.std.proofs.Common.{◌≡◌, ◌∷◌, ◌∙◌, ap, reverse, arith}
use Rattle.std.proofs.lemmas.Grind.{common_steps}
use Rattle.c_parse.proofs.Stacks.{run_begins, run_goes_on}
use Rattle.c_parse.proofs.grouping.tree_of.Goals as goal

pub loop-operator-init : goal.loop-operator-init
loop-operator-init c =
    let split : c.args.parts ≡ c.in-Some.first ∷ reverse c.pop.new.self.items = grind (arith, common_steps, c.in-Some.ensures, c.in_ok-rest.ensures) in
    run_begins _ _ c.in-Some.first _ _ (grind (arith, common_steps, c.new-pending.ensures)) c.in_ok-tree.ensures split

pub loop-operator-preserved : goal.loop-operator-preserved
loop-operator-preserved c =
    let first : reverse c.loop-operator.rest.items ≡ c.in-Some-pop.operator ∷ reverse c.pop-in-loop-operator.new.self.items = grind (arith, common_steps, c.in-Some-pop.ensures) in
    let second : reverse c.pop-in-loop-operator.new.self.items ≡ c.in-Some-pop-2.next ∷ reverse c.pop-in-Some-pop.new.self.items = grind (arith, common_steps, c.in-Some-pop-2.ensures) in
    run_goes_on _ _ _ _ c.in-Some-pop.operator c.in-Some-pop-2.next c.in_ok-left.left _ _ _ (first ∙ ap (λ t. c.in-Some-pop.operator ∷ t) second) c.in_ok-left.ensures c.in_ok-hold.ensures c.in_ok-tree-2.ensures
    ∙ c.loop-operator.invariant
