use Rattle.std.proofs.Common.{◌≡◌, List, subst}
use Rattle.std.specs.Prelude.{OnOk}
use Rattle.item_weights.specs.declared.uses.Use.{Use}
use Rattle.chain_units.proofs.Adding.{added_new, added_same}
use Rattle.chain_units.proofs.sums.add_use.Goals as goal

pub returns-then-is_of : goal.returns-then-is_of
returns-then-is_of c =
    added_same c.args.uses.now.items c.deref.result.now c.deref-2.result.now c.args.more.now c.index-one.result.now c.place_of-at.result c.sum.result c.sum-then-is_of.result c.is_of.result
    c.deref.ensures.value c.deref-2.ensures.value c.place_of-at.ensures c.is_of.ensures c.if-is_of.true c.index-one.ensures c.sum.ensures c.sum-then-is_of.ensures

pub returns-else-is_of : goal.returns-else-is_of
returns-else-is_of c =
    subst (λ (us : List Use). OnOk c.insert.result (c.insert.new.uses.items ≡ us))
    (added_new c.args.uses.now.items c.deref.result.now c.deref-2.result.now c.args.more.now c.place_of-at.result c.is_of.result c.deref.ensures.value c.deref-2.ensures.value c.place_of-at.ensures c.is_of.ensures c.if-is_of.false)
    c.insert.ensures
