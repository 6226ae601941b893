use Rattle.std.proofs.Common.{◌≡◌, ◌∙◌, ◌++◌, List, [], ◌∷◌, ap, append-nil}
use Rattle.std.proofs.lemmas.Grind.{flat_map-append}
use Rattle.std.specs.List.{flat_map}
use denote.Param.Object.{read_made}
use Rattle.schematic_main.proofs.called.Goals as goal
use Rattle.schematic_main.proofs.called.OwnLists.{own-1, entry-1-1, at-1-1, same-1-1}

-- a box that holds no rows changes nothing of the rows
same_rows : {B R : Type 0} (xs ys : List B) (b : B) (rows : B → List R) → ys ≡ xs ++ b ∷ [] → rows b ≡ [] → flat_map rows ys ≡ flat_map rows xs
same_rows xs ys b rows e none = ap (flat_map rows) e ∙ flat_map-append rows xs (b ∷ []) ∙ ap (λ l. flat_map rows xs ++ (l ++ [])) none ∙ append-nil (flat_map rows xs)

pub loop-supplies-preserved : goal.loop-supplies-preserved
loop-supplies-preserved c =
    let none : (own-1.entry c.into_dyn_box.result.vtable).1.rows_left c.into_dyn_box.result.value ≡ [] =
    read_made own-1 entry-1-1 at-1-1 same-1-1 _ (λ j y. j.1.rows_left y) _ _ _ c.into_dyn_box.ensures.1 ∙ c.in_ok-new.ensures.ok ∙ c.new.ensures in
    same_rows c.loop-supplies.supplies.items c.push.new.self.items c.into_dyn_box.result (λ b. (own-1.entry b.vtable).1.rows_left b.value) c.in_ok-push.ensures.items none
    ∙ c.loop-supplies.invariant
