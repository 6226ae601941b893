use Rattle.std.proofs.Common.{◌≡◌, ◌+◌, ◌∙◌, ◌++◌, List, [], ◌∷◌, ap, append-nil, length, arith, length-append}
use Rattle.std.proofs.lemmas.Grind.{flat_map-append}
use Rattle.std.specs.List.{flat_map}
use denote.Param.Object.{read_made}
use Rattle.call_rows.proofs.calling.called.Goals as goal
use Rattle.call_rows.proofs.calling.called.OwnLists.{own-1, entry-1-1, at-1-1, same-1-1}

-- a further box has so many rows more
rows-append : {B R : Type 0} (xs ys : List B) (b : B) (rows : B → List R) → ys ≡ xs ++ b ∷ [] → length (flat_map rows ys) ≡ length (flat_map rows xs) + length (rows b)
rows-append xs ys b rows e =
    ap length (ap (flat_map rows) e ∙ flat_map-append rows xs (b ∷ []) ∙ ap (λ l. flat_map rows xs ++ l) (append-nil (rows b)))
    ∙ length-append (flat_map rows xs) (rows b)

-- one box more
length-snoc : {B : Type 0} (xs ys : List B) (b : B) → ys ≡ xs ++ b ∷ [] → length ys ≡ length xs + 1
length-snoc xs ys b e = ap length e ∙ length-append xs (b ∷ [])

pub boxes-preserved : goal.boxes-preserved
boxes-preserved c =
    let same = ap length (read_made own-1 entry-1-1 at-1-1 same-1-1 _ (λ j y. j.1.rows_left y) _ _ _ c.into_dyn_box.ensures.1 ∙ ap (λ f. f.rows) c.in_ok-new.ensures.ok) in
    let small = c.in_ok-filled.ensures in
    let rows = rows-append c.boxes.supplies.items c.push.new.self.items c.into_dyn_box.result (λ b. (own-1.entry b.vtable).1.rows_left b.value) c.in_ok-push.ensures.items in
    let boxes = length-snoc c.boxes.supplies.items c.push.new.self.items c.into_dyn_box.result c.in_ok-push.ensures.items in
    let before = c.boxes.invariant in
    omega (arith, same, small, rows, boxes, before)
