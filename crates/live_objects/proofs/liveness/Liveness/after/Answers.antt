use Rattle.std.proofs.Common.{◌≡◌, ℕ, List, length, refl, sym, ap, subst, ◌∙◌}
use Rattle.std.specs.Prelude.{Bool, false, Option, None, Some, Vec, slice_get}
use Rattle.std.specs.declared.alloc.Global.{Global}
use Rattle.flow_graph.specs.declared.owned.Owned.{Owned}
use Rattle.flow_graph.specs.Owned.{operations}
use Rattle.live_objects.specs.Rows.{marked_behind, marked_behind_in}
use Rattle.live_objects.proofs.LivePaths.{op_at}
use Rattle.live_objects.proofs.Behind.{after_is}
use Rattle.live_objects.proofs.liveness.Liveness.after.Goals as goal

pub returns-clause-live : goal.returns-clause-live
returns-clause-live c = λ g is lo lb.
    let op = c.args.op in let o = c.args.object in let l = c.args.self.now in
    let x = op_at (operations g) op lo in
    let at = subst (λ (ops : List Owned). slice_get ops op ≡ Some x.0) (sym is.operations) x.1 in
    let f = x.0.function in let next = x.0.node.next in
    let told = c.is_behind.ensures.there x.0 (subst (λ (ops : List Owned). slice_get ops op ≡ Some x.0) (sym c.as_slice-2.ensures.value) at) in
    let rows = ap (λ (rs : List (Vec Bool Global)). marked_behind rs (length c.as_slice-2.result.now) c.as_slice-3.result.now f next o) c.as_slice.ensures.value in
    let ops = ap (λ (xs : List Owned). marked_behind l.rows.items (length xs) c.as_slice-3.result.now f next o) c.as_slice-2.ensures.value in
    let es = ap (λ (xs : List ℕ). marked_behind l.rows.items (length l.operations.items) xs f next o) c.as_slice-3.ensures.value in
    let e = told ∙ (rows ∙ (ops ∙ es)) in
    let both = after_is l g op o x.0 is lb at in
    (λ t. both.0 (sym e ∙ t), λ a. e ∙ both.1 a)

by_found : (r : Bool) (rows : List (Vec Bool Global)) (count : ℕ) (es : List ℕ) (o : ℕ) (found : Option Owned) → ((x : Owned) → found ≡ Some x → r ≡ marked_behind rows count es x.function x.node.next o) → (found ≡ None → r ≡ false)
    → r ≡ marked_behind_in rows count es found o
by_found r rows count es o None there none = none refl
by_found r rows count es o (Some x) there none = there x refl

pub returns-clause-told : goal.returns-clause-told
returns-clause-told c =
    let op = c.args.op in let o = c.args.object in let l = c.args.self.now in
    let told = by_found c.is_behind.result c.as_slice.result.now (length c.as_slice-2.result.now) c.as_slice-3.result.now o (slice_get c.as_slice-2.result.now op) c.is_behind.ensures.there c.is_behind.ensures.none in
    let rows = ap (λ (rs : List (Vec Bool Global)). marked_behind_in rs (length c.as_slice-2.result.now) c.as_slice-3.result.now (slice_get c.as_slice-2.result.now op) o) c.as_slice.ensures.value in
    let ops = ap (λ (xs : List Owned). marked_behind_in l.rows.items (length xs) c.as_slice-3.result.now (slice_get xs op) o) c.as_slice-2.ensures.value in
    let es = ap (λ (xs : List ℕ). marked_behind_in l.rows.items (length l.operations.items) xs (slice_get l.operations.items op) o) c.as_slice-3.ensures.value in
    told ∙ (rows ∙ (ops ∙ es))
