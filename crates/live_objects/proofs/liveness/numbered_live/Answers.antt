use Rattle.std.proofs.Common.{◌<◌, List, length, ◌∙◌, ap, sym, subst, arith, zero-add}
use Rattle.std.specs.List.{AllByRecursion}
use Rattle.flow_graph.specs.declared.owned.Owned.{Owned}
use Rattle.live_objects.specs.GraphArcs.{entries}
use Rattle.live_objects.proofs.LivePaths.{functions_within, so_many_entries}
use Rattle.live_objects.proofs.Listing.{liveness_is}
use Rattle.live_objects.proofs.liveness.numbered_live.Goals as goal

pub table-requires-clause-places : goal.table-requires-clause-places
table-requires-clause-places c =
    let a = ap length (c.as_slice-3.ensures.value ∙ c.in_ok-operations.ensures.same) in
    let b = ap length (c.as_slice-4.ensures.value ∙ (c.in_ok-entries.ensures ∙ ap entries c.as_slice.ensures)) ∙ so_many_entries c.args.g.now.functions in
    let h = c.requires.functions in let n = ap length c.in_ok-operations.ensures.same in let m = c.in_ok-operations.ensures.few in omega (arith, a, b, h, n, m)

pub table-requires-clause-functions : goal.table-requires-clause-functions
table-requires-clause-functions c =
    let fs = c.args.g.now.functions in
    let b = ap length (c.as_slice-4.ensures.value ∙ (c.in_ok-entries.ensures ∙ ap entries c.as_slice.ensures)) ∙ so_many_entries fs in
    subst (λ n. AllByRecursion (λ x. x.function < n) c.as_slice-3.result.now) (sym b)
    (subst (λ (xs : List Owned). AllByRecursion (λ x. x.function < length fs) xs) (sym (c.as_slice-3.ensures.value ∙ c.in_ok-operations.ensures.same))
    (functions_within (length fs) 0 fs (omega (arith, zero-add (length fs)))))

pub returns : goal.returns
returns c = liveness_is (record { operations = c.in_ok-operations.operations; entries = c.in_ok-entries.entries; rows = c.in_ok-rows.rows }) c.args.g.now c.as_slice-3.result.now c.as_slice-4.result.now _
    c.in_ok-operations.ensures.same (c.in_ok-entries.ensures ∙ ap entries c.as_slice.ensures) c.as_slice-3.ensures.value c.as_slice-4.ensures.value (ap length c.as_slice-2.ensures) c.in_ok-rows.ensures
