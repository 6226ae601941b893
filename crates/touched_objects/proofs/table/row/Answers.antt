use Rattle.std.proofs.Common.{◌≡◌, ◌<◌, ◌↔◌, ℕ, true, false, List, length, get_or, sym, ap, subst, ◌∙◌, arith}
use Rattle.graph_paths.specs.declared.Role.{Role}
use Rattle.graph_paths.specs.Paths.{Reaches}
use Rattle.touched_objects.specs.Tables.{roles_by}
use Rattle.touched_objects.proofs.Reaching.{row_is, so_many_roles}
use Rattle.touched_objects.proofs.table.row.Goals as goal

pub reaching-requires-clause-same_length : goal.reaching-requires-clause-same_length
reaching-requires-clause-same_length c =
    c.requires.so_many ∙ sym (ap length (c.deref-2.ensures.value ∙ c.in_ok-roles.ensures) ∙ (so_many_roles c.deref.result.now ∙ (ap length c.deref.ensures.value ∙ c.in_ok-flags.ensures.length)))

pub reaching-requires-clause-few : goal.reaching-requires-clause-few
reaching-requires-clause-few c =
    let n = ap length (c.deref-2.ensures.value ∙ c.in_ok-roles.ensures) ∙ (so_many_roles c.deref.result.now ∙ (ap length c.deref.ensures.value ∙ c.in_ok-flags.ensures.length)) in
    let h = c.ranges.count.fits in omega (arith, n, h)

pub reaching-requires-clause-within : goal.reaching-requires-clause-within
reaching-requires-clause-within c = λ i j l.
    let n = ap length (c.deref-2.ensures.value ∙ c.in_ok-roles.ensures) ∙ (so_many_roles c.deref.result.now ∙ (ap length c.deref.ensures.value ∙ c.in_ok-flags.ensures.length)) in
    subst (λ k. i < k) (sym n) (c.requires.grouped.within i j l).0

pub returns : goal.returns
returns c =
    let before = c.args.before.now in
    let flags = c.in_ok-flags.flags.items in
    let row = c.in_ok-found.found.items in
    let roles = c.deref-2.ensures.value ∙ (c.in_ok-roles.ensures ∙ ap roles_by c.deref.ensures.value) in
    row_is c.args.operations.now c.args.count c.args.object flags before c.in_ok-flags.ensures.length c.in_ok-flags.ensures.named c.requires.grouped row
    (subst (λ (rs : List Role). (f : ℕ) → (get_or row f false ≡ true) ↔ Reaches before rs f) roles c.in_ok-found.ensures.exact)
