-- An object is live behind an operation just where it is marked where control may go.
use Rattle.std.proofs.Common.{◌≡◌, ◌⊎◌, ◌↔◌, ◌||◌, ◌<◌, ℕ, Bool, true, false, List, length, get_or, refl, sym, ap, subst, inl, inr, ◌∙◌}
use Rattle.std.specs.Prelude.{Some, nat_lt, slice_get, Vec}
use Rattle.std.specs.declared.alloc.Global.{Global}
use Rattle.std.proofs.Math.Bool.{or-true}
use Rattle.flow_graph.specs.declared.graph.Graph.{Graph}
use Rattle.flow_graph.specs.declared.nodes.Next.{Next}
use Rattle.flow_graph.specs.declared.nodes.Next.TheVariants.{To, Either, Into, Returns, Ends}
use Rattle.flow_graph.specs.Nodes.{entry}
use Rattle.flow_graph.specs.declared.owned.Owned.{Owned}
use Rattle.live_objects.specs.declared.liveness.Liveness.{Liveness}
use Rattle.flow_graph.specs.Owned.{operations, IsAt}
use Rattle.live_objects.specs.Live.{Follows, Leads, IsLiveAfter, IsLiveBefore}
use Rattle.live_objects.specs.GraphArcs.{entries}
use Rattle.live_objects.specs.Rows.{IsLivenessOf, IsRow, live_at, marked_at, marked_behind}
use Rattle.live_objects.proofs.LivePaths.{entry_is, if_true, if_false, live_within, ltb_tells, owner_within}

either_true : (x y : Bool) → (x || y) ≡ true → (x ≡ true) ⊎ (y ≡ true)
either_true true y e = inl refl
either_true false y e = inr e

marked_is : (g : Graph) (o : ℕ) (rows : List (Vec Bool Global)) → IsRow g o (live_at rows o) → (n : ℕ) → (marked_at rows (length (operations g)) o n ≡ true) ↔ IsLiveBefore g n o
marked_is g o rows row n = elim (ltb_tells n (length (operations g))) [
  | inl t ↦ let same = if_true (nat_lt n (length (operations g))) (live_at rows o n) false t.0 in (λ e. (row.before n t.1).0 (sym same ∙ e), λ l. same ∙ (row.before n t.1).1 l)
  | inr f ↦ let same = if_false (nat_lt n (length (operations g))) (live_at rows o n) false f.0 in
      (λ e. let d : false ≡ true = sym same ∙ e in absurd (cc), λ l. absurd (f.1 (live_within g o n l.path l.lives)))
]

follows_at : (g : Graph) (i j : ℕ) (x : Owned) (next : Next) → IsAt (operations g) i x → x.node.next ≡ next → Leads g i j → Follows g x.function next j
follows_at g i j x next at e l =
    let same : l.op ≡ x = let h : Some l.op ≡ Some x = sym l.is_op ∙ at in cc in
    subst (λ k. Follows g x.function k j) e (subst (λ (y : Owned). Follows g y.function y.node.next j) same l.follows)

leads_at : (g : Graph) (i j : ℕ) (x : Owned) (next : Next) → IsAt (operations g) i x → x.node.next ≡ next → Follows g x.function next j → Leads g i j
leads_at g i j x next at e f = record { op = x; is_op = at; follows = subst (λ k. Follows g x.function k j) (sym e) f }

behind_is : (g : Graph) (o : ℕ) (rows : List (Vec Bool Global)) → IsRow g o (live_at rows o) → (i : ℕ) (x : Owned) (next : Next) → IsAt (operations g) i x → x.node.next ≡ next
    → (marked_behind rows (length (operations g)) (entries g.functions) x.function next o ≡ true) ↔ IsLiveAfter g i o
behind_is g o rows row i x (To n) at e = (
  λ h. record { behind = n; leads = leads_at g i n x (To n) at e refl; live = (marked_is g o rows row n).0 h },
  λ l. (marked_is g o rows row n).1 (subst (λ k. IsLiveBefore g k o) (follows_at g i l.behind x (To n) at e l.leads) l.live),
)
behind_is g o rows row i x (Either n m) at e = (
  λ h. elim (either_true (marked_at rows (length (operations g)) o n) (marked_at rows (length (operations g)) o m) h) [
    | inl a ↦ record { behind = n; leads = leads_at g i n x (Either n m) at e (inl refl); live = (marked_is g o rows row n).0 a }
    | inr b ↦ record { behind = m; leads = leads_at g i m x (Either n m) at e (inr refl); live = (marked_is g o rows row m).0 b }
  ],
  λ l. elim (follows_at g i l.behind x (Either n m) at e l.leads) [
    | inl a ↦ ap (λ b. b || marked_at rows (length (operations g)) o m) ((marked_is g o rows row n).1 (subst (λ k. IsLiveBefore g k o) a l.live))
    | inr b ↦ ap (λ c. marked_at rows (length (operations g)) o n || c) ((marked_is g o rows row m).1 (subst (λ k. IsLiveBefore g k o) b l.live)) ∙ or-true (marked_at rows (length (operations g)) o n)
  ],
)
behind_is g o rows row i x (Into c n) at e = (
  λ h. record { behind = entry g c; leads = leads_at g i (entry g c) x (Into c n) at e refl; live = subst (λ k. IsLiveBefore g k o) (entry_is g c) ((marked_is g o rows row (get_or (entries g.functions) c 0)).0 h) },
  λ l. (marked_is g o rows row (get_or (entries g.functions) c 0)).1 (subst (λ k. IsLiveBefore g k o) (follows_at g i l.behind x (Into c n) at e l.leads ∙ sym (entry_is g c)) l.live),
)
behind_is g o rows row i x Returns at e = (
  λ h. let b = (row.behind x.function (owner_within g i x at)).0 h in record { behind = b.behind; leads = leads_at g i b.behind x Returns at e b.follows; live = b.live },
  λ l. (row.behind x.function (owner_within g i x at)).1 (record { behind = l.behind; follows = follows_at g i l.behind x Returns at e l.leads; live = l.live }),
)
behind_is g o rows row i x Ends at e = (λ h. absurd (cc), λ l. absurd (follows_at g i l.behind x Ends at e l.leads))

pub after_is : (l : Liveness) (g : Graph) (i o : ℕ) (x : Owned) → IsLivenessOf l g → o < length g.objects → slice_get l.operations.items i ≡ Some x
    → (marked_behind l.rows.items (length l.operations.items) l.entries.items x.function x.node.next o ≡ true) ↔ IsLiveAfter g i o
after_is l g i o x is lo at =
    subst (λ es. (marked_behind l.rows.items (length l.operations.items) es x.function x.node.next o ≡ true) ↔ IsLiveAfter g i o) (sym is.entries)
    (subst (λ (ops : List Owned). (marked_behind l.rows.items (length ops) (entries g.functions) x.function x.node.next o ≡ true) ↔ IsLiveAfter g i o) (sym is.operations)
    (behind_is g o l.rows.items (is.rows o lo) i x x.node.next (subst (λ (ops : List Owned). slice_get ops i ≡ Some x) is.operations at) refl))
