-- Lists of operations, of costs and of flags.
use Rattle.std.specs.Prelude.{Option, Some, slice_get}
use Rattle.std.specs.List.{AllByRecursion}
use Rattle.std.proofs.Common.{◌≡◌, ◌+◌, ◌++◌, ℕ, zero, suc, true, List, [], ◌∷◌, refl, sym, ap, ◌∙◌, subst}
use Rattle.flow_graph.specs.declared.graph.Func.{Func}
use Rattle.flow_graph.specs.declared.nodes.Node.{Node}
use Rattle.flow_graph.specs.declared.owned.Owned.{Owned}
use Rattle.flow_graph.specs.Nodes.{body_nodes}
use Rattle.flow_graph.specs.Owned.{owned, owned_from}
use Rattle.call_summary.specs.declared.telling.Summary.{Summary}
use Rattle.call_summary.specs.declared.telling.Summary.TheVariants.{Flat, Split}
use Rattle.call_summary.specs.Summaries.{cost_in, costs_in}
use Rattle.checkpoint_graph.specs.Knowing.{is_flat_in}

-- what holds at each place holds of all
pub all_from_places : {A : Type 0} (P : A → Type 0) (xs : List A) → ((n : ℕ) (x : A) → slice_get xs n ≡ Some x → P x) → AllByRecursion P xs
all_from_places P [] h = tt
all_from_places P (x ∷ xs) h = (h zero x refl, all_from_places P xs (λ n y e. h (suc n) y e))

all_left : {A : Type 0} (P : A → Type 0) (xs ys : List A) → AllByRecursion P (xs ++ ys) → AllByRecursion P xs
all_left P [] ys all = tt
all_left P (x ∷ xs) ys all = (all.0, all_left P xs ys all.1)

all_right : {A : Type 0} (P : A → Type 0) (xs ys : List A) → AllByRecursion P (xs ++ ys) → AllByRecursion P ys
all_right P [] ys all = all
all_right P (x ∷ xs) ys all = all_right P xs ys all.1

all_nodes_of : (P : Node → Type 0) (f : ℕ) (xs : List Node) → AllByRecursion (λ (x : Owned). P x.node) (owned f xs) → AllByRecursion P xs
all_nodes_of P f [] all = tt
all_nodes_of P f (x ∷ xs) all = (all.0, all_nodes_of P f xs all.1)

-- what holds of all operations of functions holds of those of each
pub all_bodies : (P : Node → Type 0) (n : ℕ) (fs : List Func) → AllByRecursion (λ (x : Owned). P x.node) (owned_from n fs) → AllByRecursion (λ (f : Func). AllByRecursion P (body_nodes f)) fs
all_bodies P n [] all = tt
all_bodies P n (f ∷ fs) all = (
  all_nodes_of P n (body_nodes f) (all_left (λ (x : Owned). P x.node) (owned n (body_nodes f)) (owned_from (n + 1) fs) all),
  all_bodies P (n + 1) fs (all_right (λ (x : Owned). P x.node) (owned n (body_nodes f)) (owned_from (n + 1) fs) all),
)

pub all_at : {A : Type 0} (P : A → Type 0) (xs : List A) (n : ℕ) (x : A) → slice_get xs n ≡ Some x → AllByRecursion P xs → P x
all_at P [] n x e all = absurd (cc)
all_at P (y ∷ ys) zero x e all = let same : y ≡ x = cc in subst (λ z. P z) same all.0
all_at P (y ∷ ys) (suc n) x e all = all_at P ys n x e all.1

-- ---- summaries

pub costs_step : (s : Summary) (left rest : List Summary) (made made2 all : List (Option ℕ)) (cost : Option ℕ) → left ≡ s ∷ rest → cost ≡ cost_in s → made2 ≡ made ++ cost ∷ [] → all ≡ made ++ costs_in left
    → all ≡ made2 ++ costs_in rest
costs_step s left rest made made2 all cost e is more so_far =
    so_far
    ∙ (ap (λ (xs : List Summary). made ++ costs_in xs) e
    ∙ (ap (λ (c : Option ℕ). made ++ c ∷ costs_in rest) (sym is) ∙ (sym (push made cost (costs_in rest)) ∙ sym (ap (λ (xs : List (Option ℕ)). xs ++ costs_in rest) more))))
  where
    push : (xs : List (Option ℕ)) (c : Option ℕ) (ys : List (Option ℕ)) → (xs ++ c ∷ []) ++ ys ≡ xs ++ c ∷ ys
    push [] c ys = refl
    push (x ∷ xs) c ys = ap (λ (zs : List (Option ℕ)). x ∷ zs) (push xs c ys)

pub costs_done : (left : List Summary) (made all : List (Option ℕ)) → left ≡ [] → all ≡ made ++ costs_in left → made ≡ all
costs_done left made all e so_far = sym (so_far ∙ (ap (λ (xs : List Summary). made ++ costs_in xs) e ∙ append-nil made))
  where
    append-nil : (xs : List (Option ℕ)) → xs ++ [] ≡ xs
    append-nil [] = refl
    append-nil (x ∷ xs) = ap (λ (ys : List (Option ℕ)). x ∷ ys) (append-nil xs)

-- a flat function has a cost
pub flat_cost : (summaries : List Summary) (f : ℕ) → is_flat_in (slice_get summaries f) ≡ true → (cost : ℕ) × (slice_get (costs_in summaries) f ≡ Some (Some cost))
flat_cost [] f e = absurd (cc)
flat_cost (Flat cost touched ∷ more) zero e = (cost, refl)
flat_cost (Split ∷ more) zero e = absurd (cc)
flat_cost (s ∷ more) (suc f) e = flat_cost more f e
