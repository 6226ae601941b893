-- A use among those of its place.
use Rattle.std.specs.Prelude.{if◌then◌else◌, nat_lt, length, get_or, slice_set}
use Rattle.std.specs.Bool.{MatchBool}
use Rattle.std.specs.List.{insert}
use Rattle.std.proofs.lemmas.List.{get_or_default}
use Rattle.std.proofs.Common.{◌≡◌, ◌==◌, ◌≢◌, ◌<◌, ◌≤◌, ◌+◌, ℕ, zero, suc, Bool, true, false, List, [], ◌∷◌, refl, sym, ap, ◌∙◌, subst, arith}
use Rattle.item_weights.specs.declared.uses.Use.{Use}
use Rattle.chain_units.specs.Known.{with_use}
use Rattle.item_weights.specs.Weights.{kept}
use Rattle.chain_units.specs.Sums.{IsOf, IsPlaceOf, no_use}

abbrev pub joined : Use → Use → Use
joined u v = record { object = u.object; reads = kept (u.reads + v.reads); writes = kept (u.writes + v.writes) }

if_true : {A : Type 0} (b : Bool) (x y : A) → b ≡ true → (if b then x else y) ≡ x
if_true true x y e = refl
if_true false x y e = absurd (cc)

if_false : {A : Type 0} (b : Bool) (x y : A) → b ≡ false → (if b then x else y) ≡ y
if_false true x y e = absurd (cc)
if_false false x y e = refl

pub use_before : (u v : Use) (us : List Use) → v.object < u.object → with_use (u ∷ us) v ≡ v ∷ u ∷ us
use_before u v us lt = if_true (nat_lt v.object u.object) (v ∷ u ∷ us) (if u.object == v.object then joined u v ∷ us else u ∷ with_use us v) (grind (arith, lt))

pub use_same : (u v : Use) (us : List Use) → u.object ≡ v.object → with_use (u ∷ us) v ≡ joined u v ∷ us
use_same u v us e =
    let le : u.object ≤ v.object = omega arith in
    if_false (nat_lt v.object u.object) (v ∷ u ∷ us) (if u.object == v.object then joined u v ∷ us else u ∷ with_use us v) (grind (arith, le))
    ∙ if_true (u.object == v.object) (joined u v ∷ us) (u ∷ with_use us v) (grind (arith, e))

pub use_behind : (u v : Use) (us : List Use) → u.object < v.object → with_use (u ∷ us) v ≡ u ∷ with_use us v
use_behind u v us lt =
    let le : u.object ≤ v.object = omega arith in
    if_false (nat_lt v.object u.object) (v ∷ u ∷ us) (if u.object == v.object then joined u v ∷ us else u ∷ with_use us v) (grind (arith, le))
    ∙ if_false (u.object == v.object) (joined u v ∷ us) (u ∷ with_use us v) (grind (arith, lt))

-- the place behind the first use
behind : (u : Use) (us : List Use) (object m : ℕ) → IsPlaceOf (u ∷ us) object (suc m) → IsPlaceOf us object m
behind u us object m is = record { within = omega (arith, is.within); before = is.before.1; not_there = λ lt. is.not_there (omega arith) }

pub place_same : (us : List Use) (v : Use) (at : ℕ) → IsPlaceOf us v.object at → at < length us → (get_or us at no_use).object ≡ v.object → with_use us v ≡ slice_set us at (joined (get_or us at no_use) v)
place_same [] v at is lt e = absurd (omega arith)
place_same (u ∷ us) v zero is lt e = use_same u v us e
place_same (u ∷ us) v (suc m) is lt e = use_behind u v us is.before.0 ∙ ap (λ (ws : List Use). u ∷ ws) (place_same us v m (behind u us v.object m is) (omega arith) e)

pub place_new : (us : List Use) (v : Use) (at : ℕ) → IsPlaceOf us v.object at → (at < length us → (get_or us at no_use).object ≢ v.object) → with_use us v ≡ insert us at v
place_new [] v zero is ne = refl
place_new [] v (suc m) is ne = absurd (omega (arith, is.within))
place_new (u ∷ us) v zero is ne =
    let some : 0 < length (u ∷ us) = omega arith in
    let le : v.object ≤ u.object = is.not_there some in
    let other : u.object ≢ v.object = ne some in
    use_before u v us (omega arith)
place_new (u ∷ us) v (suc m) is ne = use_behind u v us is.before.0 ∙ ap (λ (ws : List Use). u ∷ ws) (place_new us v m (behind u us v.object m is) (λ lt. ne (omega arith)))

-- ---- as the code adds

pub added_same : (us ws ws' : List Use) (v x : Use) (at r w : ℕ) (t : Bool) → ws ≡ us → ws' ≡ us → IsPlaceOf ws v.object at → MatchBool t (IsOf ws' at v.object) (IsOf ws' at v.object → ⊥) → t ≡ true → x ≡ get_or us at x
    → r ≡ kept (x.reads + v.reads) → w ≡ kept (x.writes + v.writes) → slice_set us at (record { object = x.object; reads = r; writes = w }) ≡ with_use us v
added_same us ws ws' v x at r w t same same' is of e read reads writes =
    let is' = subst (λ (ys : List Use). IsPlaceOf ys v.object at) same is in
    let of' = subst (λ (ys : List Use). IsOf ys at v.object) same' (subst (λ (b : Bool). MatchBool b (IsOf ws' at v.object) (IsOf ws' at v.object → ⊥)) e of) in
    let here : x ≡ get_or us at no_use = read ∙ get_or_default us at x no_use of'.0 in
    ap (λ (n : ℕ). slice_set us at (record { object = x.object; reads = n; writes = w })) reads
    ∙ (ap (λ (n : ℕ). slice_set us at (record { object = x.object; reads = kept (x.reads + v.reads); writes = n })) writes
    ∙ (ap (λ (u : Use). slice_set us at (joined u v)) here ∙ sym (place_same us v at is' of'.0 of'.1)))

pub added_new : (us ws ws' : List Use) (v : Use) (at : ℕ) (t : Bool) → ws ≡ us → ws' ≡ us → IsPlaceOf ws v.object at → MatchBool t (IsOf ws' at v.object) (IsOf ws' at v.object → ⊥) → t ≡ false
    → insert us at v ≡ with_use us v
added_new us ws ws' v at t same same' is of e =
    let is' = subst (λ (ys : List Use). IsPlaceOf ys v.object at) same is in
    let of' = subst (λ (ys : List Use). IsOf ys at v.object → ⊥) same' (subst (λ (b : Bool). MatchBool b (IsOf ws' at v.object) (IsOf ws' at v.object → ⊥)) e of) in
    sym (place_new us v at is' (λ lt e. of' (lt, e)))
