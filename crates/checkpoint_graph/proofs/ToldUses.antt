-- A told weight lists the uses of its objects, in their order.
use Rattle.std.specs.Prelude.{Option, None, Some, if◌then◌else◌}
use Rattle.std.specs.List.{AllByRecursion}
use Rattle.std.proofs.Common.{◌≡◌, ◌==◌, ◌<◌, ◌≤◌, ◌+◌, ◌++◌, ℕ, zero, suc, Bool, true, false, List, [], ◌∷◌, inl, inr, refl, sym, ap, ◌∙◌, subst, arith}
use Rattle.std.proofs.lemmas.Bool.{cases_lt}
use Rattle.item_weights.specs.declared.uses.Use.{Use}
use Rattle.item_weights.specs.declared.uses.Weights.{Weights}
use Rattle.item_weights.specs.Weights.{IsTouched, Rise, Tells, TellsOption, Weight, kept, reads_in, writes_in}
use Rattle.chain_units.specs.Known.{told_weights}
use Rattle.chain_units.specs.Sums.{Above, Rises}
use Rattle.checkpoint_graph.specs.Knowing.{IsTold, told, use_of, uses_from}

pub if_so : {A : Type 0} (t : Bool) (x y : A) → t ≡ true → (if t then x else y) ≡ x
if_so true x y e = refl
if_so false x y e = absurd (cc)

pub if_not : {A : Type 0} (t : Bool) (x y : A) → t ≡ false → (if t then x else y) ≡ y
if_not true x y e = absurd (cc)
if_not false x y e = refl

-- ---- one use

pub use_none : (o r w : ℕ) → r + w ≡ 0 → use_of o r w ≡ []
use_none o r w e = if_so (r + w == 0) [] (record { object = o; reads = r; writes = w } ∷ []) (grind (arith, e))

pub use_some : (o r w : ℕ) → 0 < r + w → use_of o r w ≡ record { object = o; reads = r; writes = w } ∷ []
use_some o r w lt = if_not (r + w == 0) [] (record { object = o; reads = r; writes = w } ∷ []) (grind (arith, lt))

-- ---- the uses that are told are those of the weight

reads_below : (m p : ℕ) (us : List Use) → Rise m us → p < m → reads_in us p ≡ 0
reads_below m p [] rise lt = refl
reads_below m p (u ∷ us) rise lt =
    let le : m ≤ u.object = rise.0 in
    if_not (u.object == p) u.reads (reads_in us p) (let far : p < u.object = omega arith in grind (arith, far)) ∙ reads_below (u.object + 1) p us rise.1 (omega arith)

writes_below : (m p : ℕ) (us : List Use) → Rise m us → p < m → writes_in us p ≡ 0
writes_below m p [] rise lt = refl
writes_below m p (u ∷ us) rise lt =
    let le : m ≤ u.object = rise.0 in
    if_not (u.object == p) u.writes (writes_in us p) (let far : p < u.object = omega arith in grind (arith, far)) ∙ writes_below (u.object + 1) p us rise.1 (omega arith)

module _ (w : Weight) where
  -- the uses tell the weight from an object on, up to another one
  pub record Lists (o end : ℕ) (us : List Use) : Type 0 where
    pub rise : Rise o us
    pub within : AllByRecursion (λ (u : Use). u.object < end) us
    pub touched : AllByRecursion IsTouched us
    pub reads : (p : ℕ) → o ≤ p → p < end → reads_in us p ≡ kept (w.reads p)
    pub writes : (p : ℕ) → o ≤ p → p < end → writes_in us p ≡ kept (w.writes p)

  -- where the first object isn't listed
  skips : (o end : ℕ) (us : List Use) → Lists o end us → Rise (o + 1) us → Lists (suc o) end us
  skips o end us h rise = record {
    rise = subst (λ (n : ℕ). Rise n us) (omega arith) rise;
    within = h.within;
    touched = h.touched;
    reads = λ p le lt. h.reads p (omega arith) lt;
    writes = λ p le lt. h.writes p (omega arith) lt;
  }

  none_here : (o end : ℕ) (us : List Use) → Lists o end us → Rise (o + 1) us → o < end → use_of o (kept (w.reads o)) (kept (w.writes o)) ≡ []
  none_here o end us h rise lt =
      let r = h.reads o (omega arith) lt in
      let s = h.writes o (omega arith) lt in
      use_none o (kept (w.reads o)) (kept (w.writes o)) (omega (arith, r, s, reads_below (o + 1) o us rise (omega arith), writes_below (o + 1) o us rise (omega arith)))

  -- where it is the first of the list
  behind_first : (o end : ℕ) (u : Use) (us : List Use) → Lists o end (u ∷ us) → u.object ≡ o → Lists (suc o) end us
  behind_first o end u us h e = record {
    rise = subst (λ (n : ℕ). Rise n us) (omega (arith, e)) h.rise.1;
    within = h.within.1;
    touched = h.touched.1;
    reads = λ p le lt. sym (if_not (u.object == p) u.reads (reads_in us p) (let far : u.object < p = omega (arith, e) in grind (arith, far))) ∙ h.reads p (omega arith) lt;
    writes = λ p le lt. sym (if_not (u.object == p) u.writes (writes_in us p) (let far : u.object < p = omega (arith, e) in grind (arith, far))) ∙ h.writes p (omega arith) lt;
  }

  first_here : (o end : ℕ) (u : Use) (us : List Use) → Lists o end (u ∷ us) → u.object ≡ o → o < end → use_of o (kept (w.reads o)) (kept (w.writes o)) ≡ u ∷ []
  first_here o end u us h e lt =
      let same : (u.object == o) ≡ true = grind (arith, e) in
      let r : u.reads ≡ kept (w.reads o) = sym (if_so (u.object == o) u.reads (reads_in us o) same) ∙ h.reads o (omega arith) lt in
      let s : u.writes ≡ kept (w.writes o) = sym (if_so (u.object == o) u.writes (writes_in us o) same) ∙ h.writes o (omega arith) lt in
      use_some o (kept (w.reads o)) (kept (w.writes o)) (omega (arith, r, s, h.touched.0)) ∙ sym (λ i. record { object = e i; reads = r i; writes = s i } ∷ [])

  are_uses : (n o : ℕ) (us : List Use) → Lists o (o + n) us → us ≡ uses_from w o n
  are_uses zero o [] h = refl
  are_uses zero o (u ∷ us) h = absurd (omega (arith, h.rise.0, h.within.0))
  are_uses (suc n) o [] h =
      let more = subst (λ (end : ℕ). Lists (suc o) end []) (omega arith) (skips o (o + suc n) [] h tt) in
      are_uses n (suc o) [] more ∙ sym (ap (λ (xs : List Use). xs ++ uses_from w (suc o) n) (none_here o (o + suc n) [] h tt (omega arith)))
  are_uses (suc n) o (u ∷ us) h = elim (cases_lt o u.object) [
    | inl lt ↦
        let rise : Rise (o + 1) (u ∷ us) = (omega (arith, lt), h.rise.1) in
        let more = subst (λ (end : ℕ). Lists (suc o) end (u ∷ us)) (omega arith) (skips o (o + suc n) (u ∷ us) h rise) in
        are_uses n (suc o) (u ∷ us) more ∙ sym (ap (λ (xs : List Use). xs ++ uses_from w (suc o) n) (none_here o (o + suc n) (u ∷ us) h rise (omega arith)))
    | inr le ↦
        let e : u.object ≡ o = omega (arith, le, h.rise.0) in
        let more = subst (λ (end : ℕ). Lists (suc o) end us) (omega arith) (behind_first o (o + suc n) u us h e) in
        ap (λ (xs : List Use). u ∷ xs) (are_uses n (suc o) us more) ∙ sym (ap (λ (xs : List Use). xs ++ uses_from w (suc o) n) (first_here o (o + suc n) u us h e (omega arith)))
  ]

tells_told : (objects : ℕ) (w : Weight) (t : Weights) → Tells objects w t → told objects w ≡ told_weights t
tells_told objects w t tells =
    let uses = are_uses w objects 0 t.uses.items (record {
      rise = tells.rise;
      within = subst (λ (n : ℕ). AllByRecursion (λ (u : Use). u.object < n) t.uses.items) (omega arith) tells.within;
      touched = tells.touched;
      reads = λ p le lt. tells.reads p (omega arith);
      writes = λ p le lt. tells.writes p (omega arith);
    }) in
    sym (λ i. record { base = tells.base i; uses = uses i })

pub tells_is : (objects : ℕ) (o : Option Weight) (t : Option Weights) → TellsOption objects o t → IsTold objects o t
tells_is objects None None tells = refl
tells_is objects (Some w) (Some t) tells = ap (λ x. Some x) (tells_told objects w t tells)
tells_is objects None (Some t) tells = absurd tells
tells_is objects (Some w) None tells = absurd tells

-- ---- they rise

module _ (w : Weight) where
  above_use : (m o r s : ℕ) (us : List Use) → m < o → Above m us → Above m (use_of o r s ++ us)
  above_use m o r s us lt above = by (r + s == 0)
    where
      by : (t : Bool) → Above m ((if t then [] else record { object = o; reads = r; writes = s } ∷ []) ++ us)
      by true = above
      by false = (lt, above)

  pub above_from : (m o n : ℕ) → m < o → Above m (uses_from w o n)
  above_from m o zero lt = tt
  above_from m o (suc n) lt = above_use m o (kept (w.reads o)) (kept (w.writes o)) (uses_from w (suc o) n) lt (above_from m (suc o) n (omega arith))

  rises_use : (o r s : ℕ) (us : List Use) → Above o us → Rises us → Rises (use_of o r s ++ us)
  rises_use o r s us above rises = by (r + s == 0)
    where
      by : (t : Bool) → Rises ((if t then [] else record { object = o; reads = r; writes = s } ∷ []) ++ us)
      by true = rises
      by false = (above, rises)

  pub rises_from : (o n : ℕ) → Rises (uses_from w o n)
  rises_from o zero = tt
  rises_from o (suc n) = rises_use o (kept (w.reads o)) (kept (w.writes o)) (uses_from w (suc o) n) (above_from o (suc o) n (omega arith)) (rises_from (suc o) n)
