-- Who knows more has spent no more.
use Rattle.std.proofs.Common.{◌≡◌, ℕ, ◌+◌, ◌*◌, ◌≤◌, Bool, true, false, Option, Some, List, [], ◌∷◌, refl, sym, ap, ◌∙◌, subst, arith}
use Rattle.std.specs.Prelude.{T, if◌then◌else◌, ◌&&◌, pos, ◌+ℤ◌, ◌-ℤ◌, ℤ, is_some, unwrap_or}
use Rattle.std.specs.Int.Signed.{◌≤ℤ◌, le_z}
use Rattle.std.proofs.lemmas.Int.{ints}
use Rattle.std.proofs.lemmas.Nat.{mul-le}
use Rattle.certificate.specs.declared.cert.Slot.{Slot}
use Rattle.certificate.specs.declared.cert.Term.{Term}
use Rattle.cert_rules.specs.Ranges.{Range, any_word}
use Rattle.cert_rules.specs.Slots.{same_slot, is_held}
use Rattle.cert_rules.specs.Spending.{added, taken_off, greatest_bound}
use Rattle.cert_rules.specs.Known.{Known, Test, range_of, freshened}
use Rattle.cert_rules.specs.Sheet.{Sheet, is_head}
use Rattle.cert_rules.specs.Overhead.{sleep_cost}
use Rattle.cert_rules.specs.Going.{spent_to, limit_of, greatest_spent}
use Rattle.cert_pieces.specs.Pieces.{Has, Tells, anything, narrower, Narrower, Ranged, Affords, Free, puts, compares, pays}

pub told : (o p : Option Range) → Tells o p → is_some o ≡ true → Narrower (unwrap_or p any_word) (unwrap_or o any_word)
told o p (anything q) h = absurd (let no : false ≡ true = h in cc)
told o p (narrower outer inner n) h = n

times_le : (f x y : ℕ) → x ≤ y → f * x ≤ f * y
times_le f x y h = mul-le f x f y (omega arith) h

more : (minus : Bool) (f x y m n : ℕ) → x ≤ y → m ≤ n → (if minus then 0 else f * x) + m ≤ (if minus then 0 else f * y) + n
more true f x y m n h k = omega (arith, k)
more false f x y m n h k = omega (arith, times_le f x y h, k)

less : (minus : Bool) (f x y m n : ℕ) → x ≤ y → m ≤ n → (if minus then f * x else 0) + m ≤ (if minus then f * y else 0) + n
less false f x y m n h k = omega (arith, k)
less true f x y m n h k = omega (arith, times_le f x y h, k)

added_less : (asked κ : Known) (terms : List Term) → ((x : Slot) → Tells (asked.range x) (κ.range x)) → Ranged asked terms
    → added (λ x. (range_of κ x).greatest) terms ≤ added (λ x. (range_of asked x).greatest) terms
added_less asked κ [] has r = omega arith
added_less asked κ (t ∷ terms) has r =
    more t.minus t.factor _ _ _ _ (told (asked.range t.of) (κ.range t.of) (has t.of) r.0).greatest (added_less asked κ terms has r.1)

taken_more : (asked κ : Known) (terms : List Term) → ((x : Slot) → Tells (asked.range x) (κ.range x)) → Ranged asked terms
    → taken_off (λ x. (range_of asked x).least) terms ≤ taken_off (λ x. (range_of κ x).least) terms
taken_more asked κ [] has r = omega arith
taken_more asked κ (t ∷ terms) has r =
    less t.minus t.factor _ _ _ _ (told (asked.range t.of) (κ.range t.of) (has t.of) r.0).least (taken_more asked κ terms has r.1)

pub z_le : (x y : ℤ) → le_z x y ≡ true → x ≤ℤ y
z_le x y h = grind (arith, ints)

pub le_z_is : (x y : ℤ) → x ≤ℤ y → le_z x y ≡ true
le_z_is x y h = elim (le_z x y) as (λ c. T c → c ≡ true) [ true ↦ λ k. refl | false ↦ λ k. absurd k ] h.le

less_z : (z l : ℤ) (m m' n n' s s' : ℕ) → m' ≤ m → n ≤ n' → s' ≤ s → (z +ℤ pos m -ℤ pos n +ℤ pos s) ≤ℤ l → (z +ℤ pos m' -ℤ pos n' +ℤ pos s') ≤ℤ l
less_z z l m m' n n' s s' h k g e = omega (arith, ints, h, k, g, e)

still_pays : (z l : ℤ) (m m' n n' s s' : ℕ) → m' ≤ m → n ≤ n' → s' ≤ s → le_z (z +ℤ pos m -ℤ pos n +ℤ pos s) l ≡ true → le_z (z +ℤ pos m' -ℤ pos n' +ℤ pos s') l ≡ true
still_pays z l m m' n n' s s' h k g e = le_z_is _ _ (less_z z l m m' n n' s s' h k g (z_le _ _ e))

abbrev sleeps : Sheet → ℕ → ℕ
sleeps t a = if is_head t a then sleep_cost t.board else 0

-- Where the cost pays for what is asked, and for a sleep where a head is come to, it pays for every state that has what is asked.
pub pays_to : (t : Sheet) (a more : ℕ) (asked κ : Known) → Affords t more asked → sleeps t a ≤ more → Has asked κ
    → le_z (spent_to t a κ) (pos (limit_of t asked.stretch)) ≡ true
pays_to t a more asked κ affords fits has =
    subst (λ s. le_z (greatest_bound (range_of κ) s +ℤ pos (sleeps t a)) (pos (limit_of t asked.stretch)) ≡ true) (sym has.spent)
    (still_pays asked.spent.base _ _ _ _ _ more (sleeps t a) (added_less asked κ asked.spent.terms has.range affords.ranged) (taken_more asked κ asked.spent.terms has.range affords.ranged) fits affords.pays)

no_sleep : (t : Sheet) (a more : ℕ) → is_head t a ≡ false → sleeps t a ≤ more
no_sleep t a more e = subst (λ c. (if c then sleep_cost t.board else 0) ≤ more) (sym e) (omega arith)

pub pays_for : (t : Sheet) (a more : ℕ) (asked κ : Known) → Affords t more asked → is_head t a ≡ false → Has asked κ
    → le_z (spent_to t a κ) (pos (limit_of t asked.stretch)) ≡ true
pays_for t a more asked κ affords e has = pays_to t a more asked κ affords (no_sleep t a more e) has

-- ---- What is left to pay behind an instruction

ranged_by : (κ κ' : Known) (terms : List Term) → ((x : Slot) → is_some (κ.range x) ≡ true → is_some (κ'.range x) ≡ true) → Ranged κ terms → Ranged κ' terms
ranged_by κ κ' [] h r = tt
ranged_by κ κ' (t ∷ terms) h r = (h t.of r.0, ranged_by κ κ' terms h r.1)

some_either : (c : Bool) (r : Range) (o : Option Range) → is_some o ≡ true → is_some (if c then Some r else o) ≡ true
some_either true r o h = refl
some_either false r o h = h

range_stays : (w : Slot) (r : Range) (c : ℕ) (flags : Bool) (test : Option Test) (s : Known) (x : Slot) → same_slot x w ≡ false → range_of (puts w r c flags test s) x ≡ range_of s x
range_stays w r c flags test s x e = ap (λ b. unwrap_or (if b && is_held w then Some r else s.range x) any_word) e

added_stays : (w : Slot) (r : Range) (c : ℕ) (flags : Bool) (test : Option Test) (s : Known) (terms : List Term) → Free w terms
    → added (λ x. (range_of (puts w r c flags test s) x).greatest) terms ≡ added (λ x. (range_of s x).greatest) terms
added_stays w r c flags test s [] free = refl
added_stays w r c flags test s (t ∷ terms) free =
    ap (λ q. (if t.minus then 0 else t.factor * q.greatest) + added (λ x. (range_of (puts w r c flags test s) x).greatest) terms) (range_stays w r c flags test s t.of free.0)
    ∙ ap (λ n. (if t.minus then 0 else t.factor * (range_of s t.of).greatest) + n) (added_stays w r c flags test s terms free.1)

taken_stays : (w : Slot) (r : Range) (c : ℕ) (flags : Bool) (test : Option Test) (s : Known) (terms : List Term) → Free w terms
    → taken_off (λ x. (range_of (puts w r c flags test s) x).least) terms ≡ taken_off (λ x. (range_of s x).least) terms
taken_stays w r c flags test s [] free = refl
taken_stays w r c flags test s (t ∷ terms) free =
    ap (λ q. (if t.minus then t.factor * q.least else 0) + taken_off (λ x. (range_of (puts w r c flags test s) x).least) terms) (range_stays w r c flags test s t.of free.0)
    ∙ ap (λ n. (if t.minus then t.factor * (range_of s t.of).least else 0) + n) (taken_stays w r c flags test s terms free.1)

moves_over : (z : ℤ) (m n m' n' c more : ℕ) → m' ≡ m → n' ≡ n → z +ℤ pos c +ℤ pos m' -ℤ pos n' +ℤ pos more ≡ z +ℤ pos m -ℤ pos n +ℤ pos (c + more)
moves_over z m n m' n' c more e f = omega (arith, ints, e, f)

pub affords_puts : (t : Sheet) (w : Slot) (r : Range) (c : ℕ) (flags : Bool) (test : Option Test) (s : Known) → Free w s.spent.terms → (more : ℕ) → Affords t (c + more) s → Affords t more (puts w r c flags test s)
affords_puts t w r c flags test s free more a = record {
  ranged = ranged_by s (puts w r c flags test s) s.spent.terms (λ x h. some_either (same_slot x w && is_held w) r (s.range x) h) a.ranged;
  pays = ap (λ z. le_z z (pos (limit_of t s.stretch)))
      (moves_over s.spent.base _ _ _ _ c more (added_stays w r c flags test s s.spent.terms free) (taken_stays w r c flags test s s.spent.terms free)) ∙ a.pays;
}

-- the same of a state with the same ranges that has spent so much more
affords_same : (t : Sheet) (c : ℕ) (s u : Known) → u.stretch ≡ s.stretch → u.range ≡ s.range → u.spent.base ≡ s.spent.base +ℤ pos c → u.spent.terms ≡ s.spent.terms
    → (more : ℕ) → Affords t (c + more) s → Affords t more u
affords_same t c s u e f g h more a = record {
  ranged = subst (λ terms. Ranged u terms) (sym h) (ranged_by s u s.spent.terms (λ x k. ap (λ q. is_some (q x)) f ∙ k) a.ranged);
  pays = ap (λ b. le_z (b +ℤ pos (added (λ x. (range_of u x).greatest) u.spent.terms) -ℤ pos (taken_off (λ x. (range_of u x).least) u.spent.terms) +ℤ pos more) (pos (limit_of t u.stretch))) g
      ∙ ap (λ terms. le_z (s.spent.base +ℤ pos c +ℤ pos (added (λ x. (range_of u x).greatest) terms) -ℤ pos (taken_off (λ x. (range_of u x).least) terms) +ℤ pos more) (pos (limit_of t u.stretch))) h
      ∙ ap (λ q. le_z (s.spent.base +ℤ pos c +ℤ pos (added (λ x. (unwrap_or (q x) any_word).greatest) s.spent.terms) -ℤ pos (taken_off (λ x. (unwrap_or (q x) any_word).least) s.spent.terms) +ℤ pos more) (pos (limit_of t u.stretch))) f
      ∙ ap (λ k. le_z (s.spent.base +ℤ pos c +ℤ pos (added (λ x. (range_of s x).greatest) s.spent.terms) -ℤ pos (taken_off (λ x. (range_of s x).least) s.spent.terms) +ℤ pos more) (pos (limit_of t k))) e
      ∙ ap (λ z. le_z z (pos (limit_of t s.stretch))) (moves_over s.spent.base _ _ _ _ c more refl refl) ∙ a.pays;
}

pub affords_compares : (t : Sheet) (c : ℕ) (test : Option Test) (s : Known) → (more : ℕ) → Affords t (c + more) s → Affords t more (compares c test s)
affords_compares t c test s more a = affords_same t c s (compares c test s) refl refl refl refl more a

pub affords_pays : (t : Sheet) (c : ℕ) (s : Known) → (more : ℕ) → Affords t (c + more) s → Affords t more (pays c s)
affords_pays t c s more a = affords_same t c s (pays c s) refl refl refl refl more a

nothing : (z : ℤ) → z ≡ z +ℤ pos 0
nothing z = omega (arith, ints)

no_more : (n : ℕ) → n ≡ 0 + n
no_more n = omega arith

pub affords_fresh : (t : Sheet) (d more : ℕ) (s : Known) → Affords t more s → Affords t more (freshened d d s)
affords_fresh t d more s a = affords_same t 0 s (freshened d d s) refl refl (nothing s.spent.base) refl more (subst (λ n. Affords t n s) (no_more more) a)

pub affords_less : (t : Sheet) (m n : ℕ) (s : Known) → n ≤ m → Affords t m s → Affords t n s
affords_less t m n s h a = record {
  ranged = a.ranged;
  pays = still_pays s.spent.base _ _ _ _ _ m n (omega arith) (omega arith) h a.pays;
}

end_z : (z l : ℤ) (m m' n n' s : ℕ) → m' ≤ m → n ≤ n' → (z +ℤ pos m -ℤ pos n +ℤ pos s) ≤ℤ l → (z +ℤ pos m' -ℤ pos n') ≤ℤ l
end_z z l m m' n n' s h k e = omega (arith, ints, h, k, e)

-- the cost pays for the end of the program
pub pays_end : (t : Sheet) (more : ℕ) (asked κ : Known) → Affords t more asked → Has asked κ → le_z (greatest_spent κ) (pos (limit_of t asked.stretch)) ≡ true
pays_end t more asked κ affords has =
    subst (λ s. le_z (greatest_bound (range_of κ) s) (pos (limit_of t asked.stretch)) ≡ true) (sym has.spent)
    (le_z_is _ _ (end_z asked.spent.base _ _ _ _ _ more (added_less asked κ asked.spent.terms has.range affords.ranged) (taken_more asked κ asked.spent.terms has.range affords.ranged) (z_le _ _ affords.pays)))
