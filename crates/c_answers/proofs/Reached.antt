-- Which functions calls lead to, one call after another.
use Rattle.std.proofs.Common.{◌≡◌, ℕ, Option, Some, None, zero, suc, ◌+◌, ◌<◌, ◌≤◌, Bool, true, false, not, ◌&&◌, ◌||◌, cond, List, [], ◌∷◌, ◌++◌, ◌⊎◌, inl, inr, All, Contains, get_or, length, take, map, replicate, set, refl, sym, ap, ◌∙◌, subst, arith, true≢false, ◌≢◌}
use Rattle.std.proofs.lemmas.List.{get_or-replicate, get_or-set_same, get_or-set_other, get_or_append_left, get_or-append-add, take_more, length-set, length-append, length-replicate}
use Rattle.std.proofs.lemmas.Bool.{cases_lt}
use Rattle.std.proofs.Math.Seq.{get_or-append_seam}
use Rattle.std.proofs.lemmas.List.Elements.{Contains-append_left, Contains-push, Contains-push_cases}
use Rattle.std.proofs.lemmas.Grind.{common_steps}
use Rattle.base_io.specs.declared.place.Place.{Place}
use Rattle.c_typing.specs.declared.call_site.CallSite.{CallSite}
use Rattle.c_typing.specs.Cycles.{Calls, IsPath, Reaches, AreAmong, IsFirstOnCycle}
use Rattle.c_answers.specs.Rows.{mark, row_at, joined_mark, IsJoined, own_row, own_rows, Exact, is_marked, IsFirstMarked}

-- ---- paths

path_on : (calls : List CallSite) (a b c : ℕ) (p q : List ℕ) → IsPath calls a p b → IsPath calls b q c → IsPath calls a (p ++ q) c
path_on calls a b c [] q h g = subst (λ x. IsPath calls x q c) (sym h) g
path_on calls a b c (next ∷ p) q h g = (h.0, path_on calls next b c p q h.1 g)

reaches_on : (calls : List CallSite) (a b c : ℕ) → Reaches calls a b → Reaches calls b c → Reaches calls a c
reaches_on calls a b c (p, h) (q, g) = (p ++ q, path_on calls a b c p q h g)

path_wider : (calls : List CallSite) (more : CallSite) (a b : ℕ) (p : List ℕ) → IsPath calls a p b → IsPath (calls ++ more ∷ []) a p b
path_wider calls more a b [] h = h
path_wider calls more a b (next ∷ p) h = ((h.0.0, Contains-append_left calls (more ∷ []) _ h.0.1), path_wider calls more next b p h.1)

reaches_wider : (calls : List CallSite) (more : CallSite) (a b : ℕ) → Reaches calls a b → Reaches (calls ++ more ∷ []) a b
reaches_wider calls more a b (p, h) = (p, path_wider calls more a b p h)

-- the new call itself
reaches_by : (calls : List CallSite) (more : CallSite) → Reaches (calls ++ more ∷ []) more.caller more.callee
reaches_by calls more = (more.callee ∷ [], ((more.place, Contains-push calls more), refl))

-- With one call more, what is reached was reached, or is reached by that call.
Split : List CallSite → CallSite → ℕ → ℕ → Type 0
Split calls more a b = Reaches calls a b ⊎ (Reaches calls a more.caller × Reaches calls more.callee b)

behind_old : (calls : List CallSite) (more : CallSite) (a next b : ℕ) → Calls calls a next → Split calls more next b → Split calls more a b
unfolding Split
behind_old calls more a next b h (inl (p, r)) = inl (next ∷ p, (h, r))
behind_old calls more a next b h (inr ((p, r), q)) = inr ((next ∷ p, (h, r)), q)

behind_new : (calls : List CallSite) (more : CallSite) (a next b : ℕ) → a ≡ more.caller → next ≡ more.callee → Split calls more next b → Split calls more a b
unfolding Split
behind_new calls more a next b h g (inl r) = inr (([], h), subst (λ x. Reaches calls x b) g r)
behind_new calls more a next b h g (inr (p, q)) = inr (([], h), q)

behind : (calls : List CallSite) (more : CallSite) (a next b : ℕ) (place : Place)
    → Contains calls (record { caller = a; callee = next; place = place }) ⊎ (more ≡ record { caller = a; callee = next; place = place }) → Split calls more next b → Split calls more a b
behind calls more a next b place (inl h) s = behind_old calls more a next b (place, h) s
behind calls more a next b place (inr h) s = behind_new calls more a next b (sym (ap (λ (c : CallSite). c.caller) h)) (sym (ap (λ (c : CallSite). c.callee) h)) s

path_split : (calls : List CallSite) (more : CallSite) (a b : ℕ) (p : List ℕ) → IsPath (calls ++ more ∷ []) a p b → Split calls more a b
unfolding Split
path_split calls more a b [] h = inl ([], h)
path_split calls more a b (next ∷ p) h = behind calls more a next b h.0.0 (Contains-push_cases calls more _ h.0.1) (path_split calls more next b p h.1)

-- ---- rows

own_mark : (functions a b : ℕ) → a < functions → b < functions → mark (own_row functions a) b ≡ true → a ≡ b
own_mark functions a b h g m = grind (arith, common_steps, get_or-replicate {A = Bool}, get_or-set_other {A = Bool})

own_marked : (functions a : ℕ) → a < functions → mark (own_row functions a) a ≡ true
own_marked functions a h = get_or-set_same (replicate functions false) a true false (omega (arith, length-replicate functions false))

length-own_rows : (functions a : ℕ) → length (own_rows functions a) ≡ a
length-own_rows functions zero = refl
length-own_rows functions (suc a) = omega (arith, length-append (own_rows functions a) (own_row functions a ∷ []), length-own_rows functions a)

own_row_by : (functions n a : ℕ) → a < suc n → (a < n → row_at (own_rows functions n) a ≡ own_row functions a) → row_at (own_rows functions n ++ own_row functions n ∷ []) a ≡ own_row functions a
own_row_by functions n a h before = by (cases_lt a n)
  where
    by : (a < n) ⊎ (n ≤ a) → row_at (own_rows functions n ++ own_row functions n ∷ []) a ≡ own_row functions a
    by (inl lt) = get_or_append_left (own_rows functions n) (own_row functions n ∷ []) [] a (omega (arith, lt, length-own_rows functions n)) ∙ before lt
    by (inr le) =
        let e : a ≡ n = omega (arith, h, le) in
        ap (row_at (own_rows functions n ++ own_row functions n ∷ [])) (e ∙ sym (length-own_rows functions n)) ∙ get_or-append_seam (own_rows functions n) (own_row functions n) [] [] ∙ ap (own_row functions) (sym e)

own_row_at : (functions n a : ℕ) → a < n → row_at (own_rows functions n) a ≡ own_row functions a
own_row_at functions zero a h = absurd (omega (arith, h))
own_row_at functions (suc n) a h = own_row_by functions n a h (λ lt. own_row_at functions n a lt)

reaches_none : (a b : ℕ) → Reaches [] a b → a ≡ b
reaches_none a b ([], h) = h
reaches_none a b (next ∷ p, h) = absurd (omega (arith, h.0.1.1))

pub exact_none : (functions : ℕ) → Exact [] functions (own_rows functions functions)
exact_none functions = record {
  height = length-own_rows functions functions;
  width = λ a h. ap (length {A = Bool}) (own_row_at functions functions a h) ∙ length-set (replicate functions false) a true ∙ length-replicate functions false;
  sound = λ a b h g m. ([], own_mark functions a b h g (sym (ap (λ row. mark row b) (own_row_at functions functions a h)) ∙ m));
  whole = λ a b h g r. ap (λ row. mark row b) (own_row_at functions functions a h) ∙ ap (mark (own_row functions a)) (sym (reaches_none a b r)) ∙ own_marked functions a h;
}

-- what a joined row marks is reached
sound_by : (calls : List CallSite) (more : CallSite) (a b : ℕ) (t s p q : Bool) → (t ≡ true → Reaches calls a more.caller) → (p ≡ true → Reaches calls a b) → (q ≡ true → Reaches calls more.callee b)
    → cond (t && not s) (p || q) p ≡ true → Reaches (calls ++ more ∷ []) a b
sound_by calls more a b t s true q to_u to_b from_v h = reaches_wider calls more a b (to_b refl)
sound_by calls more a b true false false true to_u to_b from_v h =
    reaches_on (calls ++ more ∷ []) a more.caller b (reaches_wider calls more a more.caller (to_u refl))
    (reaches_on (calls ++ more ∷ []) more.caller more.callee b (reaches_by calls more) (reaches_wider calls more more.callee b (from_v refl)))
sound_by calls more a b true true false q to_u to_b from_v h = absurd (true≢false (sym h))
sound_by calls more a b true false false false to_u to_b from_v h = absurd (true≢false (sym h))
sound_by calls more a b false s false q to_u to_b from_v h = absurd (true≢false (sym h))

-- what is reached is marked in the joined row
whole_old : (t s p q : Bool) → p ≡ true → cond (t && not s) (p || q) p ≡ true
whole_old true true true q h = refl
whole_old true false true q h = refl
whole_old false s true q h = refl
whole_old t s false q h = absurd (true≢false (sym h))

whole_new : (t s p q : Bool) → t ≡ true → q ≡ true → (s ≡ true → p ≡ true) → cond (t && not s) (p || q) p ≡ true
whole_new true true p q h g both = both refl
whole_new true false true q h g both = refl
whole_new true false false q h g both = g
whole_new false s p q h g both = absurd (true≢false (sym h))

whole_by : (calls : List CallSite) (more : CallSite) (a b : ℕ) (t s p q : Bool) → (Reaches calls a more.caller → t ≡ true) → (s ≡ true → Reaches calls a more.callee) → (Reaches calls a b → p ≡ true)
    → (Reaches calls more.callee b → q ≡ true) → Split calls more a b → cond (t && not s) (p || q) p ≡ true
unfolding Split
whole_by calls more a b t s p q to_u from_mark to_b from_v (inl r) = whole_old t s p q (to_b r)
whole_by calls more a b t s p q to_u from_mark to_b from_v (inr (r, w)) = whole_new t s p q (to_u r) (from_v w) (λ e. to_b (reaches_on calls a more.callee b (from_mark e) w))

-- one call more
pub exact_more : (calls : List CallSite) (more : CallSite) (functions : ℕ) (old new : List (List Bool)) → Exact calls functions old → more.caller < functions → more.callee < functions
    → length new ≡ length old → ((a : ℕ) → a < length old → IsJoined more.caller more.callee (row_at old more.callee) (row_at old a) (row_at new a)) → Exact (calls ++ more ∷ []) functions new
exact_more calls more functions old new exact u v height each =
    let within : (a : ℕ) → a < functions → a < length old = λ a h. omega (arith, h, exact.height) in
    let inside : (a b : ℕ) → a < functions → b < functions → b < length (row_at old a) = λ a b h g. omega (arith, g, exact.width a h) in
    record {
      height = height ∙ exact.height;
      width = λ a h. (each a (within a h)).size ∙ exact.width a h;
      sound = λ a b h g m. sound_by calls more a b (mark (row_at old a) more.caller) (mark (row_at old a) more.callee) (mark (row_at old a) b) (mark (row_at old more.callee) b)
          (exact.sound a more.caller h u) (exact.sound a b h g) (exact.sound more.callee b v g) (sym ((each a (within a h)).marks b (inside a b h g)) ∙ m);
      whole = λ a b h g r. (each a (within a h)).marks b (inside a b h g)
          ∙ whole_by calls more a b (mark (row_at old a) more.caller) (mark (row_at old a) more.callee) (mark (row_at old a) b) (mark (row_at old more.callee) b)
          (exact.whole a more.caller h u) (exact.sound a more.callee h v) (exact.whole a b h g) (exact.whole more.callee b v g) (path_split calls more a b r.0 r.1);
    }

-- the first call with the mark is the first on a cycle
pub first_on : (calls : List CallSite) (functions : ℕ) (rows : List (List Bool)) (found : Option ℕ) → AreAmong functions calls → Exact calls functions rows → IsFirstMarked rows calls found → IsFirstOnCycle calls found
first_on calls functions rows None among exact h = λ k d lt r.
    let call = get_or calls k d in
    absurd (true≢false (sym (exact.whole call.callee call.caller (among k d lt).1 (among k d lt).0 r) ∙ h k d lt))
first_on calls functions rows (Some i) among exact (lt, here, before) = (
  lt,
  (λ d. exact.sound (get_or calls i d).callee (get_or calls i d).caller (among i d lt).1 (among i d lt).0 (here d)),
  (λ k less d r.
      let within : k < length calls = omega (arith, less, lt) in
      absurd (true≢false (sym (exact.whole (get_or calls k d).callee (get_or calls k d).caller (among k d within).1 (among k d within).0 r) ∙ before k less d))),
)

-- one row more is joined
pub joined_more : (u v : ℕ) (target : List Bool) (initial rows : List (List Bool)) (a : ℕ) (new : List Bool) → a < length rows
    → ((k : ℕ) → k < a → IsJoined u v target (row_at initial k) (row_at rows k)) → ((k : ℕ) → a ≤ k → row_at rows k ≡ row_at initial k)
    → IsJoined u v target (row_at rows a) new → (k : ℕ) → k < a + 1 → IsJoined u v target (row_at initial k) (row_at (set rows a new) k)
joined_more u v target initial rows a new within done rest here k h = by (cases_lt k a)
  where
    by : (k < a) ⊎ (a ≤ k) → IsJoined u v target (row_at initial k) (row_at (set rows a new) k)
    by (inl lt) = subst (λ row. IsJoined u v target (row_at initial k) row) (sym (get_or-set_other rows a k new [] (λ e. omega (arith, e, lt)))) (done k lt)
    by (inr le) =
        let e : a ≡ k = omega (arith, h, le) in
        subst (λ j. IsJoined u v target (row_at initial j) (row_at (set rows a new) j)) e
        (subst (λ row. IsJoined u v target (row_at initial a) row) (sym (get_or-set_same rows a new [] within))
        (subst (λ row. IsJoined u v target row new) (rest a (omega arith)) here))

pub others_stay : (initial rows : List (List Bool)) (a : ℕ) (new : List Bool) → ((k : ℕ) → a ≤ k → row_at rows k ≡ row_at initial k) → (k : ℕ) → a + 1 ≤ k → row_at (set rows a new) k ≡ row_at initial k
others_stay initial rows a new rest k h = get_or-set_other rows a k new [] (λ e. omega (arith, e, h)) ∙ rest k (omega (arith, h))

-- the next of the calls
pub exact_next : (calls : List CallSite) (functions i : ℕ) (d : CallSite) (old new : List (List Bool)) → i < length calls → AreAmong functions calls → Exact (take i calls) functions old
    → length new ≡ length old
    → ((a : ℕ) → a < length old → IsJoined (get_or calls i d).caller (get_or calls i d).callee (row_at old (get_or calls i d).callee) (row_at old a) (row_at new a))
    → Exact (take (i + 1) calls) functions new
exact_next calls functions i d old new within among exact height each =
    subst (λ front. Exact front functions new) (sym (take_more calls i d within))
    (exact_more (take i calls) (get_or calls i d) functions old new exact (among i d within).0 (among i d within).1 height each)
