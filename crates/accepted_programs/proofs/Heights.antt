-- Functions of which no call lies on a cycle have heights, and each call goes below.
use Rattle.std.proofs.Common.{◌≡◌, refl, sym, ap, subst, ◌∙◌, ℕ, zero, suc, ◌+◌, ◌<◌, ◌≤◌, Bool, true, false, None, List, [], ◌∷◌, ◌++◌, ◌⊎◌, inl, inr, arith, length-append}
use Rattle.std.specs.Prelude.{slice_index_or, length, Contains, nat_lt, ◌==◌, ◌&&◌, ◌||◌}
use Rattle.std.proofs.lemmas.Bool.Decides.{nat_tests}
use Rattle.std.proofs.lemmas.Bool.{cases_lt}
use Rattle.std.proofs.lemmas.List.{get_or_append_left}
use Rattle.std.proofs.Math.Seq.{get_or-append_seam}
use Rattle.c_typing.specs.declared.call_site.CallSite.{CallSite}
use Rattle.c_typing.specs.Cycles.{IsPath, Reaches, IsOnNone, IsFirstOnCycle}
use Rattle.sound_programs.specs.Calls.{is_below}

-- whether calls lead from one function to another, call by call
reach : List CallSite → ℕ → ℕ → Bool
reach [] a b = a == b
reach (c ∷ cs) a b = reach cs a b || (reach cs a c.caller && reach cs c.callee b)

same_true : (a b : ℕ) → (a == b) ≡ true → a ≡ b
same_true a b h = grind (arith, nat_tests)

true_same : (a : ℕ) → (a == a) ≡ true
true_same a = grind (arith, nat_tests)

-- two of three things, or a way round
or_cases : (a b c : Bool) → (a || (b && c)) ≡ true → (a ≡ true) ⊎ ((b ≡ true) × (c ≡ true))
or_cases true b c h = inl refl
or_cases false true true h = inr (refl, refl)
or_cases false true false h = cc
or_cases false false c h = cc

or_left : (a b : Bool) → a ≡ true → (a || b) ≡ true
or_left a b h = ap (λ z. z || b) h

or_right : (a b c : Bool) → b ≡ true → c ≡ true → (a || (b && c)) ≡ true
or_right true b c h k = refl
or_right false b c h k = ap (λ z. z && c) h ∙ k

reach_self : (cs : List CallSite) (a : ℕ) → reach cs a a ≡ true
unfolding reach
reach_self [] a = true_same a
reach_self (c ∷ cs) a = or_left (reach cs a a) _ (reach_self cs a)

reach_trans : (cs : List CallSite) (a b c : ℕ) → reach cs a b ≡ true → reach cs b c ≡ true → reach cs a c ≡ true
unfolding reach
reach_trans [] a b c h k = ap (λ z. z == c) (same_true a b h) ∙ k
reach_trans (d ∷ cs) x y z h k = by (or_cases (reach cs x y) (reach cs x d.caller) (reach cs d.callee y) h) (or_cases (reach cs y z) (reach cs y d.caller) (reach cs d.callee z) k) (reach_trans cs)
  where
    by : (reach cs x y ≡ true) ⊎ ((reach cs x d.caller ≡ true) × (reach cs d.callee y ≡ true)) → (reach cs y z ≡ true) ⊎ ((reach cs y d.caller ≡ true) × (reach cs d.callee z ≡ true))
        → ((a b c : ℕ) → reach cs a b ≡ true → reach cs b c ≡ true → reach cs a c ≡ true) → (reach cs x z || (reach cs x d.caller && reach cs d.callee z)) ≡ true
    by (inl p) (inl q) r = or_left (reach cs x z) _ (r x y z p q)
    by (inl p) (inr q) r = or_right (reach cs x z) (reach cs x d.caller) (reach cs d.callee z) (r x y d.caller p q.0) q.1
    by (inr p) (inl q) r = or_right (reach cs x z) (reach cs x d.caller) (reach cs d.callee z) p.0 (r d.callee y z p.1 q)
    by (inr p) (inr q) r = or_right (reach cs x z) (reach cs x d.caller) (reach cs d.callee z) p.0 q.1

reach_call : (cs : List CallSite) (c : CallSite) (k : ℕ) → k < length cs → slice_index_or cs k c ≡ c → reach cs c.caller c.callee ≡ true
unfolding reach
reach_call [] c k lt is = absurd (omega (arith, lt))
reach_call (d ∷ cs) c zero lt is =
    subst (λ (z : CallSite). (reach cs z.caller z.callee || (reach cs z.caller d.caller && reach cs d.callee z.callee)) ≡ true) is
    (or_right (reach cs d.caller d.callee) (reach cs d.caller d.caller) (reach cs d.callee d.callee) (reach_self cs d.caller) (reach_self cs d.callee))
reach_call (d ∷ cs) c (suc k) lt is = or_left (reach cs c.caller c.callee) _ (reach_call cs c k (omega (arith, lt)) is)

-- ---- what is reached so is reached by calls

path_append : (cs : List CallSite) (a b c : ℕ) (xs ys : List ℕ) → IsPath cs a xs b → IsPath cs b ys c → IsPath cs a (xs ++ ys) c
path_append cs a b c [] ys h k = subst (λ z. IsPath cs z ys c) (sym h) k
path_append cs a b c (x ∷ xs) ys (h, hs) k = (h, path_append cs x b c xs ys hs k)

path_more : (cs : List CallSite) (d : CallSite) (a b : ℕ) (xs : List ℕ) → IsPath cs a xs b → IsPath (d ∷ cs) a xs b
path_more cs d a b [] h = h
path_more cs d a b (x ∷ xs) ((place, (k, lt, is)), hs) = ((place, (suc k, omega (arith, lt), is)), path_more cs d x b xs hs)

reach_sound : (cs : List CallSite) (a b : ℕ) → reach cs a b ≡ true → Reaches cs a b
unfolding reach
reach_sound [] a b h = ([], same_true a b h)
reach_sound (d ∷ cs) a b h = by (or_cases (reach cs a b) (reach cs a d.caller) (reach cs d.callee b) h) (reach_sound cs)
  where
    by : (reach cs a b ≡ true) ⊎ ((reach cs a d.caller ≡ true) × (reach cs d.callee b ≡ true)) → ((x y : ℕ) → reach cs x y ≡ true → Reaches cs x y) → Reaches (d ∷ cs) a b
    by (inl p) r = let q = r a b p in (q.0, path_more cs d a b q.0 q.1)
    by (inr p) r = let q = r a d.caller p.0 in let t = r d.callee b p.1 in (
      q.0 ++ d.callee ∷ t.0,
      path_append (d ∷ cs) a d.caller b q.0 (d.callee ∷ t.0) (path_more cs d a d.caller q.0 q.1)
          ((d.place, (0, omega arith, refl)), path_more cs d d.callee b t.0 t.1),
    )

-- ---- how many are reached

one : Bool → ℕ
one true = 1
one false = 0

count_to : ℕ → (ℕ → Bool) → ℕ
count_to zero f = 0
count_to (suc n) f = one (f n) + count_to n f

one_le : (a b : Bool) → (a ≡ true → b ≡ true) → one a ≤ one b
unfolding one
one_le true b h = subst (λ z. 1 ≤ one z) (sym (h refl)) (omega arith)
one_le false b h = omega arith

count_le : (n : ℕ) (f g : ℕ → Bool) → ((x : ℕ) → f x ≡ true → g x ≡ true) → count_to n f ≤ count_to n g
unfolding count_to
count_le zero f g h = omega arith
count_le (suc n) f g h = omega (arith, one_le (f n) (g n) (h n), count_le n f g h)

one_less : (a b : Bool) → a ≡ false → b ≡ true → one a + 1 ≤ one b
unfolding one
one_less true b h k = cc
one_less false true h k = omega arith
one_less false false h k = cc

count_less : (n a : ℕ) (f g : ℕ → Bool) → ((x : ℕ) → f x ≡ true → g x ≡ true) → a < n → f a ≡ false → g a ≡ true → count_to n f < count_to n g
unfolding count_to
count_less zero a f g h lt missing reached = absurd (omega (arith, lt))
count_less (suc n) a f g h lt missing reached = by (cases_lt a n) (λ l. count_less n a f g h l missing reached)
  where
    by : (a < n) ⊎ (n ≤ a) → (a < n → count_to n f < count_to n g) → one (f n) + count_to n f < one (g n) + count_to n g
    by (inl l) r = omega (arith, one_le (f n) (g n) (h n), r l)
    by (inr l) r = let same : a ≡ n = omega (arith, l, lt) in
        omega (arith, one_less (f n) (g n) (subst (λ z. f z ≡ false) same missing) (subst (λ z. g z ≡ true) same reached), count_le n f g h)

-- ---- the heights

table : ℕ → (ℕ → ℕ) → List ℕ
table zero h = []
table (suc n) h = table n h ++ h n ∷ []

table_length : (n : ℕ) (h : ℕ → ℕ) → length (table n h) ≡ n
unfolding table
table_length zero h = refl
table_length (suc n) h = omega (arith, length-append (table n h) (h n ∷ []), table_length n h)

table_at : (n : ℕ) (h : ℕ → ℕ) (a : ℕ) → a < n → slice_index_or (table n h) a 0 ≡ h a
unfolding table
table_at zero h a lt = absurd (omega (arith, lt))
table_at (suc n) h a lt = by (cases_lt a n) (λ l. table_at n h a l)
  where
    by : (a < n) ⊎ (n ≤ a) → (a < n → slice_index_or (table n h) a 0 ≡ h a) → slice_index_or (table n h ++ h n ∷ []) a 0 ≡ h a
    by (inl l) r = get_or_append_left (table n h) (h n ∷ []) 0 a (omega (arith, l, table_length n h)) ∙ r l
    by (inr l) r = let same : a ≡ length (table n h) = omega (arith, l, lt, table_length n h) in
        ap (λ z. slice_index_or (table n h ++ h n ∷ []) z 0) same ∙ (get_or-append_seam (table n h) (h n) [] 0 ∙ ap h (omega (arith, l, lt)))

-- above all functions that call or are called
above : List CallSite → ℕ
above [] = 0
above (c ∷ cs) = suc (c.caller + (c.callee + above cs))

above_both : (cs : List CallSite) (c : CallSite) (k : ℕ) → k < length cs → slice_index_or cs k c ≡ c → (c.caller < above cs) × (c.callee < above cs)
unfolding above
above_both [] c k lt is = absurd (omega (arith, lt))
above_both (d ∷ cs) c zero lt is = subst (λ (z : CallSite). (z.caller < suc (d.caller + (d.callee + above cs))) × (z.callee < suc (d.caller + (d.callee + above cs)))) is (omega arith, omega arith)
above_both (d ∷ cs) c (suc k) lt is = let r = above_both cs c k (omega (arith, lt)) is in (omega (arith, r.0), omega (arith, r.1))

-- a function's height: how many functions it reaches
pub heights_of : List CallSite → List ℕ
heights_of calls = table (above calls) (λ a. count_to (above calls) (reach calls a))

pub calls_fall : (calls : List CallSite) → IsFirstOnCycle calls None → (c : CallSite) → Contains calls c → is_below (record { heights = heights_of calls; height = slice_index_or (heights_of calls) c.caller 0 }) c.callee ≡ true
unfolding heights_of
calls_fall calls acyclic c (k, lt, is) =
    let n : ℕ = above calls in
    let h : ℕ → ℕ = λ a. count_to n (reach calls a) in
    let within = above_both calls c k lt is in
    let none : IsOnNone calls c = subst (λ z. IsOnNone calls z) is (acyclic k c lt) in
    let call : reach calls c.caller c.callee ≡ true = reach_call calls c k lt is in
    let less : h c.callee < h c.caller = count_less n c.caller (reach calls c.callee) (reach calls c.caller) (λ x r. reach_trans calls c.caller c.callee x call r) within.0
    (not_true (reach calls c.callee c.caller) (λ r. none (reach_sound calls c.callee c.caller r))) (reach_self calls c.caller) in
    test (slice_index_or (table n h) c.callee 0) (slice_index_or (table n h) c.caller 0) (h c.callee) (h c.caller) (table_at n h c.callee within.1) (table_at n h c.caller within.0) less
  where
    not_true : (b : Bool) → (b ≡ true → ⊥) → b ≡ false
    not_true true h = absurd (h refl)
    not_true false h = refl

    test : (a b c d : ℕ) → a ≡ c → b ≡ d → c < d → nat_lt a b ≡ true
    test a b c d h k l = grind (arith, nat_tests)
