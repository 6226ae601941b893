-- Lists of numbers of which each is above those before it: what stands at two places of such a list differs.
use Rattle.std.proofs.Common.{◌≡◌, ◌≢◌, ℕ, ◌+◌, ◌<◌, ◌≤◌, true, List, [], ◌∷◌, ◌++◌, length, inl, inr, refl, subst, arith}
use Rattle.std.specs.Prelude.{⊤, Contains, ◌==◌, nat_lt}
use Rattle.std.proofs.lemmas.Bool.{and_parts, or_cases, eqb-true, eq-eqb, false≢true}
use Rattle.sound_programs.specs.Scoped.{ascends, holds}
use Rattle.lowered_rules.proofs.EachLemmas.{Each, each_left, each_right, each_weaker, each_contains, contains_first, contains_rest, or_first, or_second}
use Rattle.lowered_rules.proofs.StmtGiven.{Distinct}

-- ---- numbers that a list has

pub holds_contains : (x : ℕ) (xs : List ℕ) → holds x xs ≡ true → Contains xs x
holds_contains x [] h = absurd (false≢true h)
holds_contains x (y ∷ ys) h = elim (or_cases (x == y) (holds x ys) h) [
  | inl e ↦ subst (λ z. Contains (z ∷ ys) x) (eqb-true x y e) (contains_first x ys)
  | inr k ↦ contains_rest y ys x (holds_contains x ys k)
]

each_held : (xs : List ℕ) → Each (λ y. holds y xs ≡ true) xs
each_held [] = tt
each_held (x ∷ xs) = (
  or_first (x == x) (holds x xs) (eq-eqb x x refl),
  each_weaker (λ y. holds y xs ≡ true) (λ y. holds y (x ∷ xs) ≡ true) (λ y h. or_second (y == x) (holds y xs) h) xs (each_held xs),
)

pub contains_holds : (x : ℕ) (xs : List ℕ) → Contains xs x → holds x xs ≡ true
contains_holds x xs c = each_contains (λ y. holds y xs ≡ true) xs x (each_held xs) c

-- ---- lists that rise

abbrev pub Rising : List ℕ → Type 0
Rising [] = ⊤
Rising (x ∷ xs) = Each (λ y. x < y) xs × Rising xs

below_rest : (x y : ℕ) (ys : List ℕ) → x < y → Rising (y ∷ ys) → Each (λ z. x < z) (y ∷ ys)
below_rest x y ys lt h = (lt, each_weaker (λ z. y < z) (λ z. x < z) (λ z k. omega (arith, lt, k)) ys h.0)

pub rising : (xs : List ℕ) → ascends xs ≡ true → Rising xs
rising [] h = tt
rising (x ∷ []) h = (tt, tt)
rising (x ∷ y ∷ rest) h =
    let q = and_parts (nat_lt x y) (ascends (y ∷ rest)) h in
    let r = rising (y ∷ rest) q.1 in
    (below_rest x y rest (grind (arith, q.0)) r, r)

pub rising_left : (xs ys : List ℕ) → Rising (xs ++ ys) → Rising xs
rising_left [] ys h = tt
rising_left (x ∷ xs) ys h = (each_left (λ y. x < y) xs ys h.0, rising_left xs ys h.1)

pub rising_right : (xs ys : List ℕ) → Rising (xs ++ ys) → Rising ys
rising_right [] ys h = h
rising_right (x ∷ xs) ys h = rising_right xs ys h.1

each_across : (xs ys : List ℕ) (y : ℕ) → Rising (xs ++ ys) → Contains ys y → Each (λ z. z < y) xs
each_across [] ys y h d = tt
each_across (x ∷ xs) ys y h d = (each_contains (λ z. x < z) ys y (each_right (λ z. x < z) xs ys h.0) d, each_across xs ys y h.1 d)

pub rising_across : (xs ys : List ℕ) (x y : ℕ) → Rising (xs ++ ys) → Contains xs x → Contains ys y → x < y
rising_across xs ys x y h c d = each_contains (λ z. z < y) xs x (each_across xs ys y h d) c

pub rising_distinct : (xs : List ℕ) → Rising xs → Distinct xs
rising_distinct [] h = tt
rising_distinct (x ∷ xs) h = (each_weaker (λ y. x < y) (λ y. y ≢ x) (λ y lt e. omega (arith, lt, e)) xs h.0, rising_distinct xs h.1)

-- numbers from `low` on and below `high` that rise are at most as many as lie there
rising_few : (low high : ℕ) (xs : List ℕ) → Rising xs → Each (λ y. low ≤ y) xs → Each (λ y. y < high) xs → low ≤ high → low + length xs ≤ high
rising_few low high [] h a b le = omega (arith, le)
rising_few low high (x ∷ xs) h a b le =
    let rest = rising_few (x + 1) high xs h.1 (each_weaker (λ y. x < y) (λ y. x + 1 ≤ y) (λ y lt. omega (arith, lt)) xs h.0) b.1 (omega (arith, b.0)) in omega (arith, rest, a.0)

each_from_zero : (xs : List ℕ) → Each (λ y. 0 ≤ y) xs
each_from_zero [] = tt
each_from_zero (x ∷ xs) = (omega arith, each_from_zero xs)

pub rising_length : (high : ℕ) (xs : List ℕ) → Rising xs → Each (λ y. y < high) xs → length xs ≤ high
rising_length high xs h b = let e = rising_few 0 high xs h (each_from_zero xs) b (omega arith) in omega (arith, e)
