-- The order in which faults are answered, and the first of several.
use Rattle.std.proofs.Common.{◌≡◌, ℕ, zero, suc, Bool, true, false, List, [], ◌∷◌, ◌++◌, Option, Some, None, All, Contains, get_or, length, append-nil, refl, sym, ap, ◌∙◌, subst, arith, cond, true≢false}
use Rattle.std.proofs.lemmas.Grind.{common_steps}
use Rattle.std.proofs.lemmas.Bool.Decides.{nat_tests}
use Rattle.std.proofs.lemmas.List.Elements.{All-nil, All-append, recursion_from_All, All-from_recursion, Contains-append_left, Contains-append_right, Contains-get_or}
use Rattle.base_io.specs.declared.place.Place.{Place}
use Rattle.c_typing.specs.declared.type_fault.TypeFault.{TypeFault}
use Rattle.c_typing.specs.declared.type_fault.TypeFault.TheVariants as fault
use Rattle.c_typing.specs.FirstFaults.{place_of, rank_of, comes_first, precedes, IsFirst, sooner, first_of}

comes_self : (a : Place) (i : ℕ) → comes_first a i a i ≡ true
comes_self a i = grind (arith, nat_tests)

comes_on : (a b c : Place) (i j k : ℕ) → comes_first a i b j ≡ true → comes_first b j c k ≡ true → comes_first a i c k ≡ true
comes_on a b c i j k h g = grind (arith, nat_tests)

comes_or : (a b : Place) (i j : ℕ) → comes_first a i b j ≡ false → comes_first b j a i ≡ true
comes_or a b i j h = grind (arith, nat_tests)

same_line : (a b : Place) (i j : ℕ) → comes_first a i b j ≡ true → comes_first b j a i ≡ true → a.line ≡ b.line
same_line a b i j h g = grind (arith, nat_tests)

same_column : (a b : Place) (i j : ℕ) → comes_first a i b j ≡ true → comes_first b j a i ≡ true → a.column ≡ b.column
same_column a b i j h g = grind (arith, nat_tests)

same_rank : (a b : Place) (i j : ℕ) → comes_first a i b j ≡ true → comes_first b j a i ≡ true → i ≡ j
same_rank a b i j h g = grind (arith, nat_tests)

precedes_self : (a : TypeFault) → precedes a a ≡ true
precedes_self a = comes_self (place_of a) (rank_of a)

precedes_on : (a b c : TypeFault) → precedes a b ≡ true → precedes b c ≡ true → precedes a c ≡ true
precedes_on a b c h g = comes_on (place_of a) (place_of b) (place_of c) (rank_of a) (rank_of b) (rank_of c) h g

precedes_or : (a b : TypeFault) → precedes a b ≡ false → precedes b a ≡ true
precedes_or a b h = comes_or (place_of a) (place_of b) (rank_of a) (rank_of b) h

-- the fault of a rank at a place
fault_at : ℕ → Place → TypeFault
fault_at zero at = fault.Memory
fault_at (suc zero) at = fault.Unknown at
fault_at (suc (suc zero)) at = fault.Redeclared at
fault_at (suc (suc (suc zero))) at = fault.WrongArgs at
fault_at (suc (suc (suc (suc zero)))) at = fault.NotConst at
fault_at (suc (suc (suc (suc (suc zero))))) at = fault.BadArray at
fault_at (suc (suc (suc (suc (suc (suc zero)))))) at = fault.BadAssign at
fault_at (suc (suc (suc (suc (suc (suc (suc zero))))))) at = fault.NoMain at
fault_at (suc (suc (suc (suc (suc (suc (suc (suc zero)))))))) at = fault.Recursion at
fault_at (suc (suc (suc (suc (suc (suc (suc (suc (suc n))))))))) at = fault.TooMany at

is_fault_at : (a : TypeFault) → fault_at (rank_of a) (place_of a) ≡ a
unfolding fault_at
is_fault_at (fault.Unknown at) = refl
is_fault_at (fault.Redeclared at) = refl
is_fault_at (fault.WrongArgs at) = refl
is_fault_at (fault.NotConst at) = refl
is_fault_at (fault.BadArray at) = refl
is_fault_at (fault.BadAssign at) = refl
is_fault_at (fault.NoMain at) = refl
is_fault_at (fault.Recursion at) = refl
is_fault_at (fault.TooMany at) = refl
is_fault_at fault.Memory = refl

precedes_both : (a b : TypeFault) → precedes a b ≡ true → precedes b a ≡ true → a ≡ b
precedes_both a b h g =
    let line : (place_of a).line ≡ (place_of b).line = same_line (place_of a) (place_of b) (rank_of a) (rank_of b) h g in
    let column : (place_of a).column ≡ (place_of b).column = same_column (place_of a) (place_of b) (rank_of a) (rank_of b) h g in
    let rank : rank_of a ≡ rank_of b = same_rank (place_of a) (place_of b) (rank_of a) (rank_of b) h g in
    let at : place_of a ≡ place_of b = λ i. record { line = line i; column = column i } in
    sym (is_fault_at a) ∙ (λ i. fault_at (rank i) (at i)) ∙ is_fault_at b

-- of two answers to two lists the sooner one is that of both
some_both : (xs ys : List TypeFault) (a b : TypeFault) (t : Bool) → precedes a b ≡ t → IsFirst xs (Some a) → IsFirst ys (Some b) → IsFirst (xs ++ ys) (cond t (Some a) (Some b))
some_both xs ys a b true e (here, least) (there, last) =
    (Contains-append_left xs ys a here, All-append (λ other. precedes a other ≡ true) xs ys least (λ k d lt. precedes_on a b (get_or ys k d) e (last k d lt)))
some_both xs ys a b false e (here, least) (there, last) =
    (Contains-append_right xs ys b there, All-append (λ other. precedes b other ≡ true) xs ys (λ k d lt. precedes_on b a (get_or xs k d) (precedes_or a b e) (least k d lt)) last)

first_both : (xs ys : List TypeFault) (a b : Option TypeFault) → IsFirst xs a → IsFirst ys b → IsFirst (xs ++ ys) (sooner a b)
first_both xs ys None b h g = subst (λ l. IsFirst (l ++ ys) b) (sym h) g
first_both xs ys (Some a) None h g = subst (λ l. IsFirst (xs ++ l) (Some a)) (sym g) (subst (λ l. IsFirst l (Some a)) (sym (append-nil xs)) h)
first_both xs ys (Some a) (Some b) h g = some_both xs ys a b (precedes a b) refl h g

first_one : (a : TypeFault) → IsFirst (a ∷ []) (Some a)
first_one a = (Contains-get_or (a ∷ []) 0 a (omega arith), All-from_recursion (λ other. precedes a other ≡ true) (a ∷ []) (precedes_self a, tt))

pub first_is : (faults : List TypeFault) → IsFirst faults (first_of faults)
first_is [] = refl
first_is (a ∷ others) = first_both (a ∷ []) others (Some a) (first_of others) (first_one a) (first_is others)

pub none_behind : (a : Option TypeFault) → sooner a None ≡ a
none_behind None = refl
none_behind (Some a) = refl

-- two later ones don't precede
later_on : (a b c : TypeFault) (t : Bool) → precedes a c ≡ t → precedes a b ≡ false → precedes b c ≡ false → precedes a c ≡ false
later_on a b c true e h g = absurd (true≢false (sym (precedes_on a c b e (precedes_or b c g)) ∙ h))
later_on a b c false e h g = e

sooner_three : (a b c : TypeFault) (t u : Bool) → precedes a b ≡ t → precedes b c ≡ u → sooner (cond t (Some a) (Some b)) (Some c) ≡ sooner (Some a) (cond u (Some b) (Some c))
sooner_three a b c true true h g = ap (λ t. cond t (Some a) (Some c)) (precedes_on a b c h g) ∙ sym (ap (λ t. cond t (Some a) (Some b)) h)
sooner_three a b c true false h g = refl
sooner_three a b c false true h g = ap (λ t. cond t (Some b) (Some c)) g ∙ sym (ap (λ t. cond t (Some a) (Some b)) h)
sooner_three a b c false false h g = ap (λ t. cond t (Some b) (Some c)) g ∙ sym (ap (λ t. cond t (Some a) (Some c)) (later_on a b c (precedes a c) refl h g))

pub sooner_on : (a b c : Option TypeFault) → sooner (sooner a b) c ≡ sooner a (sooner b c)
sooner_on None b c = refl
sooner_on (Some a) None c = refl
sooner_on (Some a) (Some b) None = none_behind (cond (precedes a b) (Some a) (Some b))
sooner_on (Some a) (Some b) (Some c) = sooner_three a b c (precedes a b) (precedes b c) refl refl

pub first_of-append : (faults others : List TypeFault) → first_of (faults ++ others) ≡ sooner (first_of faults) (first_of others)
first_of-append [] others = refl
first_of-append (a ∷ faults) others = ap (sooner (Some a)) (first_of-append faults others) ∙ sym (sooner_on (Some a) (first_of faults) (first_of others))

none_in : (faults : List TypeFault) (a : TypeFault) → faults ≡ [] → Contains faults a → ⊥
none_in faults a h (k, lt, at) = omega (arith, ap (length {A = TypeFault}) h)

-- the first of faults precedes each of them
first_precedes : (faults : List TypeFault) (a b : TypeFault) → All (λ other. precedes a other ≡ true) faults → Contains faults b → precedes a b ≡ true
first_precedes faults a b least (k, lt, at) = subst (λ other. precedes a other ≡ true) at (least k b lt)

pub first_only : (faults : List TypeFault) (a b : Option TypeFault) → IsFirst faults a → IsFirst faults b → a ≡ b
first_only faults None None h g = refl
first_only faults None (Some b) h g = absurd (none_in faults b h g.0)
first_only faults (Some a) None h g = absurd (none_in faults a g h.0)
first_only faults (Some a) (Some b) h g = ap Some (precedes_both a b (first_precedes faults a b h.1 g.0) (first_precedes faults b a g.1 h.0))
