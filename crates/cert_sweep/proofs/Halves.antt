-- Halves of rows that rise, and what is found in them.
use Rattle.std.proofs.Common.{◌≡◌, ℕ, zero, suc, ◌+◌, ◌-◌, ◌<◌, ◌≤◌, Bool, true, false, List, [], ◌∷◌, ◌++◌, map, Option, Some, None, length, get_or, refl, sym, ap, subst, ◌∙◌, arith, Bor}
use Rattle.std.specs.Prelude.{◌==◌, nat_le, if◌then◌else◌}
use Rattle.std.specs.Option.{option_map}
use Rattle.std.proofs.lemmas.Bool.Decides.{nat_tests}
use Rattle.certificate.specs.declared.cert.FunctionRow.{FunctionRow}
use Rattle.certificate.specs.declared.cert.PointRow.{PointRow}
use Rattle.certificate.specs.Rows.{function_of, point_of}
use Rattle.cert_rules.specs.Tables.{function_at, point_at, row_at}
use Rattle.cert_state.specs.Shown.{functions_in}
use Rattle.cert_sweep.specs.Rising.{Rises, first_from}
use Rattle.cert_sweep.specs.Views.{points_in}

le_true : (a b : ℕ) → a ≤ b → nat_le a b ≡ true
le_true a b h = grind (arith, nat_tests)

le_false : (a b : ℕ) → b < a → nat_le a b ≡ false
le_false a b h = grind (arith, nat_tests)

not_le_of : (a b : ℕ) → nat_le a b ≡ false → b < a
not_le_of a b e = grind (arith, nat_tests)

le_of : (a b : ℕ) → nat_le a b ≡ true → a ≤ b
le_of a b e = grind (arith, nat_tests)

number_is : (a b : ℕ) → (a == b) ≡ true → a ≡ b
number_is a b e = grind (arith, nat_tests)

not_number : (a b : ℕ) → b < a → (a == b) ≡ false
not_number a b h = grind (arith, nat_tests)

same : (a b : ℕ) → a ≡ b → (a == b) ≡ true
same a b e = grind (arith, nat_tests)

apart : (a b : ℕ) → (a ≡ b → ⊥) → (a == b) ≡ false
apart a b other = elim (a == b) as (λ t. (a == b) ≡ t → t ≡ false) [
  | true ↦ λ e. absurd (other (number_is a b e))
  | false ↦ λ e. refl
] refl

-- rows of another kind, each seen as one of this kind
row_map : {A B : Type 0} (f : A → B) (key : B → ℕ) (xs : List A) (n : ℕ) → option_map f (row_at (λ x. key (f x)) xs n) ≡ row_at key (map f xs) n
row_map f key [] n = refl
row_map f key (x ∷ xs) n = elim (key (f x) == n) as (λ b. option_map f (if b then Some x else row_at (λ y. key (f y)) xs n) ≡ (if b then Some (f x) else row_at key (map f xs) n)) [
  | true ↦ refl
  | false ↦ row_map f key xs n
]

pub point_row : (o : Option (Bor PointRow)) (points : List PointRow) (n : ℕ) → option_map (λ r. r.now) o ≡ row_at (λ p. p.address) points n → option_map (λ p. point_of p.now) o ≡ point_at (points_in points) n
point_row None points n is = ap (option_map point_of) is ∙ row_map point_of (λ p. p.address) points n
point_row (Some p) points n is = ap (option_map point_of) is ∙ row_map point_of (λ p. p.address) points n

pub function_row : (o : Option (Bor FunctionRow)) (functions : List FunctionRow) (n : ℕ) → option_map (λ r. r.now) o ≡ row_at (λ f. f.start) functions n
    → option_map (λ f. function_of f.now) o ≡ function_at (functions_in functions) n
function_row None functions n is = ap (option_map function_of) is ∙ row_map function_of (λ f. f.start) functions n
function_row (Some f) functions n is = ap (option_map function_of) is ∙ row_map function_of (λ f. f.start) functions n

module _ {A : Type 0} (key : A → ℕ) where
  weaker : (low less : ℕ) (xs : List A) → less ≤ low → Rises key low xs → Rises key less xs
  weaker low less [] le are = tt
  weaker low less (x ∷ xs) le are = (omega (arith, le, are.0), are.1)

  pub front : (low : ℕ) (xs ys : List A) → Rises key low (xs ++ ys) → Rises key low xs
  front low [] ys are = tt
  front low (x ∷ xs) ys are = (are.0, front (key x + 1) xs ys are.1)

  pub back : (low : ℕ) (xs ys : List A) → Rises key low (xs ++ ys) → Rises key low ys
  back low [] ys are = are
  back low (x ∷ xs) ys are = weaker (key x + 1) low ys (omega (arith, are.0)) (back (key x + 1) xs ys are.1)

  skip : (x : A) (xs : List A) (n : ℕ) → key x < n → first_from key n (x ∷ xs) ≡ first_from key n xs
  skip x xs n low = ap (λ b. if b then Some x else first_from key n xs) (le_false n (key x) low)

  -- the last of some rows, without the first
  last_is : (x z : A) (zs : List A) (y : A) → y ≡ get_or (x ∷ z ∷ zs) (length (x ∷ z ∷ zs) - 1) y → y ≡ get_or (z ∷ zs) (length (z ∷ zs) - 1) y
  last_is x z zs y is = is ∙ ap (λ k. get_or (x ∷ z ∷ zs) k y) (let e : length (x ∷ z ∷ zs) - 1 ≡ suc (length (z ∷ zs) - 1) = omega arith in e)

  -- the last of some rows is above the first
  below_last : (low : ℕ) (xs : List A) (y : A) → 0 < length xs → y ≡ get_or xs (length xs - 1) y → Rises key low xs → low ≤ key y
  below_last low [] y some is are = absurd (omega (arith, some))
  below_last low (x ∷ []) y some is are = subst (λ z. low ≤ key z) (sym is) are.0
  below_last low (x ∷ z ∷ zs) y some is are = omega (arith, are.0, below_last (key x + 1) (z ∷ zs) y (omega arith) (last_is x z zs y is) are.1)

  -- where the last is too small, all are
  later : (low : ℕ) (xs ys : List A) (y : A) (n : ℕ) → 0 < length xs → y ≡ get_or xs (length xs - 1) y → key y < n → Rises key low (xs ++ ys) → first_from key n ys ≡ first_from key n (xs ++ ys)
  later low [] ys y n some is small are = absurd (omega (arith, some))
  later low (x ∷ []) ys y n some is small are = sym (skip x ys n (subst (λ z. key z < n) is small))
  later low (x ∷ z ∷ zs) ys y n some is small are =
      let above = below_last (key x + 1) (z ∷ zs) y (omega arith) (last_is x z zs y is) (front (key x + 1) (z ∷ zs) ys are.1) in
      later (key x + 1) (z ∷ zs) ys y n (omega arith) (last_is x z zs y is) small are.1 ∙ sym (skip x (z ∷ zs ++ ys) n (omega (arith, above, small)))

  -- where the last is large enough, the first such is no later
  sooner : (xs ys : List A) (y : A) (n : ℕ) → 0 < length xs → y ≡ get_or xs (length xs - 1) y → n ≤ key y → first_from key n xs ≡ first_from key n (xs ++ ys)
  sooner [] ys y n some is large = absurd (omega (arith, some))
  sooner (x ∷ []) ys y n some is large =
      let here = le_true n (key x) (subst (λ z. n ≤ key z) is large) in
      ap (λ b. if b then Some x else None) here ∙ sym (ap (λ b. if b then Some x else first_from key n ys) here)
  sooner (x ∷ z ∷ zs) ys y n some is large = ap (λ o. if nat_le n (key x) then Some x else o) (sooner (z ∷ zs) ys y n (omega arith) (last_is x z zs y is) large)

  pub in_high : (rows xs ys : List A) (y : A) (n : ℕ) → rows ≡ xs ++ ys → 0 < length xs → y ≡ get_or xs (length xs - 1) y → key y < n → Rises key 0 rows → first_from key n ys ≡ first_from key n rows
  in_high rows xs ys y n e some is small are = later 0 xs ys y n some is small (subst (Rises key 0) e are) ∙ ap (first_from key n) (sym e)

  pub in_low : (rows xs ys : List A) (y : A) (n : ℕ) → rows ≡ xs ++ ys → 0 < length xs → y ≡ get_or xs (length xs - 1) y → n ≤ key y → first_from key n xs ≡ first_from key n rows
  in_low rows xs ys y n e some is large = sooner xs ys y n some is large ∙ ap (first_from key n) (sym e)

  -- ---- The row of a number

  abbrev pub row_of : ℕ → Option A → Option A
  row_of n None = None
  row_of n (Some x) = if key x == n then Some x else None

  pub row_on : (x : A) (n : ℕ) → key x ≡ n → Some x ≡ row_of n (Some x)
  row_on x n is = sym (ap (λ b. if b then Some x else None) (same (key x) n is))

  pub row_off : (x : A) (n : ℕ) → (key x ≡ n → ⊥) → None ≡ row_of n (Some x)
  row_off x n other = sym (ap (λ b. if b then Some x else None) (apart (key x) n other))

  none_at : (low : ℕ) (xs : List A) (n : ℕ) → n < low → Rises key low xs → row_at key xs n ≡ None
  none_at low [] n high are = refl
  none_at low (x ∷ xs) n high are = ap (λ b. if b then Some x else row_at key xs n) (not_number (key x) n (omega (arith, are.0, high))) ∙ none_at (key x + 1) xs n (omega (arith, are.0, high)) are.1

  pub row_from : (low : ℕ) (xs : List A) (n : ℕ) → Rises key low xs → row_of n (first_from key n xs) ≡ row_at key xs n
  row_from low [] n are = refl
  row_from low (x ∷ xs) n are = elim (nat_le n (key x)) as (λ b. nat_le n (key x) ≡ b → row_of n (if b then Some x else first_from key n xs) ≡ row_at key (x ∷ xs) n) [
    | true ↦ λ e. ap (λ o. if key x == n then Some x else o) (sym (none_at (key x + 1) xs n (omega (arith, le_of n (key x) e)) are.1))
    | false ↦ λ e. row_from (key x + 1) xs n are.1 ∙ sym (ap (λ b. if b then Some x else row_at key xs n) (off (not_le_of n (key x) e)))
  ] refl
    where
      off : key x < n → (key x == n) ≡ false
      off h = grind (arith, nat_tests)

  -- as a search tells it
  pub row_is : (xs : List A) (n : ℕ) (o : Option A) → o ≡ first_from key n xs → Rises key 0 xs → row_of n o ≡ row_at key xs n
  row_is xs n o e are = ap (row_of n) e ∙ row_from 0 xs n are
