-- Where points of a template stand in a table.
use Rattle.std.proofs.Common.{◌≡◌, ℕ, zero, suc, ◌+◌, ◌*◌, ◌≤◌, ◌<◌, Bool, true, false, Option, Some, None, List, [], ◌∷◌, ◌++◌, refl, sym, ap, ◌∙◌, subst, arith}
use Rattle.std.specs.Prelude.{◌==◌, ◌||◌, is_some, slice_get, if◌then◌else◌}
use Rattle.std.specs.Option.{option_map}
use Rattle.std.proofs.lemmas.Bool.Decides.{nat_tests}
use Rattle.certificate.specs.Rows.{Point}
use Rattle.msp430_isa.specs.declared.instr.Instr.{Instr}
use Rattle.msp430_isa.specs.declared.instr.Instr.TheVariants.{Two, One, Jump}
use Rattle.msp430_isa.specs.Encoding.{length_of}
use Rattle.cert_rules.specs.Tables.{row_at, point_at}
use Rattle.cert_rules.specs.Sheet.{Sheet, any_point}
use Rattle.cert_pieces.specs.Pieces.{address_in, behind}
use Rattle.cert_templates.specs.Frames.{Inner, placed, if_point, walked}

-- ---- Rows

other : (a b : ℕ) → (a ≡ b → ⊥) → (a == b) ≡ false
other a b h = grind (arith, nat_tests)

same : (a b : ℕ) → a ≡ b → (a == b) ≡ true
same a b h = grind (arith, nat_tests)

-- a table without this row before another
pub row_behind : {A : Type 0} → (key : A → ℕ) (xs ys : List A) (n : ℕ) → row_at key xs n ≡ None → row_at key (xs ++ ys) n ≡ row_at key ys n
row_behind key [] ys n h = refl
row_behind key (x ∷ xs) ys n h = by (key x == n) h (λ e. row_behind key xs ys n e)
  where
    by : (c : Bool) → (if c then Some x else row_at key xs n) ≡ None → (row_at key xs n ≡ None → row_at key (xs ++ ys) n ≡ row_at key ys n) → (if c then Some x else row_at key (xs ++ ys) n) ≡ row_at key ys n
    by true e rest = absurd (let no : true ≡ false = ap (λ o. is_some o) e in cc)
    by false e rest = rest e

-- and one without it behind
pub row_before : {A : Type 0} → (key : A → ℕ) (xs ys : List A) (n : ℕ) → row_at key ys n ≡ None → row_at key (xs ++ ys) n ≡ row_at key xs n
row_before key [] ys n h = h
row_before key (x ∷ xs) ys n h = ap (λ o. if key x == n then Some x else o) (row_before key xs ys n h)

pub row_first : {A : Type 0} → (key : A → ℕ) (x : A) (xs : List A) (n : ℕ) → key x ≡ n → row_at key (x ∷ xs) n ≡ Some x
row_first key x xs n h = ap (λ c. if c then Some x else row_at key xs n) (same (key x) n h)

pub row_later : {A : Type 0} → (key : A → ℕ) (x : A) (xs : List A) (n : ℕ) → (key x ≡ n → ⊥) → row_at key (x ∷ xs) n ≡ row_at key xs n
row_later key x xs n h = ap (λ c. if c then Some x else row_at key xs n) (other (key x) n h)

-- ---- Lengths

pub length_some : (i : Instr) → 1 ≤ length_of i
length_some i = by i
  where
    by : (j : Instr) → 1 ≤ length_of j
    by (Two op byte src dst) = omega arith
    by (One op byte src) = omega arith
    by (Jump on words) = omega arith

pub behind_above : (a : ℕ) (is : List Instr) → a ≤ behind a is
behind_above a [] = omega arith
behind_above a (i ∷ is) = let h = behind_above (a + 2 * length_of i) is in omega (arith, h)

pub address_above : (a : ℕ) (is : List Instr) (k : ℕ) → a ≤ address_in a is k
address_above a [] k = omega arith
address_above a (i ∷ is) zero = omega arith
address_above a (i ∷ is) (suc k) = let h = address_above (a + 2 * length_of i) is k in omega (arith, h)

pub address_below : (a : ℕ) (is : List Instr) (k : ℕ) (i : Instr) → slice_get is k ≡ Some i → address_in a is k + 2 * length_of i ≤ behind a is
address_below a [] k i e = absurd (let no : false ≡ true = ap (λ o. is_some o) e in cc)
address_below a (j ∷ is) zero i e = let h = behind_above (a + 2 * length_of j) is in let s : j ≡ i = cc in subst (λ q. a + 2 * length_of q ≤ behind (a + 2 * length_of j) is) s h
address_below a (j ∷ is) (suc k) i e = address_below (a + 2 * length_of j) is k i e

-- ---- The points of a template

if_elsewhere : (st n a : ℕ) (o : Option Inner) (rest : List Point) (x : ℕ) → (a ≡ x → ⊥) → point_at (if_point st n a o ++ rest) x ≡ point_at rest x
if_elsewhere st n a None rest x h = refl
if_elsewhere st n a (Some q) rest x h = row_later (λ p. p.address) (placed st n a q) rest x h

if_there : (st n a : ℕ) (o : Option Inner) (rest : List Point) → point_at rest a ≡ None → point_at (if_point st n a o ++ rest) a ≡ option_map (λ q. placed st n a q) o
if_there st n a None rest h = h
if_there st n a (Some q) rest h = row_first (λ p. p.address) (placed st n a q) rest a refl

pub walked_before : (st n a : ℕ) (is : List Instr) (inner : ℕ → Option Inner) (x : ℕ) → x < a → point_at (walked st n a is inner) x ≡ None
walked_before st n a [] inner x h = refl
walked_before st n a (i ∷ is) inner x h =
    if_elsewhere st n a (inner 0) _ x (λ e. absurd (omega (arith, e, h))) ∙ walked_before st n (a + 2 * length_of i) is (λ k. inner (suc k)) x (omega (arith, h))

pub walked_behind : (st n a : ℕ) (is : List Instr) (inner : ℕ → Option Inner) (x : ℕ) → behind a is ≤ x → point_at (walked st n a is inner) x ≡ None
walked_behind st n a [] inner x h = refl
walked_behind st n a (i ∷ is) inner x h =
    let some = length_some i in
    let above = behind_above (a + 2 * length_of i) is in
    if_elsewhere st n a (inner 0) _ x (λ e. absurd (omega (arith, e, h, some, above))) ∙ walked_behind st n (a + 2 * length_of i) is (λ k. inner (suc k)) x h

pub walked_at : (st n a : ℕ) (is : List Instr) (inner : ℕ → Option Inner) (k : ℕ) (i : Instr) → slice_get is k ≡ Some i
    → point_at (walked st n a is inner) (address_in a is k) ≡ option_map (λ q. placed st n (address_in a is k) q) (inner k)
walked_at st n a [] inner k i e = absurd (let no : false ≡ true = ap (λ o. is_some o) e in cc)
walked_at st n a (j ∷ is) inner zero i e =
    let some = length_some j in
    if_there st n a (inner 0) _ (walked_before st n (a + 2 * length_of j) is (λ k. inner (suc k)) a (omega (arith, some)))
walked_at st n a (j ∷ is) inner (suc k) i e =
    let some = length_some j in
    let above = address_above (a + 2 * length_of j) is k in
    if_elsewhere st n a (inner 0) _ _ (λ q. absurd (omega (arith, q, some, above))) ∙ walked_at st n (a + 2 * length_of j) is (λ m. inner (suc m)) k i e

pub walked_within : (st n a : ℕ) (is : List Instr) (inner : ℕ → Option Inner) (k : ℕ) (i : Instr) (x : ℕ) → slice_get is k ≡ Some i → address_in a is k < x → x < address_in a is k + 2 * length_of i
    → point_at (walked st n a is inner) x ≡ None
walked_within st n a [] inner k i x e l r = absurd (let no : false ≡ true = ap (λ o. is_some o) e in cc)
walked_within st n a (j ∷ is) inner zero i x e l r =
    let s : j ≡ i = cc in
    let r' = subst (λ q. x < a + 2 * length_of q) (sym s) r in
    if_elsewhere st n a (inner 0) _ x (λ q. absurd (omega (arith, q, l))) ∙ walked_before st n (a + 2 * length_of j) is (λ m. inner (suc m)) x r'
walked_within st n a (j ∷ is) inner (suc k) i x e l r =
    let above = address_above (a + 2 * length_of j) is k in
    if_elsewhere st n a (inner 0) _ x (λ q. absurd (omega (arith, q, l, above))) ∙ walked_within st n (a + 2 * length_of j) is (λ m. inner (suc m)) k i x e l r

-- no point from an address on, for so many bytes
pub no_points : (t : Sheet) (n a : ℕ) → ((x : ℕ) → a ≤ x → x < a + n → point_at t.points x ≡ None) → any_point t a n ≡ false
no_points t zero a h = refl
no_points t (suc n) a h =
    ap (λ o. is_some o || any_point t (a + 1) n) (h a (omega arith) (omega arith)) ∙ no_points t n (a + 1) (λ x l r. h x (omega (arith, l)) (omega (arith, r)))
