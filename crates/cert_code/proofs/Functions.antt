-- The functions of a certificate beside one another: they follow each other, so an address is in one of them.
use Rattle.std.proofs.Common.{◌≡◌, ℕ, ◌+◌, ◌%◌, ◌<◌, ◌≤◌, Bool, true, false, Option, Some, None, List, [], ◌∷◌, refl, sym, ap, ◌∙◌, subst, arith, inl, inr, ◌⊎◌, ⊎_elim}
use Rattle.std.specs.Prelude.{if◌then◌else◌, ◌==◌, ◌&&◌, ◌||◌, nat_le, nat_lt, is_none, pos}
use Rattle.std.proofs.lemmas.Bool.{and_parts}
use Rattle.std.proofs.lemmas.Bool.Decides.{nat_tests}
use Rattle.certificate.specs.Rows.{Function, Flat}
use Rattle.cert_rules.specs.Faults.{Fault, unless, first_of}
use Rattle.cert_rules.specs.Words.{head_bytes}
use Rattle.cert_rules.specs.declared.Rule.TheVariants.{Order}
use Rattle.cert_rules.specs.Tables.{any_of, function_at, is_split, is_number, function_fault, others_fault, functions_fault, lies_in}
use Rattle.cert_effects.proofs.Rules.{none_parts, unless_passes}
use Rattle.cert_code.proofs.Sweeping.{number_there}

number_is : (a b : ℕ) → (a == b) ≡ true → a ≡ b
number_is a b e = grind (arith, nat_tests)

le_of : (a b : ℕ) → nat_le a b ≡ true → a ≤ b
le_of a b e = grind (arith, nat_tests)

lt_of : (a b : ℕ) → nat_lt a b ≡ true → a < b
lt_of a b e = grind (arith, nat_tests)

-- ---- One of some functions

abbrev pub Among : Function → List Function → Type 0
Among g [] = ⊥
Among g (f ∷ fs) = (g ≡ f) ⊎ Among g fs

pub function_among : (fs : List Function) (a : ℕ) (g : Function) → function_at fs a ≡ Some g → Among g fs × (g.start ≡ a)
function_among [] a g e = absurd (let bad : None ≡ Some g = e in cc)
function_among (f ∷ fs) a g e = elim (f.start == a) as (λ c. (f.start == a) ≡ c → (if c then Some f else function_at fs a) ≡ Some g → Among g (f ∷ fs) × (g.start ≡ a)) [
  | true ↦ λ same k. (let is : f ≡ g = cc in (inl (sym is), ap (λ z. z.start) (sym is) ∙ number_is f.start a same))
  | false ↦ λ other k. (let p = function_among fs a g k in (inr p.0, p.1))
] refl e

pub holds_each : (test : Function → Option Fault) (fs : List Function) (g : Function) → first_of test fs ≡ None → Among g fs → test g ≡ None
holds_each test [] g h k = absurd k
holds_each test (f ∷ fs) g h k = (let p = none_parts (test f) (first_of test fs) h in ⊎_elim (λ e. subst (λ z. test z ≡ None) (sym e) p.0) (λ j. holds_each test fs g p.1 j) k)

any_among : (p : Function → Bool) (fs : List Function) → any_of p fs ≡ true → (g : Function) × Among g fs × (p g ≡ true)
any_among p [] e = absurd (let bad : false ≡ true = e in cc)
any_among p (f ∷ fs) e = elim (p f) as (λ c. p f ≡ c → (c || any_of p fs) ≡ true → (g : Function) × Among g (f ∷ fs) × (p g ≡ true)) [
  | true ↦ λ is k. (f, inl refl, is)
  | false ↦ λ is k. (let q = any_among p fs k in (q.0, inr q.1, q.2))
] refl e

-- ---- Functions that follow one another

-- a function from this address on, below the end of the code
pub record Follows (least end : ℕ) (g : Function) : Type 0 where
  pub low : least ≤ g.start
  pub some : g.start < g.end
  pub top : g.end ≤ end
  pub tall : 1 ≤ g.height
  pub short : g.height ≤ 65

pub record Stands (begin : ℕ) (g : Function) : Type 0 where
  pub at : g.start ≡ begin
  pub some : g.start < g.end
  pub tall : 1 ≤ g.height
  pub short : g.height ≤ 65

stands_at : (begin : ℕ) (g : Function) → function_fault begin g ≡ None → Stands begin g
stands_at begin g h =
    let p1 = none_parts (unless (g.start == begin) Order g.start (pos g.start) (pos begin)) _ h in
    let p2 = none_parts (unless (nat_lt g.start g.end) Order g.start (pos g.start) (pos g.end)) _ p1.1 in
    let p3 = none_parts (unless (nat_le 1 g.height) Order g.start (pos g.height) (pos 1)) _ p2.1 in
    let p4 = none_parts (unless (nat_le g.height 65) Order g.start (pos g.height) (pos 65)) None p3.1 in
    record {
      at = number_is g.start begin (unless_passes (g.start == begin) _ _ _ _ p1.0);
      some = lt_of g.start g.end (unless_passes (nat_lt g.start g.end) _ _ _ _ p2.0);
      tall = le_of 1 g.height (unless_passes (nat_le 1 g.height) _ _ _ _ p3.0);
      short = le_of g.height 65 (unless_passes (nat_le g.height 65) _ _ _ _ p4.0);
    }

-- the code has an end, and the function that all others follow ends there or before
pub ends : (end : Option ℕ) (f : Function) (fs : List Function) → others_fault end f fs ≡ None → (e : ℕ) × (end ≡ Some e) × (f.end ≤ e)
ends end f [] h = (f.end, number_there end f.end (unless_passes (is_number end f.end) _ _ _ _ h), omega arith)
ends end f (g ∷ gs) h =
    let p = none_parts (function_fault f.end g) (others_fault end g gs) h in
    let at = stands_at f.end g p.0 in
    let q = ends end g gs p.1 in
    (q.0, q.1, omega (arith, q.2, at.at, at.some))

same_end : (end : Option ℕ) (a b : ℕ) → end ≡ Some a → end ≡ Some b → a ≡ b
same_end end a b e f = let both : Some a ≡ Some b = sym e ∙ f in cc

pub follows : (end : Option ℕ) (e : ℕ) (f : Function) (fs : List Function) → end ≡ Some e → others_fault end f fs ≡ None → (g : Function) → Among g fs → Follows f.end e g
follows end e f [] is h g k = absurd k
follows end e f (x ∷ xs) is h g k =
    let p = none_parts (function_fault f.end x) (others_fault end x xs) h in
    let at = stands_at f.end x p.0 in
    let last = ends end x xs p.1 in
    let same : last.0 ≡ e = same_end end last.0 e last.1 is in
    ⊎_elim
    (λ j. subst (λ z. Follows f.end e z) (sym j) (record { low = omega (arith, at.at); some = at.some; top = omega (arith, last.2, same); tall = at.tall; short = at.short }))
    (λ j. (let rest = follows end e x xs is p.1 g j in record { low = omega (arith, rest.low, at.at, at.some); some = rest.some; top = rest.top; tall = rest.tall; short = rest.short }))
    k

-- an address of the function that all others follow is in none of these
apart : (end : Option ℕ) (f : Function) (fs : List Function) → others_fault end f fs ≡ None → (u v : Function) → u ≡ f → Among v fs → (a : ℕ) → a < u.end → v.start ≤ a → ⊥
apart end f fs h u v e k a high low =
    let last = ends end f fs h in
    let at = follows end last.0 f fs last.1 h v k in
    let same : u.end ≡ f.end = ap (λ z. z.end) e in
    omega (arith, same, at.low, high, low)

-- an address is in one function at most
pub lone : (end : Option ℕ) (f : Function) (fs : List Function) → others_fault end f fs ≡ None → (x y : Function) → Among x (f ∷ fs) → Among y (f ∷ fs) → (a : ℕ) → x.start ≤ a → a < x.end → y.start ≤ a → a < y.end → x ≡ y
lone end f [] h x y i j a xl xh yl yh = ⊎_elim (λ p. ⊎_elim (λ q. p ∙ sym q) (λ q. absurd q) j) (λ p. absurd p) i
lone end f (g ∷ gs) h x y i j a xl xh yl yh = ⊎_elim
    (λ p. ⊎_elim (λ q. p ∙ sym q) (λ q. absurd (apart end f (g ∷ gs) h x y p q a xh yl)) j)
    (λ p. ⊎_elim (λ q. absurd (apart end f (g ∷ gs) h y x q p a yh xl)) (λ q. lone end g gs (none_parts (function_fault f.end g) (others_fault end g gs) h).1 x y p q a xl xh yl yh) j)
    i

-- ---- All functions of a certificate

pub record Functions (end : Option ℕ) (f : Function) (others : List Function) : Type 0 where
  pub last : ℕ
  pub is_last : end ≡ Some last
  pub begins : f.start ≡ 0x8012
  pub split : f.flat ≡ None
  pub each : (g : Function) → Among g (f ∷ others) → Follows 0x8012 last g
  pub alone : (x y : Function) → Among x (f ∷ others) → Among y (f ∷ others) → (a : ℕ) → x.start ≤ a → a < x.end → y.start ≤ a → a < y.end → x ≡ y

no_flat : (o : Option Flat) → is_none o ≡ true → o ≡ None
no_flat None e = refl
no_flat (Some x) e = absurd (let bad : false ≡ true = e in cc)

pub all_functions : (end : Option ℕ) (f : Function) (others : List Function) → functions_fault end (f ∷ others) ≡ None → Functions end f others
all_functions end f others h =
    let p1 = none_parts (function_fault 0x8012 f) _ h in
    let p2 = none_parts (unless (is_split f) Order f.start (pos 1) (pos 0)) _ p1.1 in
    let p3 = none_parts (others_fault end f others) None p2.1 in
    let at = stands_at 0x8012 f p1.0 in
    let last = ends end f others p3.0 in
    record {
      last = last.0;
      is_last = last.1;
      begins = at.at;
      split = no_flat f.flat (unless_passes (is_split f) _ _ _ _ p2.0);
      each = λ g k. ⊎_elim
          (λ e. subst (λ z. Follows 0x8012 last.0 z) (sym e) (record { low = omega (arith, at.at); some = at.some; top = last.2; tall = at.tall; short = at.short }))
          (λ j. (let q = follows end last.0 f others last.1 p3.0 g j in record { low = omega (arith, q.low, at.at, at.some); some = q.some; top = q.top; tall = q.tall; short = q.short }))
          k;
      alone = lone end f others p3.0;
    }

-- ---- Where a head lies

-- an even address, and a split function that holds the whole head
pub record HeadPlace (h : ℕ) (g : Function) : Type 0 where
  pub even : h % 2 ≡ 0
  pub split : g.flat ≡ None
  pub low : g.start ≤ h
  pub high : h + head_bytes ≤ g.end

pub head_place : (fs : List Function) (h : ℕ) → lies_in fs h ≡ true → (g : Function) × Among g fs × HeadPlace h g
head_place fs h e =
    let p = and_parts (h % 2 == 0) (any_of (λ f. is_split f && nat_le f.start h && nat_le (h + head_bytes) f.end) fs) e in
    let g = any_among (λ f. is_split f && nat_le f.start h && nat_le (h + head_bytes) f.end) fs p.1 in
    let q = and_parts (is_split g.0 && nat_le g.0.start h) (nat_le (h + head_bytes) g.0.end) g.2 in
    let r = and_parts (is_split g.0) (nat_le g.0.start h) q.0 in
    (g.0, g.1, record { even = number_is (h % 2) 0 p.0; split = no_flat g.0.flat r.0; low = le_of g.0.start h r.1; high = le_of (h + head_bytes) g.0.end q.1 })
