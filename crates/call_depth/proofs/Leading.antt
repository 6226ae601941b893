-- The functions that so many calls lead to, one call after another.
use Rattle.std.proofs.Common.{◌≡◌, ◌<◌, ◌≤◌, ◌+◌, ℕ, zero, suc, Bool, true, false, List, [], ◌∷◌, length, refl, sym, ap, subst, inl, inr, ◌∙◌, true≢false, add-one, arith}
use Rattle.std.specs.Prelude.{◌&&◌, ◌||◌, Some, slice_get}
use Rattle.std.proofs.lemmas.Bool.{and_parts, or_cases}
use Rattle.std.proofs.lemmas.Bool.Decides.{eqb_tells, leb_tells}
use Rattle.std.proofs.Math.Nat.{eq-or-lt_of_le}
use Rattle.std.proofs.lemmas.Option.{slice_get_within}
use Rattle.flow_graph.specs.declared.nodes.Next.{Next}
use Rattle.flow_graph.specs.declared.nodes.Next.TheVariants.{To, Either, Into, Returns, Ends}
use Rattle.flow_graph.specs.declared.owned.Owned.{Owned}
use Rattle.call_depth.specs.Depth.{Calls, IsDeepest, Lead}
use Rattle.call_depth.specs.Levels.{AreWithin, IsLevel, called_in, calls_it, is_marked, some_marked}

-- ---- marks

marked_within : (marks : List Bool) (f : ℕ) → is_marked marks f ≡ true → f < length marks
marked_within [] f e = absurd (true≢false (sym e))
marked_within (m ∷ ms) zero e = omega arith
marked_within (m ∷ ms) (suc f) e = let r = marked_within ms f e in omega (arith, r)

pub one_marked : (marks : List Bool) → some_marked marks ≡ true → (f : ℕ) × (f < length marks) × (is_marked marks f ≡ true)
one_marked [] e = absurd (true≢false (sym e))
one_marked (true ∷ ms) e = (0, omega arith, refl)
one_marked (false ∷ ms) e = let r = one_marked ms e in (suc r.0, let lt = r.1 in omega (arith, lt), r.2)

pub none_marked : (marks : List Bool) (f : ℕ) → some_marked marks ≡ false → is_marked marks f ≡ true → ⊥
none_marked [] f e h = true≢false (sym h)
none_marked (true ∷ ms) f e h = true≢false e
none_marked (false ∷ ms) zero e h = true≢false (sym h)
none_marked (false ∷ ms) (suc f) e h = none_marked ms f e h

-- ---- calls

calls_as : (x : Next) (f : ℕ) → calls_it x f ≡ true → (behind : ℕ) × (x ≡ Into f behind)
calls_as (Into h n) f e = elim (eqb_tells h f) [ inl t ↦ (n, ap (λ k. Into k n) t.1) | inr b ↦ absurd (true≢false (sym e ∙ b.0)) ]
calls_as (To n) f e = absurd (true≢false (sym e))
calls_as (Either n m) f e = absurd (true≢false (sym e))
calls_as Returns f e = absurd (true≢false (sym e))
calls_as Ends f e = absurd (true≢false (sym e))

it_calls : (f behind : ℕ) → calls_it (Into f behind) f ≡ true
it_calls f behind = elim (eqb_tells f f) [ inl t ↦ t.0 | inr b ↦ absurd (b.1 refl) ]

behind_first : (x : Owned) (ops : List Owned) (f h : ℕ) → Calls ops f h → Calls (x ∷ ops) f h
behind_first x ops f h c = record { number = suc c.number; op = c.op; is_there = c.is_there; own = c.own; behind = c.behind; calls = c.calls }

-- a function of those that are marked calls it
pub caller : (ops : List Owned) (marks : List Bool) (f : ℕ) → called_in ops marks f ≡ true → (h : ℕ) × (is_marked marks h ≡ true) × Calls ops h f
caller [] marks f e = absurd (true≢false (sym e))
caller (x ∷ xs) marks f e = elim (or_cases (is_marked marks x.function && calls_it x.node.next f) (called_in xs marks f) e) [
  | inl here ↦
      let p = and_parts (is_marked marks x.function) (calls_it x.node.next f) here in
      let c = calls_as x.node.next f p.1 in
      (x.function, p.0, record { number = 0; op = x; is_there = refl; own = refl; behind = c.0; calls = c.1 })
  | inr later ↦ let r = caller xs marks f later in (r.0, r.1, behind_first x xs r.0 f r.2)
]

either_left : (a b : Bool) → a ≡ true → (a || b) ≡ true
either_left true b e = refl
either_left false b e = absurd (true≢false (sym e))

either_right : (a b : Bool) → b ≡ true → (a || b) ≡ true
either_right true b e = refl
either_right false b e = e

both_true : (a b : Bool) → a ≡ true → b ≡ true → (a && b) ≡ true
both_true true b e f = f
both_true false b e f = absurd (true≢false (sym e))

called_at : (ops : List Owned) (marks : List Bool) (f h behind : ℕ) (k : ℕ) (x : Owned) → slice_get ops k ≡ Some x → x.function ≡ h → x.node.next ≡ Into f behind → is_marked marks h ≡ true
    → called_in ops marks f ≡ true
called_at [] marks f h behind k x e own next m = let lt = slice_get_within [] k x e in absurd (omega arith)
called_at (y ∷ ys) marks f h behind zero x e own next m =
    let same : y ≡ x = cc in
    either_left (is_marked marks y.function && calls_it y.node.next f) (called_in ys marks f)
    (subst (λ (z : Owned). (is_marked marks z.function && calls_it z.node.next f) ≡ true) (sym same)
    (both_true (is_marked marks x.function) (calls_it x.node.next f) (subst (λ i. is_marked marks i ≡ true) (sym own) m) (subst (λ n. calls_it n f ≡ true) (sym next) (it_calls f behind))))
called_at (y ∷ ys) marks f h behind (suc k) x e own next m =
    either_right (is_marked marks y.function && calls_it y.node.next f) (called_in ys marks f) (called_at ys marks f h behind k x e own next m)

pub is_called : (ops : List Owned) (marks : List Bool) (h f : ℕ) → is_marked marks h ≡ true → Calls ops h f → called_in ops marks f ≡ true
is_called ops marks h f m c = called_at ops marks f h c.behind c.number c.op c.is_there c.own c.calls m

-- ---- levels

module _ (ops : List Owned) (count function : ℕ) (within : AreWithin ops count function) where
  abbrev Marks : List Bool → List Bool → Type 0
  Marks level next = (f : ℕ) → f < count → is_marked next f ≡ called_in ops level f

  led : (depth : ℕ) (level next : List Bool) → IsLevel ops count function depth level → Marks level next → (f : ℕ) → f < count → is_marked next f ≡ true → Lead ops function (suc depth) f
  led depth level next h m f lt e =
      let r = caller ops level f (sym (m f lt) ∙ e) in
      let small = subst (λ n. r.0 < n) h.so_many (marked_within level r.0 r.1) in
      (r.0, (h.marked r.0 small).0 r.1, r.2)

  leading : (depth : ℕ) (level next : List Bool) → IsLevel ops count function depth level → Marks level next → (f : ℕ) → f < count → Lead ops function (suc depth) f → is_marked next f ≡ true
  leading depth level next h m f lt (last, before, c) =
      m f lt ∙ is_called ops level last f ((h.marked last (within.there depth last before)).1 before) c

  -- one call more
  pub next_level : (depth : ℕ) (level next : List Bool) → IsLevel ops count function depth level → length next ≡ count → Marks level next → some_marked next ≡ true
      → IsLevel ops count function (depth + 1) next
  next_level depth level next h many m some =
      let one = one_marked next some in
      let there = subst (λ n. one.0 < n) many one.1 in
      subst (λ d. IsLevel ops count function d next) (sym (add-one depth)) (record {
        so_many = many;
        marked = λ f lt. (led depth level next h m f lt, leading depth level next h m f lt);
        some = one.0;
        some_there = there;
        leads = led depth level next h m one.0 there one.2;
      })

  -- the calls before the last ones
  sooner : (n m to : ℕ) → n ≤ m → Lead ops function m to → (f : ℕ) × Lead ops function n f
  sooner n zero to le l = let none : 0 ≡ n = omega (arith, le) in (to, subst (λ i. Lead ops function i to) none l)
  sooner n (suc m) to le (last, before, c) = elim (eq-or-lt_of_le le) [
    | inl same ↦ (to, subst (λ i. Lead ops function i to) (sym same) (last, before, c))
    | inr less ↦ sooner n m last (omega (arith, less)) before
  ]

  -- no calls more
  pub deepest : (depth : ℕ) (level next : List Bool) → IsLevel ops count function depth level → Marks level next → some_marked next ≡ false → IsDeepest ops function depth
  deepest depth level next h m none = record { innermost = h.some; nests = h.leads; no_deeper = no_deeper }
    where
      none_leads : (f : ℕ) → Lead ops function (suc depth) f → ⊥
      none_leads f l = none_marked next f none (leading depth level next h m f (within.there (suc depth) f l) l)

      no_deeper : (n to : ℕ) → Lead ops function n to → n ≤ depth
      no_deeper n to l = elim (leb_tells n depth) [
        | inl t ↦ t.1
        | inr f ↦ let more = f.1 in let s = sooner (suc depth) n to (omega (arith, more)) l in absurd (none_leads s.0 s.1)
      ]
