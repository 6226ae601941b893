-- Points: what a point promises is implied by what is asked for, and code falls into it, lands at it, and begins at it.
use Rattle.std.proofs.Common.{◌≡◌, ℕ, ◌≤◌, Bool, true, false, not, Option, Some, None, List, [], ◌∷◌, refl, ap, ◌∙◌, arith}
use Rattle.std.specs.Prelude.{ℤ, pos, ◌+ℤ◌, ◌-ℤ◌, ◌||◌, ◌==◌, nat_le, is_some}
use Rattle.std.specs.Int.Signed.{◌≤ℤ◌, le_z}
use Rattle.std.proofs.lemmas.Int.{ints}
use Rattle.std.proofs.lemmas.Bool.Decides.{nat_tests}
use Rattle.certificate.specs.declared.cert.Slot.{Slot}
use Rattle.certificate.specs.declared.cert.Slot.TheVariants.{Reg, Word}
use Rattle.certificate.specs.declared.cert.Fact.{Fact}
use Rattle.certificate.specs.Rows.{Point}
use Rattle.cert_rules.specs.declared.Rule.TheVariants.{Stretch, Set, Range as OutOfRange, Spent as OverSpent}
use Rattle.cert_rules.specs.Faults.{unless, first_of}
use Rattle.cert_rules.specs.Ranges.{Range, any_word, known_even}
use Rattle.cert_rules.specs.Spending.{lack}
use Rattle.cert_rules.specs.Known.{Known, range_of, known_at}
use Rattle.cert_rules.specs.Points.{slot_is_set, slot_number, fact_set_fault, range_fault, fact_range_fault, fresh_fault, implied_fault}
use Rattle.cert_rules.specs.Sheet.{Sheet}
use Rattle.cert_rules.specs.Going.{point_implied}
use Rattle.cert_rules.specs.Sweep.{or_point}
use Rattle.cert_pieces.specs.Pieces.{Has, Tells, anything, narrower, Narrower, Affords, Falls, Lands, Begins, Here, PointStands, Promises, AllTold, range_of_fact}
use Rattle.cert_pieces.proofs.Paying.{told, le_z_is, pays_for}
use Rattle.cert_pieces.proofs.Stepping.{both}
use Rattle.cert_pieces.proofs.Straight.{told_set}

-- ---- More told, and less

narrower_both : (x y z : Range) → Narrower x y → Narrower y z → Narrower x z
narrower_both x y z n m = record {
  least = omega (arith, n.least, m.least);
  greatest = omega (arith, n.greatest, m.greatest);
  even = λ h. n.even (m.even h);
}

through : (r : Range) (p q : Option Range) → Tells (Some r) p → Tells p q → Tells (Some r) q
through r None q e f = absurd (let no : false ≡ true = told_set (Some r) None e refl in cc)
through r (Some i) None e f = absurd (let no : false ≡ true = told_set (Some i) None f refl in cc)
through r (Some i) (Some j) e f = narrower r j (narrower_both j i r (told (Some i) (Some j) f refl) (told (Some r) (Some i) e refl))

-- ---- The rules of a point

eq_is : (x y : ℕ) → x ≡ y → (x == y) ≡ true
eq_is x y h = grind (arith, nat_tests)

le_is : (x y : ℕ) → x ≤ y → nat_le x y ≡ true
le_is x y h = grind (arith, nat_tests)

slot_set : (κ : Known) (x : Slot) → is_some (κ.range x) ≡ true → slot_is_set κ x ≡ true
slot_set κ (Reg r) h = h
slot_set κ (Word a) h = refl

even_told : (asked known : Bool) → (asked ≡ true → known ≡ true) → not asked || known ≡ true
even_told true known h = h refl
even_told false known h = refl

or_first : (b c : Bool) → b ≡ true → b || c ≡ true
or_first true c h = refl
or_first false c h = absurd (let no : false ≡ true = h in cc)

facts_set : (a : ℕ) (s κ : Known) (facts : List Fact) → Has s κ → AllTold s facts → first_of (fact_set_fault a κ) facts ≡ None
facts_set a s κ [] has h = refl
facts_set a s κ (f ∷ facts) has h =
    both _ _ (ap (λ c. unless c Set a (pos (slot_number f.of)) (pos 0))
    (slot_set κ f.of (told_set (Some (range_of_fact f)) (κ.range f.of) (through (range_of_fact f) (s.range f.of) (κ.range f.of) h.0 (has.range f.of)) refl)))
    (facts_set a s κ facts has h.1)

one_range : (a : ℕ) (r : Range) (f : Fact) → Narrower r (range_of_fact f) → range_fault a r f ≡ None
one_range a r f n =
    both _ _ (ap (λ c. unless c OutOfRange a (pos r.least) (pos f.least)) (le_is f.least r.least n.least))
    (both _ _ (ap (λ c. unless c OutOfRange a (pos r.greatest) (pos f.greatest)) (le_is r.greatest f.greatest n.greatest))
    (both _ _ (ap (λ c. unless c OutOfRange a (pos 1) (pos 0)) (even_told f.even (known_even r) (λ h. or_first r.even _ (n.even h)))) refl))

facts_range : (a : ℕ) (s κ : Known) (facts : List Fact) → Has s κ → AllTold s facts → first_of (fact_range_fault a κ) facts ≡ None
facts_range a s κ [] has h = refl
facts_range a s κ (f ∷ facts) has h =
    both _ _ (one_range a (range_of κ f.of) f
    (told (Some (range_of_fact f)) (κ.range f.of) (through (range_of_fact f) (s.range f.of) (κ.range f.of) h.0 (has.range f.of)) refl))
    (facts_range a s κ facts has h.1)

pub implied : (s κ : Known) (p : Point) (from : ℕ) → Promises s p → Has s κ → implied_fault from κ p ≡ None
implied s κ p from h has =
    both _ _ (ap (λ c. unless c Stretch from (pos κ.stretch) (pos p.stretch)) (eq_is κ.stretch p.stretch (has.stretch ∙ h.stretch)))
    (both _ _ (facts_set from s κ p.facts has h.facts)
    (both _ _ (facts_range from s κ p.facts has h.facts)
    (both _ _ (ap (λ spans. first_of (fresh_fault from κ) spans) h.fresh)
    (both _ _ (ap (λ c. unless c OverSpent from (lack (range_of κ) κ.spent p.spent) (pos 0)) (h.spent κ has)) refl))))

-- what is spent, where no term is in either
plain_lack : (z y : ℤ) → z ≤ℤ y → ((z -ℤ y) +ℤ pos 0 -ℤ pos 0) ≤ℤ pos 0
plain_lack z y h = omega (arith, ints, h)

pub spent_plain : (s κ : Known) (p : Point) (z y : ℤ) → s.spent ≡ record { base = z; terms = [] } → p.spent ≡ record { base = y; terms = [] } → z ≤ℤ y → Has s κ
    → le_z (lack (range_of κ) κ.spent p.spent) (pos 0) ≡ true
spent_plain s κ p z y e f h has =
    ap (λ n. le_z (lack (range_of κ) n p.spent) (pos 0)) (has.spent ∙ e)
    ∙ ap (λ n. le_z (lack (range_of κ) (record { base = z; terms = [] }) n) (pos 0)) f
    ∙ le_z_is _ _ (plain_lack z y h)

-- ---- Code and a point

-- code falls into a point that is implied
pub falls_to : (t : Sheet) (a more : ℕ) (s : Known) (p : Point) → PointStands t a p → Promises s p → Affords t more s → Has (known_at p) (known_at p) → Here t a (known_at p) → Falls t s a
falls_to t a more s p st promised affords own here = record {
  inside = st.inside;
  paid = λ κ h. pays_for t a more s κ affords st.head h;
  implied = λ from κ h. ap (λ o. point_implied from κ o) st.at ∙ implied s κ p from promised h;
  turns = st.turns;
  swept = λ κ h. here (Some κ) (known_at p) (ap (λ o. or_point o (Some κ)) st.at) own;
}

-- a jump lands at one
pub lands_at : (t : Sheet) (a more : ℕ) (s : Known) (p : Point) → PointStands t a p → Promises s p → Affords t more s → Lands t s a
lands_at t a more s p st promised affords = record {
  goes = st.goes;
  paid = λ κ h. pays_for t a more s κ affords st.head h;
  implied = λ from κ h. ap (λ o. point_implied from κ o) st.at ∙ implied s κ p from promised h;
}

-- and what stands there is swept where nothing comes
pub begins_at : (t : Sheet) (a : ℕ) (p : Point) → PointStands t a p → Has (known_at p) (known_at p) → Here t a (known_at p) → Begins t a
begins_at t a p st own here = here None (known_at p) (ap (λ o. or_point o None) st.at) own

-- a point that promises ranges of words alone has all that it promises
pub has_own : (p : Point) → ((x : Slot) → Narrower (range_of (known_at p) x) any_word) → Has (known_at p) (known_at p)
has_own p words = record {
  stretch = refl;
  spent = refl;
  range = λ x. told_self (known_at p).range x;
  fresh = λ a h. h;
  flags = λ h. h;
  test = refl;
  words = words;
}
  where
    narrow_self : (r : Range) → Narrower r r
    narrow_self r = record { least = omega arith; greatest = omega arith; even = λ h. h }

    tells_self : (o : Option Range) → Tells o o
    tells_self None = anything None
    tells_self (Some r) = narrower r r (narrow_self r)

    told_self : (range : Slot → Option Range) (x : Slot) → Tells (range x) (range x)
    told_self range x = tells_self (range x)
