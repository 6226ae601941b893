-- Where nothing is known but the stretch and what has been spent: how code goes on to that, and to points without fresh words.
use Rattle.std.proofs.Common.{◌≡◌, ℕ, ◌+◌, ◌*◌, ◌-◌, ◌≤◌, ◌<◌, Bool, true, false, Some, None, List, [], ◌∷◌, refl, sym, ap, ◌∙◌, subst, arith}
use Rattle.std.specs.Prelude.{ℤ, pos, ◌+ℤ◌, ◌-ℤ◌, ◌&&◌, ◌||◌, nat_le, nat_lt, is_some, unwrap_or, if◌then◌else◌}
use Rattle.std.specs.Int.Signed.{◌≤ℤ◌, le_z}
use Rattle.std.proofs.lemmas.Int.{ints}
use Rattle.std.proofs.lemmas.Nat.{mul-le}
use Rattle.std.proofs.lemmas.Bool.Decides.{nat_tests}
use Rattle.certificate.specs.declared.cert.Slot.{Slot}
use Rattle.certificate.specs.declared.cert.Slot.TheVariants.{Reg}
use Rattle.certificate.specs.declared.cert.Fact.{Fact}
use Rattle.certificate.specs.declared.cert.Term.{Term}
use Rattle.certificate.specs.Rows.{Point}
use Rattle.msp430_isa.specs.declared.instr.Instr.{Instr}
use Rattle.cert_rules.specs.Ranges.{Range, any_word}
use Rattle.cert_rules.specs.Slots.{same_slot}
use Rattle.cert_rules.specs.Spending.{lack, greatest_bound, most_added, least_taken}
use Rattle.cert_rules.specs.Known.{Known, range_of, range_in, known_at, bare}
use Rattle.cert_rules.specs.Tables.{contains}
use Rattle.cert_rules.specs.Sheet.{Sheet, is_head}
use Rattle.cert_rules.specs.Going.{limit_of, spent_to}
use Rattle.cert_pieces.specs.Pieces.{Has, Tells, anything, Narrower, Affords, Falls, Lands, Begins, Here, Plain, StandsWith, PointStands, Promises, range_of_fact, IsLost, Ranged}
use Rattle.cert_pieces.proofs.Paying.{told, le_z_is}
use Rattle.cert_pieces.proofs.Writing.{any_range, is_word_range}
use Rattle.cert_pieces.proofs.Straight.{weaken}
use Rattle.cert_pieces.proofs.Pointing.{falls_to, lands_at, begins_at, has_own}

-- ---- All may be lost

abbrev pub gone : Slot → Bool
gone x = true

pub lost_all : (w : Slot) → IsLost gone w
lost_all w x h = absurd (let no : true ≡ false = h in cc)

-- ---- Forgetting all but what has been spent

no_flags : (b : Bool) → false ≡ true → b ≡ true
no_flags b h = absurd (let no : false ≡ true = h in cc)

pub bare_has : (st n : ℕ) (v κ : Known) → v.stretch ≡ st → v.test ≡ None → v.spent ≡ record { base = pos n; terms = [] } → Has v κ → Has (bare st n) κ
bare_has st n v κ e test spent h = record {
  stretch = h.stretch ∙ e;
  spent = h.spent ∙ spent;
  range = λ x. anything (κ.range x);
  fresh = λ a k. no_flags (κ.fresh a) k;
  flags = λ k. no_flags κ.flags k;
  test = h.test ∙ test;
  words = h.words;
}

pub to_bare : (t : Sheet) (a st n : ℕ) (v : Known) → v.stretch ≡ st → v.test ≡ None → v.spent ≡ record { base = pos n; terms = [] } → Falls t (bare st n) a → Falls t v a
to_bare t a st n v e test spent falls = weaken t a v (bare st n) e (λ κ h. bare_has st n v κ e test spent h) falls

pub land_bare : (t : Sheet) (a st n : ℕ) (v : Known) → v.stretch ≡ st → v.test ≡ None → v.spent ≡ record { base = pos n; terms = [] } → Lands t (bare st n) a → Lands t v a
land_bare t a st n v e test spent lands = record {
  goes = lands.goes;
  paid = λ κ h. subst (λ m. le_z (spent_to t a κ) (pos (limit_of t m)) ≡ true) (sym e) (lands.paid κ (bare_has st n v κ e test spent h));
  implied = λ from κ h. lands.implied from κ (bare_has st n v κ e test spent h);
}

-- ---- Where the cost pays

pays_plain : (z l : ℤ) (more : ℕ) → (z +ℤ pos more) ≤ℤ l → (z +ℤ pos 0 -ℤ pos 0 +ℤ pos more) ≤ℤ l
pays_plain z l more h = omega (arith, ints, h)

pub affords_plain : (t : Sheet) (more : ℕ) (s : Known) (z : ℤ) → s.spent ≡ record { base = z; terms = [] } → (z +ℤ pos more) ≤ℤ pos (limit_of t s.stretch) → Affords t more s
affords_plain t more s z e h = record {
  ranged = subst (λ spent. Ranged s spent.terms) (sym e) tt;
  pays = ap (λ spent. le_z (greatest_bound (range_of s) spent +ℤ pos more) (pos (limit_of t s.stretch))) e ∙ le_z_is _ _ (pays_plain z (pos (limit_of t s.stretch)) more h);
}

-- a turn that each one left takes off
abbrev pub less_turns : ℕ → ℕ → List Term
less_turns f r = record { minus = true; factor = f; of = Reg r } ∷ []

pays_one : (z l : ℤ) (more f : ℕ) → (z +ℤ pos more) ≤ℤ (l +ℤ pos f) → (z +ℤ pos 0 -ℤ pos (f * 1 + 0) +ℤ pos more) ≤ℤ l
pays_one z l more f h = omega (arith, ints, h)

-- with one turn left at least
pub affords_turn : (t : Sheet) (more f r g : ℕ) (s : Known) (z : ℤ) → s.spent ≡ record { base = z; terms = less_turns f r } → s.range (Reg r) ≡ Some (record { least = 1; greatest = g; even = false })
    → (z +ℤ pos more) ≤ℤ (pos (limit_of t s.stretch) +ℤ pos f) → Affords t more s
affords_turn t more f r g s z e k h = record {
  ranged = subst (λ spent. Ranged s spent.terms) (sym e) (ap (λ o. is_some o) k, tt);
  pays = ap (λ spent. le_z (greatest_bound (range_of s) spent +ℤ pos more) (pos (limit_of t s.stretch))) e
      ∙ ap (λ o. le_z (z +ℤ pos 0 -ℤ pos (f * (unwrap_or o any_word).least + 0) +ℤ pos more) (pos (limit_of t s.stretch))) k
      ∙ le_z_is _ _ (pays_one z (pos (limit_of t s.stretch)) more f h);
}

-- ---- What a point promises, by its term

-- a turn counted for each that is left, where no term was
enters_z : (z y : ℤ) (f g r n : ℕ) → f * r ≤ f * g → n ≡ 0 → (z -ℤ y +ℤ pos (f * g)) ≤ℤ pos 0 → ((z -ℤ y) +ℤ pos (f * r + 0) -ℤ pos (n + 0)) ≤ℤ pos 0
enters_z z y f g r n h e k = omega (arith, ints, h, e, k)

zero_times : (n : ℕ) → 0 * n ≡ 0
zero_times n = omega arith

no_product : (f l : ℕ) → (0 - f) * l ≡ 0
no_product f l = ap (λ n. n * l) (zero_less f) ∙ zero_times l
  where
    zero_less : (n : ℕ) → 0 - n ≡ 0
    zero_less n = omega arith

less_none : (f r : ℕ) → (f - 0) * r ≡ f * r
less_none f r = ap (λ n. n * r) (same f)
  where
    same : (n : ℕ) → n - 0 ≡ n
    same n = omega arith

self_none : (f r : ℕ) → ((0 + f) - (f + 0)) * r ≡ 0
self_none f r = ap (λ n. n * r) (none f) ∙ zero_times r
  where
    none : (n : ℕ) → (0 + n) - (n + 0) ≡ 0
    none n = omega arith

self_none' : (f r : ℕ) → ((f + 0) - (0 + f)) * r ≡ 0
self_none' f r = ap (λ n. n * r) (none f) ∙ zero_times r
  where
    none : (n : ℕ) → (n + 0) - (0 + n) ≡ 0
    none n = omega arith

pub spent_enters : (s κ : Known) (p : Point) (z y : ℤ) (f r : ℕ) (told' : Range) → s.spent ≡ record { base = z; terms = [] } → p.spent ≡ record { base = y; terms = less_turns f r }
    → s.range (Reg r) ≡ Some told' → (z -ℤ y +ℤ pos (f * told'.greatest)) ≤ℤ pos 0 → Has s κ → le_z (lack (range_of κ) κ.spent p.spent) (pos 0) ≡ true
spent_enters s κ p z y f r told' e q k h has =
    let range = range_of κ in
    ap (λ n. le_z (lack range n p.spent) (pos 0)) (has.spent ∙ e)
    ∙ ap (λ n. le_z (lack range (record { base = z; terms = [] }) n) (pos 0)) q
    ∙ ap (λ n. le_z ((z -ℤ y) +ℤ pos (n + 0) -ℤ pos ((0 - f) * (range (Reg r)).least + 0)) (pos 0)) (less_none f (range (Reg r)).greatest)
    ∙ le_z_is _ _ (enters_z z y f told'.greatest (range (Reg r)).greatest _
    (mul-le f (range (Reg r)).greatest f told'.greatest (omega arith)
    (told (Some told') (κ.range (Reg r)) (subst (λ o. Tells o (κ.range (Reg r))) k (has.range (Reg r))) refl).greatest)
    (no_product f (range (Reg r)).least) h)

same_z : (z y : ℤ) (m n : ℕ) → m ≡ 0 → n ≡ 0 → z ≤ℤ y → ((z -ℤ y) +ℤ pos (m + 0) -ℤ pos (n + 0)) ≤ℤ pos 0
same_z z y m n d e h = omega (arith, ints, d, e, h)

pub spent_same : (s κ : Known) (p : Point) (z y : ℤ) (f r : ℕ) → s.spent ≡ record { base = z; terms = less_turns f r } → p.spent ≡ record { base = y; terms = less_turns f r }
    → same_slot (Reg r) (Reg r) ≡ true → z ≤ℤ y → Has s κ → le_z (lack (range_of κ) κ.spent p.spent) (pos 0) ≡ true
spent_same s κ p z y f r e q same h has =
    let range = range_of κ in
    ap (λ n. le_z (lack range n p.spent) (pos 0)) (has.spent ∙ e)
    ∙ ap (λ n. le_z (lack range (record { base = z; terms = less_turns f r }) n) (pos 0)) q
    ∙ ap (λ c. le_z ((z -ℤ y) +ℤ pos (most_added range (if c then record { of = Reg r; adds = 0 + f; takes = f + 0 } ∷ [] else record { of = Reg r; adds = 0; takes = f } ∷ record { of = Reg r; adds = f; takes = 0 } ∷ []))
    -ℤ pos (least_taken range (if c then record { of = Reg r; adds = 0 + f; takes = f + 0 } ∷ [] else record { of = Reg r; adds = 0; takes = f } ∷ record { of = Reg r; adds = f; takes = 0 } ∷ []))) (pos 0)) same
    ∙ le_z_is _ _ (same_z z y _ _ (self_none f (range (Reg r)).greatest) (self_none' f (range (Reg r)).least) h)

leaves_z : (z y : ℤ) (m n : ℕ) → m ≡ 0 → z ≤ℤ y → ((z -ℤ y) +ℤ pos (m + 0) -ℤ pos (n + 0)) ≤ℤ pos 0
leaves_z z y m n d h = omega (arith, ints, d, h)

pub spent_leaves : (s κ : Known) (p : Point) (z y : ℤ) (f r : ℕ) → s.spent ≡ record { base = z; terms = less_turns f r } → p.spent ≡ record { base = y; terms = [] }
    → z ≤ℤ y → Has s κ → le_z (lack (range_of κ) κ.spent p.spent) (pos 0) ≡ true
spent_leaves s κ p z y f r e q h has =
    let range = range_of κ in
    ap (λ n. le_z (lack range n p.spent) (pos 0)) (has.spent ∙ e)
    ∙ ap (λ n. le_z (lack range (record { base = z; terms = less_turns f r }) n) (pos 0)) q
    ∙ le_z_is _ _ (leaves_z z y _ _ (no_product f (range (Reg r)).greatest) h)

-- ---- Points

-- each fact is of words
abbrev pub OfWords : List Fact → Type 0
OfWords [] = Unit {0}
OfWords (f ∷ facts) = (f.greatest ≤ 65535) × OfWords facts

facts_words : (facts : List Fact) → OfWords facts → (x : Slot) → Narrower (unwrap_or (range_in facts x) any_word) any_word
facts_words [] h x = any_range
facts_words (f ∷ facts) h x =
    elim (same_slot f.of x) as (λ c. Narrower (unwrap_or (if c then Some (range_of_fact f) else range_in facts x) any_word) any_word) [
      | true ↦ is_word_range (range_of_fact f) h.0
      | false ↦ facts_words facts h.1 x
    ]

pub point_own : (p : Point) → OfWords p.facts → Has (known_at p) (known_at p)
point_own p h = has_own p (λ x. facts_words p.facts h x)

inside_is : (start a end : ℕ) → start ≤ a → a < end → nat_le start a && nat_lt a end ≡ true
inside_is start a end h k = grind (arith, nat_tests)

pub point_stands : (t : Sheet) (a : ℕ) (i : Instr) (p : Point) → StandsWith t a i (Some p) → PointStands t a p
point_stands t a i p st = record {
  at = st.point;
  inside = st.stands.inside;
  head = st.stands.head;
  goes = ap (λ o. (is_some o || is_head t a) && contains t.here a) st.point ∙ inside_is t.here.start a t.here.end st.begun st.stands.inside;
  turns = st.turns;
}

pub plain_stands : (t : Sheet) (a : ℕ) (i : Instr) → StandsWith t a i None → Plain t a i
plain_stands t a i st = record { stands = st.stands; none = st.point }

pub into_point : (t : Sheet) (a more : ℕ) (i : Instr) (p : Point) (v : Known) → StandsWith t a i (Some p) → Promises v p → Affords t more v → OfWords p.facts → Here t a (known_at p) → Falls t v a
into_point t a more i p v st promised affords words here = falls_to t a more v p (point_stands t a i p st) promised affords (point_own p words) here

pub onto_point : (t : Sheet) (a more : ℕ) (i : Instr) (p : Point) (v : Known) → StandsWith t a i (Some p) → Promises v p → Affords t more v → Lands t v a
onto_point t a more i p v st promised affords = lands_at t a more v p (point_stands t a i p st) promised affords

pub at_point : (t : Sheet) (a : ℕ) (i : Instr) (p : Point) → StandsWith t a i (Some p) → OfWords p.facts → Here t a (known_at p) → Begins t a
at_point t a i p st words here = begins_at t a p (point_stands t a i p st) (point_own p words) here
