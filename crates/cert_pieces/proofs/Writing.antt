-- What is told of a state behind an instruction that writes one slot.
use Rattle.std.proofs.Common.{◌≡◌, ℕ, ◌+◌, ◌≤◌, ◌*◌, ◌/◌, ◌%◌, ◌-◌, Bool, true, false, not, Option, Some, None, List, [], ◌∷◌, refl, sym, ap, ◌∙◌, subst, arith}
use Rattle.std.specs.Prelude.{unwrap_or, if◌then◌else◌, ◌&&◌, ◌||◌, filter, ℤ, pos, ◌+ℤ◌, ◌-ℤ◌, nat_le, ◌==◌}
use Rattle.std.proofs.lemmas.Bool.Decides.{nat_tests}
use Rattle.msp430_machine.specs.Addresses.{in_port}
use Rattle.std.proofs.lemmas.Int.{ints}
use Rattle.certificate.specs.declared.cert.Slot.{Slot}
use Rattle.certificate.specs.declared.cert.Slot.TheVariants.{Reg, Word}
use Rattle.certificate.specs.declared.cert.Term.{Term}
use Rattle.certificate.specs.Rows.{Spent}
use Rattle.msp430_isa.specs.declared.instr.TwoOp.{TwoOp}
use Rattle.msp430_isa.specs.declared.instr.TwoOp.TheVariants.{Mov as MOV, Add as ADD, Sub as SUB, And as AND}
use Rattle.cert_rules.specs.Slots.{same_slot, is_held, is_sram, first_word, first_in}
use Rattle.cert_rules.specs.Ranges.{Range, any_word, rises, falls, raised, lowered, doubled}
use Rattle.cert_rules.specs.Spending.{settled, paying, greatest_bound, when_raised, when_lowered, added, taken_off}
use Rattle.cert_rules.specs.Known.{Known, Test, range_of, with_cost, freshened}
use Rattle.cert_rules.specs.Places.{Place, Number, InReg, InReach, is_certain}
use Rattle.cert_rules.specs.Effects.{source_range, range_after, spent_after, with_written}
use Rattle.cert_pieces.specs.Pieces.{Has, Tells, narrower, Narrower, puts, puts_word, Free}

none_hit : (w : Slot) (terms : List Term) → Free w terms → filter (λ t. same_slot t.of w) terms ≡ []
none_hit w [] free = refl
none_hit w (t ∷ terms) free = ap (λ c. if c then t ∷ filter (λ u. same_slot u.of w) terms else filter (λ u. same_slot u.of w) terms) free.0 ∙ none_hit w terms free.1

still : (z : ℤ) → z -ℤ pos 0 +ℤ pos 0 ≡ z
still z = omega (arith, ints)

still' : (z : ℤ) → z +ℤ pos 0 -ℤ pos 0 ≡ z
still' z = omega (arith, ints)

all_stay : (w : Slot) (terms : List Term) → Free w terms → filter (λ t. not (same_slot t.of w)) terms ≡ terms
all_stay w [] free = refl
all_stay w (t ∷ terms) free =
    ap (λ c. if not c then t ∷ filter (λ u. not (same_slot u.of w)) terms else filter (λ u. not (same_slot u.of w)) terms) free.0
    ∙ ap (λ us. t ∷ us) (all_stay w terms free.1)

pub same_base : (z : ℤ) (range : Slot → Range) → greatest_bound range (record { base = z; terms = [] }) ≡ z
same_base z range = omega (arith, ints)

-- a slot without a term is forgotten without a trace in what is spent
pub settles : (w : Slot) (range : Slot → Range) (s : Spent) → Free w s.terms → settled (λ x. same_slot x w) range s ≡ s
settles w range s free =
    ap (λ us. record { base = greatest_bound range (record { base = s.base; terms = us }); terms = filter (λ t. not (same_slot t.of w)) s.terms }) (none_hit w s.terms free)
    ∙ ap (λ us. record { base = greatest_bound range (record { base = s.base; terms = [] }); terms = us }) (all_stay w s.terms free)
    ∙ ap (λ z. record { base = z; terms = s.terms }) (same_base s.base range)

-- ---- A slot is written

pub range_told : (hit : Bool) (asked κ : Option Range) (r told : Range) → Narrower r told → Tells asked κ → Tells (if hit then Some told else asked) (if hit then Some r else κ)
range_told true asked κ r told n h = narrower told r n
range_told false asked κ r told n h = h

pub words_told : (hit : Bool) (κ : Option Range) (r : Range) → Narrower r any_word → Narrower (unwrap_or κ any_word) any_word
    → Narrower (unwrap_or (if hit then Some r else κ) any_word) any_word
words_told true κ r n h = n
words_told false κ r n h = h

-- What is spent stays as it is, in a slot without a term.
raises_none : (w : Slot) (c : ℕ) (s : Spent) → Free w s.terms → when_raised w c s ≡ s
raises_none w c s free =
    ap (λ us. record { base = s.base -ℤ pos (added (λ x. c) us) +ℤ pos (taken_off (λ x. c) us); terms = s.terms }) (none_hit w s.terms free)
    ∙ ap (λ z. record { base = z; terms = s.terms }) (still s.base)

lowers_none : (w : Slot) (c : ℕ) (s : Spent) → Free w s.terms → when_lowered w c s ≡ s
lowers_none w c s free =
    ap (λ us. record { base = s.base +ℤ pos (added (λ x. c) us) -ℤ pos (taken_off (λ x. c) us); terms = s.terms }) (none_hit w s.terms free)
    ∙ ap (λ z. record { base = z; terms = s.terms }) (still' s.base)

either : {A : Type 0} (c : Bool) (x y z : A) → x ≡ z → y ≡ z → (if c then x else y) ≡ z
either true x y z e f = e
either false x y z e f = f

pub spent_stays : (κ : Known) (op : TwoOp) (src : Place) (w : Slot) → Free w κ.spent.terms → spent_after κ op src w ≡ κ.spent
spent_stays κ ADD (Number c) w free = either (rises (range_of κ w) c) _ _ _ (raises_none w c κ.spent free) (settles w (range_of κ) κ.spent free)
spent_stays κ SUB (Number c) w free = either (falls (range_of κ w) c) _ _ _ (lowers_none w c κ.spent free) (settles w (range_of κ) κ.spent free)
spent_stays κ op src w free = settles w (range_of κ) κ.spent free

flagged : (leaves flags told : Bool) → (told ≡ true → flags ≡ true) → leaves || told ≡ true → leaves || flags ≡ true
flagged true flags told h e = refl
flagged false flags told h e = h e

-- behind an instruction that writes a slot, with what is told of its range
pub puts_has : (w : Slot) (c : ℕ) (op : TwoOp) (src : Place) (told : Range) (leaves : Bool) (test test' : Option Test) (asked κ : Known) → test' ≡ test
    → Narrower (range_after (with_cost c κ) op src w) told → Narrower (range_after (with_cost c κ) op src w) any_word → Free w asked.spent.terms → Has asked κ
    → Has (puts w told c (leaves || asked.flags) test asked) (record (with_written op src w (with_cost c κ)) { flags = leaves || κ.flags; test = test' })
puts_has w c op src told leaves test test' asked κ e n m free has =
    let paid = with_cost c κ in
    let r = range_after paid op src w in
    record {
      stretch = has.stretch;
      spent = spent_stays paid op src w (subst (λ s. Free w s.terms) (sym has.spent) free) ∙ ap (λ s. paying c s) has.spent;
      range = λ x. range_told (same_slot x w && is_held w) (asked.range x) (κ.range x) r told n (has.range x);
      fresh = has.fresh;
      flags = flagged leaves κ.flags asked.flags has.flags;
      test = e;
      words = λ x. words_told (same_slot x w && is_held w) (κ.range x) r m (has.words x);
    }

fresher : (c p q : Bool) → (p ≡ true → q ≡ true) → c || p ≡ true → c || q ≡ true
fresher true p q h e = refl
fresher false p q h e = h e

pub word_has : (d c : ℕ) (op : TwoOp) (src : Place) (told : Range) (leaves : Bool) (test test' : Option Test) (asked κ : Known) → test' ≡ test
    → Narrower (range_after (with_cost c κ) op src (Word d)) told → Narrower (range_after (with_cost c κ) op src (Word d)) any_word → Free (Word d) asked.spent.terms → Has asked κ
    → Has (puts_word d told c (leaves || asked.flags) test asked) (record (freshened d d (with_written op src (Word d) (with_cost c κ))) { flags = leaves || κ.flags; test = test' })
word_has d c op src told leaves test test' asked κ e n m free has = let h = puts_has (Word d) c op src told leaves test test' asked κ e n m free has in record {
  stretch = h.stretch;
  spent = h.spent;
  range = h.range;
  fresh = λ a. fresher (nat_le d a && nat_le a d && is_sram a) (asked.fresh a) (κ.fresh a) (has.fresh a);
  flags = h.flags;
  test = e;
  words = h.words;
}

-- ---- One word

one_step : (p : ℕ → Bool) (a from n : ℕ) → from ≡ a → n ≡ 1 → first_word p from n ≡ (if p a then Some a else None)
one_step p a from n e f = ap (λ k. first_word p k n) e ∙ ap (λ k. first_word p a k) f

pub in_one : (p : ℕ → Bool) (a : ℕ) → a % 2 ≡ 0 → first_in p a a ≡ (if p a then Some a else None)
in_one p a even = one_step p a (a + a % 2) ((a + 2 - (a + a % 2)) / 2) (omega (arith, even)) (omega (arith, even))

-- ---- Ranges of results are words

pub any_range : Narrower any_word any_word
any_range = record { least = omega arith; greatest = omega arith; even = λ h. h }

no_even : (b : Bool) → false ≡ true → b ≡ true
no_even b h = absurd (let no : false ≡ true = h in cc)

pub is_word_range : (r : Range) → r.greatest ≤ 65535 → Narrower r any_word
is_word_range r h = record { least = omega arith; greatest = h; even = λ e. no_even r.even e }

chosen : (c : Bool) (x y : Range) → (c ≡ true → Narrower x any_word) → Narrower y any_word → Narrower (if c then x else y) any_word
chosen true x y h k = h refl
chosen false x y h k = k

le_of : (x y : ℕ) → nat_le x y ≡ true → x ≤ y
le_of x y h = grind (arith, nat_tests)

raised_words : (r : Range) (c : ℕ) → Narrower (raised r c) any_word
raised_words r c = chosen (rises r c) _ _ (λ h. is_word_range _ (le_of (r.greatest + c) 65535 h)) (is_word_range _ (omega arith))

lowered_words : (r : Range) (c : ℕ) → Narrower r any_word → Narrower (lowered r c) any_word
lowered_words r c n = chosen (falls r c) _ _ (λ h. is_word_range _ (omega (arith, n.greatest))) (is_word_range _ (omega arith))

doubled_words : (r : Range) → Narrower (doubled r) any_word
doubled_words r = chosen (nat_le (2 * r.greatest) 65535) _ _ (λ h. is_word_range _ (le_of (2 * r.greatest) 65535 h)) (is_word_range _ (omega arith))

-- a constant is a word
abbrev pub IsWordPlace : Place → Type 0
IsWordPlace (Number v) = v ≤ 65535
IsWordPlace p = Unit {0}

source_words : (κ : Known) (src : Place) → ((x : Slot) → Narrower (range_of κ x) any_word) → IsWordPlace src → Narrower (source_range κ src) any_word
source_words κ (Number v) words h = is_word_range _ h
source_words κ (InReg r) words h = words (Reg r)
source_words κ (InReach p) words h = chosen (is_certain p && not (p.least == in_port)) _ _ (λ e. words (Word p.least)) any_range

pub after_words : (κ : Known) (op : TwoOp) (src : Place) (w : Slot) → ((x : Slot) → Narrower (range_of κ x) any_word) → IsWordPlace src → Narrower (range_after κ op src w) any_word
after_words κ MOV src w words h = source_words κ src words h
after_words κ ADD (Number c) w words h = raised_words (range_of κ w) c
after_words κ ADD (InReg r) w words h = chosen (same_slot (Reg r) w) _ _ (λ e. doubled_words (range_of κ w)) any_range
after_words κ SUB (Number c) w words h = lowered_words (range_of κ w) c (words w)
after_words κ AND (Number m) w words h = is_word_range _ h
after_words κ op src w words h = any_range
