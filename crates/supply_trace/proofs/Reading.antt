-- Lines, and the numbers on them.
use Rattle.std.proofs.Common.{◌≡◌, ◌∙◌, ◌*◌, ◌+◌, ◌&&◌, ◌<◌, ◌≤◌, ◌++◌, ℕ, Bool, true, false, List, [], ◌∷◌, Option, Some, None, refl, sym, ap, length, arith, take, drop, ◌-◌, inl, inr, nat_lt, nat_le, not, unwrap_or, get_or, suc, append_assoc, append-nil, option_to_list}
use Rattle.std.specs.Prelude.{if◌then◌else◌}
use Rattle.std.specs.List.{after_first, before_first, list_all, cons_option, onto_first, position, position_or_len, slice_split}
use Rattle.std.specs.Char.{digit_value, is_digit}
use Rattle.std.specs.Str.Parse.{digits_value_after}
use Rattle.std.proofs.lemmas.Bool.{cases_Bool, ltb-false, leb-true}
use Rattle.std.proofs.lemmas.List.Sums.{prefix_len-le-length}
use Rattle.std.proofs.lemmas.List.Splits.{slice_split-cons_no, slice_split_first}
use Rattle.std.proofs.Math.Seq.{take-length}
use Rattle.std.proofs.lemmas.List.{length-drop}
use Rattle.msp430_machine.specs.declared.answer.Refill.{Refill}
use Rattle.supply_trace.specs.Rows.{amount_behind, bad_line, digit_of, is_feed, is_line, lines_of, row_of, rows_of}

pub not_found : {X : Type 0} (p : X → Bool) (xs : List X) → None ≡ position p xs → length xs ≡ position_or_len p xs
not_found p xs none = elim (cases_Bool (nat_lt (position_or_len p xs) (length xs))) [
  | inl less ↦ absurd (let found : None ≡ Some (position_or_len p xs) = rw less at none in cc)
  | inr least ↦ omega (arith, ltb-false (position_or_len p xs) (length xs) least, prefix_len-le-length (λ x. not (p x)) xs)
]

-- digits behind a number make it no less
grows : (n : ℕ) (digits : List ℕ) → n ≤ digits_value_after 10 n digits
grows n [] = omega arith
grows n (c ∷ digits) = let more = grows (n * 10 + digit_value c) digits in omega (arith, more)

none_of : (all less : Bool) (n : ℕ) → less ≡ false → None ≡ (if all && less then Some n else None)
none_of true less n e = rw e refl
none_of false less n e = refl

above_most : (all : Bool) (n : ℕ) → 1000000000 < n → None ≡ (if all && nat_le n 1000000000 then Some n else None)
above_most all n h = none_of all (nat_le n 1000000000) n (elim (cases_Bool (nat_le n 1000000000)) [
  | inl within ↦ absurd (omega (arith, h, leb-true n 1000000000 within))
  | inr beyond ↦ beyond
])

value_of_digit : (c d : ℕ) → Some d ≡ digit_of 10 c → d ≡ digit_value c
value_of_digit c d e = elim (cases_Bool (is_digit c 10)) [
  | inl is ↦ ap (λ o. unwrap_or o 0) (let same : Some d ≡ Some (digit_value c) = rw is at e in same)
  | inr other ↦ absurd (let none : Some d ≡ None = rw other at e in cc)
]

-- a digit more makes the number too great
pub too_much : (n d : ℕ) (digits : List ℕ) → 1 ≤ length digits → Some d ≡ digit_of 10 (get_or digits 0 0) → 1000000000 < n * 10 + d
    → None ≡ amount_behind n digits
too_much n d [] l e h = absurd (let none : 1 ≤ 0 = l in omega (arith, none))
too_much n d (c ∷ digits) l e h =
    above_most (list_all (λ c. is_digit c 10) (c ∷ digits)) (digits_value_after 10 n (c ∷ digits))
    (omega (arith, h, grows (n * 10 + digit_value c) digits, value_of_digit c d e))

-- ---- lines

whole : (text : List ℕ) → length text ≤ position_or_len is_feed text → slice_split is_feed text ≡ text ∷ []
whole [] l = refl
whole (b ∷ text) l = elim (cases_Bool (is_feed b)) [
  | inl feed ↦ absurd (let m : suc (length text) ≤ 0 = rw feed at l in omega (arith, m))
  | inr other ↦
      let m : suc (length text) ≤ 1 + position_or_len is_feed text = rw other at l in
      slice_split-cons_no is_feed b text other ∙ ap (onto_first b) (whole text (omega (arith, m)))
]

pub last_line : (text : List ℕ) → position_or_len is_feed text ≡ length text → lines_of text ≡ text ∷ []
last_line text e = whole text (omega (arith, e))

pub line_before : (text : List ℕ) → position_or_len is_feed text < length text
    → lines_of text ≡ before_first is_feed text ∷ lines_of (after_first is_feed text)
line_before text l = slice_split_first is_feed text 0 l

rest_of : (k : ℕ) (text : List ℕ) → take (length text - k) (drop k text) ≡ drop k text
rest_of k text = ap (λ n. take n (drop k text)) (sym (length-drop k text)) ∙ take-length (drop k text)

-- the parts as they are cut
pub cut_at : (text : List ℕ) (end : ℕ) → end ≡ position_or_len is_feed text
    → (before_first is_feed text ∷ lines_of (after_first is_feed text)) ≡ take end text ∷ lines_of (take (length text - (end + 1)) (drop (end + 1) text))
cut_at text end e = rw (rest_of (end + 1) text, e) refl

-- a line that is empty or a row is passed over
pub passed : (at : ℕ) (line : List ℕ) (all more : List (List ℕ)) → all ≡ line ∷ more → true ≡ is_line line
    → bad_line at all ≡ bad_line (at + length line + 1) more
passed at line all more e good = rw (e, sym good) refl

pub stopped : (at : ℕ) (line : List ℕ) (all more : List (List ℕ)) → all ≡ line ∷ more → false ≡ is_line line → bad_line at all ≡ Some at
stopped at line all more e bad = rw (e, sym bad) refl

joined : (rows more : List Refill) (o : Option Refill) → rows ++ cons_option o more ≡ (rows ++ option_to_list o) ++ more
joined rows more None = ap (λ l. l ++ more) (sym (append-nil rows))
joined rows more (Some row) = sym (append_assoc rows (row ∷ []) more)

-- its row, if it has one, is the next
pub added : (rows now : List Refill) (line : List ℕ) (all more : List (List ℕ)) → all ≡ line ∷ more → now ≡ rows ++ option_to_list (row_of line)
    → rows ++ rows_of all ≡ now ++ rows_of more
added rows now line all more e next = rw (e, next) (joined rows (rows_of more) (row_of line))
