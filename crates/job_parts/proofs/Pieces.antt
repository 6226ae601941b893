-- Pieces of a text between white bytes, and the words in them.
use Rattle.std.proofs.Common.{◌≡◌, ◌∙◌, ◌+◌, ◌<◌, ◌≤◌, ℕ, Bool, List, [], ◌∷◌, Some, None, refl, sym, ap, length, arith, take, drop, ◌-◌, inl, inr, nat_lt, not, suc}
use Rattle.std.specs.Prelude.{IsUtf8}
use Rattle.std.specs.List.{after_first, before_first, onto_first, position, position_or_len, slice_split}
use Rattle.std.proofs.lemmas.Bool.{cases_Bool, ltb-false}
use Rattle.std.proofs.lemmas.Fmt.{IsAscii-from_digits}
use Rattle.std.proofs.lemmas.List.Sums.{prefix_len-le-length}
use Rattle.std.proofs.lemmas.List.Splits.{slice_split-cons_no, slice_split_first}
use Rattle.std.proofs.lemmas.Str.{IsUtf8-from_ascii}
use Rattle.std.proofs.Math.Seq.{take-length}
use Rattle.std.proofs.lemmas.List.{length-drop}
use Rattle.job_parts.specs.Words.{is_decimal}
use Rattle.job_parts.specs.Input.{is_white, pieces_of, word_in}
use Rattle.job_parts.proofs.Digits.{no_decimal, numeral}

-- Bytes that are no text are no word.
pub no_text : (piece : List ℕ) → (IsUtf8 piece → ⊥) → None ≡ word_in piece
no_text piece strange = elim (cases_Bool (is_decimal piece)) [
  | inl digits ↦ absurd (strange (IsUtf8-from_ascii piece (IsAscii-from_digits piece (numeral piece digits).0.1)))
  | inr other ↦ no_decimal piece 0 65535 other
]

pub not_found : {X : Type 0} (p : X → Bool) (xs : List X) → None ≡ position p xs → length xs ≡ position_or_len p xs
not_found p xs none = elim (cases_Bool (nat_lt (position_or_len p xs) (length xs))) [
  | inl less ↦ absurd (let found : None ≡ Some (position_or_len p xs) = rw less at none in cc)
  | inr least ↦ omega (arith, ltb-false (position_or_len p xs) (length xs) least, prefix_len-le-length (λ x. not (p x)) xs)
]

whole : (text : List ℕ) → length text ≤ position_or_len is_white text → slice_split is_white text ≡ text ∷ []
whole [] l = refl
whole (b ∷ text) l = elim (cases_Bool (is_white b)) [
  | inl white ↦ absurd (let m : suc (length text) ≤ 0 = rw white at l in omega (arith, m))
  | inr other ↦
      let m : suc (length text) ≤ 1 + position_or_len is_white text = rw other at l in
      slice_split-cons_no is_white b text other ∙ ap (onto_first b) (whole text (omega (arith, m)))
]

pub last_piece : (text : List ℕ) → position_or_len is_white text ≡ length text → pieces_of text ≡ text ∷ []
last_piece text e = whole text (omega (arith, e))

pub piece_before : (text : List ℕ) → position_or_len is_white text < length text
    → pieces_of text ≡ before_first is_white text ∷ pieces_of (after_first is_white text)
piece_before text l = slice_split_first is_white text 0 l

rest_of : (k : ℕ) (text : List ℕ) → take (length text - k) (drop k text) ≡ drop k text
rest_of k text = ap (λ n. take n (drop k text)) (sym (length-drop k text)) ∙ take-length (drop k text)

-- the parts as they are cut
pub cut_at : (text : List ℕ) (end : ℕ) → end ≡ position_or_len is_white text
    → (before_first is_white text ∷ pieces_of (after_first is_white text)) ≡ take end text ∷ pieces_of (take (length text - (end + 1)) (drop (end + 1) text))
cut_at text end e = rw (rest_of (end + 1) text, e) refl
