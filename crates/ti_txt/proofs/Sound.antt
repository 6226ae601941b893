-- A text that is read to its end is in the grammar, with its puts.
use Rattle.std.proofs.Common.{◌≡◌, ℕ, ◌+◌, ◌-◌, ◌*◌, ◌≤◌, ◌<◌, List, [], ◌∷◌, ◌++◌, length, length-append, append_assoc, Option, Some, None, refl, sym, ap, ◌∙◌, arith, true, false, Bool, subst}
use Rattle.std.specs.Prelude.{All, ◌==◌, if◌then◌else◌, nat_lt}
use Rattle.std.specs.Option.{option_and_then, option_map}
use Rattle.std.proofs.lemmas.Bool.{eqb-false, ltb-true}
use Rattle.std.proofs.lemmas.List.Elements.{All-nil, All-cons}
use Rattle.ti_txt.specs.Grammar.{Put, Puts, digit_of, is_white, number_from}
use Rattle.ti_txt.specs.Grammar.Puts.{white, segment, byte, end}
use Rattle.ti_txt.specs.Spots.{put_of, step_of}
use Rattle.ti_txt.specs.declared.spot.Spot.{Spot}
use Rattle.ti_txt.specs.declared.spot.Spot.TheVariants.{Before, Between, Origin, Half, Whole, Ended}
use Rattle.ti_txt.proofs.Complete.{no_put, none_some, some_same}
use Rattle.ti_txt.proofs.Lex.{Lexed, behind, done, lex, prefix, stands, stops}
use Rattle.ti_txt.proofs.Steps.{GapStep, by_white, by_sign, by_end, by_digit, by_none, gap_of, gap_step}

-- The ending of a lexed text that is done.
is_done : (l : Lexed) (puts : List Put) → l ≡ done puts → (l.ending ≡ stands Ended) × (l.puts ≡ puts)
is_done l puts e = (ap (λ (m : Lexed). m.ending) e, ap (λ (m : Lexed). m.puts) e)

none_done : (at : ℕ) (rest : Spot → Lexed) (puts : List Put) → behind at None rest ≡ done puts → ⊥
none_done at rest puts e = let f : stops at ≡ stands Ended = ap (λ (m : Lexed). m.ending) e in cc

-- the spots behind the byte, seen from within a word
pub data OriginStep (n a b : ℕ) : Option Spot → Type 0 where
  to_gap : is_white b ≡ true → 0 < n → OriginStep n a b (Some (Between a))
  to_digit : (d : ℕ) → n < 4 → digit_of b ≡ Some d → OriginStep n a b (Some (Origin (n + 1) (16 * a + d)))
  to_none : OriginStep n a b None

digits_on : (n a b : ℕ) (o : Option ℕ) → n < 4 → digit_of b ≡ o → OriginStep n a b (option_map (λ d. Origin (n + 1) (16 * a + d)) o)
digits_on n a b None few e = to_none
digits_on n a b (Some d) few e = to_digit d few e

counted : (n a b : ℕ) (t : Bool) → nat_lt n 4 ≡ t → OriginStep n a b (if t then option_map (λ d. Origin (n + 1) (16 * a + d)) (digit_of b) else None)
counted n a b true e = digits_on n a b (digit_of b) (ltb-true n 4 e) refl
counted n a b false e = to_none

empty : (n a b : ℕ) (t : Bool) → is_white b ≡ true → (n == 0) ≡ t → OriginStep n a b (if t then None else Some (Between a))
empty n a b true w e = to_none
empty n a b false w e = to_gap w (omega (arith, eqb-false n 0 e))

origin_way : (n a b : ℕ) (t : Bool) → is_white b ≡ t → OriginStep n a b (if t then (if n == 0 then None else Some (Between a)) else (if nat_lt n 4 then option_map (λ d. Origin (n + 1) (16 * a + d)) (digit_of b) else None))
origin_way n a b true w = empty n a b (n == 0) w refl
origin_way n a b false w = counted n a b (nat_lt n 4) refl

origin_cases : (n a b : ℕ) → OriginStep n a b (step_of (Origin n a) b)
origin_cases n a b = origin_way n a b (is_white b) refl

number_last : (n b d : ℕ) (o : Option ℕ) → o ≡ Some d → option_and_then (λ e. Some (16 * n + e)) o ≡ Some (16 * n + d)
number_last n b d None is = absurd (none_some d is)
number_last n b d (Some e) is = ap (λ k. Some (16 * n + k)) (some_same e d is)

number_on : (n a : ℕ) (f g : ℕ → Option ℕ) (r : ℕ) (o : Option ℕ) → ((e : ℕ) → f e ≡ Some a → g e ≡ Some r) → option_and_then f o ≡ Some a → option_and_then g o ≡ Some r
number_on n a f g r None h number = absurd (none_some a number)
number_on n a f g r (Some e) h number = h e number

number_more : (digits : List ℕ) (n a b d : ℕ) → number_from n digits ≡ Some a → digit_of b ≡ Some d → number_from n (digits ++ b ∷ []) ≡ Some (16 * a + d)
number_more [] n a b d number is = number_last n b d (digit_of b) is ∙ ap (λ k. Some (16 * k + d)) (some_same n a number)
number_more (x ∷ digits) n a b d number is =
    number_on n a (λ e. number_from (16 * n + e) digits) (λ e. number_from (16 * n + e) (digits ++ b ∷ [])) (16 * a + d) (digit_of x) (λ e f. number_more digits (16 * n + e) a b d f is) number

-- What holds of a rest of a text that is read to its end, from within each word.
record Sound (text : List ℕ) : Type 0 where
  gap : (at : ℕ) (next : Option ℕ) (puts : List Put) → lex at (gap_of next) text ≡ done puts → Puts at next text puts
  origin : (at start : ℕ) (next : Option ℕ) (n a : ℕ) (digits : List ℕ) (puts : List Put) → n ≡ length digits → n ≤ 4 → number_from 0 digits ≡ Some a
      → at ≡ start + length digits + 1 → lex at (Origin n a) text ≡ done puts → Puts start next (64 ∷ digits ++ text) puts
  half : (at start a x high : ℕ) (puts : List Put) → at ≡ start + 1 → digit_of high ≡ Some x
      → lex at (Half a x) text ≡ done puts → Puts start (Some a) (high ∷ text) puts
  whole : (at start a high low x y : ℕ) (puts : List Put) → at ≡ start + 2 → digit_of high ≡ Some x → digit_of low ≡ Some y
      → lex at (Whole a (16 * x + y)) text ≡ done puts → Puts start (Some a) (high ∷ low ∷ text) (put_of start a (16 * x + y) ∷ puts)
  ended : (at : ℕ) (puts : List Put) → lex at Ended text ≡ done puts → (puts ≡ []) × All (λ w. is_white w ≡ true) text

pub done_of : (l : Lexed) → l.ending ≡ stands Ended → l ≡ done l.puts
done_of l e = ap (λ ending. let r : Lexed = record { puts = l.puts; ending = ending } in r) e

gap_by : (b : ℕ) (rest : List ℕ) → Sound rest → (at : ℕ) (next : Option ℕ) (puts : List Put) (o : Option Spot) → GapStep next b o
    → behind at o (λ s. lex (at + 1) s rest) ≡ done puts → Puts at next (b ∷ rest) puts
gap_by b rest h at next puts _ (by_white _ _ w) e =
    white at next b rest puts w (h.gap (at + 1) next puts (sym (ap (λ ps. prefix ps (lex (at + 1) (gap_of next) rest)) (no_put at next)) ∙ e))
gap_by b rest h at next puts _ (by_sign _ _ same) e =
    subst (λ c. Puts at next (c ∷ rest) puts) (sym same) (h.origin (at + 1) at next 0 0 [] puts refl (omega arith) refl (omega arith) e)
gap_by b rest h at next puts _ (by_end _ _ same) e =
    let p = h.ended (at + 1) puts e in
    subst (λ c. Puts at next (c ∷ rest) puts) (sym same) (subst (λ ps. Puts at next (113 ∷ rest) ps) (sym p.0) (end at next rest p.1))
gap_by b rest h at _ puts _ (by_digit a _ d is) e = h.half (at + 1) at a d b puts refl is e
gap_by b rest h at next puts _ (by_none _ _) e = absurd (none_done at (λ s. lex (at + 1) s rest) puts e)

origin_by : (b : ℕ) (rest : List ℕ) → Sound rest → (at start : ℕ) (next : Option ℕ) (n a : ℕ) (digits : List ℕ) (puts : List Put) → n ≡ length digits → n ≤ 4 → number_from 0 digits ≡ Some a
    → at ≡ start + length digits + 1 → (o : Option Spot) → OriginStep n a b o → behind at o (λ s. lex (at + 1) s rest) ≡ done puts → Puts start next (64 ∷ digits ++ b ∷ rest) puts
origin_by b rest h at start next n a digits puts count few number place _ (to_gap w some) e =
    let m : 1 ≤ length digits = omega (arith, count, some) in
    let k : length digits ≤ 4 = omega (arith, count, few) in
    let f : at + 1 ≡ start + length digits + 2 = omega (arith, place) in
    segment start next digits a b rest puts m k number w (h.gap (start + length digits + 2) (Some a) puts (subst (λ i. lex i (Between a) rest ≡ done puts) f e))
origin_by b rest h at start next n a digits puts count few number place _ (to_digit d less is) e =
    let m : n + 1 ≡ length (digits ++ b ∷ []) = omega (arith, count, length-append digits (b ∷ [])) in
    let k : n + 1 ≤ 4 = omega (arith, less) in
    let f : at + 1 ≡ start + length (digits ++ b ∷ []) + 1 = omega (arith, place, length-append digits (b ∷ [])) in
    subst (λ text. Puts start next (64 ∷ text) puts) (append_assoc digits (b ∷ []) rest)
    (h.origin (at + 1) start next (n + 1) (16 * a + d) (digits ++ b ∷ []) puts m k (number_more digits 0 a b d number is) f e)
origin_by b rest h at start next n a digits puts count few number place _ to_none e = absurd (none_done at (λ s. lex (at + 1) s rest) puts e)

half_by : (b : ℕ) (rest : List ℕ) → Sound rest → (at start a x high : ℕ) (puts : List Put) → at ≡ start + 1 → digit_of high ≡ Some x → (o : Option ℕ) → digit_of b ≡ o
    → behind at (option_map (λ d. Whole a (16 * x + d)) o) (λ s. lex (at + 1) s rest) ≡ done puts → Puts start (Some a) (high ∷ b ∷ rest) puts
half_by b rest h at start a x high puts place is None digit e = absurd (none_done at (λ s. lex (at + 1) s rest) puts e)
half_by b rest h at start a x high puts place is (Some y) digit e =
    let l : Lexed = lex (at + 1) (Whole a (16 * x + y)) rest in
    let p = is_done (prefix (put_of (at - 1) a (16 * x + y) ∷ []) l) puts e in
    let f : at + 1 ≡ start + 2 = omega (arith, place) in
    let g : start ≡ at - 1 = omega (arith, place) in
    subst (λ ps. Puts start (Some a) (high ∷ b ∷ rest) ps) (ap (λ i. put_of i a (16 * x + y) ∷ l.puts) g ∙ p.1)
    (h.whole (at + 1) start a high b x y l.puts f is digit (done_of l p.0))

whole_by : (b : ℕ) (rest : List ℕ) → Sound rest → (at start a high low x y : ℕ) (puts : List Put) → at ≡ start + 2 → digit_of high ≡ Some x → digit_of low ≡ Some y → (t : Bool) → is_white b ≡ t
    → behind at (if t then Some (Between (a + 1)) else None) (λ s. lex (at + 1) s rest) ≡ done puts → Puts start (Some a) (high ∷ low ∷ b ∷ rest) (put_of start a (16 * x + y) ∷ puts)
whole_by b rest h at start a high low x y puts place ish isl true w e =
    let f : at + 1 ≡ start + 3 = omega (arith, place) in
    byte start a high low x y b rest puts ish isl w (h.gap (start + 3) (Some (a + 1)) puts (subst (λ i. lex i (Between (a + 1)) rest ≡ done puts) f e))
whole_by b rest h at start a high low x y puts place ish isl false w e = absurd (none_done at (λ s. lex (at + 1) s rest) puts e)

ended_by : (b : ℕ) (rest : List ℕ) → Sound rest → (at : ℕ) (puts : List Put) → (t : Bool) → is_white b ≡ t
    → behind at (if t then Some Ended else None) (λ s. lex (at + 1) s rest) ≡ done puts → (puts ≡ []) × All (λ w. is_white w ≡ true) (b ∷ rest)
ended_by b rest h at puts true w e = let p = h.ended (at + 1) puts e in (p.0, All-cons (λ w. is_white w ≡ true) b rest w p.1)
ended_by b rest h at puts false w e = absurd (none_done at (λ s. lex (at + 1) s rest) puts e)

differs : (at : ℕ) (s : Spot) (puts : List Put) → (s ≡ Ended → ⊥) → lex at s [] ≡ done puts → ⊥
differs at s puts h e = let f : stands s ≡ stands Ended = ap (λ (m : Lexed). m.ending) e in h cc

gap_empty : (at : ℕ) (next : Option ℕ) (puts : List Put) → lex at (gap_of next) [] ≡ done puts → Puts at next [] puts
gap_empty at None puts e = absurd (differs at Before puts (λ h. cc) e)
gap_empty at (Some a) puts e = absurd (differs at (Between a) puts (λ h. cc) e)

sound : (text : List ℕ) → Sound text
sound [] = record {
  gap = λ at next puts e. gap_empty at next puts e;
  origin = λ at start next n a digits puts count few number place e. absurd (differs at (Origin n a) puts (λ h. cc) e);
  half = λ at start a x high puts place is e. absurd (differs at (Half a x) puts (λ h. cc) e);
  whole = λ at start a high low x y puts place ish isl e. absurd (differs at (Whole a (16 * x + y)) puts (λ h. cc) e);
  ended = λ at puts e. (sym (is_done (lex at Ended []) puts e).1, All-nil (λ w. is_white w ≡ true));
}
sound (b ∷ rest) = let h : Sound rest = sound rest in record {
  gap = λ at next puts e. gap_by b rest h at next puts (step_of (gap_of next) b) (gap_step next b) e;
  origin = λ at start next n a digits puts count few number place e. origin_by b rest h at start next n a digits puts count few number place (step_of (Origin n a) b) (origin_cases n a b) e;
  half = λ at start a x high puts place is e. half_by b rest h at start a x high puts place is (digit_of b) refl e;
  whole = λ at start a high low x y puts place ish isl e. whole_by b rest h at start a high low x y puts place ish isl (is_white b) refl e;
  ended = λ at puts e. ended_by b rest h at puts (is_white b) refl e;
}

-- A text that is read to its end is in the grammar.
pub is_text : (at : ℕ) (next : Option ℕ) (text : List ℕ) (puts : List Put) → lex at (gap_of next) text ≡ done puts → Puts at next text puts
is_text at next text puts e = (sound text).gap at next puts e
