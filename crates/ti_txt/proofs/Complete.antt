-- A text of the grammar is read to its end, with its puts.
use Rattle.std.proofs.Common.{◌≡◌, ℕ, ◌+◌, ◌-◌, ◌*◌, ◌≤◌, ◌<◌, List, [], ◌∷◌, ◌++◌, length, Option, Some, None, refl, ap, ◌∙◌, arith, true}
use Rattle.std.specs.Prelude.{All}
use Rattle.std.specs.Option.{option_and_then}
use Rattle.std.proofs.lemmas.List.Elements.{All-head, All-tail}
use Rattle.ti_txt.specs.Grammar.{Put, Puts, digit_of, is_white, number_from}
use Rattle.ti_txt.specs.Grammar.Puts.{white, segment, byte, end}
use Rattle.ti_txt.specs.Spots.{put_of, step_of}
use Rattle.ti_txt.specs.declared.spot.Spot.{Spot}
use Rattle.ti_txt.specs.declared.spot.Spot.TheVariants.{Between, Origin, Half, Whole, Ended}
use Rattle.ti_txt.proofs.Lex.{behind, done, lex, prefix, put_at}
use Rattle.ti_txt.proofs.Steps.{digit_step, ended_step, gap_of, high_step, last_step, low_step, origin_step, white_step}

abbrev some_or : {A : Type 0} → A → Option A → A
some_or x None = x
some_or x (Some y) = y

pub none_some : {A : Type 0} (x : A) → None ≡ Some x → ⊥
none_some x e = cc

-- one byte on
pub on : (at : ℕ) (s t : Spot) (b : ℕ) (text : List ℕ) → step_of s b ≡ Some t → lex at s (b ∷ text) ≡ prefix (put_at at t) (lex (at + 1) t text)
on at s t b text e = ap (λ o. behind at o (λ u. lex (at + 1) u text)) e

pub no_put : (at : ℕ) (next : Option ℕ) → put_at at (gap_of next) ≡ []
no_put at None = refl
no_put at (Some a) = refl

on_gap : (at : ℕ) (next : Option ℕ) (s : Spot) (b : ℕ) (text : List ℕ) → step_of s b ≡ Some (gap_of next) → lex at s (b ∷ text) ≡ lex (at + 1) (gap_of next) text
on_gap at next s b text e = on at s (gap_of next) b text e ∙ ap (λ ps. prefix ps (lex (at + 1) (gap_of next) text)) (no_put at next)

pub sign_step : (next : Option ℕ) → step_of (gap_of next) 64 ≡ Some (Origin 0 0)
sign_step None = refl
sign_step (Some a) = refl

pub end_step : (next : Option ℕ) → step_of (gap_of next) 113 ≡ Some Ended
end_step None = refl
end_step (Some a) = refl

pub some_same : {A : Type 0} (x y : A) → Some x ≡ Some y → x ≡ y
some_same {A = A} x y e = let f : Option A → A = λ o. some_or x o in ap f e

-- the digits of an address
digit_read : (o : Option ℕ) (b : ℕ) (digits ys : List ℕ) (at n a address : ℕ) → n + length (b ∷ digits) ≤ 4 → digit_of b ≡ o
    → option_and_then (λ d. number_from (16 * a + d) digits) o ≡ Some address
    → ((d : ℕ) → number_from (16 * a + d) digits ≡ Some address → lex (at + 1) (Origin (n + 1) (16 * a + d)) (digits ++ ys) ≡ lex (at + 1 + length digits) (Origin (n + 1 + length digits) address) ys)
    → lex at (Origin n a) (b ∷ digits ++ ys) ≡ lex (at + length (b ∷ digits)) (Origin (n + length (b ∷ digits)) address) ys
digit_read None b digits ys at n a address few is number ih = absurd (none_some address number)
digit_read (Some d) b digits ys at n a address few is number ih =
    let more : n < 4 = omega (arith, few) in
    let e : at + 1 + length digits ≡ at + length (b ∷ digits) = omega arith in
    let f : n + 1 + length digits ≡ n + length (b ∷ digits) = omega arith in
    on at (Origin n a) (Origin (n + 1) (16 * a + d)) b (digits ++ ys) (digit_step n a b d more is)
    ∙ ih d number
    ∙ ap (λ m. lex m (Origin (n + 1 + length digits) address) ys) e
    ∙ ap (λ m. lex (at + length (b ∷ digits)) (Origin m address) ys) f

pub digits_read : (digits ys : List ℕ) (at n a address : ℕ) → n + length digits ≤ 4 → number_from a digits ≡ Some address
    → lex at (Origin n a) (digits ++ ys) ≡ lex (at + length digits) (Origin (n + length digits) address) ys
digits_read [] ys at n a address few number =
    let e : at ≡ at + 0 = omega arith in
    let f : n ≡ n + 0 = omega arith in
    ap (λ m. lex m (Origin n a) ys) e ∙ ap (λ m. lex (at + 0) (Origin m a) ys) f ∙ ap (λ m. lex (at + 0) (Origin (n + 0) m) ys) (some_same a address number)
digits_read (b ∷ digits) ys at n a address few number =
    let less : n + 1 + length digits ≤ 4 = omega (arith, few) in
    digit_read (digit_of b) b digits ys at n a address few refl number (λ d e. digits_read digits ys (at + 1) (n + 1) (16 * a + d) address less e)

-- white space behind the end
ended : (at : ℕ) (rest : List ℕ) → All (λ w. is_white w ≡ true) rest → lex at Ended rest ≡ done []
ended at [] all = refl
ended at (w ∷ rest) all = on at Ended Ended w rest (ended_step w (All-head (λ w. is_white w ≡ true) w rest all)) ∙ ap (prefix []) (ended (at + 1) rest (All-tail (λ w. is_white w ≡ true) w rest all))

pub complete : (at : ℕ) (next : Option ℕ) (text : List ℕ) (puts : List Put) → Puts at next text puts → lex at (gap_of next) text ≡ done puts
complete _ _ _ _ (white at next w rest puts is h) =
    on_gap at next (gap_of next) w rest (white_step next w is) ∙ complete (at + 1) next rest puts h
complete _ _ _ _ (segment at next digits address w rest puts some few number is h) =
    let e : at + 1 + length digits + 1 ≡ at + length digits + 2 = omega arith in
    let m : 0 < 0 + length digits = omega (arith, some) in
    let n : 0 + length digits ≤ 4 = omega (arith, few) in
    on at (gap_of next) (Origin 0 0) 64 (digits ++ w ∷ rest) (sign_step next)
    ∙ digits_read digits (w ∷ rest) (at + 1) 0 0 address n number
    ∙ on_gap (at + 1 + length digits) (Some address) (Origin (0 + length digits) address) w rest (origin_step (0 + length digits) address w m is)
    ∙ ap (λ k. lex k (Between address) rest) e
    ∙ complete (at + length digits + 2) (Some address) rest puts h
complete _ _ _ _ (byte at address high low x y w rest puts ish isl is h) =
    let e : at + 1 - 1 ≡ at = omega arith in
    let f : at + 1 + 1 + 1 ≡ at + 3 = omega arith in
    on at (Between address) (Half address x) high (low ∷ w ∷ rest) (high_step address high x ish)
    ∙ on (at + 1) (Half address x) (Whole address (16 * x + y)) low (w ∷ rest) (low_step address x low y isl)
    ∙ ap (λ k. prefix (put_of k address (16 * x + y) ∷ []) (lex (at + 1 + 1) (Whole address (16 * x + y)) (w ∷ rest))) e
    ∙ ap (prefix (put_of at address (16 * x + y) ∷ [])) (on_gap (at + 1 + 1) (Some (address + 1)) (Whole address (16 * x + y)) w rest (last_step address (16 * x + y) w is)
    ∙ ap (λ k. lex k (Between (address + 1)) rest) f
    ∙ complete (at + 3) (Some (address + 1)) rest puts h)
complete _ _ _ _ (end at next rest all) =
    on at (gap_of next) Ended 113 rest (end_step next) ∙ ap (prefix []) (ended (at + 1) rest all)
