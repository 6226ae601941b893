-- Where the tokens of a text stand in it.
use Rattle.std.proofs.Common.{◌≡◌, ℕ, ◌+◌, ◌-◌, List, [], ◌∷◌, ◌++◌, length, length-drop, ◌<◌, take, drop, refl, sym, ap, ◌∙◌, subst, Bool, true, false, Option, Some, None, Result, Ok, Err, cond, ◌==◌, arith}
use Rattle.std.specs.List.{All, AllByRecursion}
use Rattle.std.proofs.lemmas.List.{drop-drop}
use Rattle.std.proofs.Math.Seq.{take-add}
use Rattle.std.proofs.lemmas.List.Elements.{All-from_recursion}
use Rattle.base_io.specs.declared.place.Place.{Place}
use Rattle.c_lex.specs.Bytes.{begins, line_feed, is_blank, hash}
use Rattle.c_lex.specs.Gaps.{line_len, close_at, comment_to, is_include, hash_piece, gap, past}
use Rattle.c_lex.specs.Tokens.{IsLongest, kind_of, taken}
use Rattle.c_lex.specs.Cut.{first_place, place_behind, start, behind, Stands, between, token, nothing, Passes, tokens_of, Cut, IsIn}
use Rattle.c_lex.specs.declared.spot.Spot.{Spot}
use Rattle.c_lex.specs.declared.spot.Before.{Before}
use Rattle.c_lex.specs.declared.spot.Before.TheVariants as before
use Rattle.c_lex.specs.declared.piece.Cause.{Cause}
use Rattle.c_lex.specs.declared.piece.Cause.TheVariants.{BadByte, OpenComment, HashLine}
use Rattle.c_lex.specs.declared.piece.Piece.{Piece}
use Rattle.c_lex.specs.declared.piece.Piece.TheVariants.{Skip, Take, Stop}
use Rattle.c_lex.specs.declared.token.Token.{Token}
use Rattle.c_lex.specs.declared.token.TokenKind.{TokenKind}
use Rattle.c_lex.proofs.Standing.{longest_some}

place-append : (place : Place) (xs ys : List ℕ) → place_behind place (xs ++ ys) ≡ place_behind (place_behind place xs) ys
place-append place [] ys = refl
place-append place (b ∷ xs) ys = place-append (cond (b == line_feed) (record { line = place.line + 1; column = 1 }) (record { line = place.line; column = place.column + 1 })) xs ys

-- What stands between tokens is no token.
record NoToken (o : Option Piece) : Type 0 where
  is : (kind : TokenKind) (n : ℕ) → o ≡ Some (Take kind n) → ⊥

no_either : (c : Bool) (o q : Option Piece) → NoToken o → NoToken q → NoToken (cond c o q)
no_either true o q first second = first
no_either false o q first second = second

no_skip : (m : ℕ) → NoToken (Some (Skip m))
no_skip m = record { is = λ kind n same. absurd (cc) }

no_stop : (cause : Cause) → NoToken (Some (Stop cause))
no_stop cause = record { is = λ kind n same. absurd (cc) }

no_comment : (o : Option ℕ) → NoToken (Some (comment_to o))
no_comment None = no_stop OpenComment
no_comment (Some n) = no_skip (n + 4)

no_include : (c : Bool) (m : ℕ) → NoToken (Some (cond c (Skip m) (Stop HashLine)))
no_include true m = no_skip m
no_include false m = no_stop HashLine

no_hash : (before : Before) (text : List ℕ) → NoToken (Some (hash_piece before text))
no_hash before.NoToken text = no_include (is_include (take (line_len text) text)) (line_len text)
no_hash before.TokenAbove text = no_stop HashLine
no_hash before.TokenOnLine text = no_stop BadByte

no_gap : (before : Before) (text : List ℕ) → NoToken (gap before text)
no_gap before [] = record { is = λ kind n same. absurd (cc) }
no_gap before (b ∷ rest) =
    no_either (is_blank b) _ _ (no_skip 1)
    (no_either (begins (b ∷ rest) (47 ∷ 47 ∷ [])) _ _ (no_skip (line_len (b ∷ rest)))
    (no_either (begins (b ∷ rest) (47 ∷ 42 ∷ [])) _ _ (no_comment (close_at (drop 2 (b ∷ rest))))
    (no_either (b == hash) _ _ (no_hash before (b ∷ rest))
    (record { is = λ kind n same. absurd (cc) }))))

record IsToken (text : List ℕ) (kind : TokenKind) (n : ℕ) : Type 0 where
  longest : IsLongest text n
  kind_is : kind_of (take n text) ≡ Ok kind

taken_is : (r : Result TokenKind Cause) (m : ℕ) (kind : TokenKind) (n : ℕ) → Take kind n ≡ taken r m → (r ≡ Ok kind) × (m ≡ n)
taken_is (Ok k) m kind n same = let kinds : k ≡ kind = cc in let sizes : m ≡ n = cc in (rw kinds refl, sizes)
taken_is (Err cause) m kind n same = absurd (cc)

is_token : (before : Before) (text : List ℕ) (kind : TokenKind) (n : ℕ) → Stands before text (Take kind n) → IsToken text kind n
is_token before text kind n (between some) = absurd ((no_gap before text).is kind n some)
is_token before text kind n (token m none most is) =
    let both = taken_is (kind_of (take m text)) m kind n is in
    let P : ℕ → Type 0 = λ k. IsLongest text k in
    let Q : ℕ → Type 0 = λ k. kind_of (take k text) ≡ Ok kind in
    record { longest = subst P both.1 most; kind_is = subst Q both.1 both.0 }
is_token before text kind n (nothing none has is) = absurd (cc)

-- a spot of the text, and what is left of it there
record IsSpot (text : List ℕ) (spot : Spot) (left : List ℕ) : Type 0 where
  left_is : left ≡ drop spot.at text
  place : spot.place ≡ place_behind first_place (take spot.at text)

move : (text : List ℕ) (spot : Spot) (left : List ℕ) (before : Before) (n : ℕ) → IsSpot text spot left → IsSpot text (behind spot before n left) (drop n left)
move text spot left before n was = record {
  left_is = ap (λ xs. drop n xs) was.left_is ∙ drop-drop n spot.at text;
  place = ap (λ p. place_behind p (take n left)) was.place
      ∙ ap (λ xs. place_behind (place_behind first_place (take spot.at text)) (take n xs)) was.left_is
      ∙ sym (place-append first_place (take spot.at text) (take n (drop spot.at text)))
      ∙ ap (λ xs. place_behind first_place xs) (sym (take-add spot.at n text));
}

is_in : (text : List ℕ) (spot : Spot) (left : List ℕ) (kind : TokenKind) (n : ℕ) → IsSpot text spot left → IsToken left kind n
    → IsIn text (record { kind = kind; start = spot.at; end = spot.at + n; place = spot.place })
is_in text spot left kind n was is =
    let size : spot.at + n - spot.at ≡ n = omega arith in
    let some : 0 < n = longest_some left n is.longest in
    let most = is.longest.within in
    let cut : length left ≡ length text - spot.at = ap length was.left_is ∙ length-drop spot.at text in
    let P : ℕ → Type 0 = λ k. IsLongest (drop spot.at text) k in
    let Q : ℕ → Type 0 = λ k. kind_of (take k (drop spot.at text)) ≡ Ok kind in
    let P2 : List ℕ → Type 0 = λ xs. IsLongest xs n in
    let Q2 : List ℕ → Type 0 = λ xs. kind_of (take n xs) ≡ Ok kind in
    record {
      some = omega arith;
      within = omega arith;
      longest = subst P (sym size) (subst P2 was.left_is is.longest);
      kind = subst Q (sym size) (subst Q2 was.left_is is.kind_is);
      place = was.place;
    }

all_in : (text : List ℕ) (spot : Spot) (left : List ℕ) (pieces : List Piece) (end : Spot) (last : List ℕ) → IsSpot text spot left → Passes spot left pieces end last
    → AllByRecursion (λ token. IsIn text token) (tokens_of spot left pieces)
all_in text spot left [] end last was passes = tt
all_in text spot left (Skip n ∷ pieces) end last was passes =
    all_in text (behind spot (past spot.before left) n left) (drop n left) pieces end last (move text spot left (past spot.before left) n was) passes.1
all_in text spot left (Take kind n ∷ pieces) end last was passes = (
  is_in text spot left kind n was (is_token spot.before left kind n passes.0),
  all_in text (behind spot before.TokenOnLine n left) (drop n left) pieces end last (move text spot left before.TokenOnLine n was) passes.1,
)
all_in text spot left (Stop cause ∷ pieces) end last was passes = absurd passes

pub tokens_in : (text : List ℕ) (tokens : List Token) → Cut text tokens → All (λ token. IsIn text token) tokens
tokens_in text tokens cut =
    let P : List Token → Type 0 = λ ts. All (λ token. IsIn text token) ts in
    subst P (sym cut.are) (All-from_recursion (λ token. IsIn text token) (tokens_of start text cut.pieces)
    (all_in text start text cut.pieces cut.end [] (record { left_is = refl; place = refl }) cut.whole))
