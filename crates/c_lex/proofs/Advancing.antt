-- A piece that isn't a fault takes at least one byte, and no more than there are.
use Rattle.std.proofs.Common.{◌≡◌, ℕ, ◌+◌, ◌≤◌, ◌<◌, Bool, true, false, List, [], ◌∷◌, length, take, drop, refl, ap, length-take, length-drop, max, cond, not, codes, ◌&&◌, ◌==◌, Option, Some, None, Result, Ok, Err, arith}
use Rattle.std.proofs.lemmas.Slice.Eq.{bytes_eq-Decides}
use Rattle.std.proofs.lemmas.Bool.Decides.{nat_tests}
use Rattle.std.proofs.lemmas.List.Sums.{prefix_len-le-length}
use Rattle.std.specs.Option.{IfSome, option_map}
use Rattle.std.specs.List.{prefix_len}
use Rattle.c_lex.specs.Bytes.{begins, is_blank, is_digit, is_nondigit, is_name_byte, is_number_byte, is_plain, quote, backslash, hash, line_feed}
use Rattle.c_lex.specs.Words.{signs}
use Rattle.c_lex.specs.Literals.{escaped}
use Rattle.c_lex.specs.Tokens.{taken}
use Rattle.c_lex.specs.Gaps.{line_len, close_at, comment_to, is_include, hash_piece, gap}
use Rattle.c_lex.specs.Scan.{longest, escape_piece, character_piece, sign_piece, scan_token, scan_behind, scan, Advances}
use Rattle.c_lex.specs.declared.piece.Cause.{Cause}
use Rattle.c_lex.specs.declared.piece.Piece.{Piece}
use Rattle.c_lex.specs.declared.piece.Piece.TheVariants.{Skip, Take, Stop}
use Rattle.c_lex.specs.declared.spot.Before.{Before}
use Rattle.c_lex.specs.declared.spot.Before.TheVariants.{NoToken, TokenAbove, TokenOnLine}
use Rattle.c_lex.specs.declared.token.TokenKind.{TokenKind}
use Rattle.c_lex.specs.declared.token.TokenKind.TheVariants.{Number}

pub and_left : (a b : Bool) → (a && b) ≡ true → a ≡ true
and_left true b is = refl
and_left false b is = is

record Fit (p : Piece) (room : ℕ) : Type 0 where
  is : Advances p room

record GapFits (o : Option Piece) (room : ℕ) : Type 0 where
  is : IfSome o (λ p. Fit p room)

either : (c : Bool) (p q : Piece) (n : ℕ) → (c ≡ true → Fit p n) → (c ≡ false → Fit q n) → Fit (cond c p q) n
either true p q n on off = on refl
either false p q n on off = off refl

gap_either : (c : Bool) (o q : Option Piece) (n : ℕ) → (c ≡ true → GapFits o n) → (c ≡ false → GapFits q n) → GapFits (cond c o q) n
gap_either true o q n on off = on refl
gap_either false o q n on off = off refl

some_fits : (p : Piece) (n : ℕ) → Fit p n → GapFits (Some p) n
some_fits p n fit = record { is = fit }

skip_advances : (n room : ℕ) → 0 < n → n ≤ room → Fit (Skip n) room
skip_advances n room more le = record { is = (more, le) }

take_advances : (kind : TokenKind) (n room : ℕ) → 0 < n → n ≤ room → Fit (Take kind n) room
take_advances kind n room more le = record { is = (more, le) }

stops : (cause : Cause) (room : ℕ) → Fit (Stop cause) room
stops cause room = record { is = tt }

taken_advances : (r : Result TokenKind Cause) (n room : ℕ) → 0 < n → n ≤ room → Fit (taken r n) room
taken_advances (Ok kind) n room more le = take_advances kind n room more le
taken_advances (Err cause) n room more le = stops cause room

pub begins_within : (text sign : List ℕ) → begins text sign ≡ true → length sign ≤ length text
begins_within text sign is = let same = ap length ((bytes_eq-Decides sign (take (length sign) text)).0 is) in omega (arith, same, length-take (length sign) text)

close_within : (xs : List ℕ) → IfSome (close_at xs) (λ n. n + 2 ≤ length xs)
close_within [] = tt
close_within (a ∷ []) = grind (arith, nat_tests)
close_within (a ∷ b ∷ rest) = closed (close_at (b ∷ rest)) (begins (a ∷ b ∷ rest) (42 ∷ 47 ∷ [])) (close_within (b ∷ rest))
  where
    closed : (o : Option ℕ) (c : Bool) → IfSome o (λ n. n + 2 ≤ length (b ∷ rest)) → IfSome (cond c (Some 0) (option_map (λ n. n + 1) o)) (λ n. n + 2 ≤ length (a ∷ b ∷ rest))
    closed o true h = omega arith
    closed None false h = tt
    closed (Some n) false h = omega arith

comment_within : (o : Option ℕ) (n m : ℕ) → n + 2 ≡ m → IfSome o (λ k. k + 2 ≤ n) → Fit (comment_to o) m
comment_within None n m two h = stops _ _
comment_within (Some k) n m two h = skip_advances _ _ (omega arith) (omega arith)

comment_advances : (b : ℕ) (rest : List ℕ) → begins (b ∷ rest) (47 ∷ 42 ∷ []) ≡ true → Fit (comment_to (close_at (drop 2 (b ∷ rest)))) (length (b ∷ rest))
comment_advances b rest is =
    let two : length (drop 2 (b ∷ rest)) + 2 ≡ length (b ∷ rest) = omega (arith, length-drop 2 (b ∷ rest), begins_within (b ∷ rest) (47 ∷ 42 ∷ []) is) in
    comment_within (close_at (drop 2 (b ∷ rest))) (length (drop 2 (b ∷ rest))) (length (b ∷ rest)) two (close_within (drop 2 (b ∷ rest)))

line_advances : (b : ℕ) (rest : List ℕ) → begins (b ∷ rest) (47 ∷ 47 ∷ []) ≡ true → Fit (Skip (line_len (b ∷ rest))) (length (b ∷ rest))
line_advances b rest is =
    let slash : b ≡ 47 = grind (arith, nat_tests) in
    rw slash (skip_advances _ _ (omega arith) (prefix_len-le-length (λ b. not (b == line_feed)) (47 ∷ rest)))

hash_advances : (before : Before) (text : List ℕ) → Fit (hash_piece before text) (length text)
hash_advances NoToken text =
    either (is_include (take (line_len text) text)) _ _ _
    (λ is. let most = begins_within (take (line_len text) text) (codes "#include <stdint.h>") (and_left _ _ is) in
    let cut = length-take (line_len text) text in
    skip_advances _ _ (omega (arith, most, cut)) (prefix_len-le-length (λ b. not (b == line_feed)) text))
    (λ _. stops _ _)
hash_advances TokenAbove text = stops _ _
hash_advances TokenOnLine text = stops _ _

gap_advances : (before : Before) (b : ℕ) (rest : List ℕ) → GapFits (gap before (b ∷ rest)) (length (b ∷ rest))
gap_advances before b rest =
    gap_either (is_blank b) _ _ _ (λ _. some_fits _ _ (skip_advances _ _ (omega arith) (omega arith))) (λ _.
    gap_either (begins (b ∷ rest) (47 ∷ 47 ∷ [])) _ _ _ (λ h. some_fits _ _ (line_advances b rest h)) (λ _.
    gap_either (begins (b ∷ rest) (47 ∷ 42 ∷ [])) _ _ _ (λ h. some_fits _ _ (comment_advances b rest h)) (λ _.
    gap_either (b == hash) _ _ _ (λ _. some_fits _ _ (hash_advances before (b ∷ rest))) (λ _.
    record { is = tt }))))

some_len : (p : ℕ → Bool) (b : ℕ) (rest : List ℕ) → p b ≡ true → 0 < prefix_len p (b ∷ rest)
some_len p b rest is = rw is (omega arith)

character_advances : (text : List ℕ) → Fit (character_piece text) (length text)
character_advances [] = stops _ _
character_advances (q ∷ []) = stops _ _
character_advances (q ∷ b ∷ []) = stops _ _
character_advances (q ∷ b ∷ c ∷ []) = either _ _ _ _ (λ _. take_advances _ _ _ (omega arith) (omega arith)) (λ _. stops _ _)
character_advances (q ∷ b ∷ c ∷ d ∷ rest) =
    either (b == backslash) _ _ _ (λ _. escape_advances (escaped c) d (length (q ∷ b ∷ c ∷ d ∷ rest)) (omega arith))
    (λ _. either (is_plain b && (c == quote)) _ _ _ (λ _. take_advances (Number b false) 3 (length (q ∷ b ∷ c ∷ d ∷ rest)) (omega arith) (omega arith)) (λ _. stops _ _))
  where
    escape_advances : (o : Option ℕ) (e room : ℕ) → 4 ≤ room → Fit (escape_piece o e) room
    escape_advances None e room le = stops _ _
    escape_advances (Some v) e room le = either (e == quote) _ _ _ (λ _. take_advances (Number v false) 4 room (omega arith) le) (λ _. stops _ _)

pub longest_within : (table : List (List ℕ)) (text : List ℕ) → longest table text ≤ length text
longest_within [] text = omega arith
longest_within (sign ∷ table) text = fits (begins text sign) refl (longest_within table text)
  where
    fits : (c : Bool) → begins text sign ≡ c → longest table text ≤ length text → cond c (max (length sign) (longest table text)) (longest table text) ≤ length text
    fits true is more = omega (arith, begins_within text sign is)
    fits false is more = more

sign_advances : (n room : ℕ) → n ≤ room → Fit (sign_piece n) room
sign_advances n room le = either _ _ _ room (λ _. stops _ _) (λ none. take_advances _ _ _ (grind (arith, nat_tests)) le)

token_advances : (b : ℕ) (rest : List ℕ) → Fit (scan_token (b ∷ rest)) (length (b ∷ rest))
token_advances b rest =
    either (is_nondigit b) _ _ _ (λ h. taken_advances _ _ _ (some_len is_name_byte b rest (grind arith)) (prefix_len-le-length is_name_byte (b ∷ rest))) (λ _.
    either (is_digit b) _ _ _ (λ h. taken_advances _ _ _ (some_len is_number_byte b rest (grind arith)) (prefix_len-le-length is_number_byte (b ∷ rest))) (λ _.
    either (b == quote) _ _ _ (λ _. character_advances (b ∷ rest)) (λ _.
    sign_advances _ _ (longest_within signs (b ∷ rest)))))

behind_advances : (o : Option Piece) (b : ℕ) (rest : List ℕ) → GapFits o (length (b ∷ rest)) → Fit (scan_behind o (b ∷ rest)) (length (b ∷ rest))
behind_advances None b rest fits = token_advances b rest
behind_advances (Some p) b rest fits = fits.is

pub advances : (before : Before) (text : List ℕ) → 0 < length text → Advances (scan before text) (length text)
unfolding scan
advances before [] more = absurd (omega arith)
advances before (b ∷ rest) more = (behind_advances (gap before (b ∷ rest)) b rest (gap_advances before b rest)).is
