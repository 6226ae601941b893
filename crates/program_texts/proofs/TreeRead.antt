-- The tree of a text is read: its words are those of tokens.
use Rattle.std.proofs.Common.{◌≡◌, refl, sym, ap, subst, ℕ, ◌<◌, ◌^◌, Bool, true, false, Option, Some, None, Result, Ok, Err, List, [], ◌∷◌, ◌-◌, take, drop, arith}
use Rattle.std.specs.Prelude.{All, codes, length, nat_lt, slice_index, if◌then◌else◌, not, ◌==◌, ◌||◌, ◌&&◌}
use Rattle.std.specs.Str.{bytes_eq}
use Rattle.std.specs.Bool.{Decides}
use Rattle.std.proofs.lemmas.Bool.Decides.{nat_tests}
use Rattle.std.proofs.lemmas.Slice.Eq.{bytes_eq-Decides}
use Rattle.std.proofs.lemmas.List.Elements.{All-nil, All-cons, All-head, All-tail, All-take, All-drop, All-from_get_or}
use Rattle.c_lex.specs.Cut.{Cut, IsIn}
use Rattle.c_lex.specs.Bytes.{is_plain, line_feed, carriage_return, quote, backslash}
use Rattle.c_lex.specs.Literals.{are_digits, base_of, character, ends_in_suffix, escaped, number_kind, number_of, value_of}
use Rattle.c_lex.specs.Words.{is_keyword}
use Rattle.c_lex.specs.Tokens.{kind_of, word_kind, character_kind, is_word, is_number}
use Rattle.c_lex.specs.declared.piece.Cause.{Cause}
use Rattle.c_lex.specs.declared.piece.Cause.TheVariants.{BadByte, BadLiteral, TooBig}
use Rattle.c_lex.specs.declared.token.Token.{Token}
use Rattle.c_lex.specs.declared.token.TokenKind.{TokenKind}
use Rattle.c_lex.specs.declared.token.TokenKind.TheVariants as token
use Rattle.c_lex.proofs.Placing.{tokens_in}
use Rattle.c_parse.specs.Faults.{IsTreeOf}
use Rattle.c_parse.specs.Grammar.{Nested, word_at, bare}
use Rattle.c_parse.specs.Words.{bytes_of, word_of, words_of}
use Rattle.c_parse.specs.declared.raw.Raw.{Raw}
use Rattle.accepted_programs.specs.Texts.{IsPlausible, IsWord, IsRead}

-- ---- names and numbers

-- what a token's kind says of its bytes
abbrev Says : List ℕ → Result TokenKind Cause → Type 0
Says bytes (Ok kind) = IsPlausible kind bytes
Says bytes (Err cause) = Unit {0}

if_says : (bytes : List ℕ) (b : Bool) (x y : Result TokenKind Cause) → Says bytes x → Says bytes y → Says bytes (if b then x else y)
if_says bytes true x y h k = h
if_says bytes false x y h k = k

small : (n : ℕ) → nat_lt 65535 n ≡ false → nat_lt n (2 ^ 16) ≡ true
small n h = grind (arith, nat_tests)

number_says : (bytes : List ℕ) (b c d u : Bool) (e f : Cause) (n : ℕ) → nat_lt 65535 n ≡ c → Says bytes (if b then Err e else if c then Err f else if d then Err f else Ok (token.Number n u))
number_says bytes true c d u e f n h = tt
number_says bytes false true d u e f n h = tt
number_says bytes false false true u e f n h = tt
number_says bytes false false false u e f n h = small n h

of_number : (bytes digits : List ℕ) (base : ℕ) (suffixed : Bool) → Says bytes (number_of base suffixed digits)
of_number bytes digits base suffixed =
    number_says bytes ((length digits == 0) || not (are_digits base digits)) (nat_lt 65535 (value_of base digits)) (nat_lt 32767 (value_of base digits) && (base == 10) && not suffixed)
    (suffixed || nat_lt 32767 (value_of base digits)) BadLiteral TooBig (value_of base digits) refl

numbers_say : (bytes : List ℕ) → Says bytes (number_kind bytes)
numbers_say bytes =
    let suffixed : Bool = ends_in_suffix bytes in
    let body : List ℕ = if suffixed then take (length bytes - 1) bytes else bytes in
    of_number bytes (drop (base_of body).1 body) (base_of body).0 suffixed

abbrev IsByte : Option ℕ → Type 0
IsByte None = Unit {0}
IsByte (Some n) = nat_lt n (2 ^ 16) ≡ true

if_byte : (b : Bool) (x y : Option ℕ) → IsByte x → IsByte y → IsByte (if b then x else y)
if_byte true x y h k = h
if_byte false x y h k = k

escaped_byte : (letter : ℕ) → IsByte (escaped letter)
escaped_byte letter = by (letter == 110) (letter == 116) (letter == 114) (letter == 48) (letter == backslash) (letter == quote)
  where
    by : (a b c d e f : Bool) → IsByte (if a then Some line_feed else if b then Some 9 else if c then Some carriage_return else if d then Some 0 else if e then Some backslash else if f then Some quote else None)
    by true b c d e f = refl
    by false true c d e f = refl
    by false false true d e f = refl
    by false false false true e f = refl
    by false false false false true f = refl
    by false false false false false true = refl
    by false false false false false false = tt

byte_small : (b : ℕ) → b < 256 → nat_lt b (2 ^ 16) ≡ true
byte_small b h = grind (arith, nat_tests)

abbrev AreSmall : List ℕ → Type 0
AreSmall bytes = All (λ b. b < 256) bytes

character_byte : (bytes : List ℕ) → AreSmall bytes → IsByte (character bytes)
character_byte [] h = tt
character_byte (a ∷ []) h = tt
character_byte (a ∷ b ∷ []) h = tt
character_byte (a ∷ b ∷ c ∷ []) h = if_byte ((a == quote) && is_plain b && (c == quote)) (Some b) None (byte_small b (All-head (λ b. b < 256) b (c ∷ []) (All-tail (λ b. b < 256) a (b ∷ c ∷ []) h))) tt
character_byte (a ∷ b ∷ c ∷ d ∷ []) h = if_byte ((a == quote) && (b == backslash) && (d == quote)) (escaped c) None (escaped_byte c) tt
character_byte (a ∷ b ∷ c ∷ d ∷ e ∷ rest) h = tt

of_character : (bytes : List ℕ) (o : Option ℕ) → IsByte o → Says bytes (character_kind o)
of_character bytes None h = tt
of_character bytes (Some n) h = h

name_says : (bytes : List ℕ) (b c : Bool) (e : Cause) → bytes_eq bytes (codes "(") ≡ false → Says bytes (if b then Err e else if c then Ok token.Keyword else Ok token.Name)
name_says bytes true c e h = tt
name_says bytes false true e h = tt
name_says bytes false false e h = h

-- what the bytes of a token are
bytes_say : (bytes : List ℕ) → AreSmall bytes → Says bytes (kind_of bytes)
bytes_say bytes h = by (is_word bytes) refl
  where
    other : Says bytes (if is_number bytes then number_kind bytes else character_kind (character bytes))
    other = if_says bytes (is_number bytes) (number_kind bytes) (character_kind (character bytes)) (numbers_say bytes) (of_character bytes (character bytes) (character_byte bytes h))

    no_bracket : is_word bytes ≡ true → bytes_eq bytes (codes "(") ≡ false
    no_bracket word = told (bytes_eq bytes (codes "(")) (bytes_eq-Decides bytes (codes "("))
      where
        false_true : (b : Bool) → b ≡ false → b ≡ true → ⊥
        false_true b h k = cc

        told : (b : Bool) → Decides b (bytes ≡ codes "(") → b ≡ false
        told false d = refl
        told true d = absurd (false_true (is_word bytes) (ap is_word (d.0 refl)) word)

    by : (b : Bool) → is_word bytes ≡ b → Says bytes (if b then word_kind bytes else if is_number bytes then number_kind bytes else character_kind (character bytes))
    by true word = name_says bytes (nat_lt 63 (length bytes)) (is_keyword bytes) BadByte (no_bracket word)
    by false word = other

plausible : (bytes : List ℕ) (kind : TokenKind) → AreSmall bytes → kind_of bytes ≡ Ok kind → IsPlausible kind bytes
plausible bytes kind h is = subst (Says bytes) is (bytes_say bytes h)

-- ---- texts

All-small : (text : List ℕ) → ((i : ℕ) → slice_index text i < 256) → All (λ b. b < 256) text
All-small text h = All-from_get_or (λ b. b < 256) text 0 (λ i lt. h i)

word_read : (text : List ℕ) (token : Token) → ((i : ℕ) → slice_index text i < 256) → IsIn text token → IsWord (word_of text token)
word_read text token small h = record {
  kind = token.kind;
  bytes = bytes_of text token;
  place = token.place;
  leaf = refl;
  class = refl;
  plausible = plausible (bytes_of text token) token.kind (All-take (λ b. b < 256) (token.end - token.start) (drop token.start text) (All-drop (λ b. b < 256) token.start text (All-small text small))) h.kind;
}

words_read : (text : List ℕ) (tokens : List Token) → ((i : ℕ) → slice_index text i < 256) → All (λ token. IsIn text token) tokens → All IsWord (words_of text tokens)
words_read text [] small h = All-nil IsWord
words_read text (token ∷ tokens) small h =
    All-cons IsWord (word_of text token) (words_of text tokens) (word_read text token small (All-head (λ token. IsIn text token) token tokens h))
    (words_read text tokens small (All-tail (λ token. IsIn text token) token tokens h))

bare_read : (nested : List Nested) → All IsWord (bare nested) → All (λ n. IsWord (word_at n)) nested
bare_read [] h = All-nil (λ n. IsWord (word_at n))
bare_read (n ∷ ns) h = All-cons (λ n. IsWord (word_at n)) n ns (All-head IsWord (word_at n) (bare ns) h) (bare_read ns (All-tail IsWord (word_at n) (bare ns) h))

-- the tree of a text's tokens is read
pub is_read : (text : List ℕ) (tokens : List Token) (raw : Raw) → ((i : ℕ) → slice_index text i < 256) → Cut text tokens → IsTreeOf (words_of text tokens) raw → IsRead raw
is_read text tokens raw small cut tree = record {
  text = tree.text;
  words = bare_read tree.text (subst (All IsWord) (sym tree.are) (words_read text tokens small (tokens_in text tokens cut)));
  derives = tree.derives;
}
