-- What the scanner answers stands at the front of the text, and nothing else does.
use Rattle.std.proofs.Common.{◌≡◌, ◌≢◌, ℕ, zero, suc, ◌+◌, ◌≤◌, ◌<◌, Bool, true, false, List, [], ◌∷◌, length, take, length-take, subst, refl, sym, ap, ◌∙◌, max, cond, not, ◌&&◌, ◌||◌, ◌==◌, Option, Some, None, is_some, ◌⊎◌, inl, inr, arith, one-add}
use Rattle.std.proofs.lemmas.Slice.Eq.{bytes_eq-Decides}
use Rattle.std.proofs.lemmas.Bool.Decides.{nat_tests}
use Rattle.std.proofs.lemmas.Bool.{cases_lt}
use Rattle.std.specs.List.{prefix_len, list_all, list_any}
use Rattle.std.specs.Str.{bytes_eq}
use Rattle.std.proofs.lemmas.List.Sums.{prefix_len-le-length}
use Rattle.c_lex.specs.Bytes.{begins, is_digit, is_nondigit, is_name_byte, is_number_byte, is_plain, quote, backslash}
use Rattle.c_lex.specs.Words.{signs, is_sign}
use Rattle.c_lex.specs.Literals.{number_kind, character, escaped}
use Rattle.c_lex.specs.Tokens.{is_word, is_number, has_form, IsLongest, HasNone, word_kind, kind_of, taken}
use Rattle.c_lex.specs.Gaps.{gap}
use Rattle.c_lex.specs.Scan.{longest, escape_piece, character_piece, sign_piece, scan_token, scan_behind, scan}
use Rattle.c_lex.specs.Cut.{Stands, between, token, nothing}
use Rattle.c_lex.specs.declared.piece.Cause.TheVariants.{BadByte, BadLiteral}
use Rattle.c_lex.specs.declared.piece.Piece.{Piece}
use Rattle.c_lex.specs.declared.piece.Piece.TheVariants.{Take, Stop}
use Rattle.c_lex.specs.declared.spot.Before.{Before}
use Rattle.c_lex.specs.declared.token.TokenKind.TheVariants.{Number, Sign}
use Rattle.c_lex.proofs.Advancing.{longest_within}

-- A run of bytes that pass a test.

suc_len : (p : ℕ → Bool) (b : ℕ) (rest : List ℕ) → p b ≡ true → prefix_len p (b ∷ rest) ≡ suc (prefix_len p rest)
suc_len p b rest is = rw is (omega arith)

run_passes : (p : ℕ → Bool) (xs : List ℕ) → list_all p (take (prefix_len p xs) xs) ≡ true
run_passes p [] = refl
run_passes p (x ∷ xs) = run (p x) refl (run_passes p xs)
  where
    run : (c : Bool) → p x ≡ c → list_all p (take (prefix_len p xs) xs) ≡ true → list_all p (take (cond c (1 + prefix_len p xs) 0) (x ∷ xs)) ≡ true
    run true is more = rw one-add (rw is more)
    run false is more = refl

longer_fails : (p : ℕ → Bool) (xs : List ℕ) (m : ℕ) → prefix_len p xs < m → m ≤ length xs → list_all p (take m xs) ≡ false
longer_fails p [] m above within = absurd (omega arith)
longer_fails p (x ∷ xs) zero above within = absurd (omega arith)
longer_fails p (x ∷ xs) (suc m) above within =
    let room : m ≤ length xs = omega arith in
    fails (p x) (list_all p (take m xs)) above (λ more. longer_fails p xs m more room)
  where
    fails : (c t : Bool) → cond c (1 + prefix_len p xs) 0 < suc m → (prefix_len p xs < m → t ≡ false) → (c && t) ≡ false
    fails true t above ih = ih (omega arith)
    fails false t above ih = refl

-- The first byte tells the form.

nondigit_no_digit : (b : ℕ) → is_nondigit b ≡ true → is_digit b ≡ false
nondigit_no_digit b is = grind (arith, nat_tests)

nondigit_no_quote : (b : ℕ) → is_nondigit b ≡ true → (b == quote) ≡ false
nondigit_no_quote b is = grind (arith, nat_tests)

digit_no_nondigit : (b : ℕ) → is_digit b ≡ true → is_nondigit b ≡ false
digit_no_nondigit b is = grind (arith, nat_tests)

digit_no_quote : (b : ℕ) → is_digit b ≡ true → (b == quote) ≡ false
digit_no_quote b is = grind (arith, nat_tests)

no_character : (b : ℕ) (ys : List ℕ) → (b == quote) ≡ false → character (b ∷ ys) ≡ None
no_character b [] isnt = refl
no_character b (c ∷ []) isnt = refl
no_character b (c ∷ d ∷ []) isnt = rw isnt refl
no_character b (c ∷ d ∷ e ∷ []) isnt = rw isnt refl
no_character b (c ∷ d ∷ e ∷ f ∷ ys) isnt = refl

-- whether a byte may begin a sign
opens_sign : ℕ → Bool
opens_sign b = not (is_nondigit b) && not (is_digit b) && not (b == quote)

starts : List ℕ → Bool
starts [] = false
starts (b ∷ rest) = opens_sign b

signs_start : list_all starts signs ≡ true
unfolding signs starts opens_sign
signs_start = refl

not_among : (table : List (List ℕ)) (bytes : List ℕ) → list_all starts table ≡ true → starts bytes ≡ false → list_any (λ s. bytes_eq s bytes) table ≡ false
not_among [] bytes all isnt = refl
not_among (s ∷ table) bytes all isnt = split (starts s) (bytes_eq s bytes) refl refl all (λ more. not_among table bytes more isnt)
  where
    split : (c d : Bool) → starts s ≡ c → bytes_eq s bytes ≡ d → (c && list_all starts table) ≡ true → (list_all starts table ≡ true → list_any (λ s. bytes_eq s bytes) table ≡ false) → (d || list_any (λ s. bytes_eq s bytes) table) ≡ false
    split false d is eq all ih = absurd (cc)
    split true true is eq all ih = let same : s ≡ bytes = (bytes_eq-Decides s bytes).0 eq in let h = ap starts same in absurd (cc)
    split true false is eq all ih = ih all

no_sign : (b : ℕ) (ys : List ℕ) → opens_sign b ≡ false → is_sign (b ∷ ys) ≡ false
unfolding starts
no_sign b ys isnt = not_among signs (b ∷ ys) signs_start isnt

no_form : has_form [] ≡ false
unfolding starts
no_form = not_among signs [] signs_start refl

nondigit_opens : (b : ℕ) → is_nondigit b ≡ true → opens_sign b ≡ false
unfolding opens_sign
nondigit_opens b is = rw is refl

digit_opens : (b : ℕ) → is_digit b ≡ true → opens_sign b ≡ false
unfolding opens_sign
digit_opens b is = rw (digit_no_nondigit b is, is) refl

form_first : (n l d k s : Bool) (o : Option ℕ) → n ≡ true → d ≡ false → o ≡ None → s ≡ false → ((n && l) || (d && k) || is_some o || s) ≡ l
form_first n true d k s o hn hd ho hs = rw hn refl
form_first n false d k s o hn hd ho hs = rw (hn, hd, ho, hs) refl

form_second : (n l d k s : Bool) (o : Option ℕ) → n ≡ false → d ≡ true → o ≡ None → s ≡ false → ((n && l) || (d && k) || is_some o || s) ≡ k
form_second n l d true s o hn hd ho hs = rw (hn, hd) refl
form_second n l d false s o hn hd ho hs = rw (hn, hd, ho, hs) refl

form_last : (n l d k s : Bool) (o : Option ℕ) → n ≡ false → d ≡ false → o ≡ None → ((n && l) || (d && k) || is_some o || s) ≡ s
form_last n l d k s o hn hd ho = rw (hn, hd, ho) refl

form_third : (o : Option ℕ) (s : Bool) → s ≡ false → (is_some o || s) ≡ is_some o
form_third None s hs = rw hs refl
form_third (Some v) s hs = refl

word_form : (b : ℕ) → is_nondigit b ≡ true → (ys : List ℕ) → has_form (b ∷ ys) ≡ list_all is_name_byte ys
word_form b is ys =
    form_first (is_nondigit b) (list_all is_name_byte ys) (is_digit b) (list_all is_number_byte ys) (is_sign (b ∷ ys)) (character (b ∷ ys))
    is (nondigit_no_digit b is) (no_character b ys (nondigit_no_quote b is)) (no_sign b ys (nondigit_opens b is))

number_form : (b : ℕ) → is_digit b ≡ true → (ys : List ℕ) → has_form (b ∷ ys) ≡ list_all is_number_byte ys
number_form b is ys =
    form_second (is_nondigit b) (list_all is_name_byte ys) (is_digit b) (list_all is_number_byte ys) (is_sign (b ∷ ys)) (character (b ∷ ys))
    (digit_no_nondigit b is) is (no_character b ys (digit_no_quote b is)) (no_sign b ys (digit_opens b is))

sign_form : (b : ℕ) → is_nondigit b ≡ false → is_digit b ≡ false → (b == quote) ≡ false → (ys : List ℕ) → has_form (b ∷ ys) ≡ is_sign (b ∷ ys)
sign_form b word digit isnt ys =
    form_last (is_nondigit b) (list_all is_name_byte ys) (is_digit b) (list_all is_number_byte ys) (is_sign (b ∷ ys)) (character (b ∷ ys))
    word digit (no_character b ys isnt)

character_form : (ys : List ℕ) → has_form (39 ∷ ys) ≡ is_some (character (39 ∷ ys))
unfolding opens_sign
character_form ys = form_third (character (39 ∷ ys)) (is_sign (39 ∷ ys)) (no_sign 39 ys refl)

-- Words and numbers.

run_longest : (p : ℕ → Bool) (b : ℕ) (rest : List ℕ) → ((ys : List ℕ) → has_form (b ∷ ys) ≡ list_all p ys) → IsLongest (b ∷ rest) (suc (prefix_len p rest))
run_longest p b rest form = record {
  within = omega (arith, prefix_len-le-length p rest);
  form = form (take (prefix_len p rest) rest) ∙ run_passes p rest;
  longest = more;
}
  where
    more : (m : ℕ) → suc (prefix_len p rest) < m → m ≤ length (b ∷ rest) → has_form (take m (b ∷ rest)) ≡ false
    more zero above within = absurd (omega arith)
    more (suc m) above within = form (take m rest) ∙ longer_fails p rest m (omega arith) (omega arith)

word_kind_of : (bytes : List ℕ) → is_word bytes ≡ true → kind_of bytes ≡ word_kind bytes
word_kind_of bytes is = rw is refl

number_kind_of : (bytes : List ℕ) → is_word bytes ≡ false → is_number bytes ≡ true → kind_of bytes ≡ number_kind bytes
number_kind_of bytes isnt is = rw (isnt, is) refl

word_is : (b : ℕ) (ys : List ℕ) → is_nondigit b ≡ true → list_all is_name_byte ys ≡ true → is_word (b ∷ ys) ≡ true
word_is b ys is all = rw (is, all) refl

number_is : (b : ℕ) (ys : List ℕ) → is_digit b ≡ true → list_all is_number_byte ys ≡ true → is_number (b ∷ ys) ≡ true
number_is b ys is all = rw (is, all) refl

word_is_not : (b : ℕ) (ys : List ℕ) → is_nondigit b ≡ false → is_word (b ∷ ys) ≡ false
word_is_not b ys isnt = rw isnt refl

number_is_not : (b : ℕ) (ys : List ℕ) → is_digit b ≡ false → is_number (b ∷ ys) ≡ false
number_is_not b ys isnt = rw isnt refl

pub word_stands : (before : Before) (b : ℕ) (rest : List ℕ) (n : ℕ) → gap before (b ∷ rest) ≡ None → is_nondigit b ≡ true → n ≡ suc (prefix_len is_name_byte rest)
    → Stands before (b ∷ rest) (taken (word_kind (take n (b ∷ rest))) n)
word_stands before b rest n none is len =
    rw len (token (suc (prefix_len is_name_byte rest)) none (run_longest is_name_byte b rest (word_form b is))
    (ap (λ r. taken r (suc (prefix_len is_name_byte rest))) (sym (word_kind_of (b ∷ take (prefix_len is_name_byte rest) rest) (word_is b (take (prefix_len is_name_byte rest) rest) is (run_passes is_name_byte rest))))))

pub number_stands : (before : Before) (b : ℕ) (rest : List ℕ) (n : ℕ) → gap before (b ∷ rest) ≡ None → is_digit b ≡ true → n ≡ suc (prefix_len is_number_byte rest)
    → Stands before (b ∷ rest) (taken (number_kind (take n (b ∷ rest))) n)
number_stands before b rest n none is len =
    rw len (token (suc (prefix_len is_number_byte rest)) none (run_longest is_number_byte b rest (number_form b is))
    (ap (λ r. taken r (suc (prefix_len is_number_byte rest)))
    (sym (number_kind_of (b ∷ take (prefix_len is_number_byte rest) rest) (word_is_not b (take (prefix_len is_number_byte rest) rest) (digit_no_nondigit b is)) (number_is b (take (prefix_len is_number_byte rest) rest) is (run_passes is_number_byte rest))))))

-- Signs.

longest_begins : (table : List (List ℕ)) (text : List ℕ) → 0 < longest table text → list_any (λ s. bytes_eq s (take (longest table text) text)) table ≡ true
longest_begins [] text more = absurd (omega arith)
longest_begins (s ∷ table) text more = pick (begins text s) refl more (longest_begins table text) (cases_lt (longest table text) (length s))
  where
    or_right : (a b : Bool) → b ≡ true → (a || b) ≡ true
    or_right true b is = refl
    or_right false b is = is

    at_head : (n : ℕ) → begins text s ≡ true → n ≡ length s → list_any (λ w. bytes_eq w (take n text)) (s ∷ table) ≡ true
    at_head n is len = let P : ℕ → Type 0 = λ k. list_any (λ w. bytes_eq w (take k text)) (s ∷ table) ≡ true in subst P (sym len) (rw is refl)

    at_tail : (n : ℕ) → list_any (λ w. bytes_eq w (take (longest table text) text)) table ≡ true → n ≡ longest table text → list_any (λ w. bytes_eq w (take n text)) (s ∷ table) ≡ true
    at_tail n is len =
        let P : ℕ → Type 0 = λ k. list_any (λ w. bytes_eq w (take k text)) (s ∷ table) ≡ true in
        subst P (sym len) (or_right (bytes_eq s (take (longest table text) text)) (list_any (λ w. bytes_eq w (take (longest table text) text)) table) is)

    pick : (c : Bool) → begins text s ≡ c → 0 < cond c (max (length s) (longest table text)) (longest table text)
        → (0 < longest table text → list_any (λ w. bytes_eq w (take (longest table text) text)) table ≡ true)
        → (longest table text < length s) ⊎ (length s ≤ longest table text)
        → list_any (λ w. bytes_eq w (take (cond c (max (length s) (longest table text)) (longest table text)) text)) (s ∷ table) ≡ true
    pick false is more ih order = at_tail (longest table text) (ih more) refl
    pick true is more ih (inl less) = at_head (max (length s) (longest table text)) is (omega arith)
    pick true is more ih (inr le) = at_tail (max (length s) (longest table text)) (ih (omega arith)) (omega arith)

longest_above : (table : List (List ℕ)) (text : List ℕ) (m : ℕ) → m ≤ length text → list_any (λ s. bytes_eq s (take m text)) table ≡ true → m ≤ longest table text
longest_above [] text m within is = absurd (cc)
longest_above (s ∷ table) text m within is = split (bytes_eq s (take m text)) refl (begins text s) refl is (λ h. longest_above table text m within h)
  where
    begins_here : bytes_eq s (take m text) ≡ true → (begins text s ≡ true) × (length s ≡ m)
    begins_here eq =
        let same : s ≡ take m text = (bytes_eq-Decides s (take m text)).0 eq in
        let len : length s ≡ m = omega (arith, ap length same, length-take m text) in
        (rw len eq, len)

    split : (d : Bool) → bytes_eq s (take m text) ≡ d → (c : Bool) → begins text s ≡ c → (d || list_any (λ w. bytes_eq w (take m text)) table) ≡ true
        → (list_any (λ w. bytes_eq w (take m text)) table ≡ true → m ≤ longest table text) → m ≤ cond c (max (length s) (longest table text)) (longest table text)
    split true eq true b is ih = omega (arith, (begins_here eq).1)
    split true eq false b is ih = let h = (begins_here eq).0 in absurd (cc)
    split false eq true b is ih = omega (arith, ih is)
    split false eq false b is ih = ih is

sign_stands : (before : Before) (b : ℕ) (rest : List ℕ) (n : ℕ) → gap before (b ∷ rest) ≡ None → is_nondigit b ≡ false → is_digit b ≡ false → (b == quote) ≡ false
    → n ≡ longest signs (b ∷ rest) → Stands before (b ∷ rest) (sign_piece n)
sign_stands before b rest zero none word digit isnt len = nothing none (record { none = nowhere }) (rw isnt refl)
  where
    above : (c : Bool) (m : ℕ) → is_sign (take m (b ∷ rest)) ≡ c → 0 < m → m ≤ length (b ∷ rest) → c ≡ false
    above true m is more within = absurd (omega (arith, longest_above signs (b ∷ rest) m within is))
    above false m is more within = refl

    nowhere : (m : ℕ) → m ≤ length (b ∷ rest) → has_form (take m (b ∷ rest)) ≡ false
    nowhere zero within = no_form
    nowhere (suc m) within = sign_form b word digit isnt (take m rest) ∙ above (is_sign (take (suc m) (b ∷ rest))) (suc m) refl (omega arith) within
sign_stands before b rest (suc k) none word digit isnt len =
    let nonzero : (suc k == 0) ≡ false = grind (arith, nat_tests) in
    rw nonzero (token (suc k) none (record { within = omega (arith, longest_within signs (b ∷ rest)); form = form; longest = more }) kind)
  where
    form : has_form (take (suc k) (b ∷ rest)) ≡ true
    form = sign_form b word digit isnt (take k rest) ∙ (let P : ℕ → Type 0 = λ n. is_sign (take n (b ∷ rest)) ≡ true in subst P (sym len) (longest_begins signs (b ∷ rest) (omega arith)))

    above : (c : Bool) (m : ℕ) → is_sign (take m (b ∷ rest)) ≡ c → suc k < m → m ≤ length (b ∷ rest) → c ≡ false
    above true m is more within = absurd (omega (arith, longest_above signs (b ∷ rest) m within is))
    above false m is more within = refl

    more : (m : ℕ) → suc k < m → m ≤ length (b ∷ rest) → has_form (take m (b ∷ rest)) ≡ false
    more zero higher within = absurd (omega arith)
    more (suc m) higher within = sign_form b word digit isnt (take m rest) ∙ above (is_sign (take (suc m) (b ∷ rest))) (suc m) refl higher within

    kind : Take Sign (suc k) ≡ taken (kind_of (take (suc k) (b ∷ rest))) (suc k)
    kind = rw (word_is_not b (take k rest) word, number_is_not b (take k rest) digit, no_character b (take k rest) isnt) refl

-- Character literals.

one_none : HasNone (39 ∷ [])
one_none = record { none = nowhere }
  where
    nowhere : (m : ℕ) → m ≤ 1 → has_form (take m (39 ∷ [])) ≡ false
    nowhere zero within = no_form
    nowhere (suc zero) within = character_form []
    nowhere (suc (suc m)) within = absurd (omega arith)

two_none : (b : ℕ) → HasNone (39 ∷ b ∷ [])
two_none b = record { none = nowhere }
  where
    nowhere : (m : ℕ) → m ≤ 2 → has_form (take m (39 ∷ b ∷ [])) ≡ false
    nowhere zero within = no_form
    nowhere (suc zero) within = character_form []
    nowhere (suc (suc zero)) within = character_form (b ∷ [])
    nowhere (suc (suc (suc m))) within = absurd (omega arith)

three_none : (b c : ℕ) → character (39 ∷ b ∷ c ∷ []) ≡ None → HasNone (39 ∷ b ∷ c ∷ [])
three_none b c third = record { none = nowhere }
  where
    nowhere : (m : ℕ) → m ≤ 3 → has_form (take m (39 ∷ b ∷ c ∷ [])) ≡ false
    nowhere zero within = no_form
    nowhere (suc zero) within = character_form []
    nowhere (suc (suc zero)) within = character_form (b ∷ [])
    nowhere (suc (suc (suc zero))) within = character_form (b ∷ c ∷ []) ∙ ap is_some third
    nowhere (suc (suc (suc (suc m)))) within = absurd (omega arith)

three_longest : (b c v : ℕ) → character (39 ∷ b ∷ c ∷ []) ≡ Some v → IsLongest (39 ∷ b ∷ c ∷ []) 3
three_longest b c v third = record { within = omega arith; form = character_form (b ∷ c ∷ []) ∙ ap is_some third; longest = λ m above within. absurd (omega arith) }

-- no beginning of five bytes or more is a character literal
five_none : (b c d : ℕ) (rest : List ℕ) (m : ℕ) → 4 < m → m ≤ length (39 ∷ b ∷ c ∷ d ∷ rest) → has_form (take m (39 ∷ b ∷ c ∷ d ∷ rest)) ≡ false
five_none b c d rest zero above within = absurd (omega arith)
five_none b c d rest (suc zero) above within = absurd (omega arith)
five_none b c d rest (suc (suc zero)) above within = absurd (omega arith)
five_none b c d rest (suc (suc (suc zero))) above within = absurd (omega arith)
five_none b c d rest (suc (suc (suc (suc zero)))) above within = absurd (omega arith)
five_none b c d [] (suc (suc (suc (suc (suc m))))) above within = absurd (omega arith)
five_none b c d (e ∷ rest) (suc (suc (suc (suc (suc m))))) above within = character_form (b ∷ c ∷ d ∷ e ∷ take m rest)

four_none : (b c d : ℕ) (rest : List ℕ) → character (39 ∷ b ∷ c ∷ []) ≡ None → character (39 ∷ b ∷ c ∷ d ∷ []) ≡ None → HasNone (39 ∷ b ∷ c ∷ d ∷ rest)
four_none b c d rest third fourth = record { none = nowhere }
  where
    nowhere : (m : ℕ) → m ≤ length (39 ∷ b ∷ c ∷ d ∷ rest) → has_form (take m (39 ∷ b ∷ c ∷ d ∷ rest)) ≡ false
    nowhere zero within = no_form
    nowhere (suc zero) within = character_form []
    nowhere (suc (suc zero)) within = character_form (b ∷ [])
    nowhere (suc (suc (suc zero))) within = character_form (b ∷ c ∷ []) ∙ ap is_some third
    nowhere (suc (suc (suc (suc zero)))) within = character_form (b ∷ c ∷ d ∷ []) ∙ ap is_some fourth
    nowhere (suc (suc (suc (suc (suc m))))) within = five_none b c d rest (suc (suc (suc (suc (suc m))))) (omega arith) within

three_of_four : (b c d v : ℕ) (rest : List ℕ) → character (39 ∷ b ∷ c ∷ []) ≡ Some v → character (39 ∷ b ∷ c ∷ d ∷ []) ≡ None → IsLongest (39 ∷ b ∷ c ∷ d ∷ rest) 3
three_of_four b c d v rest third fourth = record { within = omega arith; form = character_form (b ∷ c ∷ []) ∙ ap is_some third; longest = more }
  where
    more : (m : ℕ) → 3 < m → m ≤ length (39 ∷ b ∷ c ∷ d ∷ rest) → has_form (take m (39 ∷ b ∷ c ∷ d ∷ rest)) ≡ false
    more zero above within = absurd (omega arith)
    more (suc zero) above within = absurd (omega arith)
    more (suc (suc zero)) above within = absurd (omega arith)
    more (suc (suc (suc zero))) above within = absurd (omega arith)
    more (suc (suc (suc (suc zero)))) above within = character_form (b ∷ c ∷ d ∷ []) ∙ ap is_some fourth
    more (suc (suc (suc (suc (suc m))))) above within = five_none b c d rest (suc (suc (suc (suc (suc m))))) (omega arith) within

four_of_four : (b c d v : ℕ) (rest : List ℕ) → character (39 ∷ b ∷ c ∷ d ∷ []) ≡ Some v → IsLongest (39 ∷ b ∷ c ∷ d ∷ rest) 4
four_of_four b c d v rest fourth = record { within = omega arith; form = character_form (b ∷ c ∷ d ∷ []) ∙ ap is_some fourth; longest = five_none b c d rest }

plain_third : (b c : ℕ) → (is_plain b && (c == quote)) ≡ true → character (39 ∷ b ∷ c ∷ []) ≡ Some b
plain_third b c is = rw is refl

other_third : (b c : ℕ) → (is_plain b && (c == quote)) ≡ false → character (39 ∷ b ∷ c ∷ []) ≡ None
other_third b c is = rw is refl

other_fourth : (b c d : ℕ) → (b == backslash) ≡ false → character (39 ∷ b ∷ c ∷ d ∷ []) ≡ None
other_fourth b c d is = rw is refl

escape_fourth : (c d : ℕ) → (d == quote) ≡ true → character (39 ∷ 92 ∷ c ∷ d ∷ []) ≡ escaped c
escape_fourth c d is = rw is refl

open_fourth : (c d : ℕ) → (d == quote) ≡ false → character (39 ∷ 92 ∷ c ∷ d ∷ []) ≡ None
open_fourth c d is = rw is refl

nothing_stands : (before : Before) (rest : List ℕ) → gap before (39 ∷ rest) ≡ None → HasNone (39 ∷ rest) → Stands before (39 ∷ rest) (Stop BadLiteral)
nothing_stands before rest none has = nothing none has refl

third_stands : (before : Before) (b c : ℕ) (rest : List ℕ) → gap before (39 ∷ b ∷ c ∷ rest) ≡ None → IsLongest (39 ∷ b ∷ c ∷ rest) 3 → character (39 ∷ b ∷ c ∷ []) ≡ Some b
    → Stands before (39 ∷ b ∷ c ∷ rest) (Take (Number b false) 3)
third_stands before b c rest none most is = token 3 none most (rw is refl)

fourth_stands : (before : Before) (b c d v : ℕ) (rest : List ℕ) → gap before (39 ∷ b ∷ c ∷ d ∷ rest) ≡ None → IsLongest (39 ∷ b ∷ c ∷ d ∷ rest) 4 → character (39 ∷ b ∷ c ∷ d ∷ []) ≡ Some v
    → Stands before (39 ∷ b ∷ c ∷ d ∷ rest) (Take (Number v false) 4)
fourth_stands before b c d v rest none most is = token 4 none most (rw is refl)

plain_stands : (before : Before) (b c d : ℕ) (rest : List ℕ) (plain : Bool) → gap before (39 ∷ b ∷ c ∷ d ∷ rest) ≡ None → (b == backslash) ≡ false → (is_plain b && (c == quote)) ≡ plain
    → Stands before (39 ∷ b ∷ c ∷ d ∷ rest) (cond plain (Take (Number b false) 3) (Stop BadLiteral))
plain_stands before b c d rest true none isnt is =
    third_stands before b c (d ∷ rest) none (three_of_four b c d b rest (plain_third b c is) (other_fourth b c d isnt)) (plain_third b c is)
plain_stands before b c d rest false none isnt is =
    nothing_stands before (b ∷ c ∷ d ∷ rest) none (four_none b c d rest (other_third b c is) (other_fourth b c d isnt))

escape_stands : (before : Before) (c d : ℕ) (rest : List ℕ) (o : Option ℕ) (closed : Bool) → gap before (39 ∷ 92 ∷ c ∷ d ∷ rest) ≡ None → escaped c ≡ o → (d == quote) ≡ closed
    → Stands before (39 ∷ 92 ∷ c ∷ d ∷ rest) (escape_piece o d)
escape_stands before c d rest None true none is end =
    nothing_stands before (92 ∷ c ∷ d ∷ rest) none (four_none 92 c d rest refl (escape_fourth c d end ∙ is))
escape_stands before c d rest None false none is end =
    nothing_stands before (92 ∷ c ∷ d ∷ rest) none (four_none 92 c d rest refl (open_fourth c d end))
escape_stands before c d rest (Some v) true none is end =
    rw end (fourth_stands before 92 c d v rest none (four_of_four 92 c d v rest (escape_fourth c d end ∙ is)) (escape_fourth c d end ∙ is))
escape_stands before c d rest (Some v) false none is end =
    rw end (nothing_stands before (92 ∷ c ∷ d ∷ rest) none (four_none 92 c d rest refl (open_fourth c d end)))

character_stands : (before : Before) (rest : List ℕ) → gap before (39 ∷ rest) ≡ None → Stands before (39 ∷ rest) (character_piece (39 ∷ rest))
character_stands before [] none = nothing_stands before [] none one_none
character_stands before (b ∷ []) none = nothing_stands before (b ∷ []) none (two_none b)
character_stands before (b ∷ c ∷ []) none = split (is_plain b && (c == quote)) refl
  where
    split : (plain : Bool) → (is_plain b && (c == quote)) ≡ plain → Stands before (39 ∷ b ∷ c ∷ []) (cond plain (Take (Number b false) 3) (Stop BadLiteral))
    split true is = third_stands before b c [] none (three_longest b c b (plain_third b c is)) (plain_third b c is)
    split false is = nothing_stands before (b ∷ c ∷ []) none (three_none b c (other_third b c is))
character_stands before (b ∷ c ∷ d ∷ rest) none = split (b == backslash) refl none
  where
    split : (escape : Bool) → (b == backslash) ≡ escape → gap before (39 ∷ b ∷ c ∷ d ∷ rest) ≡ None
        → Stands before (39 ∷ b ∷ c ∷ d ∷ rest) (cond escape (escape_piece (escaped c) d) (cond (is_plain b && (c == quote)) (Take (Number b false) 3) (Stop BadLiteral)))
    split true is empty =
        let same : b ≡ 92 = grind (arith, nat_tests) in
        let P : ℕ → Type 0 = λ x. gap before (39 ∷ x ∷ c ∷ d ∷ rest) ≡ None in
        rw same (escape_stands before c d rest (escaped c) (d == quote) (subst P same empty) refl refl)
    split false is empty = plain_stands before b c d rest (is_plain b && (c == quote)) empty is refl

-- What the scanner answers stands there.

token_stands : (before : Before) (b : ℕ) (rest : List ℕ) → gap before (b ∷ rest) ≡ None → Stands before (b ∷ rest) (scan_token (b ∷ rest))
token_stands before b rest none = word (is_nondigit b) refl
  where
    sign : (c : Bool) → is_nondigit b ≡ false → is_digit b ≡ false → (b == quote) ≡ c → Stands before (b ∷ rest) (cond c (character_piece (b ∷ rest)) (sign_piece (longest signs (b ∷ rest))))
    sign true isnt isnt2 is =
        let same : b ≡ 39 = grind (arith, nat_tests) in
        let P : ℕ → Type 0 = λ x. gap before (x ∷ rest) ≡ None in
        rw same (character_stands before rest (subst P same none))
    sign false isnt isnt2 is = sign_stands before b rest (longest signs (b ∷ rest)) none isnt isnt2 is refl

    number : (c : Bool) → is_nondigit b ≡ false → is_digit b ≡ c → Stands before (b ∷ rest)
        (cond c (taken (number_kind (take (prefix_len is_number_byte (b ∷ rest)) (b ∷ rest))) (prefix_len is_number_byte (b ∷ rest))) (cond (b == quote) (character_piece (b ∷ rest)) (sign_piece (longest signs (b ∷ rest)))))
    number true isnt is = number_stands before b rest (prefix_len is_number_byte (b ∷ rest)) none is (suc_len is_number_byte b rest (grind arith))
    number false isnt is = sign (b == quote) isnt is refl

    word : (c : Bool) → is_nondigit b ≡ c → Stands before (b ∷ rest)
        (cond c (taken (word_kind (take (prefix_len is_name_byte (b ∷ rest)) (b ∷ rest))) (prefix_len is_name_byte (b ∷ rest)))
        (cond (is_digit b) (taken (number_kind (take (prefix_len is_number_byte (b ∷ rest)) (b ∷ rest))) (prefix_len is_number_byte (b ∷ rest))) (cond (b == quote) (character_piece (b ∷ rest)) (sign_piece (longest signs (b ∷ rest))))))
    word true is = word_stands before b rest (prefix_len is_name_byte (b ∷ rest)) none is (suc_len is_name_byte b rest (grind arith))
    word false isnt = number (is_digit b) isnt refl

pub scan_stands : (before : Before) (text : List ℕ) (piece : Piece) → text ≢ [] → scan before text ≡ piece → Stands before text piece
unfolding scan
scan_stands before [] piece more is = absurd (more refl)
scan_stands before (b ∷ rest) piece more is = rw (sym is) (split (gap before (b ∷ rest)) refl)
  where
    split : (o : Option Piece) → gap before (b ∷ rest) ≡ o → Stands before (b ∷ rest) (scan_behind o (b ∷ rest))
    split None none = token_stands before b rest none
    split (Some p) some = between some

-- Nothing stands at the end of a text.
pub end_stands : (before : Before) → Stands before [] (Stop BadByte)
end_stands before = nothing refl (record { none = nowhere }) refl
  where
    nowhere : (m : ℕ) → m ≤ 0 → has_form (take m []) ≡ false
    nowhere zero within = no_form
    nowhere (suc m) within = absurd (omega arith)

-- One piece stands there and no other.

pub longest_same : (text : List ℕ) (n m : ℕ) → IsLongest text n → IsLongest text m → n ≡ m
longest_same text n m a b = elim (cases_lt n m) [
  | inl less ↦ let isnt = a.longest m less b.within in let is = b.form in absurd (cc)
  | inr le ↦ elim (cases_lt m n) [
    | inl more ↦ let isnt = b.longest n more a.within in let is = a.form in absurd (cc)
    | inr ge ↦ omega arith
  ]
]

pub same_piece : (before : Before) (text : List ℕ) (p q : Piece) → Stands before text p → Stands before text q → p ≡ q
same_piece before text p q (between some) (between other) = let h : Some p ≡ Some q = sym some ∙ other in cc
same_piece before text p q (between some) (token m none most is) = let h : Some p ≡ None = sym some ∙ none in absurd (cc)
same_piece before text p q (between some) (nothing none has is) = let h : Some p ≡ None = sym some ∙ none in absurd (cc)
same_piece before text p q (token n none most is) (between other) = let h : Some q ≡ None = sym other ∙ none in absurd (cc)
same_piece before text p q (token n none most is) (token m none2 most2 is2) =
    let same : n ≡ m = longest_same text n m most most2 in is ∙ rw same (sym is2)
same_piece before text p q (token n none most is) (nothing none2 has is2) =
    let isnt = has.none n most.within in let form = most.form in absurd (cc)
same_piece before text p q (nothing none has is) (between other) = let h : Some q ≡ None = sym other ∙ none in absurd (cc)
same_piece before text p q (nothing none has is) (token m none2 most is2) =
    let isnt = has.none m most.within in let form = most.form in absurd (cc)
same_piece before text p q (nothing none has is) (nothing none2 has2 is2) = is ∙ sym is2

pub longest_some : (text : List ℕ) (n : ℕ) → IsLongest text n → 0 < n
longest_some text zero most = let isnt = no_form in let is = most.form in absurd (cc)
longest_some text (suc n) most = omega arith
