-- Words that fit behind others, and words that don't.
use Rattle.std.proofs.Common.{◌≡◌, ◌<◌, ◌≤◌, ◌+◌, ◌-◌, ℕ, zero, suc, List, [], ◌∷◌, ◌++◌, length, map, take, drop, get_or, reverse, Bool, true, false, not, nat_lt, inl, inr, refl, sym, ap, subst, ◌∙◌, append_assoc, append-nil, add-one, drop-cons, arith}
use Rattle.std.specs.Prelude.{All, ◌⊎◌}
use Rattle.std.proofs.lemmas.Bool.{ltb-true, ltb-false}
use Rattle.std.proofs.lemmas.List.{get_or-map, length-map, take-append-drop, map-append, reverse-append}
use Rattle.std.proofs.lemmas.List.Elements.{All-take, All-drop, All-append, All-map}
use Rattle.std.proofs.lemmas.Grind.{common_steps}
use Rattle.std.proofs.Math.Seq.{take-append_seam, drop-append_seam}
use Rattle.c_lex.specs.declared.token.Token.{Token}
use Rattle.c_lex.specs.declared.token.TokenKind.{TokenKind}
use Rattle.c_parse.specs.declared.class.Class.{Class}
use Rattle.c_parse.specs.declared.form.Wait.{Wait}
use Rattle.c_parse.specs.declared.raw.Raw.{Raw}
use Rattle.c_parse.specs.declared.fault.ParseFault.TheVariants.{Unexpected, NotInProfile}
use Rattle.base_io.specs.declared.place.Place.{Place}
use Rattle.c_parse.specs.Faults.{IsFlat}
use Rattle.c_parse.specs.Grammar.{Nested, bare, IsShallow, IsOpen, IsText, IsReal, word_at, IsTooDeep, in_text, in_bracket, one_operator_more, ends_in_bracket}
use Rattle.c_parse.specs.Profile.{MayBegin, spelt, nearest, Tells, IsLeftOut, left_out, IsRoomy}
use Rattle.c_parse.specs.Steps.{Stands, Passes_over, Refuses, RefusesAt}
use Rattle.c_parse.specs.Words.{Word, word_of, words_of, Genuine}
use Rattle.c_parse.proofs.Spellings.{word_genuine}
use Rattle.c_parse.proofs.TooDeep.{kept_so, deep_refusal, not_open, not_at, over_open, stands_where, flat_bracket}
use Rattle.c_parse.proofs.Whole.{next_front, stands_on, is_open, begins_so, not_so, Parting, part}

pub bare_take : (i : ℕ) (text : List Nested) → bare (take i text) ≡ take i (bare text)
bare_take zero text = refl
bare_take (suc i) [] = refl
bare_take (suc i) (n ∷ ns) = ap (λ t. word_at n ∷ t) (bare_take i ns)

bare_drop : (i : ℕ) (text : List Nested) → bare (drop i text) ≡ drop i (bare text)
bare_drop zero text = refl
bare_drop (suc i) [] = refl
bare_drop (suc i) (n ∷ ns) = bare_drop i ns

real_words : (text : List Nested) → All Genuine (bare text) → All IsReal text
real_words text all k d lt = let within : k < length (bare text) = rw (length-map text word_at) lt in subst Genuine (get_or-map word_at text k d (word_at d) lt) (all k (word_at d) within)

-- Words that begin a text with more words behind them begin one.
pub begins_before : (a b : List Word) → All Genuine b → MayBegin (a ++ b) → MayBegin a
begins_before a b real fit =
    let n : ℕ = length a in
    let back : bare (drop n fit.front) ≡ b = bare_drop n fit.front ∙ ap (drop n) fit.are ∙ drop-append_seam a b in
    let P : List Nested → Type 0 = λ x. IsText x fit.begins.raw in
    record {
      front = take n fit.front;
      are = bare_take n fit.front ∙ ap (take n) fit.are ∙ take-append_seam a b;
      shallow = All-take IsShallow n fit.front fit.shallow;
      begins = record {
        more = drop n fit.front ++ fit.begins.more;
        real = All-append IsReal (drop n fit.front) fit.begins.more (real_words (drop n fit.front) (subst (All Genuine) (sym back) real)) fit.begins.real;
        raw = fit.begins.raw;
        text = subst P (ap (λ t. t ++ fit.begins.more) (sym (take-append-drop n fit.front)) ∙ append_assoc (take n fit.front) (drop n fit.front) fit.begins.more) fit.begins.text;
      };
    }

pub may_begin : (front : List Word) (c : List Wait) (vs : List (List Raw)) → Stands front c vs → MayBegin front
may_begin front c vs s = record { front = s.text; are = s.are; shallow = s.shallow; begins = begins_so s.text c vs s.moves }

last_shallow : (before : List Nested) (last : Nested) → All IsShallow (before ++ last ∷ []) → last.level ≤ 64
last_shallow before last all = grind (arith, common_steps, all)

-- With a word that the machine refuses they begin none.
pub begins_no_more : (front : List Word) (word : Word) (c : List Wait) (vs : List (List Raw)) → Stands front c vs → Refuses word c vs → MayBegin (front ++ word ∷ []) → ⊥
begins_no_more front word c vs s r was =
    let p : Parting was.front front word = part front word was.front was.are in
    let low : p.last.level ≤ 64 = last_shallow p.before p.last (subst (All IsShallow) p.is was.shallow) in
    not_so front word c vs r.waits r.builds s r.reaches was.front was.begins p (λ rest. r.stuck p.last.level rest low)

-- The first of the words were read, and these are left.
pub record Behind (all rest : List Word) (c : List Wait) (vs : List (List Raw)) : Type 0 where
  pub front : List Word
  pub is : front ++ rest ≡ all
  pub stands : Stands front c vs

pub behind_start : (front rest : List Word) (c : List Wait) (vs : List (List Raw)) → Stands front c vs → Behind (front ++ rest) rest c vs
behind_start front rest c vs s = record { front = front; is = refl; stands = s }

pub behind_on : (all rest : List Word) (word : Word) (c : List Wait) (vs : List (List Raw)) (c2 : List Wait) (vs2 : List (List Raw)) → Behind all (word ∷ rest) c vs → Passes_over word c vs c2 vs2 → Behind all rest c2 vs2
behind_on all rest word c vs c2 vs2 b over = record { front = b.front ++ word ∷ []; is = append_assoc b.front (word ∷ []) rest ∙ b.is; stands = stands_on b.front word c vs c2 vs2 b.stands over }

pub behind_stops : (all rest : List Word) (word : Word) (c : List Wait) (vs : List (List Raw)) → All Genuine rest → Behind all (word ∷ rest) c vs → Refuses word c vs → MayBegin all → ⊥
behind_stops all rest word c vs real b r fit =
    begins_no_more b.front word c vs b.stands r (begins_before (b.front ++ word ∷ []) rest real (subst MayBegin (sym (append_assoc b.front (word ∷ []) rest ∙ b.is)) fit))

pub behind_all : (all rest : List Word) (c : List Wait) (vs : List (List Raw)) → Behind all rest c vs → rest ≡ [] → MayBegin all
behind_all all rest c vs b none = subst MayBegin (sym (append-nil b.front) ∙ ap (λ t. b.front ++ t) (sym none) ∙ b.is) (may_begin b.front c vs b.stands)

-- The next of these words is read.
pub next_sample : {X : Type 0} (f : X → Word) (all : List Word) (xs : List X) (i : ℕ) (x : X) (c : List Wait) (vs : List (List Raw)) → i < length xs → x ≡ get_or xs i x → Behind all (map f (drop i xs)) c vs
    → Behind all (f x ∷ map f (drop (i + 1) xs)) c vs
next_sample f all xs i x c vs lt is b =
    let e : drop i xs ≡ x ∷ drop (i + 1) xs = rw add-one (drop-cons xs i x lt ∙ ap (λ y. y ∷ drop (suc i) xs) (sym is)) in
    subst (λ l. Behind all (map f l) c vs) e b

pub samples_done : {X : Type 0} (f : X → Word) (all : List Word) (xs : List X) (i : ℕ) (c : List Wait) (vs : List (List Raw)) → length xs ≤ i → Behind all (map f (drop i xs)) c vs → MayBegin all
samples_done f all xs i c vs le b = let none : drop i xs ≡ [] = grind (arith, common_steps) in behind_all all (map f (drop i xs)) c vs b (ap (map f) none)

pub spelt_genuine : (kind : TokenKind) (bytes : List ℕ) → Genuine (spelt kind bytes)
spelt_genuine kind bytes = record { kind = kind; bytes = bytes; place = record { line = 1; column = 1 }; leaf = refl; class = refl }

pub all_spelt : {X : Type 0} (kind : X → TokenKind) (bytes : X → List ℕ) (xs : List X) → All Genuine (map (λ x. spelt (kind x) (bytes x)) xs)
all_spelt kind bytes xs = All-map Genuine (λ x. spelt (kind x) (bytes x)) xs (λ k d lt. spelt_genuine _ _)

all_genuine : (text : List ℕ) (tokens : List Token) → All Genuine (words_of text tokens)
all_genuine text tokens = All-map Genuine (word_of text) tokens (λ k d lt. word_genuine text _)

module _ (text : List ℕ) (tokens : List Token) (i : ℕ) (token : Token) (within : i < length tokens) (is : token ≡ get_or tokens i token) where
  word_within : i < length (words_of text tokens)
  word_within = rw (length-map tokens (word_of text)) within

  word_is : get_or (words_of text tokens) i (word_of text token) ≡ word_of text token
  word_is = get_or-map (word_of text) tokens i token (word_of text token) within ∙ ap (word_of text) (sym is)

  -- Where it is refused, they don't fit.
  pub front_stops : (c : List Wait) (vs : List (List Raw)) → Stands (take i (words_of text tokens)) c vs → Refuses (word_of text token) c vs → MayBegin (words_of text tokens) → ⊥
  front_stops c vs stands r fit =
      let ws : List Word = words_of text tokens in
      begins_no_more (take i ws) (word_of text token) c vs stands r
      (subst MayBegin (next_front ws i (word_of text token) word_within ∙ ap (λ w. take i ws ++ w ∷ []) word_is)
      (begins_before (take (i + 1) ws) (drop (i + 1) ws) (All-drop Genuine (i + 1) ws (all_genuine text tokens)) (subst MayBegin (sym (take-append-drop (i + 1) ws)) fit)))

  nearest_last : (front : List Word) (word : Word) → nearest (front ++ word ∷ []) ≡ word.class ∷ nearest front
  nearest_last front word = ap (λ x. reverse x) (map-append (λ w. w.class) front (word ∷ [])) ∙ reverse-append (map (λ w. w.class) front) (word.class ∷ [])

  pub nearest_next : nearest (take (i + 1) (words_of text tokens)) ≡ (word_of text token).class ∷ nearest (take i (words_of text tokens))
  nearest_next =
      ap nearest (next_front (words_of text tokens) i (word_of text token) word_within ∙ ap (λ w. take i (words_of text tokens) ++ w ∷ []) word_is)
      ∙ nearest_last (take i (words_of text tokens)) (word_of text token)

pub words_take : (text : List ℕ) (tokens : List Token) (i : ℕ) → words_of text (take i tokens) ≡ take i (words_of text tokens)
words_take text tokens zero = refl
words_take text [] (suc i) = refl
words_take text (token ∷ tokens) (suc i) = ap (λ ws. word_of text token ∷ ws) (words_take text tokens i)

-- The classes of the first words, the last of them first, and then those of the words before.
pub nearest_on : (text : List ℕ) (tokens : List Token) (i : ℕ) (token : Token) (classes : List Class) → i < length tokens → token ≡ get_or tokens i token
    → classes ++ nearest (take (i + 1) (words_of text tokens)) ≡ nearest (words_of text tokens) → (classes ++ (word_of text token).class ∷ []) ++ nearest (take i (words_of text tokens)) ≡ nearest (words_of text tokens)
nearest_on text tokens i token classes within is so =
    append_assoc classes ((word_of text token).class ∷ []) (nearest (take i (words_of text tokens))) ∙ ap (λ l. classes ++ l) (sym (nearest_next text tokens i token within is)) ∙ so

same_read : {X : Type 0} (xs : List X) (i : ℕ) (d e : X) → i < length xs → get_or xs i d ≡ get_or xs i e
same_read [] i d e lt = absurd (omega (arith, lt))
same_read (x ∷ xs) zero d e lt = refl
same_read (x ∷ xs) (suc i) d e lt = same_read xs i d e (omega (arith, lt))

-- One more of them, from the last word on.
pub nearest_before : (text : List ℕ) (tokens : List Token) (left : ℕ) (d : Token) (class : Class) (items classes : List Class) → 0 < left → left ≤ length tokens → items ≡ classes ++ class ∷ []
    → class ≡ (word_of text (get_or tokens (left - 1) d)).class → classes ++ nearest (take left (words_of text tokens)) ≡ nearest (words_of text tokens)
    → items ++ nearest (take (left - 1) (words_of text tokens)) ≡ nearest (words_of text tokens)
nearest_before text tokens left d class items classes some within put is so =
    let token : Token = get_or tokens (left - 1) d in
    let lt : left - 1 < length tokens = omega (arith, some, within) in
    let up : left ≡ left - 1 + 1 = omega (arith, some) in
    let before : classes ++ nearest (take (left - 1 + 1) (words_of text tokens)) ≡ nearest (words_of text tokens) = subst (λ k. classes ++ nearest (take k (words_of text tokens)) ≡ nearest (words_of text tokens)) up so in
    ap (λ l. l ++ nearest (take (left - 1) (words_of text tokens))) (put ∙ ap (λ k. classes ++ k ∷ []) is)
    ∙ nearest_on text tokens (left - 1) token classes lt (same_read tokens (left - 1) d token lt) before

pub all_take : (text : List ℕ) (tokens : List Token) → take (length tokens) (words_of text tokens) ≡ words_of text tokens
all_take text tokens = grind (arith, common_steps)

-- ---- Which word may stand next

pub open_passed : (front : List Word) (word : Word) (c : List Wait) (vs : List (List Raw)) (c2 : List Wait) (vs2 : List (List Raw)) → Stands front c vs → Passes_over word c vs c2 vs2 → IsOpen (front ++ word ∷ [])
open_passed front word c vs c2 vs2 s over =
    is_open (front ++ word ∷ []) c2 vs2 (stands_on front word c vs c2 vs2 s over)

deep_open : (front : List Word) (word : Word) → IsRoomy front → IsTooDeep front word → IsOpen (front ++ word ∷ [])
deep_open front word roomy (in_text deep lies st) = stands_where front deep word st
deep_open front word roomy (in_bracket deep other real lies shut bracket st) = absurd (roomy.room deep other lies bracket st)
deep_open front word roomy (one_operator_more before last b are is many) = over_open front word before last b are is

-- A word that is refused may stand there only where it would be nested too deep.
pub refused_deep : (front : List Word) (word : Word) (depth : ℕ) (c : List Wait) (vs : List (List Raw)) → Stands front c vs → RefusesAt depth word c vs → IsRoomy front → 64 < depth → IsOpen (front ++ word ∷ [])
refused_deep front word depth c vs s (r, lies) roomy deep = deep_open front word roomy (deep_refusal front word c vs s r (omega (arith, lies, deep)))

pub refused_flat : (front : List Word) (word : Word) (depth : ℕ) (c : List Wait) (vs : List (List Raw)) → Stands front c vs → RefusesAt depth word c vs → depth ≤ 64 → IsOpen (front ++ word ∷ []) → ⊥
refused_flat front word depth c vs s (r, lies) le = not_open front word c vs r.waits r.builds s r.reaches (not_at front word c vs s r (omega (arith, lies, le)))

pub refused_told : (front : List Word) (word : Word) (depth : ℕ) (c : List Wait) (vs : List (List Raw)) → Stands front c vs → RefusesAt depth word c vs → IsRoomy front → Tells (nat_lt 64 depth) (IsOpen (front ++ word ∷ []))
refused_told front word depth c vs s r roomy = by_answer (nat_lt 64 depth) refl
  where
    by_answer : (b : Bool) → nat_lt 64 depth ≡ b → Tells b (IsOpen (front ++ word ∷ []))
    by_answer true e = refused_deep front word depth c vs s r roomy (ltb-true _ _ e)
    by_answer false e = refused_flat front word depth c vs s r (ltb-false _ _ e)

-- Where the word at fault isn't nested too deep.
pub roomy_at : (front : List Word) (word : Word) (depth : ℕ) (c : List Wait) (vs : List (List Raw)) → Stands front c vs → RefusesAt depth word c vs → depth ≤ 64 → IsRoomy front
roomy_at front word depth c vs s (r, lies) le = record {
  fit = may_begin front c vs s;
  room = λ deep other more bracket st. flat_bracket (ends_in_bracket front) front word c vs s r deep other (omega (arith, lies, le)) more bracket st (kept_so front c vs s);
}

-- ---- Answers that tell

pub told : (b : Bool) (P : Type 0) → Tells b P → b ≡ true → P
told true P t e = t
told false P t e = cc

pub untold : (b : Bool) (P : Type 0) → Tells b P → b ≡ false → P → ⊥
untold true P t e p = cc
untold false P t e p = t p

pub told_not : (b : Bool) (P Q : Type 0) → Tells b P → ((P → ⊥) → Q) → (P → Q → ⊥) → Tells (not b) Q
told_not true P Q t yields apart = apart t
told_not false P Q t yields apart = yields t

pub tells_is : (a b : Bool) → a ≡ b → Tells b (a ≡ true)
tells_is a true e = e
tells_is a false e = λ q. cc

pub neither : (P Q : Type 0) → (P → ⊥) → (Q → ⊥) → P ⊎ Q → ⊥
neither P Q f g (inl p) = f p
neither P Q f g (inr q) = g q

pub or_left : (b : Bool) (P Q : Type 0) → (Q → ⊥) → Tells b P → Tells b (P ⊎ Q)
or_left true P Q g t = inl t
or_left false P Q g t = neither P Q t g

pub or_right : (b : Bool) (P Q : Type 0) → (P → ⊥) → Tells b Q → Tells b (P ⊎ Q)
or_right true P Q f t = inr t
or_right false P Q f t = neither P Q f t

pub and_right : (b : Bool) (P Q : Type 0) → P → Tells b Q → Tells b (P × Q)
and_right true P Q p t = (p, t)
and_right false P Q p t = λ both. t both.1

pub clash : (b : Bool) → b ≡ false → b ≡ true → ⊥
clash b e q = cc

pub same_told : (f : List Class → Bool) (classes near : List Class) (said value : Bool) → classes ≡ near → said ≡ f classes → said ≡ value → f near ≡ value
same_told f classes near said value e is same = ap f (sym e) ∙ sym is ∙ same

pub outside_flat : (before : List Word) (class other : Class) (place : Place) (said : Bool) → other ≡ class → Tells said (IsLeftOut (left_out other) before) → said ≡ true → IsFlat before class place (NotInProfile place)
outside_flat before class other place said e t is = let P : Class → Type 0 = λ k. IsLeftOut (left_out k) before in (refl, subst P e (told said (P other) t is))

pub unexpected_flat : (before : List Word) (class other : Class) (place : Place) (said : Bool) → other ≡ class → Tells said (IsLeftOut (left_out other) before) → said ≡ false → IsFlat before class place (Unexpected place)
unexpected_flat before class other place said e t is = let P : Class → Type 0 = λ k. IsLeftOut (left_out k) before in (refl, subst (λ k. P k → ⊥) e (untold said (P other) t is))
