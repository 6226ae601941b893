-- The tokens of a text have at most one first fault.
use Rattle.std.proofs.Common.{◌≡◌, ◌≢◌, ◌<◌, ◌≤◌, ◌+◌, ℕ, zero, suc, List, [], ◌∷◌, ◌++◌, length, take, drop, get_or, Option, Some, refl, sym, ap, subst, ◌∙◌, arith, append_assoc}
use Rattle.std.specs.Prelude.{slice_get}
use Rattle.std.proofs.lemmas.List.{take-append-drop, take-map}
use Rattle.std.proofs.lemmas.List.Elements.{All-take, All-drop, All-append}
use Rattle.base_io.specs.declared.place.Place.{Place}
use Rattle.c_lex.specs.declared.token.Token.{Token}
use Rattle.c_parse.specs.declared.fault.ParseFault.{ParseFault}
use Rattle.c_parse.specs.declared.fault.ParseFault.TheVariants.{Unexpected, NotInProfile, TooDeep, Memory}
use Rattle.c_parse.specs.Faults.{IsAt, IsCause, IsDeepAt, IsLeftOutAt, IsUnexpectedAt, at_token, at_end, IsOutsideAt, left_out_token, IsTooDeepAt, deep_token}
use Rattle.c_parse.specs.Grammar.{Begins, EndsEarly, FirstFault, IsFit, IsReal, IsShallow, IsText, Nested, bare, word_at}
use Rattle.c_parse.specs.Words.{Genuine, word_of, words_of}
use Rattle.c_parse.proofs.Sparse.{few_in, sparse_fit}
use Rattle.c_parse.proofs.Spellings.{word_genuine}
use Rattle.c_parse.proofs.Tallies.{sparse_take}

-- ---- What fits begins with what fits

all_real : (source : List ℕ) (text : List Nested) (tokens : List Token) → bare text ≡ words_of source tokens → (k : ℕ) (d : Nested) → k < length text → IsReal (get_or text k d)
all_real source [] tokens e k d lt = absurd (omega (arith, lt))
all_real source (n ∷ ns) [] e k d lt = cc
all_real source (n ∷ ns) (t ∷ ts) e zero d lt = let same : word_of source t ≡ word_at n = cc in subst Genuine same (word_genuine source t)
all_real source (n ∷ ns) (t ∷ ts) e (suc k) d lt = let rest : bare ns ≡ words_of source ts = cc in all_real source ns ts rest k d (omega (arith, lt))

bare_take : (i : ℕ) (text : List Nested) → bare (take i text) ≡ take i (bare text)
bare_take zero text = refl
bare_take (suc i) [] = refl
bare_take (suc i) (n ∷ ns) = ap (λ t. word_at n ∷ t) (bare_take i ns)

split_front : (i : ℕ) (text more : List Nested) → text ++ more ≡ take i text ++ (drop i text ++ more)
split_front i text more = ap (λ (x : List Nested). x ++ more) (sym (take-append-drop i text)) ∙ append_assoc (take i text) (drop i text) more

fits_front : (source : List ℕ) (tokens : List Token) (i : ℕ) → IsFit (words_of source tokens) → IsFit (take i (words_of source tokens))
fits_front source tokens i f =
    let P : List Nested → Type 0 = λ x. IsText x f.begins.raw in
    let b : Begins (take i f.front) = record {
      more = drop i f.front ++ f.begins.more;
      real = All-append IsReal (drop i f.front) f.begins.more (All-drop IsReal i f.front (all_real source f.front tokens f.are)) f.begins.real;
      raw = f.begins.raw;
      text = subst P (split_front i f.front f.begins.more) f.begins.text;
    } in
    let are : bare (take i f.front) ≡ take i (words_of source tokens) = bare_take i f.front ∙ ap (take i) f.are in
    record {
      front = take i f.front;
      are = are;
      shallow = All-take IsShallow i f.front f.shallow;
      begins = b;
      few = few_in (take i f.front) b (take i (words_of source tokens)) are (sparse_take (words_of source tokens) i (sparse_fit (words_of source tokens) f));
    }

take_shorter : {A : Type 0} (i j : ℕ) (xs : List A) → i ≤ j → take i (take j xs) ≡ take i xs
take_shorter zero j xs le = refl
take_shorter (suc i) zero xs le = absurd (omega (arith, le))
take_shorter (suc i) (suc j) [] le = refl
take_shorter (suc i) (suc j) (x ∷ xs) le = ap (λ t. x ∷ t) (take_shorter i j xs (omega (arith, le)))

fits_shorter : (source : List ℕ) (tokens : List Token) (i j : ℕ) → i ≤ j → IsFit (take j (words_of source tokens)) → IsFit (take i (words_of source tokens))
fits_shorter source tokens i j le f =
    let there : take j (words_of source tokens) ≡ words_of source (take j tokens) = take-map (word_of source) j tokens in
    let front = fits_front source (take j tokens) i (subst IsFit there f) in
    subst IsFit (ap (take i) (sym there) ∙ take_shorter i j (words_of source tokens) le) front

-- ---- One fault

module _ (text : List ℕ) (tokens : List Token) where
  not_sooner : (i j : ℕ) → FirstFault (words_of text tokens) i → FirstFault (words_of text tokens) j → i < j → ⊥
  not_sooner i j a b less = a.stops (fits_shorter text tokens (i + 1) j (omega (arith, less)) b.before)

  same_index : (i j : ℕ) → FirstFault (words_of text tokens) i → FirstFault (words_of text tokens) j → i ≡ j
  same_index i j a b =
      let low : i < j → ⊥ = not_sooner i j a b in
      let high : j < i → ⊥ = not_sooner j i b a in
      omega (arith, low, high)

  not_early : (i : ℕ) → FirstFault (words_of text tokens) i → EndsEarly (words_of text tokens) → ⊥
  not_early i a e = a.stops (fits_front text tokens (i + 1) e.begins)

  token_at : (i j : ℕ) (t u : Token) → i ≡ j → slice_get tokens i ≡ Some t → slice_get tokens j ≡ Some u → t ≡ u
  token_at i j t u e a b = some_same t u (sym a ∙ ap (slice_get tokens) e ∙ b)
    where
      some_same : (t u : Token) → (let s : Option Token = Some t in s ≡ Some u) → t ≡ u
      some_same t u e = cc

  same_token : (i j : ℕ) (t u : Token) (p q : Place) → IsAt text tokens i t p → IsAt text tokens j u q → t ≡ u
  same_token i j t u p q a b = token_at i j t u (same_index i j a.first b.first) a.token_is b.token_is

  same_place : (i j : ℕ) (t u : Token) (p q : Place) → IsAt text tokens i t p → IsAt text tokens j u q → p ≡ q
  same_place i j t u p q a b = a.place_is ∙ ap (λ (x : Token). x.place) (same_token i j t u p q a b) ∙ sym b.place_is

  also_deep : (i j : ℕ) (t u : Token) (p q : Place) → IsAt text tokens i t p → IsAt text tokens j u q → IsDeepAt text tokens i t → IsDeepAt text tokens j u
  also_deep i j t u p q a b deep =
      let P : ℕ → Type 0 = λ k. IsDeepAt text tokens k t in
      let Q : Token → Type 0 = λ x. IsDeepAt text tokens j x in
      subst Q (same_token i j t u p q a b) (subst P (same_index i j a.first b.first) deep)

  also_out : (i j : ℕ) (t u : Token) (p q : Place) → IsAt text tokens i t p → IsAt text tokens j u q → IsLeftOutAt text tokens i t → IsLeftOutAt text tokens j u
  also_out i j t u p q a b out =
      let P : ℕ → Type 0 = λ k. IsLeftOutAt text tokens k t in
      let Q : Token → Type 0 = λ x. IsLeftOutAt text tokens j x in
      subst Q (same_token i j t u p q a b) (subst P (same_index i j a.first b.first) out)

  one_unexpected : (p q : Place) → IsUnexpectedAt text tokens p → IsUnexpectedAt text tokens q → p ≡ q
  one_unexpected p q (at_token i t a flat kept) (at_token j u b also too) = same_place i j t u p q a b
  one_unexpected p q (at_token i t a flat kept) (at_end e is) = absurd (not_early i a.first e)
  one_unexpected p q (at_end e is) (at_token j u b also too) = absurd (not_early j b.first e)
  one_unexpected p q (at_end e is) (at_end f also) = is ∙ sym also

  one_outside : (p q : Place) → IsOutsideAt text tokens p → IsOutsideAt text tokens q → p ≡ q
  one_outside p q (left_out_token i t a flat out) (left_out_token j u b also too) = same_place i j t u p q a b

  one_deep : (p q : Place) → IsTooDeepAt text tokens p → IsTooDeepAt text tokens q → p ≡ q
  one_deep p q (deep_token i t a deep) (deep_token j u b also) = same_place i j t u p q a b

  not_both : (p q : Place) → IsUnexpectedAt text tokens p → IsTooDeepAt text tokens q → ⊥
  not_both p q (at_token i t a flat kept) (deep_token j u b deep) = flat (also_deep j i u t q p b a deep)
  not_both p q (at_end e is) (deep_token j u b deep) = not_early j b.first e

  not_out : (p q : Place) → IsUnexpectedAt text tokens p → IsOutsideAt text tokens q → ⊥
  not_out p q (at_token i t a flat kept) (left_out_token j u b also out) = kept (also_out j i u t q p b a out)
  not_out p q (at_end e is) (left_out_token j u b also out) = not_early j b.first e

  not_deep : (p q : Place) → IsOutsideAt text tokens p → IsTooDeepAt text tokens q → ⊥
  not_deep p q (left_out_token i t a flat out) (deep_token j u b deep) = flat (also_deep j i u t q p b a deep)

  pub one_cause : (f g : ParseFault) → f ≢ Memory → g ≢ Memory → IsCause text tokens f → IsCause text tokens g → f ≡ g
  one_cause (Unexpected p) (Unexpected q) n m a b = ap Unexpected (one_unexpected p q a b)
  one_cause (Unexpected p) (NotInProfile q) n m a b = absurd (not_out p q a b)
  one_cause (Unexpected p) (TooDeep q) n m a b = absurd (not_both p q a b)
  one_cause (NotInProfile p) (Unexpected q) n m a b = absurd (not_out q p b a)
  one_cause (NotInProfile p) (NotInProfile q) n m a b = ap NotInProfile (one_outside p q a b)
  one_cause (NotInProfile p) (TooDeep q) n m a b = absurd (not_deep p q a b)
  one_cause (TooDeep p) (Unexpected q) n m a b = absurd (not_both q p b a)
  one_cause (TooDeep p) (NotInProfile q) n m a b = absurd (not_deep q p b a)
  one_cause (TooDeep p) (TooDeep q) n m a b = ap TooDeep (one_deep p q a b)
  one_cause Memory g n m a b = absurd (n refl)
  one_cause f Memory n m a b = absurd (m refl)
