-- The tally and the numbers of operators by the grammar have the same limit.
use Rattle.std.proofs.Common.{◌≡◌, ◌≤◌, ◌<◌, inl, inr, ℕ, zero, suc, List, [], ◌∷◌, ◌++◌, length, take, get_or, refl, sym, ap, subst, ◌∙◌, append-nil, arith}
use Rattle.std.proofs.lemmas.Bool.{cases_lt}
use Rattle.std.proofs.lemmas.Grind.{common_steps}
use Rattle.c_parse.specs.declared.raw.Raw.{Raw}
use Rattle.c_parse.specs.declared.tally.Last.TheVariants.{Other}
use Rattle.c_parse.specs.Grammar.{Nested, word_at, bare, IsText, counts_in, Begins, IsFit, Word}
use Rattle.c_parse.specs.Tally.{outside, operator_count, IsSparse}
use Rattle.c_parse.proofs.Inside.{bare_append}
use Rattle.c_parse.proofs.Counting.{Points, points_text}
use Rattle.c_parse.proofs.Tallies.{take_before, take_behind, sparse_here}

few_of : (counts : List ℕ) (all words more : List Word) → Points (outside Other) counts all → all ≡ words ++ more → IsSparse words → (i : ℕ) → i < length words → get_or counts i 0 ≤ 1000
few_of counts all words more p split sparse i lt =
    let same : take (suc i) all ≡ take (suc i) words = ap (take (suc i)) split ∙ take_before words more (suc i) (omega (arith, lt)) in
    let there : operator_count (take (suc i) all) ≤ 1000 = let P : List Word → Type 0 = λ x. operator_count x ≤ 1000 in subst P (sym same) (sparse.few (suc i)) in
    let below : get_or counts i 0 ≤ operator_count (take (suc i) all) = p.most i in omega (arith, there, below)

sparse_of : (counts : List ℕ) (all words more : List Word) → Points (outside Other) counts all → all ≡ words ++ more → ((i : ℕ) → i < length words → get_or counts i 0 ≤ 1000) → IsSparse words
sparse_of counts all words more p split few = record { few = up_to }
  where
    up_to : (n : ℕ) → operator_count (take n words) ≤ 1000
    up_to zero = omega arith
    up_to (suc i) =
        let before_it : operator_count (take i words) ≤ 1000 = up_to i in
        elim (cases_lt i (length words)) [
          | inl lt ↦
              let same : take (suc i) all ≡ take (suc i) words = ap (take (suc i)) split ∙ take_before words more (suc i) (omega (arith, lt)) in
              let same2 : take i all ≡ take i words = ap (take i) split ∙ take_before words more i (omega (arith, lt)) in
              let within : i < length all = let long : length all ≡ length (words ++ more) = ap length split in grind (arith, common_steps, long, lt) in
              elim (p.least i within) [
                | inl is ↦ let low : get_or counts i 0 ≤ 1000 = few i lt in omega (arith, low, is, ap operator_count same)
                | inr le ↦ omega (arith, before_it, le, ap operator_count same, ap operator_count same2)
              ]
          | inr le ↦
              let P : List Word → Type 0 = λ x. operator_count x ≤ 1000 in
              subst P (take_behind words i le ∙ sym (take_behind words (suc i) (omega (arith, le)))) before_it
        ]

over_of : (counts : List ℕ) (all words more : List Word) (word : Word) → Points (outside Other) counts all → all ≡ (words ++ word ∷ []) ++ more → IsSparse words → 1000 < operator_count (words ++ word ∷ []) → 1000 < get_or counts (length words) 0
over_of counts all words more word p split sparse many =
    let long : length (words ++ word ∷ []) ≡ suc (length words) = grind (arith, common_steps) in
    let same : take (suc (length words)) all ≡ words ++ word ∷ [] =
    ap (take (suc (length words))) split ∙ take_before (words ++ word ∷ []) more (suc (length words)) (omega (arith, long)) ∙ take_behind (words ++ word ∷ []) (suc (length words)) (omega (arith, long)) in
    let same2 : take (length words) all ≡ words =
    ap (take (length words)) split ∙ take_before (words ++ word ∷ []) more (length words) (omega (arith, long)) ∙ take_before words (word ∷ []) (length words) (omega arith) ∙ take_behind words (length words) (omega arith) in
    let within : length words < length all = let whole_is : length all ≡ length ((words ++ word ∷ []) ++ more) = ap length split in grind (arith, common_steps, whole_is) in
    let few : operator_count words ≤ 1000 = sparse_here words sparse in
    elim (p.least (length words) within) [
      | inl is ↦ omega (arith, is, many, ap operator_count same)
      | inr le ↦ absurd (omega (arith, le, many, few, ap operator_count same, ap operator_count same2))
    ]

words_split : (front : List Nested) (b : Begins front) (words : List Word) → bare front ≡ words → bare (front ++ b.more) ≡ words ++ bare b.more
words_split front b words are = bare_append front b.more ∙ ap (λ x. x ++ bare b.more) are

pub few_in : (front : List Nested) (b : Begins front) (words : List Word) → bare front ≡ words → IsSparse words → (i : ℕ) → i < length words → get_or (counts_in (front ++ b.more) b.raw b.text) i 0 ≤ 1000
few_in front b words are sparse i lt = few_of _ _ words (bare b.more) (points_text (front ++ b.more) b.raw b.text) (words_split front b words are) sparse i lt

pub few_whole : (text : List Nested) (raw : Raw) (derives : IsText text raw) (words : List Word) → bare text ≡ words → IsSparse words → (i : ℕ) → get_or (counts_in text raw derives) i 0 ≤ 1000
few_whole text raw derives words are sparse i =
    let p : Points (outside Other) (counts_in text raw derives) (bare text) = points_text text raw derives in
    let there : operator_count (take (suc i) (bare text)) ≤ 1000 = let P : List Word → Type 0 = λ x. operator_count (take (suc i) x) ≤ 1000 in subst P (sym are) (sparse.few (suc i)) in
    let below : get_or (counts_in text raw derives) i 0 ≤ operator_count (take (suc i) (bare text)) = p.most i in omega (arith, there, below)

pub sparse_fit : (words : List Word) → IsFit words → IsSparse words
sparse_fit words fit = sparse_of _ _ words (bare fit.begins.more) (points_text (fit.front ++ fit.begins.more) fit.begins.raw fit.begins.text) (words_split fit.front fit.begins words fit.are) fit.few

pub sparse_whole : (text : List Nested) (raw : Raw) (derives : IsText text raw) (words : List Word) → bare text ≡ words → ((i : ℕ) → get_or (counts_in text raw derives) i 0 ≤ 1000) → IsSparse words
sparse_whole text raw derives words are few = sparse_of _ _ words [] (points_text text raw derives) (are ∙ sym (append-nil words)) (λ i lt. few i)

bare_length : (text : List Nested) → length (bare text) ≡ length text
bare_length [] = refl
bare_length (n ∷ text) = ap suc (bare_length text)

pub over_in : (front : List Nested) (last : Nested) (b : Begins (front ++ last ∷ [])) → IsSparse (bare front) → 1000 < operator_count (bare front ++ word_at last ∷ []) → 1000 < get_or (counts_in ((front ++ last ∷ []) ++ b.more) b.raw b.text) (length front) 0
over_in front last b sparse many =
    let counts : List ℕ = counts_in ((front ++ last ∷ []) ++ b.more) b.raw b.text in
    let P : ℕ → Type 0 = λ x. 1000 < get_or counts x 0 in
    subst P (bare_length front)
    (over_of counts (bare ((front ++ last ∷ []) ++ b.more)) (bare front) (bare b.more) (word_at last) (points_text ((front ++ last ∷ []) ++ b.more) b.raw b.text)
    (words_split (front ++ last ∷ []) b (bare front ++ word_at last ∷ []) (bare_append front (last ∷ []))) sparse many)
