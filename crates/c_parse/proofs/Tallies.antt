-- Counting over one more word.
use Rattle.std.proofs.Common.{◌≡◌, ◌<◌, ◌≤◌, ℕ, zero, suc, List, [], ◌∷◌, ◌++◌, ◌+◌, ◌-◌, length, take, refl, sym, ap, subst, inl, inr, arith}
use Rattle.std.proofs.lemmas.Grind.{common_steps}
use Rattle.std.proofs.lemmas.Bool.{cases_lt}
use Rattle.c_parse.specs.declared.class.Class.{Class}
use Rattle.c_parse.specs.declared.class.Class.TheVariants.{Colon, Comma, Open, Close, CloseIndex}
use Rattle.c_parse.specs.declared.tally.Last.{Last}
use Rattle.c_parse.specs.declared.tally.Last.TheVariants.{Operand, Head, Other}
use Rattle.c_parse.specs.declared.tally.Tally.{Tally}
use Rattle.c_parse.specs.Words.{Word}
use Rattle.c_parse.specs.Tally.{outside, added, closed, opening, closing, parting, counted, tally_of, operator_count, IsSparse}

pub closing_none : (n : ℕ) (last : Last) (k : ℕ) → n ≡ 0 → closing n last k ≡ outside Other
closing_none zero last k e = refl
closing_none (suc n) last k e = absurd (omega arith)

pub closing_some : (n : ℕ) (last : Last) (k : ℕ) → 0 < n → closing n last k ≡ record { brackets = n - 1; operators = k; last = last }
closing_some zero last k lt = absurd (omega arith)
closing_some (suc n) last k lt = let e : n ≡ suc n - 1 = omega arith in ap (λ b. record { brackets = b; operators = k; last = last }) e

pub parting_none : (n k : ℕ) → n ≡ 0 → parting n k ≡ outside Other
parting_none zero k e = refl
parting_none (suc n) k e = absurd (omega arith)

pub parting_some : (n k : ℕ) → 0 < n → parting n k ≡ record { brackets = n; operators = k; last = Other }
parting_some zero k lt = absurd (omega arith)
parting_some (suc n) k lt = refl

pub ruleset closing_rules = (closing_none, closing_some, parting_none, parting_some)

added_bound : (last : Last) (n : ℕ) → added last n ≤ n + 1
added_bound Operand n = omega arith
added_bound _ n = omega arith

opening_bound : (last : Last) (t : Tally) → (opening last t).brackets ≤ t.brackets + 1
opening_bound Head t = omega arith
opening_bound _ t = omega arith

closing_bound : (n : ℕ) (last : Last) (k : ℕ) → (closing n last k).brackets ≤ n + 1
closing_bound zero last k = omega arith
closing_bound (suc n) last k = omega arith

parting_bound : (n k : ℕ) → (parting n k).brackets ≤ n + 1
parting_bound zero k = omega arith
parting_bound (suc n) k = omega arith

counted_bound : (t : Tally) (class : Class) → (counted t class).brackets ≤ t.brackets + 1
counted_bound t Open = opening_bound t.last t
counted_bound t Close = closing_bound t.brackets (closed t.last) t.operators
counted_bound t CloseIndex = closing_bound t.brackets Operand t.operators
counted_bound t Colon = closing_bound t.brackets Other t.operators
counted_bound t Comma = parting_bound t.brackets t.operators
counted_bound t _ = omega arith

tally_bound : (t : Tally) (words : List Word) → (tally_of t words).brackets ≤ t.brackets + length words
tally_bound t [] = omega arith
tally_bound t (word ∷ words) =
    let one : (counted t word.class).brackets ≤ t.brackets + 1 = counted_bound t word.class in
    let rest : (tally_of (counted t word.class) words).brackets ≤ (counted t word.class).brackets + length words = tally_bound (counted t word.class) words in
    omega arith

pub tally_last : (t : Tally) (words : List Word) (word : Word) → tally_of t (words ++ word ∷ []) ≡ counted (tally_of t words) word.class
tally_last t [] word = refl
tally_last t (first ∷ words) word = tally_last (counted t first.class) words word

-- Few brackets are open where few words are read.
pub few_brackets : (words : List Word) (n : ℕ) → (tally_of (outside Other) (take n words)).brackets ≤ n
few_brackets words n =
    let all : (tally_of (outside Other) (take n words)).brackets ≤ 0 + length (take n words) = tally_bound (outside Other) (take n words) in
    let short : length (take n words) ≤ n = grind (arith, common_steps) in
    omega arith

pub take_before : (words more : List Word) (n : ℕ) → n ≤ length words → take n (words ++ more) ≡ take n words
take_before words more n le = grind (arith, common_steps)

pub take_behind : (words : List Word) (n : ℕ) → length words ≤ n → take n words ≡ words
take_behind words n le = grind (arith, common_steps)

pub sparse_none : IsSparse []
sparse_none = record { few = λ n. few_none n }
  where
    few_none : (n : ℕ) → operator_count (take n []) ≤ 1000
    few_none zero = omega arith
    few_none (suc n) = omega arith

pub sparse_on : (front : List Word) (word : Word) → IsSparse front → operator_count (front ++ word ∷ []) ≤ 1000 → IsSparse (front ++ word ∷ [])
sparse_on front word sparse le = record { few = few_on }
  where
    few_on : (n : ℕ) → operator_count (take n (front ++ word ∷ [])) ≤ 1000
    few_on n =
        elim (cases_lt (length front) n) [
          | inl more ↦
              let long : length (front ++ word ∷ []) ≤ n = grind (arith, common_steps, more) in
              let P : List Word → Type 0 = λ x. operator_count x ≤ 1000 in
              subst P (sym (take_behind (front ++ word ∷ []) n long)) le
          | inr le2 ↦ let P : List Word → Type 0 = λ x. operator_count x ≤ 1000 in subst P (sym (take_before front (word ∷ []) n le2)) (sparse.few n)
        ]

take_twice : (words : List Word) (n i : ℕ) → n ≤ i → take n (take i words) ≡ take n words
take_twice words zero i le = refl
take_twice words (suc n) zero le = absurd (omega arith)
take_twice [] (suc n) (suc i) le = refl
take_twice (word ∷ words) (suc n) (suc i) le = ap (λ t. word ∷ t) (take_twice words n i (omega arith))

pub sparse_take : (words : List Word) (i : ℕ) → IsSparse words → IsSparse (take i words)
sparse_take words i sparse = record { few = few_in }
  where
    few_in : (n : ℕ) → operator_count (take n (take i words)) ≤ 1000
    few_in n =
        elim (cases_lt i n) [
          | inl more ↦
              let short : length (take i words) ≤ n = grind (arith, common_steps, more) in
              let P : List Word → Type 0 = λ x. operator_count x ≤ 1000 in subst P (sym (take_behind (take i words) n short)) (sparse.few i)
          | inr le ↦ let P : List Word → Type 0 = λ x. operator_count x ≤ 1000 in subst P (sym (take_twice words n i le)) (sparse.few n)
        ]

pub sparse_here : (words : List Word) → IsSparse words → operator_count words ≤ 1000
sparse_here words sparse = let P : List Word → Type 0 = λ x. operator_count x ≤ 1000 in subst P (take_behind words (length words) (omega arith)) (sparse.few (length words))
