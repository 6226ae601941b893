-- The texts that the options were given, read as numbers.
use Rattle.std.proofs.Common.{◌≡◌, ◌∙◌, ◌==◌, ◌⊎◌, ℕ, Bool, true, false, List, [], ◌∷◌, ◌++◌, Option, Some, None, is_some, refl, sym, ap, subst, option_map, inl, inr}
use Rattle.std.specs.Prelude.{if◌then◌else◌, option_and_then}
use Rattle.std.proofs.lemmas.Bool.{cases_Bool}
use Rattle.std.proofs.lemmas.Bool.Decides.{Decides-eqb}
use Rattle.job_parts.specs.Words.{Word, Setting, budget, steps, Form, ends, option, strange, plain, form_of, Given, nothing, given_from, slot, with_number, with_option, with_words, turn}
use Rattle.job_parts.specs.Found.{Texts, numbers, read_slot, given_of, setting_number}
use Rattle.job_parts.proofs.Walked.{no_texts, texts_from, text_turn, value_turn, put_text, with_rest}

-- ---- one option more

first_budget : (o : Option ℕ) (p : Option (Option ℕ)) (rest : List Word)
    → given_of rest (option_map (λ n. Some n) o) p
    ≡ option_and_then (λ k. if is_some k.budget then None else option_map (λ n. with_number budget n k) o) (given_of rest (Some None) p)
first_budget None None rest = refl
first_budget None (Some p) rest = refl
first_budget (Some n) None rest = refl
first_budget (Some n) (Some p) rest = refl

first_steps : (o : Option ℕ) (p : Option (Option ℕ)) (rest : List Word)
    → given_of rest p (option_map (λ n. Some n) o)
    ≡ option_and_then (λ k. if is_some k.steps then None else option_map (λ n. with_number steps n k) o) (given_of rest p (Some None))
first_steps None None rest = refl
first_steps None (Some p) rest = refl
first_steps (Some n) None rest = refl
first_steps (Some n) (Some p) rest = refl

second_budget : (q : Option ℕ) (o : Option ℕ) (p : Option (Option ℕ)) (rest : List Word)
    → None ≡ option_and_then (λ k. if is_some k.budget then None else option_map (λ n. with_number budget n k) o) (given_of rest (option_map (λ n. Some n) q) p)
second_budget None o p rest = refl
second_budget (Some n) o None rest = refl
second_budget (Some n) o (Some p) rest = refl

second_steps : (q : Option ℕ) (o : Option ℕ) (p : Option (Option ℕ)) (rest : List Word)
    → None ≡ option_and_then (λ k. if is_some k.steps then None else option_map (λ n. with_number steps n k) o) (given_of rest p (option_map (λ n. Some n) q))
second_steps None o None rest = refl
second_steps None o (Some p) rest = refl
second_steps (Some n) o None rest = refl
second_steps (Some n) o (Some p) rest = refl

no_steps : (o : Option ℕ) (p : Option (Option ℕ)) (rest : List Word)
    → None ≡ option_and_then (λ k. if is_some k.steps then None else option_map (λ n. with_number steps n k) o) (given_of rest p None)
no_steps o None rest = refl
no_steps o (Some p) rest = refl

put_budget : (b s : Option (List Word)) (rest : List Word) (v : Word)
    → option_and_then numbers (put_text budget v (record { budget = b; steps = s; rest = rest })) ≡ option_and_then (with_option budget v) (numbers (record { budget = b; steps = s; rest = rest }))
put_budget None s rest v = first_budget (setting_number v) (read_slot s) rest
put_budget (Some []) s rest v = refl
put_budget (Some (w ∷ ws)) s rest v = second_budget (setting_number w) (setting_number v) (read_slot s) rest

put_steps : (b s : Option (List Word)) (rest : List Word) (v : Word)
    → option_and_then numbers (put_text steps v (record { budget = b; steps = s; rest = rest })) ≡ option_and_then (with_option steps v) (numbers (record { budget = b; steps = s; rest = rest }))
put_steps b None rest v = first_steps (setting_number v) (read_slot b) rest
put_steps b (Some []) rest v = no_steps (setting_number v) (read_slot b) rest
put_steps b (Some (w ∷ ws)) rest v = second_steps (setting_number w) (setting_number v) (read_slot b) rest

put_number : (s : Setting) (v : Word) (g : Texts) → option_and_then numbers (put_text s v g) ≡ option_and_then (with_option s v) (numbers g)
put_number budget v g = put_budget g.budget g.steps g.rest v
put_number steps v g = put_steps g.budget g.steps g.rest v

more_words : (ws : List Word) (b s : Option (Option ℕ)) (rest : List Word) → given_of (rest ++ ws) b s ≡ option_map (with_words ws) (given_of rest b s)
more_words ws None s rest = refl
more_words ws (Some m) None rest = refl
more_words ws (Some m) (Some n) rest = refl

-- ---- words that are no number

no_number : (x y : ℕ) (t : Word) → (x == 45) ≡ true → setting_number (x ∷ y ∷ t) ≡ None
no_number x y t e = subst (λ (n : ℕ). setting_number (n ∷ y ∷ t) ≡ None) (sym ((Decides-eqb x 45).0 e)) refl

plain_or_none : (v : Word) → (form_of v ≡ plain) ⊎ (setting_number v ≡ None)
plain_or_none [] = inl refl
plain_or_none (x ∷ []) = inl refl
plain_or_none (x ∷ y ∷ t) = elim (cases_Bool (x == 45)) [
  | inl e ↦ inr (no_number x y t e)
  | inr e ↦ inl (rw e)
]

-- ---- all words

then_then : {A B C : Type 0} (f : A → Option B) (h : B → Option C) (o : Option A) → option_and_then h (option_and_then f o) ≡ option_and_then (λ a. option_and_then h (f a)) o
then_then f h None = refl
then_then f h (Some a) = refl

then_same : {A B : Type 0} (f h : A → Option B) (o : Option A) → ((a : A) → f a ≡ h a) → option_and_then f o ≡ option_and_then h o
then_same f h None e = refl
then_same f h (Some a) e = e a

map_then : {A B C : Type 0} (f : A → B) (h : B → Option C) (o : Option A) → option_and_then h (option_map f o) ≡ option_and_then (λ a. h (f a)) o
map_then f h None = refl
map_then f h (Some a) = refl

as_then : {A B : Type 0} (f : A → B) (o : Option A) → option_map f o ≡ option_and_then (λ a. Some (f a)) o
as_then f None = refl
as_then f (Some a) = refl

then_itself : {A : Type 0} (o : Option A) → o ≡ option_and_then (λ a. Some a) o
then_itself None = refl
then_itself (Some a) = refl

none_then : {A B : Type 0} (f : A → Option B) (o : Option A) → ((a : A) → f a ≡ None) → None ≡ option_and_then f o
none_then f None e = refl
none_then f (Some a) e = sym (e a)

abbrev Agrees : Option Setting → List Word → Type 0
Agrees s words = (g : Texts) → option_and_then numbers (texts_from s g words) ≡ option_and_then (λ k. given_from s k words) (numbers g)

-- an option with its value
put_step : (s : Setting) (v : Word) (ws : List Word) (g : Texts) → Agrees None ws
    → option_and_then numbers (option_and_then (λ h. texts_from None h ws) (put_text s v g))
    ≡ option_and_then (λ k. option_and_then (λ h. given_from None h ws) (with_option s v k)) (numbers g)
put_step s v ws g more =
    then_then (λ h. texts_from None h ws) numbers (put_text s v g)
    ∙ then_same (λ h. option_and_then numbers (texts_from None h ws)) (λ h. option_and_then (λ k. given_from None k ws) (numbers h)) (put_text s v g) more
    ∙ sym (then_then numbers (λ k. given_from None k ws) (put_text s v g))
    ∙ ap (option_and_then (λ k. given_from None k ws)) (put_number s v g)
    ∙ then_then (with_option s v) (λ k. given_from None k ws) (numbers g)

refused : (s : Setting) (v : Word) (ws : List Word) (k : Given) → setting_number v ≡ None → option_and_then (λ h. given_from None h ws) (with_option s v k) ≡ None
refused s v ws k e = ap (λ (o : Option ℕ). option_and_then (λ h. given_from None h ws) (if is_some (slot s k) then None else option_map (λ n. with_number s n k) o)) e ∙ either (is_some (slot s k))
  where
    either : (b : Bool) → option_and_then (λ h. given_from None h ws) (if b then None else None) ≡ None
    either true = refl
    either false = refl

value_agrees : (f : Form) (s : Setting) (v : Word) (ws : List Word) (g : Texts) → (f ≡ plain) ⊎ (setting_number v ≡ None) → Agrees None ws
    → option_and_then numbers (value_turn f s v g (λ s h. texts_from s h ws)) ≡ option_and_then (λ k. option_and_then (λ h. given_from None h ws) (with_option s v k)) (numbers g)
value_agrees plain s v ws g how more = put_step s v ws g more
value_agrees f s v ws g (inr e) more = none_then _ (numbers g) (λ k. refused s v ws k e)
value_agrees f s v ws g (inl e) more = cc

turn_agrees : (f : Form) (w : Word) (ws : List Word) (g : Texts) → ((s : Option Setting) → Agrees s ws)
    → option_and_then numbers (text_turn f w ws g (λ s h. texts_from s h ws)) ≡ option_and_then (λ k. turn f w ws k (λ s h. given_from s h ws)) (numbers g)
turn_agrees ends w ws g more = more_words ws (read_slot g.budget) (read_slot g.steps) g.rest ∙ as_then (with_words ws) (numbers g)
turn_agrees (option s None) w ws g more = more (Some s) g
turn_agrees (option s (Some v)) w ws g more = put_step s v ws g (more None)
turn_agrees strange w ws g more = none_then (λ k. None) (numbers g) (λ k. refl)
turn_agrees plain w ws g more =
    more None (with_rest (w ∷ []) g) ∙ ap (option_and_then (λ k. given_from None k ws)) (more_words (w ∷ []) (read_slot g.budget) (read_slot g.steps) g.rest)
    ∙ map_then (with_words (w ∷ [])) (λ k. given_from None k ws) (numbers g)

-- the same reading, with numbers
agree : (words : List Word) (s : Option Setting) → Agrees s words
unfolding texts_from given_from
agree [] None g = then_itself (numbers g)
agree [] (Some s) g = none_then (λ k. None) (numbers g) (λ k. refl)
agree (v ∷ ws) (Some s) g = value_agrees (form_of v) s v ws g (plain_or_none v) (agree ws None)
agree (w ∷ ws) None g = turn_agrees (form_of w) w ws g (agree ws)

pub numbers_agree : (words : List Word) → option_and_then numbers (texts_from None no_texts words) ≡ given_from None nothing words
numbers_agree words = agree words None no_texts
