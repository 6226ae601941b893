-- Parts of a run of the meaning that leave the words of a variable as they are.
use Rattle.std.proofs.Common.{◌≡◌, ◌≢◌, ℕ, zero, suc, Bool, true, false, Option, Some, None, List, [], ◌∷◌, refl, ◌∙◌}
use Rattle.std.specs.Prelude.{⊤, length, slice_index_or, slice_set}
use Rattle.std.proofs.lemmas.List.{get_or-set_other}
use Rattle.c_values.specs.declared.ops.Ty.{Ty}
use Rattle.c_values.specs.Values.{Worked, Gives, Traps, value, within}
use Rattle.c_tree.specs.declared.leaving.Leaving.{Leaving}
use Rattle.c_tree.specs.declared.leaving.Leaving.TheVariants.{Next, Broke, Continued, Returned}
use Rattle.c_tree.specs.Runs.{Event, State, Got, Done, Trapped, Stopped, Part, behind_events, go_on, pure, skip, either, begin, begin_at, begin_each, put, take_from, take_word, words_of, set_words, read, write_place, write, word_or_trap, at_element, read_at, write_at, ◌>>=◌, ◌>>◌}
use Rattle.c_tree.specs.Nodes.{come_back}

module _ (x : ℕ) where
  abbrev pub words_in : State → List ℕ
  words_in d = slice_index_or d.store x []

  -- where the part is done, its answer is as said and the variable has the words that it had
  abbrev pub Left : {A : Type 0} → (A → Type 0) → State → Got A → Type 0
  Left P d (Done es v e) = P v × (words_in e ≡ words_in d)
  Left P d (Trapped es t) = ⊤
  Left P d (Stopped es) = ⊤

  abbrev pub LeavesTo : {A : Type 0} → (A → Type 0) → Part A → Type 0
  LeavesTo P p = (d : State) → Left P d (p d)

  abbrev pub Any : {A : Type 0} → A → Type 0
  Any v = ⊤

  abbrev pub Leaves : {A : Type 0} → Part A → Type 0
  Leaves {A} p = LeavesTo {A = A} Any p

  -- ---- one part and then another

  left_behind : {A : Type 0} (P : A → Type 0) (es : List Event) (d e : State) (got : Got A) → words_in e ≡ words_in d → Left P e got → Left P d (behind_events es got)
  left_behind P es d e (Done fs v z) q h = (h.0, h.1 ∙ q)
  left_behind P es d e (Trapped fs t) q h = tt
  left_behind P es d e (Stopped fs) q h = tt

  left_go : {A B : Type 0} (P : A → Type 0) (Q : B → Type 0) (d : State) (got : Got A) (f : A → Part B) → Left P d got → ((v : A) → P v → LeavesTo Q (f v)) → Left Q d (go_on got f)
  left_go P Q d (Done es v e) f h next = left_behind Q es d e (f v e) h.1 (next v h.0 e)
  left_go P Q d (Trapped es t) f h next = tt
  left_go P Q d (Stopped es) f h next = tt

  pub left_told : {A B : Type 0} (P : A → Type 0) (Q : B → Type 0) (p : Part A) (f : A → Part B) → LeavesTo P p → ((v : A) → P v → LeavesTo Q (f v)) → LeavesTo Q (p >>= f)
  left_told P Q p f h next d = left_go P Q d (p d) f (h d) next

  pub left_on : {A B : Type 0} (p : Part A) (f : A → Part B) → Leaves p → ((v : A) → Leaves (f v)) → Leaves (p >>= f)
  left_on {A} {B} p f h next d = left_go {A = A} {B = B} Any Any d (p d) f (h d) (λ v is. next v)

  pub left_then : {A B : Type 0} (p : Part A) (q : Part B) → Leaves p → Leaves q → Leaves (p >> q)
  left_then {A} {B} p q h k d = left_go {A = A} {B = B} Any Any d (p d) (λ _. q) (h d) (λ v is. k)

  pub left_either : {A : Type 0} (b : Bool) (p q : Part A) → Leaves p → Leaves q → Leaves (either b p q)
  left_either true p q h k = h
  left_either false p q h k = k

  -- ---- the few things that show something or change a state

  pub left_pure : {A : Type 0} (v : A) → Leaves (pure v)
  left_pure v d = (tt, refl)

  pub left_skip : Leaves skip
  left_skip d = (tt, refl)

  pub left_begin : Leaves begin
  left_begin d = by_left d.left
    where
      by_left : (n : ℕ) → Left {A = Unit {0}} Any d (begin_at n d)
      by_left zero = tt
      by_left (suc n) = (tt, refl)

  pub left_begun : {A : Type 0} (p : Part A) → Leaves p → Leaves (begin >> p)
  left_begun p h = left_then begin p left_begin h

  pub left_begin_each : (n : ℕ) → Leaves (begin_each n)
  left_begin_each zero = left_skip
  left_begin_each (suc n) = left_begun (begin_each n) (left_begin_each n)

  pub left_put : (w : ℕ) → Leaves (put w)
  left_put w d = (tt, refl)

  pub left_take : Leaves take_word
  left_take d = by_input d.input
    where
      by_input : (ws : List ℕ) → Left {A = ℕ} Any d (take_from ws d)
      by_input [] = (tt, refl)
      by_input (w ∷ ws) = (tt, refl)

  pub left_read : (y : ℕ) → Leaves (read y)
  left_read y d = (tt, refl)

  pub left_worked : (v : Worked) → Leaves (word_or_trap v)
  left_worked (Gives v) d = (tt, refl)
  left_worked (Traps t) d = tt

  left_words : (y : ℕ) → Leaves (words_of y)
  left_words y d = (tt, refl)

  pub left_set : (y : ℕ) (ws : List ℕ) → x ≢ y → Leaves (set_words y ws)
  left_set y ws other d = (tt, get_or-set_other d.store y x ws [] other)

  pub left_write_place : (y k v : ℕ) → x ≢ y → Leaves (write_place y k v)
  left_write_place y k v other = left_on (words_of y) (λ ws. set_words y (slice_set ws k v)) (left_words y) (λ ws. left_set y (slice_set ws k v) other)

  pub left_write : (y v : ℕ) → x ≢ y → Leaves (write y v)
  left_write y v other = left_write_place y 0 v other

  left_element : {A : Type 0} (o : Option ℕ) (f : ℕ → Part A) → ((k : ℕ) → Leaves (f k)) → Leaves (at_element o f)
  left_element None f h = λ d. tt
  left_element (Some k) f h = h k

  pub left_read_at : (y : ℕ) (ty : Ty) (i : ℕ) → Leaves (read_at y ty i)
  left_read_at y ty i = left_on (words_of y) (λ ws. at_element (within (length ws) (value ty i)) (λ k. pure (slice_index_or ws k 0))) (left_words y)
      (λ ws. left_element (within (length ws) (value ty i)) (λ k. pure (slice_index_or ws k 0)) (λ k. left_pure (slice_index_or ws k 0)))

  pub left_write_at : (y : ℕ) (ty : Ty) (i v : ℕ) → x ≢ y → Leaves (write_at y ty i v)
  left_write_at y ty i v other = left_on (words_of y) (λ ws. at_element (within (length ws) (value ty i)) (λ k. set_words y (slice_set ws k v))) (left_words y)
      (λ ws. left_element (within (length ws) (value ty i)) (λ k. set_words y (slice_set ws k v)) (λ k. left_set y (slice_set ws k v) other))

  pub left_come_back : (l : Leaving) → Leaves (come_back l)
  left_come_back Next = left_begun (pure 0) (left_pure {A = ℕ} 0)
  left_come_back Broke = left_begun (pure 0) (left_pure {A = ℕ} 0)
  left_come_back Continued = left_begun (pure 0) (left_pure {A = ℕ} 0)
  left_come_back (Returned w) = left_pure w
