-- Parts of a run: what they show, what they change, and how they come out.
use Rattle.std.specs.Prelude.{ℕ, zero, suc, ◌%◌, ◌^◌, Bool, true, false, Option, Some, None, List, [], ◌∷◌, length, slice_index_or, slice_set, ◌++◌}
use Rattle.c_values.specs.declared.ops.Ty.{Ty}
use Rattle.c_values.specs.Values.{Worked, Gives, Traps, value, within, index_trap}

-- what a run shows: a step begun, or a word put
pub data Event : Type 0 where
  Begun : Event
  Put : ℕ → Event

-- The words of each variable, by its number; the input words that are left, which zeros follow; the steps that are left.
-- A variable has one place for all calls, since no function is called while a call of it goes on.
pub record State : Type 0 where
  pub store : List (List ℕ)
  pub input : List ℕ
  pub left : ℕ

-- what a part of a run shows, in order, and how it comes out: with an answer in a state, by a trap, or for want of steps
pub data Got (A : Type 0) : Type 0 where
  Done : List Event → A → State → Got A
  Trapped : List Event → ℕ → Got A
  Stopped : List Event → Got A

-- a part of a run, from any state
abbrev pub Part : Type 0 → Type 0
Part A = State → Got A

-- the same, with something shown before it
abbrev pub behind_events : {A : Type 0} → List Event → Got A → Got A
behind_events es (Done fs a s) = Done (es ++ fs) a s
behind_events es (Trapped fs t) = Trapped (es ++ fs) t
behind_events es (Stopped fs) = Stopped (es ++ fs)

abbrev pub go_on : {A B : Type 0} → Got A → (A → Part B) → Got B
go_on (Done es a s) f = behind_events es (f a s)
go_on (Trapped es t) f = Trapped es t
go_on (Stopped es) f = Stopped es

-- one part and then another, which may look at the answer of the first
infixl 10 ◌>>=◌
abbrev pub ◌>>=◌ : {A B : Type 0} → Part A → (A → Part B) → Part B
(p >>= f) s = go_on (p s) f

infixl 10 ◌>>◌
abbrev pub ◌>>◌ : {A B : Type 0} → Part A → Part B → Part B
(p >> q) s = go_on (p s) (λ _. q)

abbrev pub pure : {A : Type 0} → A → Part A
pure a s = Done [] a s

abbrev pub trap : {A : Type 0} → ℕ → Part A
trap t s = Trapped [] t

abbrev pub stop : {A : Type 0} → Part A
stop s = Stopped []

abbrev pub skip : Part (Unit {0})
skip s = Done [] tt s

-- the first part where the test holds, else the second
abbrev pub either : {A : Type 0} → Bool → Part A → Part A → Part A
either true p q = p
either false p q = q

-- ---- the few things that show something or change a state

abbrev pub begin_at : ℕ → Part (Unit {0})
begin_at zero s = Stopped []
begin_at (suc n) s = Done (Begun ∷ []) tt (record s { left = n })

-- a step begins, where one is left
abbrev pub begin : Part (Unit {0})
begin s = begin_at s.left s

-- this many steps begin
abbrev pub begin_each : ℕ → Part (Unit {0})
begin_each zero = skip
begin_each (suc n) = begin >> begin_each n

abbrev pub put : ℕ → Part (Unit {0})
put w s = Done (Put w ∷ []) tt s

abbrev pub take_from : List ℕ → Part ℕ
take_from [] s = Done [] 0 s
take_from (w ∷ rest) s = Done [] (w % 2 ^ 16) (record s { input = rest })

-- the next input word
abbrev pub take_word : Part ℕ
take_word s = take_from s.input s

-- all words of a variable
abbrev pub words_of : ℕ → Part (List ℕ)
words_of x s = Done [] (slice_index_or s.store x []) s

abbrev pub set_words : ℕ → List ℕ → Part (Unit {0})
set_words x ws s = Done [] tt (record s { store = slice_set s.store x ws })

-- the word of a scalar
abbrev pub read : ℕ → Part ℕ
read x = words_of x >>= (λ ws. pure (slice_index_or ws 0 0))

-- a word becomes the one at a place of a variable
abbrev pub write_place : ℕ → ℕ → ℕ → Part (Unit {0})
write_place x k w = words_of x >>= (λ ws. set_words x (slice_set ws k w))

-- a word becomes that of a scalar
abbrev pub write : ℕ → ℕ → Part (Unit {0})
write x w = write_place x 0 w

abbrev pub word_or_trap : Worked → Part ℕ
word_or_trap (Gives w) = pure w
word_or_trap (Traps t) = trap t

-- goes on with the place of an element, or traps
abbrev pub at_element : {A : Type 0} → Option ℕ → (ℕ → Part A) → Part A
at_element None f = trap index_trap
at_element (Some k) f = f k

-- the element whose index is a word of the type
abbrev pub read_at : ℕ → Ty → ℕ → Part ℕ
read_at x ty i = words_of x >>= (λ ws. at_element (within (length ws) (value ty i)) (λ k. pure (slice_index_or ws k 0)))

abbrev pub write_at : ℕ → Ty → ℕ → ℕ → Part (Unit {0})
write_at x ty i w = words_of x >>= (λ ws. at_element (within (length ws) (value ty i)) (λ k. set_words x (slice_set ws k w)))
