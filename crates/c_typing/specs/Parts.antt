-- Parts of the walk over a text: what they make, and what they change of all that has been found so far.
use Rattle.std.specs.Prelude.{◌≡◌, ℕ, ◌+◌, ◌++◌, Bool, true, false, List, [], ◌∷◌, Result, Ok, Err}
use Rattle.c_typing.specs.declared.state.State.{State}
use Rattle.c_typing.specs.declared.type_fault.TypeFault.{TypeFault}

-- something made, and all that has been found behind it
pub data Got (A : Type 0) : Type 0 where
  Gives : A → State → Got A

abbrev pub Part : Type 0 → Type 0
Part A = State → Got A

abbrev pub go_on : {A B : Type 0} → Got A → (A → Part B) → Got B
go_on (Gives a s) f = f a s

-- one part and then another, which may look at what the first made
infixl 10 ◌>>=◌
abbrev pub ◌>>=◌ : {A B : Type 0} → Part A → (A → Part B) → Part B
(p >>= f) s = go_on (p s) f

infixl 10 ◌>>◌
abbrev pub ◌>>◌ : {A B : Type 0} → Part A → Part B → Part B
(p >> q) s = go_on (p s) (λ _. q)

abbrev pub pure : {A : Type 0} → A → Part A
pure a s = Gives a s

abbrev pub skip : Part (Unit {0})
skip s = Gives tt s

-- the first part where the test holds, else the second
abbrev pub either : {A : Type 0} → Bool → Part A → Part A → Part A
either true p q = p
either false p q = q

-- what comes of all that has been found so far
abbrev pub looked : {A B : Type 0} → (State → A) → (A → Part B) → Part B
looked look f s = f (look s) s

-- a fault is found; what follows goes on as if there were none
abbrev pub note : TypeFault → Part (Unit {0})
note fault s = Gives tt (record s { faults = s.faults ++ fault ∷ [] })

abbrev pub note_if : Bool → TypeFault → Part (Unit {0})
note_if true fault = note fault
note_if false fault = skip

-- so many nodes of the typed tree
abbrev pub count : ℕ → Part (Unit {0})
count n s = Gives tt (record s { nodes = s.nodes + n })

abbrev pub with_nodes : {A : Type 0} → ℕ → Got A → Got A
with_nodes n (Gives a s) = Gives a (record s { nodes = n })

-- what is worked out now and stands in no tree: an array's length, a global's initialiser, the value of a label
abbrev pub uncounted : {A : Type 0} → Part A → Part A
uncounted p s = with_nodes s.nodes (p s)

-- a call with memory makes what the part makes
abbrev pub Makes : {A E : Type 0} → Part A → State → Result A E → State → Type 0
Makes part old (Ok a) new = part old ≡ Gives a new
Makes part old (Err e) new = Unit {0}
