-- How the objects of a graph stand beside the variables of the plain meaning while a function is executed.
use Rattle.std.specs.Prelude.{◌≡◌, ℕ, suc, ◌+◌, ◌^◌, ◌≤◌, ◌<◌, Bool, true, false, Option, Some, None, List, [], length, slice_get, slice_index_or, ◌⊎◌, ⊤}
use Rattle.c_tree.specs.Runs.{State, Part}
use Rattle.flow_graph.specs.declared.graph.Graph.{Graph}
use Rattle.flow_graph.specs.declared.graph.Operand.{Operand}
use Rattle.flow_graph.specs.declared.graph.Operand.TheVariants.{Const, Object}
use Rattle.flow_graph.specs.Operations.{Words, words_of, word_at, operand_word}
use Rattle.flow_graph.specs.Flow.{Spot}
use Rattle.flow_graph.specs.declared.nodes.Around.{Around}
use Rattle.lowered_meaning.specs.Tracks.{Tracks}
use Rattle.lowered_graphs.specs.Making.{Counts, Emit}
use Rattle.lowered_graphs.specs.Exprs.{Setting, home, length_in}

-- A function that is executed: the function that an object belongs to, none for a global; the variables that have an object; the heights of the functions,
-- each of which calls only lower ones; the objects of one word of every function, its temporaries and its result; and where its own temporaries begin and end.
pub record Ground : Type 0 where
  pub setting : Setting
  pub function : ℕ
  pub owner : ℕ → Option ℕ
  pub has_object : ℕ → Bool
  pub heights : List ℕ
  pub is_single : ℕ → Bool
  pub base : ℕ
  pub top : ℕ

-- an object that an expression leaves as it is, whose temporaries begin at t, and which calls functions or doesn't
abbrev pub FixedBy : Ground → (called : Bool) → (t o : ℕ) → Option ℕ → Type 0
FixedBy w called t o None = called ≡ false
FixedBy w called t o (Some m) =
    ((m ≡ w.function) × (o < t)) ⊎ (((m ≡ w.function) → ⊥) × ((called ≡ false) ⊎ (slice_index_or w.heights w.function 0 ≤ slice_index_or w.heights m 0)))

abbrev pub Fixed : Ground → (called : Bool) → (t o : ℕ) → Type 0
Fixed w called t o = FixedBy w called t o (w.owner o)

abbrev pub Kept : Ground → (called : Bool) → ℕ → Words → Words → Type 0
Kept w called t old new = (o : ℕ) → Fixed w called t o → words_of new o ≡ words_of old o

abbrev pub SameShape : Words → Words → Type 0
SameShape old new = (o : ℕ) → length (words_of new o) ≡ length (words_of old o)

-- temporaries and results have one word each, those of the other functions too, and the object of a variable as many as it has elements
pub record Ready (w : Ground) (objects : Words) : Type 0 where
  pub temporaries : (o : ℕ) → w.base ≤ o → o < w.top → length (words_of objects o) ≡ 1
  pub singles : (o : ℕ) → w.is_single o ≡ true → length (words_of objects o) ≡ 1
  pub variables : (x : ℕ) → w.has_object x ≡ true → length (words_of objects (home w.setting x)) ≡ length_in (slice_get w.setting.program.variables x)

-- the variables whose objects stay as they are stay so too
abbrev pub KeptStore : Ground → (called : Bool) → ℕ → State → State → Type 0
KeptStore w called t old new = (x : ℕ) → Fixed w called t (home w.setting x) → slice_index_or new.store x [] ≡ slice_index_or old.store x []

-- an object of the operand is the function's own and stands before the temporaries from t on, or it is a global that nothing behind it may write
abbrev pub StaysBy : Ground → (later : Bool) → (t o : ℕ) → Option ℕ → Type 0
StaysBy w later t o None = later ≡ false
StaysBy w later t o (Some m) = (m ≡ w.function) × (o < t)

abbrev pub IsOperand : Ground → (later : Bool) → ℕ → Operand → Type 0
IsOperand w later t (Const n) = n < 2 ^ 16
IsOperand w later t (Object o) = StaysBy w later t o (w.owner o)

-- the temporaries from base on are the function's own
abbrev pub OwnsTemporaries : Ground → Type 0
OwnsTemporaries w = (o : ℕ) → w.base ≤ o → o < w.top → w.owner o ≡ Some w.function

-- a variable in scope is a global, or the function's own and no temporary
abbrev pub IsHomeBy : Ground → ℕ → Option ℕ → Type 0
IsHomeBy w o None = ⊤
IsHomeBy w o (Some m) = (m ≡ w.function) × (o < w.base)

abbrev pub HasHomes : Ground → (ℕ → Type 0) → Type 0
HasHomes w scope = (x : ℕ) → scope x → (w.has_object x ≡ true) × IsHomeBy w (home w.setting x) (w.owner (home w.setting x))

-- Each variable in scope has the words of its object, each other as many words as it has elements, the same input is left, and words are below 2 ^ 16.
pub record Agrees (w : Ground) (scope : ℕ → Type 0) (d : State) (s : Spot) : Type 0 where
  pub variables : (x : ℕ) → scope x → words_of s.objects (home w.setting x) ≡ slice_index_or d.store x []
  pub shape : (x : ℕ) → w.has_object x ≡ true → length (slice_index_or d.store x []) ≡ length_in (slice_get w.setting.program.variables x)
  pub input : s.input ≡ d.input
  pub fit : (o k : ℕ) → word_at s.objects o k < 2 ^ 16

-- an expression was evaluated: its operand has the value
pub record Evaluated (w : Ground) (scope : ℕ → Type 0) (called : Bool) (t : ℕ) (a : Operand) (s : Spot) (old : State) (v : ℕ) (d : State) (z : Spot) : Type 0 where
  pub value : operand_word z.objects a ≡ v
  pub agrees : Agrees w scope d z
  pub kept : Kept w called t s.objects z.objects
  pub shape : SameShape s.objects z.objects
  pub store : KeptStore w called t old d

-- What an expression's lowering gives, apart from any run: temporaries are counted upwards, and the operand keeps its value behind it. `later` says that
-- something called behind it may write globals.
abbrev pub Grows : Emit Operand → Type 0
Grows emit = (c : Counts) → c.temp ≤ (emit c).counts.temp

abbrev pub Stays : Ground → (later : Bool) → Emit Operand → Type 0
Stays w later emit = (c : Counts) → w.base ≤ c.temp → (emit c).counts.temp ≤ w.top → IsOperand w later (emit c).counts.temp (emit c).value

-- An expression of n nodes is executed wherever it stands, once its step is begun: it hands on what is paid for, and leaves an operation over.
abbrev pub ExprTracks : Graph → Ground → (ℕ → Type 0) → (most n : ℕ) → (called : Bool) → Part ℕ → Emit Operand → Type 0
ExprTracks g w scope most n called p emit = (c : Counts) → w.base ≤ c.temp → (emit c).counts.temp ≤ w.top
    → (k : Around) (s : Spot) (d : State) (a o : ℕ) → Agrees w scope d s → Ready w s.objects
    → Tracks g most (a + n) a o (suc o) (p d) k (emit c).items s (Evaluated w scope called c.temp (emit c).value s d)

-- the same behind its step, which pays for 6 operations
abbrev pub LevelTracks : Graph → Ground → (ℕ → Type 0) → (most n : ℕ) → (called : Bool) → Part ℕ → Emit Operand → Type 0
LevelTracks g w scope most n called p emit = (c : Counts) → w.base ≤ c.temp → (emit c).counts.temp ≤ w.top
    → (k : Around) (s : Spot) (d : State) (a o : ℕ) → Agrees w scope d s → Ready w s.objects
    → Tracks g most (a + n) a (6 + o) (suc o) (p d) k (emit c).items s (Evaluated w scope called c.temp (emit c).value s d)
