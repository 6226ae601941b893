-- The plain meaning of a program: what it puts on an input in at most so many steps, and how it stands then.
-- It speaks of variables, words and steps alone.
use Rattle.std.specs.Prelude.{ℕ, suc, Option, Some, None, List, [], ◌∷◌, map, replicate, take, slice_get, ◌++◌}
use Rattle.plain_meaning.specs.Behaviour.{Behaviour, Outcome, Going, EndedWith, TrappedWith}
use Rattle.c_tree.specs.declared.tree.Variable.{Variable}
use Rattle.c_tree.specs.declared.tree.Program.{Program}
use Rattle.c_tree.specs.Runs.{Event, Begun, Put, State, Got, Done, Trapped, Stopped}
use Rattle.c_tree.specs.Nodes.{enter, to_depth}

abbrev pub first_sized : Option ℕ → List ℕ → List ℕ
first_sized None [] = 0 ∷ []
first_sized None (w ∷ ws) = w ∷ []
first_sized (Some n) ws = take n (ws ++ replicate n 0)

-- the words with which a variable begins: those of its initialiser, and then zeros
abbrev pub first_words : Variable → List ℕ
first_words v = first_sized v.length v.first

abbrev pub start : Program → List ℕ → ℕ → State
start p input n = record { store = map first_words p.variables; input = input; left = n }

-- the words put
abbrev pub put_words : List Event → List ℕ
put_words [] = []
put_words (Begun ∷ es) = put_words es
put_words (Put w ∷ es) = w ∷ put_words es

-- the number of steps begun
abbrev pub begun : List Event → ℕ
begun [] = 0
begun (Begun ∷ es) = suc (begun es)
begun (Put w ∷ es) = begun es

abbrev pub events : {A : Type 0} → Got A → List Event
events (Done es a s) = es
events (Trapped es t) = es
events (Stopped es) = es

abbrev pub outcome_of : Got ℕ → Outcome
outcome_of (Done es w s) = EndedWith w
outcome_of (Trapped es t) = TrappedWith t
outcome_of (Stopped es) = Going

-- a whole run: a call of `main`
abbrev pub run_of : Program → List ℕ → ℕ → Got ℕ
run_of p input n = enter (to_depth p n).stmt (slice_get p.functions p.main) [] (start p input n)

-- what a program puts on an input in at most n steps, and how it stands then
abbrev pub meaning : Program → Behaviour
meaning p input n = record { words = put_words (events (run_of p input n)); outcome = outcome_of (run_of p input n) }

-- the number of steps that it has begun then
abbrev pub steps : Program → List ℕ → ℕ → ℕ
steps p input n = begun (events (run_of p input n))
