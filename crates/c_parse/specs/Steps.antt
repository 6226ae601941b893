-- What the parser does with one word.
use Rattle.std.specs.Prelude.{◌≡◌, ℕ, List, [], ◌∷◌, ◌++◌, Bool, true, false, Option, Some, None, reverse, ◌≤◌, All}
use Rattle.c_parse.specs.declared.class.Class.{Class}
use Rattle.c_parse.specs.declared.raw.Raw.{Raw}
use Rattle.c_parse.specs.declared.form.Wait.{Wait}
use Rattle.c_parse.specs.Machine.{want, level, Move, Moves, State, at, Choice, take_on, nth, wants}
use Rattle.c_parse.specs.Grammar.{Word, Nested, nested_at, bare, IsShallow, Symbol, token, sub, program, Form, alternatives}

-- No move leads on from here.
abbrev pub Stuck : List Wait → List (List Raw) → List Nested → Type 0
Stuck c vs ts = (c2 : List Wait) (vs2 : List (List Raw)) (ts2 : List Nested) → Move c vs ts c2 vs2 ts2 → ⊥

-- With the word still in front, at whatever level and whatever comes behind it.
pub record Reaches (word : Word) (c : List Wait) (vs : List (List Raw)) (c2 : List Wait) (vs2 : List (List Raw)) : Type 0 where
  pub moves : (depth : ℕ) (rest : List Nested) → Moves c vs (nested_at depth word ∷ rest) c2 vs2 (nested_at depth word ∷ rest)

-- Over the word, which isn't nested too deep, whatever comes behind it.
pub record Passes_over (word : Word) (c : List Wait) (vs : List (List Raw)) (c2 : List Wait) (vs2 : List (List Raw)) : Type 0 where
  pub depth : ℕ
  pub shallow : depth ≤ 64
  pub deep : level c2 ≡ depth
  pub moves : (rest : List Nested) → Moves c vs (nested_at depth word ∷ rest) c2 vs2 rest

-- Somewhere with the word in front no move leads on, unless the word is nested too deep.
pub record Refuses (word : Word) (c : List Wait) (vs : List (List Raw)) : Type 0 where
  pub waits : List Wait
  pub builds : List (List Raw)
  pub reaches : Reaches word c vs waits builds
  pub stuck : (depth : ℕ) (rest : List Nested) → depth ≤ 64 → Stuck waits builds (nested_at depth word ∷ rest)

-- It is refused where so many forms that nest are open.
abbrev pub RefusesAt : ℕ → Word → List Wait → List (List Raw) → Type 0
RefusesAt depth word c vs = (r : Refuses word c vs) × (level r.waits ≡ depth)

abbrev pub Steps : Option ℕ → Word → List Wait → List (List Raw) → List Wait → List (List Raw) → Type 0
Steps None word c vs c2 vs2 = Passes_over word c vs c2 vs2
Steps (Some depth) word c vs c2 vs2 = RefusesAt depth word c vs

-- the class of the token that is waited for
abbrev pub class_wanted : Wait → Option Class
class_wanted (want (token class)) = Some class
class_wanted _ = None

-- From the start the machine comes here over these words, none of which is nested too deep, whatever comes behind them.
pub record Stands (front : List Word) (c : List Wait) (vs : List (List Raw)) : Type 0 where
  pub text : List Nested
  pub are : bare text ≡ front
  pub shallow : All IsShallow text
  pub deep : level c ≤ 64
  pub moves : (rest : List Nested) → Moves (want (sub program) ∷ []) ([] ∷ []) (text ++ rest) c vs rest

-- At the end of the words something is waited for, and no move leads on.
pub record Lacks (c : List Wait) (vs : List (List Raw)) : Type 0 where
  pub next : Wait
  pub waits : List Wait
  pub builds : List (List Raw)
  pub moves : Moves c vs [] (next ∷ waits) builds []
  pub stuck : Stuck (next ∷ waits) builds []

-- Nothing is waited for at the end of the words.
pub record Ends (c : List Wait) (vs : List (List Raw)) (c2 : List Wait) (vs2 : List (List Raw)) : Type 0 where
  pub none_waits : c2 ≡ []
  pub moves : Moves c vs [] c2 vs2 []

abbrev pub Finishes : Bool → List Wait → List (List Raw) → List Wait → List (List Raw) → Type 0
Finishes true c vs c2 vs2 = Ends c vs c2 vs2
Finishes false c vs c2 vs2 = Lacks c vs

-- the symbols of the alternative that is chosen
abbrev pub symbols_of : Choice → Form → Option (List Symbol)
symbols_of (take_on n) form = nth (alternatives form) n
symbols_of _ form = None

-- What the code of an alternative does to a stack whose last is waited for next.
abbrev pub Unfolds : Option (List Symbol) → Bool → List Wait → List Wait → Type 0
Unfolds None done old new = done ≡ false
Unfolds (Some symbols) done old new = (done ≡ true) × (reverse new ≡ wants symbols (reverse old))

-- What a turn of the code is: the state behind it, or none.
abbrev pub Turns : Option State → Bool → List Wait → List (List Raw) → Type 0
Turns None done waits builds = done ≡ false
Turns (Some next) done waits builds = (done ≡ true) × (at (reverse waits) (reverse builds) ≡ next)

-- What a stack loses whose last is waited for next.
abbrev pub Popped : Option Wait → List Wait → List Wait → Type 0
Popped None old new = (old ≡ []) × (new ≡ [])
Popped (Some wait) old new = old ≡ wait ∷ new
