-- What a program does in so many steps, as its user sees it. It knows no instruction, energy, home or checkpoint.
use Rattle.std.specs.Prelude.{ℕ, ◌≡◌, ◌≢◌, ◌≤◌, List, ◌++◌}

-- how a program stands: it would begin another step, it ended with a value, or it stopped by a trap: 1 divide, 2 index, 3 shift
pub data Outcome : Type 0 where
  Going : Outcome
  EndedWith : ℕ → Outcome
  TrappedWith : ℕ → Outcome

-- the words put so far, and how the program stands
pub record Meaning : Type 0 where
  pub words : List ℕ
  pub outcome : Outcome

-- What a program does on an input in at most n steps. The input words are taken in order and followed by zeros for ever.
abbrev pub Behaviour : Type 0
Behaviour = List ℕ → ℕ → Meaning

-- the words ys begin with xs
abbrev pub Begins : List ℕ → List ℕ → Type 0
Begins xs ys = (rest : List ℕ) × (ys ≡ xs ++ rest)

-- With more steps a program puts no other words, and what has stopped stays as it is.
pub record IsSteady (program : Behaviour) : Type 0 where
  pub more : (input : List ℕ) (n m : ℕ) → n ≤ m → Begins (program input n).words (program input m).words
  pub stopped : (input : List ℕ) (n m : ℕ) → n ≤ m → (program input n).outcome ≢ Going → program input m ≡ program input n
