-- What holds of the meaning of every program.
use Rattle.std.specs.Prelude.{ℕ, suc, ◌≡◌, ◌≤◌, ◌↔◌, List}
use Rattle.plain_meaning.specs.Behaviour.{Going, IsSteady}
use Rattle.c_tree.specs.declared.tree.Program.{Program}
use Rattle.c_tree.specs.Meaning.{meaning, steps}

-- With more steps a program puts no other words, and what has stopped stays as it is.
abbrev pub AreSteady : Type 0
AreSteady = (p : Program) → IsSteady (meaning p)

-- a program goes on exactly where all n steps were begun and, if it might, it would begin another
abbrev pub GoWhereAnotherStepWouldBegin : Type 0
GoWhereAnotherStepWouldBegin = (p : Program) (input : List ℕ) (n : ℕ) → (meaning p input n).outcome ≡ Going ↔ steps p input (suc n) ≡ suc n

-- at most n steps are begun, and all n where the program goes on
pub record AreBounded (p : Program) : Type 0 where
  pub most : (input : List ℕ) (n : ℕ) → steps p input n ≤ n
  pub going : (input : List ℕ) (n : ℕ) → (meaning p input n).outcome ≡ Going → steps p input n ≡ n

abbrev pub StepsAreBounded : Type 0
StepsAreBounded = (p : Program) → AreBounded p
