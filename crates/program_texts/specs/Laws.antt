-- What holds of every text.
use Rattle.std.specs.Prelude.{◌≡◌, ◌≢◌, ℕ, List}
use Rattle.c_tree.specs.declared.tree.Program.{Program}
use Rattle.program_texts.specs.declared.fault.ProgramFault.{ProgramFault}
use Rattle.program_texts.specs.declared.fault.ProgramFault.TheVariants.{Memory}
use Rattle.program_texts.specs.Front.{HasFault, IsTextOf}

-- A text is that of at most one program, has at most one first fault, and never both.
pub record HasOneReading (text : List ℕ) : Type 0 where
  pub program : (p q : Program) → IsTextOf text p → IsTextOf text q → p ≡ q
  pub fault : (f g : ProgramFault) → f ≢ Memory → g ≢ Memory → HasFault text f → HasFault text g → f ≡ g
  pub either : (p : Program) (f : ProgramFault) → f ≢ Memory → IsTextOf text p → HasFault text f → ⊥
