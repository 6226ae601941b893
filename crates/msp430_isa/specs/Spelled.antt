-- Which words spell an instruction.
use Rattle.std.specs.Prelude.{ℕ, ◌≡◌, ◌≤◌, IsTrue, List, length, take}
use Rattle.msp430_isa.specs.declared.instr.Instr.{Instr}
use Rattle.msp430_isa.specs.Encoding.{words_of, length_of}
use Rattle.msp430_isa.specs.Profile.{in_profile}

-- The words begin with the instruction's, of which there are so many.
pub record Spells (words : List ℕ) (i : Instr) (count : ℕ) : Type 0 where
  pub allowed : IsTrue (in_profile i)
  pub counted : count ≡ length_of i
  pub whole : count ≤ length words
  pub begins : take count words ≡ words_of i
