-- What holds of the words of instructions, whoever reads or writes them.
use Rattle.std.specs.Prelude.{ℕ, ◌≡◌, ◌<◌, ◌^◌, ◌↔◌, IsTrue, List, [], ◌∷◌, Some}
use Rattle.std.specs.List.{All}
use Rattle.msp430_isa.specs.declared.instr.Instr.{Instr}
use Rattle.msp430_isa.specs.Encoding.{words_of, length_of}
use Rattle.msp430_isa.specs.Profile.{in_profile}
use Rattle.msp430_isa.specs.Spelled.{Spells}
use Rattle.msp430_isa.specs.Decoding.{instruction_at}

-- No list of words spells two instructions.
abbrev pub IsUnambiguous : Type 0
IsUnambiguous = (words : List ℕ) (i j : Instr) (n m : ℕ) → Spells words i n → Spells words j m → (i ≡ j) × (n ≡ m)

-- Every instruction of the profile is spelt by its words.
abbrev pub IsSpelt : Type 0
IsSpelt = (i : Instr) → IsTrue (in_profile i) → Spells (words_of i) i (length_of i)

-- Its words are sixteen bits each.
abbrev pub HasWords : Type 0
HasWords = (i : Instr) → IsTrue (in_profile i) → All (λ w. w < 2 ^ 16) (words_of i)

-- What is computed from three words is what they spell.
abbrev pub IsComputed : Type 0
IsComputed = (w x y : ℕ) (i : Instr) → w < 2 ^ 16 → x < 2 ^ 16 → y < 2 ^ 16 → (instruction_at w x y ≡ Some i) ↔ Spells (w ∷ x ∷ y ∷ []) i (length_of i)
