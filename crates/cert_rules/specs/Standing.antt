-- What stands at an address of the code: an instruction, or a copy of an array.
use Rattle.std.specs.Prelude.{ℕ, ◌+◌, ◌-◌, ◌*◌, ◌/◌, ◌%◌, ◌==◌, nat_le, Bool, not, ◌&&◌, Option, Some, None, is_some, if◌then◌else◌}
use Rattle.msp430_isa.specs.declared.instr.Instr.{Instr}
use Rattle.msp430_isa.specs.Encoding.{length_of}
use Rattle.cert_rules.specs.Words.{word_in}
use Rattle.cert_rules.specs.Sheet.{Sheet, word_or_zero, instruction_of, any_point, is_word, fits_here}

-- a copy of an array: n words, and the two indices as they stand in its second instruction
pub record Copy : Type 0 where
  pub words : ℕ
  pub source : ℕ
  pub target : ℕ

abbrev pub copy_bytes : ℕ
copy_bytes = 14

-- MOV #2n,R15; MOV source(R15),target(R15); SUB #2,R15; JNE to the second
abbrev pub is_copy : Sheet → ℕ → ℕ → Bool
is_copy t a double =
    fits_here t a copy_bytes && is_word t a 0x403F && is_word t (a + 2) double && is_word t (a + 4) 0x4F9F && is_some (word_in t.blocks (a + 6)) && is_some (word_in t.blocks (a + 8))
    && is_word t (a + 10) 0x832F && is_word t (a + 12) 0x23FB && nat_le 2 double && double % 2 == 0 && not (any_point t (a + 1) (copy_bytes - 1))

abbrev pub copy_of : Sheet → ℕ → Option Copy
copy_of t a =
    let double = word_or_zero t (a + 2) in
    if is_copy t a double then Some (record { words = double / 2; source = word_or_zero t (a + 6); target = word_or_zero t (a + 8) }) else None

-- what stands at an address, and how many bytes it has
pub data Standing : Type 0 where
  ACopy : Copy → Standing
  AnInstruction : Instr → Standing
  Nothing : Standing

abbrev pub or_instruction : Option Instr → Standing
or_instruction None = Nothing
or_instruction (Some i) = AnInstruction i

abbrev pub standing_of : Option Copy → Option Instr → Standing
standing_of (Some c) i = ACopy c
standing_of None i = or_instruction i

abbrev pub standing : Sheet → ℕ → Standing
standing t a = standing_of (copy_of t a) (instruction_of t a)

abbrev pub bytes_of : Standing → ℕ
bytes_of (ACopy c) = copy_bytes
bytes_of (AnInstruction i) = 2 * length_of i
bytes_of Nothing = 2
