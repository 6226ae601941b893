-- The words of an instruction (SLAU367, section 4.5.1).
use Rattle.std.specs.Prelude.{ℕ, ◌+◌, ◌*◌, Bool, List, [], ◌∷◌, ◌++◌, length, ℤ}
use Rattle.msp430_isa.specs.declared.instr.TwoOp.{TwoOp}
use Rattle.msp430_isa.specs.declared.instr.OneOp.{OneOp}
use Rattle.msp430_isa.specs.declared.instr.Cond.{Cond}
use Rattle.msp430_isa.specs.declared.instr.Src.{Src}
use Rattle.msp430_isa.specs.declared.instr.Dst.{Dst}
use Rattle.msp430_isa.specs.declared.instr.Instr.{Instr}
use Rattle.msp430_isa.specs.declared.instr.Instr.TheVariants.{Two, One, Jump}
use Rattle.msp430_isa.specs.Fields.{two_opcode, one_opcode, condition, offset_bits, width_bit, source_mode, source_register, source_words, destination_mode, destination_register, destination_words}

-- opcode 15..12, source register 11..8, Ad 7, B/W 6, As 5..4, destination register 3..0
abbrev pub two_word : TwoOp → Bool → Src → Dst → ℕ
two_word op byte src dst = two_opcode op * 4096 + source_register src * 256 + destination_mode dst * 128 + width_bit byte * 64 + source_mode src * 16 + destination_register dst

-- 000100 15..10, opcode 9..7, B/W 6, As 5..4, register 3..0
abbrev pub one_word : OneOp → Bool → Src → ℕ
one_word op byte src = 4096 + one_opcode op * 128 + width_bit byte * 64 + source_mode src * 16 + source_register src

-- 001 15..13, condition 12..10, offset 9..0
abbrev pub jump_word : Cond → ℤ → ℕ
jump_word on words = 8192 + condition on * 1024 + offset_bits words

-- the first word, the source's and then the destination's
abbrev pub words_of : Instr → List ℕ
words_of (Two op byte src dst) = two_word op byte src dst ∷ (source_words src ++ destination_words dst)
words_of (One op byte src) = one_word op byte src ∷ source_words src
words_of (Jump on words) = jump_word on words ∷ []

-- how many they are
abbrev pub length_of : Instr → ℕ
length_of (Two op byte src dst) = 1 + length (source_words src) + length (destination_words dst)
length_of (One op byte src) = 1 + length (source_words src)
length_of (Jump on words) = 1
