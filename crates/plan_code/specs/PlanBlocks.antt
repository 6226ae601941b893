-- The code of each position, where it stands, and the image of a graph with a plan.
use Rattle.std.specs.Prelude.{ℕ, zero, suc, ◌+◌, ◌-◌, ◌*◌, ◌==◌, if◌then◌else◌, Bool, true, false, List, [], ◌∷◌, ◌++◌, negsuc, pos}
use Rattle.ti_txt.specs.Image.{Block}
use Rattle.msp430_isa.specs.declared.instr.Src.TheVariants.{Index as FromIndex, Abs as FromAbs, Imm, Short}
use Rattle.msp430_isa.specs.declared.instr.Dst.TheVariants.{Reg as ToReg, Index as ToIndex, Abs as ToAbs}
use Rattle.msp430_isa.specs.declared.instr.TwoOp.TheVariants.{Sub as SUB}
use Rattle.msp430_isa.specs.declared.instr.Cond.TheVariants.{Jeq as JEQ, Jne as JNE}
use Rattle.msp430_isa.specs.declared.instr.Instr.{Instr}
use Rattle.msp430_isa.specs.declared.instr.Instr.TheVariants.{Two, Jump}
use Rattle.msp430_machine.specs.Addresses.{gate, code_start, reset_vector, sram_start}
use Rattle.home_planner.specs.Sets.{is_in}
use Rattle.op_cost.specs.Templates.{Homes, code_of, template}
use Rattle.resumed_runs.specs.Code.{boot, first_resume, head, move, size_of}
use Rattle.resumed_runs.specs.Bytes.{bytes_in, bytes_of}
use Rattle.each_image.specs.Image.{data_blocks, fram_homes}
use Rattle.chain_units.specs.declared.plan.Chain.{Chain}
use Rattle.chain_units.specs.Known.{Known, object_words}
use Rattle.plan_code.specs.Sections.{Section, sections}
use Rattle.plan_code.specs.Positions.{What, Sleeps, Restores, Sets, Does, Turns, Saves, Position, positions_from, target_of}

-- ---- Where objects stand

-- the words of the objects before one
abbrev pub words_up_to : (ℕ → ℕ) → List ℕ → ℕ → ℕ
words_up_to words [] o = 0
words_up_to words (x ∷ xs) o = if x == o then 0 else words x + words_up_to words xs o

-- in SRAM the objects of a section stand one behind another from its first word on
abbrev pub sram_home : Known → Section → ℕ → ℕ
sram_home k s o = sram_start + 2 * words_up_to (object_words k.graph) s.opening.homes o

-- where the operations of a section find an object
abbrev pub home_of : Known → Section → Homes
home_of k s o = if is_in s.opening.homes o then sram_home k s o else fram_homes k.graph o

-- ---- Moves

-- the words of an array, the last first: R15 has twice the number of those that are left
abbrev pub array_move : ℕ → ℕ → ℕ → List Instr
array_move words from to =
    move (Imm (2 * words)) (ToReg 15) ∷ move (FromIndex 15 (from - 2)) (ToIndex 15 (to - 2)) ∷ Two SUB false (Short 2) (ToReg 15) ∷ Jump JNE (negsuc 4) ∷ []

-- an object of so many words, which is an array or a scalar
abbrev pub object_move : Bool → ℕ → ℕ → ℕ → List Instr
object_move true words from to = array_move words from to
object_move false words from to = move (FromAbs from) (ToAbs to) ∷ []

abbrev pub restoring : Known → Section → ℕ → List Instr
restoring k s o = object_move (k.is_array o) (object_words k.graph o) (fram_homes k.graph o) (sram_home k s o)

abbrev pub saving : Known → Section → ℕ → List Instr
saving k s o = object_move (k.is_array o) (object_words k.graph o) (sram_home k s o) (fram_homes k.graph o)

-- ---- The code of a position

-- a turn is done: where R10 comes to 0 the next instruction, of two words, is jumped over
abbrev pub turn_end : List Instr
turn_end = Two SUB false (Short 1) (ToReg 10) ∷ Jump JEQ (pos 2) ∷ []

-- at the word `here` of the code, with a jump to the address `target`
abbrev pub code_by : Known → Section → ℕ → ℕ → What → List Instr
code_by k s here target Sleeps = head (0x8000 + 2 * (here + 9))
code_by k s here target (Restores o) = restoring k s o
code_by k s here target (Sets turns) = move (Imm turns) (ToReg 10) ∷ []
code_by k s here target (Does x) = code_of (template (home_of k s) target x.op)
code_by k s here target Turns = turn_end
code_by k s here target (Saves o) = saving k s o

-- its words, which depend on no address
abbrev pub words_at : Known → Position → ℕ
words_at k p = size_of (code_by k p.section 0 0 p.what)

-- the word at which the position of a number stands, where the first stands at the word `here`; behind the last stands the end
abbrev pub word_of : Known → ℕ → List Position → ℕ → ℕ
word_of k here [] i = here
word_of k here (p ∷ ps) zero = here
word_of k here (p ∷ ps) (suc i) = word_of k (here + words_at k p) ps i

-- where the code ends
abbrev pub end_of : Known → ℕ → List Position → ℕ
end_of k here [] = here
end_of k here (p ∷ ps) = end_of k (here + words_at k p) ps

-- the code of positions from a word on; `address` tells where a position stands
abbrev pub code_from : Known → List Section → (ℕ → ℕ) → ℕ → List Position → List Instr
code_from k ss address here [] = []
code_from k ss address here (p ∷ ps) = code_by k p.section here (address (target_of k ss p.goal)) p.what ++ code_from k ss address (here + words_at k p) ps

-- ---- The image

module _ (k : Known) (ss : List Section) where
  abbrev pub positions : List Position
  positions = positions_from k 0 ss

  -- behind boot, which has nine words
  abbrev pub address_of : ℕ → ℕ
  address_of i = 0x8000 + 2 * word_of k 9 positions i

  abbrev pub code : List Instr
  code = boot ++ code_from k ss address_of 9 positions

  -- what boot reads, the words of objects that have any, the code, and the vector
  abbrev pub blocks : List Block
  blocks =
      record { start = gate; bytes = bytes_of (1 ∷ first_resume ∷ code_start ∷ []) }
      ∷ (data_blocks k.graph ++ record { start = code_start; bytes = bytes_in code } ∷ record { start = reset_vector; bytes = bytes_of (code_start ∷ []) } ∷ [])

  -- the words of the code
  abbrev pub code_words : ℕ
  code_words = end_of k 9 positions

-- ---- of a graph with a plan

abbrev pub plan_positions : Known → List Chain → List Position
plan_positions k plans = positions k (sections k plans)

abbrev pub plan_address : Known → List Chain → ℕ → ℕ
plan_address k plans = address_of k (sections k plans)

abbrev pub plan_blocks : Known → List Chain → List Block
plan_blocks k plans = blocks k (sections k plans)

abbrev pub plan_words : Known → List Chain → ℕ
plan_words k plans = code_words k (sections k plans)
