-- The image with heads before chosen operations: its code and its blocks.
use Rattle.std.specs.Prelude.{ℕ, zero, suc, ◌≡◌, ◌+◌, ◌*◌, ◌⊎◌, Bool, true, false, List, [], ◌∷◌, ◌++◌, flat_map}
use Rattle.ti_txt.specs.Image.{Block}
use Rattle.msp430_isa.specs.declared.instr.Instr.{Instr}
use Rattle.msp430_isa.specs.Encoding.{words_of}
use Rattle.msp430_machine.specs.State.{Off, Awake, Asleep, State}
use Rattle.msp430_machine.specs.Addresses.{gate, code_start, reset_vector}
use Rattle.resumed_runs.specs.Code.{boot, head, size_of}
use Rattle.resumed_runs.specs.Bytes.{bytes_of}

-- ---- The code, from a word of it on: each template, with a head before it where one is chosen

-- whether there is a head, and the template
pub record Piece : Type 0 where
  pub has_head : Bool
  pub template : List Instr

abbrev pub head_size : Bool → ℕ
head_size true = 11
head_size false = 0

abbrev pub head_code : Bool → ℕ → List Instr
head_code true k = head (0x8000 + 2 * (k + 9))
head_code false k = []

abbrev pub chosen_code : ℕ → List Piece → List Instr
chosen_code k [] = []
chosen_code k (p ∷ ps) = head_code p.has_head k ++ (p.template ++ chosen_code (k + head_size p.has_head + size_of p.template) ps)

-- where the code of a piece begins
abbrev pub chosen_at : ℕ → List Piece → ℕ → ℕ
chosen_at k [] i = k
chosen_at k (p ∷ ps) zero = k
chosen_at k (p ∷ ps) (suc i) = chosen_at (k + head_size p.has_head + size_of p.template) ps i

abbrev pub head_at : List Piece → ℕ → Bool
head_at [] i = false
head_at (p ∷ ps) zero = p.has_head
head_at (p ∷ ps) (suc i) = head_at ps i

abbrev pub template_of : List Piece → ℕ → List Instr
template_of [] i = []
template_of (p ∷ ps) zero = p.template
template_of (p ∷ ps) (suc i) = template_of ps i

-- ---- The image: what boot reads, the words of objects that have any, the code, and the vector

abbrev pub chosen_blocks : List Block → List Piece → List Block
chosen_blocks data_blocks ts =
    record { start = gate; bytes = bytes_of (1 ∷ 0x8024 ∷ code_start ∷ []) }
    ∷ (data_blocks ++ record { start = code_start; bytes = bytes_of (flat_map words_of (boot ++ chosen_code 9 ts)) } ∷ record { start = reset_vector; bytes = bytes_of (code_start ∷ []) } ∷ [])

-- ---- Where a device stands, by PC, GATE and RESUME

-- awake, with GATE closed, at the operation whose code is at this address: before its head, or behind it where it has one
abbrev pub WorksAt : ℕ → Bool → State → Type 0
WorksAt a has_head s = (s.phase ≡ Awake) × (s.fram 0xC00 ≡ 0) × ((s.reg 0 ≡ a) ⊎ ((has_head ≡ true) × (s.reg 0 ≡ a + 22)))

-- off or asleep, with GATE open, to be resumed at the last instruction of its head
abbrev pub WaitsAt : ℕ → Bool → State → Type 0
WaitsAt a has_head s = ((s.phase ≡ Off) ⊎ (s.phase ≡ Asleep)) × (s.fram 0xC00 ≡ 1) × (has_head ≡ true) × (s.fram 0xC01 ≡ a + 18)

abbrev pub StandsAt : ℕ → Bool → State → Type 0
StandsAt a has_head s = WorksAt a has_head s ⊎ WaitsAt a has_head s
