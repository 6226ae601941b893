-- What the code of an operation does on the machine: a path of instructions of which the last alone writes memory, puts a word or stops.
use Rattle.std.specs.Prelude.{ℕ, zero, suc, ◌≡◌, ◌+◌, ◌-◌, ◌*◌, ◌≤◌, Bool, true, false, Option, Some, None, List, [], ◌∷◌, ◌++◌}
use Rattle.board_table.specs.declared.board.Board.{Board}
use Rattle.msp430_isa.specs.declared.instr.Instr.{Instr}
use Rattle.msp430_isa.specs.Encoding.{length_of, words_of}
use Rattle.msp430_machine.specs.State.{Phase, Awake, Ended, Trapped, State, set_at, input_word}
use Rattle.msp430_machine.specs.Memory.{written}
use Rattle.msp430_machine.specs.Cost.{cost}
use Rattle.msp430_machine.specs.Execution.{done, put_by}
use Rattle.msp430_machine.specs.Steps.{Does, next, begun}
use Rattle.power_core.specs.Runs.{Event, Go, Trail, Run}
use Rattle.flow_graph.specs.declared.graph.Op.{Op}
use Rattle.op_cost.specs.Templates.{Homes, weight_of, template}
use Rattle.emit_templates.specs.Placed.{Ready, operand_at, element_at}
use Rattle.emit_templates.specs.Effects.{Change, Turn, On, Away, Calls, Returns, Ends, Traps, Effect, effect_by}

-- ---- Code at its place

-- these words stand from the word k of the code on
abbrev pub WordsStand : (ℕ → ℕ) → ℕ → List ℕ → Type 0
WordsStand f k [] = Unit {0}
WordsStand f k (w ∷ words) = (f k ≡ w) × WordsStand f (k + 1) words

-- instructions that stand one behind another, below the end of the code
abbrev pub Stand : (ℕ → ℕ) → ℕ → List Instr → Type 0
Stand code k [] = Unit {0}
Stand code k (i ∷ is) = WordsStand code k (words_of i) × (k + length_of i ≤ 0x3FC0) × Stand code (k + length_of i) is

abbrev pub words_of_code : List Instr → ℕ
words_of_code [] = 0
words_of_code (i ∷ is) = length_of i + words_of_code is

-- ---- Where the machine stands

-- Awake at a word of the code, with the memories of this state and its R1 to R10, and so many input words taken.
pub record Now (mem : State) (taken k : ℕ) (s : State) : Type 0 where
  pub awake : s.phase ≡ Awake
  pub pc : s.reg 0 ≡ 0x8000 + 2 * k
  pub has_code : s.code ≡ mem.code
  pub has_sram : s.sram ≡ mem.sram
  pub has_fram : s.fram ≡ mem.fram
  pub has_taken : s.taken ≡ taken
  pub kept : (r : ℕ) → 1 ≤ r → r ≤ 10 → s.reg r ≡ mem.reg r

-- stopped, with the memories of this state and its R1 to R10
pub record Stops (mem : State) (taken : ℕ) (p : Phase) (s : State) : Type 0 where
  pub phase : s.phase ≡ p
  pub has_code : s.code ≡ mem.code
  pub has_sram : s.sram ≡ mem.sram
  pub has_fram : s.fram ≡ mem.fram
  pub has_taken : s.taken ≡ taken
  pub kept : (r : ℕ) → 1 ≤ r → r ≤ 10 → s.reg r ≡ mem.reg r

-- ---- What an operation comes to

-- the old state, with the word of the change written at its home
abbrev pub changed : Homes → Option Change → State → State
changed homes None s = s
changed homes (Some c) s = written false s (homes c.object + 2 * c.index) c.value

abbrev pub taken_by : ℕ → Bool → ℕ
taken_by taken true = taken + 1
taken_by taken false = taken

-- a call pushes the address behind it, and a return takes it
abbrev pub called : State → ℕ → State
called s behind = record (written false s (s.reg 1 - 2) (0x8000 + 2 * behind)) { reg = set_at s.reg 1 (s.reg 1 - 2) }

abbrev pub returned : State → State
returned s = record s { reg = set_at s.reg 1 (s.reg 1 + 2) }

-- what an operation does to the state s, by the words at the homes of its operands
abbrev pub effect_in : List ℕ → Homes → State → Op → Effect
effect_in input homes s op =
    effect_by op.kind op (operand_at homes s op.a) (operand_at homes s op.b) (element_at homes s op.array (operand_at homes s op.a)) (input_word input s.taken)

-- behind an operation on the state s: at the word behind its code, at the word kt gone to, or stopped
abbrev pub TurnedBy : Turn → Effect → Homes → (s : State) (behind kt : ℕ) → State → Type 0
TurnedBy On e homes s behind kt t = Now (changed homes e.change s) (taken_by s.taken e.takes) behind t
TurnedBy Away e homes s behind kt t = Now (changed homes e.change s) (taken_by s.taken e.takes) kt t
TurnedBy Calls e homes s behind kt t = Now (called s behind) s.taken kt t
TurnedBy Returns e homes s behind kt t = Now (returned s) s.taken kt t
TurnedBy (Ends w) e homes s behind kt t = Stops s s.taken (Ended w) t
TurnedBy (Traps n) e homes s behind kt t = Stops s s.taken (Trapped n) t

abbrev pub Turned : Effect → Homes → (s : State) (behind kt : ℕ) → State → Type 0
Turned e homes s behind kt t = TurnedBy e.turn e homes s behind kt t

-- ---- Paths

-- the state behind an instruction, and the word that it puts
abbrev pub after : Board → List ℕ → Instr → State → State
after b input i s = done input i (begun (cost b s i) i s)

abbrev pub put_after : Board → List ℕ → Instr → State → Option ℕ
put_after b input i s = put_by input i (begun (cost b s i) i s)

-- From a state to u by instructions that cost so much together. Before each of them memory and R1 to R10 are as in mem, and none of them puts a word.
pub data Path (b : Board) (input : List ℕ) (mem u : State) : ℕ → State → Type 0 where
  Arrived : Path b input mem u 0 u
  Through : (taken k c : ℕ) (i : Instr) (s : State) → Now mem taken k s → next s ≡ Does i → put_after b input i s ≡ None
      → Path b input mem u c (after b input i s) → Path b input mem u (cost b s i + c) s

-- a path from s, and one last instruction, within a cost
pub record Performed (b : Board) (input : List ℕ) (s : State) (most : ℕ) (puts : Option ℕ) (Behind : State → Type 0) : Type 0 where
  pub mid : State
  pub taken : ℕ
  pub word : ℕ
  pub spent : ℕ
  pub last : Instr
  pub path : Path b input s mid spent s
  pub now : Now s taken word mid
  pub does : next mid ≡ Does last
  pub put : put_after b input last mid ≡ puts
  pub within : spent + cost b mid last ≤ most
  pub behind : Behind (after b input last mid)

-- Wherever the code stands and the machine is at it, it does the operation within the weight: memory behind it is the old memory with the word of the
-- target written at its home, or for a call the word pushed, and nothing else.
abbrev pub DoesOperation : List Instr → Homes → ℕ → Op → Type 0
DoesOperation code homes target op = (b : Board) (input : List ℕ) (k kt : ℕ) (rest : List Instr) (s : State)
    → Ready op.kind homes s target kt op → Stand s.code k (code ++ rest) → Now s s.taken k s
    → Performed b input s (weight_of b (template homes target op)) (effect_in input homes s op).puts
    (λ t. Turned (effect_in input homes s op) homes s (k + words_of_code code) kt t)

-- ---- Runs

-- so many instructions
abbrev pub goes : ℕ → List Event
goes zero = []
goes (suc n) = Go ∷ goes n

abbrev pub with_put : List ℕ → Option ℕ → List ℕ
with_put put None = put
with_put put (Some v) = put ++ v ∷ []

-- So many instructions run, one at least; none is cut, and they cost at most so much.
pub record Reaches (b : Board) (input : List ℕ) (t : Trail) (most : ℕ) (puts : Option ℕ) (Behind : State → Type 0) : Type 0 where
  pub more : ℕ
  pub end : Trail
  pub run : Run b input t (goes (suc more)) end
  pub uncut : end.cuts ≡ t.cuts
  pub paid : end.stretch ≤ t.stretch + most
  pub put : end.put ≡ with_put t.put puts
  pub behind : Behind end.state

-- Where the charge has the weight, a run from the code's first instruction comes behind it.
abbrev pub RunsOperation : List Instr → Homes → ℕ → Op → Type 0
RunsOperation code homes target op = (b : Board) (input : List ℕ) (k kt : ℕ) (rest : List Instr) (t : Trail)
    → Ready op.kind homes t.state target kt op → Stand t.state.code k (code ++ rest) → Now t.state t.state.taken k t.state
    → weight_of b (template homes target op) ≤ t.state.charge
    → Reaches b input t (weight_of b (template homes target op)) (effect_in input homes t.state op).puts
    (λ s. Turned (effect_in input homes t.state op) homes t.state (k + words_of_code code) kt s)
