-- Where objects lie, and what an operation asks of those that it reads and writes.
use Rattle.std.specs.Prelude.{ℕ, ◌≡◌, ◌+◌, ◌*◌, ◌%◌, ◌<◌, ◌≤◌, ◌⊎◌, List, Option, Some, None, length, slice_index_or}
use Rattle.msp430_machine.specs.Addresses.{sram_start, sram_end, fram_start, code_start}
use Rattle.msp430_machine.specs.State.{State}
use Rattle.msp430_machine.specs.Memory.{word_at}
use Rattle.flow_graph.specs.declared.graph.Operand.{Operand}
use Rattle.flow_graph.specs.declared.graph.Operand.TheVariants.{Const, Object}
use Rattle.flow_graph.specs.declared.graph.ArrayUse.{ArrayUse}
use Rattle.flow_graph.specs.declared.graph.Op.{Op}
use Rattle.flow_graph.specs.declared.graph.OpKind.{OpKind}
use Rattle.flow_graph.specs.declared.graph.OpKind.TheVariants as kind
use Rattle.op_cost.specs.Templates.{Homes}

-- the address of an object in a list of them all
abbrev pub home_in : List ℕ → Homes
home_in places o = slice_index_or places o 0

abbrev pub HasHome : List ℕ → Operand → Type 0
HasHome places (Const v) = Unit {0}
HasHome places (Object o) = o < length places

abbrev pub HasDest : List ℕ → Option ℕ → Type 0
HasDest places None = Unit {0}
HasDest places (Some o) = o < length places

abbrev pub HasArray : List ℕ → Option ArrayUse → Type 0
HasArray places None = Unit {0}
HasArray places (Some use') = use'.object < length places

-- every object of the operation has its address
pub record HasHomes (places : List ℕ) (op : Op) : Type 0 where
  pub a : HasHome places op.a
  pub b : HasHome places op.b
  pub dest : HasDest places op.dest
  pub array : HasArray places op.array

-- ---- Words and runs of words

-- so many words from an even address on, all in SRAM or all in the FRAM that instructions may write
pub record IsRun (a n : ℕ) : Type 0 where
  pub even : a % 2 ≡ 0
  pub inside : ((sram_start ≤ a) × (a + 2 * n ≤ sram_end)) ⊎ ((fram_start ≤ a) × (a + 2 * n ≤ code_start))

abbrev pub operand_at : Homes → State → Operand → ℕ
operand_at homes s (Const v) = v
operand_at homes s (Object o) = word_at s (homes o)

-- the word of an array at an index
abbrev pub element_at : Homes → State → Option ArrayUse → ℕ → ℕ
element_at homes s None i = 0
element_at homes s (Some use') i = word_at s (homes use'.object + 2 * i)

-- ---- What an operation asks of the machine before it

-- an operand's object stands at a word, and the word is sixteen bits
abbrev pub IsHome : Homes → Operand → Type 0
IsHome homes (Const v) = Unit {0}
IsHome homes (Object o) = IsRun (homes o) 1

pub record Reads (homes : Homes) (s : State) (a : Operand) : Type 0 where
  pub home : IsHome homes a
  pub low : operand_at homes s a < 65536

-- the object that is written stands at a word
pub record Target (homes : Homes) (dest : Option ℕ) : Type 0 where
  pub object : ℕ
  pub is : dest ≡ Some object
  pub home : IsRun (homes object) 1

-- the array's words stand one behind another
pub record Array (homes : Homes) (array : Option ArrayUse) : Type 0 where
  pub used : ArrayUse
  pub is : array ≡ Some used
  pub home : IsRun (homes used.object) used.length

-- the address gone to is that of a word of the code
pub record GoesTo (target kt : ℕ) : Type 0 where
  pub is : target ≡ 0x8000 + 2 * kt
  pub low : target < 65536

-- a variable that is compared with a constant
pub record Compares (a b : Operand) : Type 0 where
  pub variable : ℕ
  pub bound : ℕ
  pub is_variable : a ≡ Object variable
  pub is_bound : b ≡ Const bound

-- SP stands behind a word of FRAM, which a call pushes to
pub record CanPush (s : State) : Type 0 where
  pub even : s.reg 1 % 2 ≡ 0
  pub low : fram_start + 2 ≤ s.reg 1
  pub high : s.reg 1 ≤ code_start

-- SP stands at a word of FRAM that holds the address of a word of the code
pub record CanPop (s : State) (kt : ℕ) : Type 0 where
  pub even : s.reg 1 % 2 ≡ 0
  pub low : fram_start ≤ s.reg 1
  pub high : s.reg 1 + 2 ≤ code_start
  pub holds : word_at s (s.reg 1) ≡ 0x8000 + 2 * kt

-- By kind: of the operands read, the word written, and the place gone to. The word of the code gone to is kt.
abbrev pub Ready : OpKind → Homes → State → (target kt : ℕ) → Op → Type 0
Ready kind.Copy homes s target kt op = Reads homes s op.a × Target homes op.dest
Ready kind.Neg homes s target kt op = Reads homes s op.a × Target homes op.dest
Ready kind.Inv homes s target kt op = Reads homes s op.a × Target homes op.dest
Ready kind.ToU8 homes s target kt op = Reads homes s op.a × Target homes op.dest
Ready kind.ToS8 homes s target kt op = Reads homes s op.a × Target homes op.dest
Ready kind.Load homes s target kt op = Reads homes s op.a × Array homes op.array × Target homes op.dest
Ready kind.Store homes s target kt op = Reads homes s op.a × Reads homes s op.b × Array homes op.array
Ready kind.Input homes s target kt op = Target homes op.dest
Ready kind.Output homes s target kt op = Reads homes s op.a
Ready kind.Finish homes s target kt op = Reads homes s op.a
Ready kind.Test homes s target kt op = Reads homes s op.a × GoesTo target kt
Ready kind.Below homes s target kt op = Reads homes s op.a × Reads homes s op.b × Compares op.a op.b × GoesTo target kt
Ready kind.Step homes s target kt op = (t : Target homes op.dest) × (op.a ≡ Object t.object)
Ready kind.Go homes s target kt op = GoesTo target kt
Ready kind.Call homes s target kt op = GoesTo target kt × CanPush s
Ready kind.Ret homes s target kt op = CanPop s kt
Ready _ homes s target kt op = Reads homes s op.a × Reads homes s op.b × Target homes op.dest
