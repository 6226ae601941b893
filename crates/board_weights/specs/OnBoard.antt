-- What an operation weighs on a board before homes are chosen: a base, and how often it reads and writes each object.
use Rattle.std.specs.Prelude.{ℕ, ◌≡◌, ◌+◌, ◌==◌, if◌then◌else◌, false, Option, Some, None, List, [], ◌∷◌, ◌++◌, length}
use Rattle.std.proofs.Common.{arith}
use Rattle.board_table.specs.declared.board.Board.{Board}
use Rattle.msp430_isa.specs.declared.instr.Src.TheVariants.{Imm}
use Rattle.msp430_isa.specs.declared.instr.OneOp.TheVariants.{Call as CALL}
use Rattle.msp430_isa.specs.declared.instr.Instr.TheVariants.{One}
use Rattle.msp430_machine.specs.Addresses.{sram_start}
use Rattle.flow_graph.specs.declared.graph.Operand.{Operand}
use Rattle.flow_graph.specs.declared.graph.Operand.TheVariants.{Const, Object}
use Rattle.flow_graph.specs.declared.graph.ArrayUse.{ArrayUse}
use Rattle.flow_graph.specs.declared.graph.Op.{Op}
use Rattle.flow_graph.specs.declared.graph.Graph.{Graph}
use Rattle.flow_graph.specs.Rules.{OpFits}
use Rattle.flow_graph.specs.declared.graph.OpKind.{OpKind}
use Rattle.flow_graph.specs.declared.graph.OpKind.TheVariants as kind
use Rattle.msp430_machine.specs.Cost.{instruction_cost}
use Rattle.op_cost.specs.Templates.{Homes, weight_of, template}
use Rattle.op_cost.specs.Weights.{is_in, overhead, weight}
use Rattle.item_weights.specs.Weights.{Own, Weight}
use Rattle.item_weights.specs.Flat.{Rule, if_fits}
use Rattle.item_weights.specs.Costs.{Prices, cost_of}

-- ---- the objects that an operation reads and writes, each as often as it does

abbrev pub in_operand : Operand → List ℕ
in_operand (Const v) = []
in_operand (Object o) = o ∷ []

abbrev pub in_dest : Option ℕ → List ℕ
in_dest None = []
in_dest (Some o) = o ∷ []

abbrev pub in_array : Option ArrayUse → List ℕ
in_array None = []
in_array (Some array) = array.object ∷ []

abbrev pub reads_by : OpKind → Op → List ℕ
reads_by kind.Copy op = in_operand op.a
reads_by kind.Neg op = in_operand op.a
reads_by kind.Inv op = in_operand op.a
reads_by kind.ToU8 op = in_operand op.a
reads_by kind.ToS8 op = in_operand op.a
reads_by kind.Load op = in_operand op.a ++ in_array op.array
reads_by kind.Store op = in_operand op.a ++ in_operand op.b
reads_by kind.Input op = []
reads_by kind.Output op = in_operand op.a
reads_by kind.Finish op = in_operand op.a
reads_by kind.Test op = in_operand op.a
reads_by kind.Below op = in_operand op.b ++ in_operand op.a
reads_by kind.Step op = in_dest op.dest
reads_by kind.Go op = []
reads_by kind.Call op = []
reads_by kind.Ret op = []
reads_by _ op = in_operand op.a ++ in_operand op.b

abbrev pub writes_by : OpKind → Op → List ℕ
writes_by kind.Store op = in_array op.array
writes_by kind.Output op = []
writes_by kind.Finish op = []
writes_by kind.Test op = []
writes_by kind.Below op = []
writes_by kind.Go op = []
writes_by kind.Call op = []
writes_by kind.Ret op = []
writes_by _ op = in_dest op.dest

abbrev pub times_in : List ℕ → ℕ → ℕ
times_in [] o = 0
times_in (x ∷ xs) o = (if x == o then 1 else 0) + times_in xs o

-- so many reads, or writes, more
abbrev pub with_reads : List ℕ → Weight → Weight
with_reads xs w = record w { reads = λ o. w.reads o + times_in xs o }

abbrev pub with_writes : List ℕ → Weight → Weight
with_writes xs w = record w { writes = λ o. w.writes o + times_in xs o }

-- ---- what it weighs

-- the board whose SRAM costs nothing
abbrev pub free : Board → Board
free b = record b { access = record b.access { sram_read = 0; sram_write = 0; sram_read_range = omega arith; sram_write_range = omega arith } }

abbrev pub all_in_sram : Homes
all_in_sram o = sram_start

-- what is left of the weight of its code where its accesses of objects cost nothing
abbrev pub base_of : Board → Op → ℕ
base_of b op = weight_of (free b) (template all_in_sram 0 op)

abbrev pub own : Board → Own
own b op = record { base = base_of b op; reads = times_in (reads_by op.kind op); writes = times_in (writes_by op.kind op) }

-- what a read and a write of an object cost where these objects are in SRAM and all others in FRAM
abbrev pub prices : Board → List ℕ → Prices
prices b sram = record {
  read = λ o. if is_in sram o then b.access.sram_read else b.access.fram_read;
  write = λ o. if is_in sram o then b.access.sram_write else b.access.fram_write;
}

-- Of each operation of a graph: the weight of its code is what its base and its reads and writes of the graph's objects cost.
abbrev pub WeightsAreCosts : Type 0
WeightsAreCosts = (b : Board) (sram : List ℕ) (g : Graph) (op : Op) → OpFits g op → weight b sram op ≡ cost_of (prices b sram) (length g.objects) (own b op)

-- ---- the rule for flat functions on a board: call, body with every object in FRAM, wake and sleep fit one charge

abbrev pub call_cost : Board → ℕ
call_cost b = instruction_cost b (One CALL false (Imm 0))

abbrev pub fram_cost : Board → ℕ → Weight → ℕ
fram_cost b objects w = cost_of (prices b []) objects w

abbrev pub flat_number : Board → ℕ → Weight → Option ℕ
flat_number b objects w = if_fits (fram_cost b objects) (call_cost b) (overhead b) b.budget w

abbrev pub rule_on : Board → ℕ → Rule
rule_on b objects = record { own = own b; number = flat_number b objects }
