-- What instructions cost at most.
use Rattle.std.proofs.Common.{◌≡◌, ℕ, ◌+◌, ◌*◌, ◌≤◌, ◌<◌, Bool, true, false, List, [], ◌∷◌, arith}
use Rattle.std.specs.Prelude.{if◌then◌else◌, length}
use Rattle.std.proofs.lemmas.Nat.{mul-le}
use Rattle.board_table.specs.declared.board.Board.{Board}
use Rattle.msp430_isa.specs.declared.instr.OneOp.{OneOp}
use Rattle.msp430_isa.specs.declared.instr.OneOp.TheVariants.{Push as PUSH, Call as CALL}
use Rattle.msp430_isa.specs.declared.instr.TwoOp.{TwoOp}
use Rattle.msp430_isa.specs.declared.instr.TwoOp.TheVariants.{Mov as MOV}
use Rattle.msp430_isa.specs.declared.instr.Src.{Src}
use Rattle.msp430_isa.specs.declared.instr.Src.TheVariants.{Reg as FromReg, Index as FromIndex, Abs as FromAbs, At, AtPlus, Imm, Short}
use Rattle.msp430_isa.specs.declared.instr.Dst.{Dst}
use Rattle.msp430_isa.specs.declared.instr.Dst.TheVariants.{Reg as ToReg, Index as ToIndex, Abs as ToAbs}
use Rattle.msp430_isa.specs.declared.instr.Instr.{Instr}
use Rattle.msp430_isa.specs.declared.instr.Instr.TheVariants.{Two, One, Jump}
use Rattle.msp430_isa.specs.Encoding.{length_of}
use Rattle.msp430_isa.specs.Results.{reads_destination, writes_destination}
use Rattle.msp430_machine.specs.declared.addresses.Region.{Region}
use Rattle.msp430_machine.specs.declared.addresses.Region.TheVariants.{Ports, Sram, Fram, Code, Empty}
use Rattle.msp430_machine.specs.Addresses.{region}
use Rattle.msp430_machine.specs.Operands.{Operand, Constant, InRegister, InMemory}
use Rattle.msp430_machine.specs.Cost.{read_cost_in, write_cost_in, read_cost, write_cost, two_class, one_class, destination_cost, from_of, to_of, cost_by, any_state, instruction_cost}
use Rattle.cert_rules.specs.Overhead.{cost_sum}

module _ (b : Board) where
  read_in_small : (r : Region) → read_cost_in b r ≤ 1000000
  read_in_small Sram = b.access.sram_read_range
  read_in_small Ports = b.access.port_read_range
  read_in_small Fram = b.access.fram_read_range
  read_in_small Code = b.access.fram_read_range
  read_in_small Empty = b.access.fram_read_range

  write_in_small : (r : Region) → write_cost_in b r ≤ 1000000
  write_in_small Sram = b.access.sram_write_range
  write_in_small Ports = b.access.port_write_range
  write_in_small Fram = b.access.fram_write_range
  write_in_small Code = b.access.fram_write_range
  write_in_small Empty = b.access.fram_write_range

  read_small : (o : Operand) → read_cost b o ≤ 1000000
  read_small (Constant v) = omega arith
  read_small (InRegister r) = omega arith
  read_small (InMemory a) = read_in_small (region a)

  write_small : (o : Operand) → write_cost b o ≤ 1000000
  write_small (Constant v) = omega arith
  write_small (InRegister r) = omega arith
  write_small (InMemory a) = write_in_small (region a)

  two_small : (op : TwoOp) → two_class b op ≤ 1000000
  two_small MOV = b.core.move_range.1
  two_small op = b.core.alu_range.1

  one_small : (op : OneOp) → one_class b op ≤ 1000000
  one_small PUSH = b.core.push_range.1
  one_small CALL = b.core.call_range.1
  one_small op = b.core.one_range.1

  when_small : (c : Bool) (n : ℕ) → n ≤ 1000000 → (if c then n else 0) ≤ 1000000
  when_small true n h = h
  when_small false n h = omega arith

  destination_small : (op : TwoOp) (d : Operand) → destination_cost b op d ≤ 2000000
  destination_small op d =
      let reads = when_small (reads_destination op) (read_cost b d) (read_small d) in
      let writes = when_small (writes_destination op) (write_cost b d) (write_small d) in
      omega (arith, reads, writes)

-- a source has one word at most, and so has a destination
source_short : (byte : Bool) (src : Src) → length_of (One PUSH byte src) ≤ 2
source_short byte (FromReg r) = omega arith
source_short byte (FromIndex r x) = omega arith
source_short byte (FromAbs a) = omega arith
source_short byte (At r) = omega arith
source_short byte (AtPlus r) = omega arith
source_short byte (Imm v) = omega arith
source_short byte (Short v) = omega arith

destination_short : (byte : Bool) (dst : Dst) → length_of (Two MOV byte (FromReg 0) dst) ≤ 2
destination_short byte (ToReg r) = omega arith
destination_short byte (ToIndex r x) = omega arith
destination_short byte (ToAbs a) = omega arith

pub length_small : (i : Instr) → length_of i ≤ 3
length_small (Two op byte src dst) = let s = source_short byte src in let d = destination_short byte dst in omega (arith, s, d)
length_small (One op byte src) = let s = source_short byte src in omega (arith, s)
length_small (Jump on words) = omega arith

pub length_some : (i : Instr) → 1 ≤ length_of i
length_some (Two op byte src dst) = omega arith
length_some (One op byte src) = omega arith
length_some (Jump on words) = omega arith

module _ (b : Board) where
  fetch_small : (i : Instr) → b.access.fetch * length_of i ≤ 3000000
  fetch_small i = mul-le (b.access.fetch) (length_of i) 1000000 3 b.access.fetch_range (length_small i)

  by_small : (i : Instr) (from to : Operand) → cost_by b i from to ≤ 7000000
  by_small (Two op byte src dst) from to =
      let class = two_small b op in
      let fetched = fetch_small (Two op byte src dst) in
      let reads = read_small b from in
      let writes = destination_small b op to in
      omega (arith, class, fetched, reads, writes)
  by_small (One op byte src) from to =
      let class = one_small b op in
      let fetched = fetch_small (One op byte src) in
      let reads = read_small b from in
      let writes = write_small b to in
      omega (arith, class, fetched, reads, writes)
  by_small (Jump on words) from to = let jump = b.core.jump_range.1 in let fetched = b.access.fetch_range in omega (arith, jump, fetched)

  pub cost_small : (i : Instr) → instruction_cost b i ≤ 7000000
  cost_small i = by_small i (from_of any_state i) (to_of any_state i)

-- and one behind another
pub sum_small : (b : Board) (is : List Instr) → cost_sum b is ≤ 7000000 * length is
sum_small b [] = omega arith
sum_small b (i ∷ is) = let one = cost_small b i in let rest = sum_small b is in omega (arith, one, rest)

-- as often as a byte says
pub timed_small : (n c : ℕ) → n < 256 → c ≤ 7000000 → n * c ≤ 1785000000
timed_small n c few small = mul-le n c 255 7000000 (omega (arith, few)) small
