-- What a step spends: it is what the charge loses, it is never much, and where nothing is executed nothing is taken.
use Rattle.std.proofs.Common.{◌≡◌, ℕ, ◌+◌, ◌*◌, ◌≤◌, Bool, true, false, List, length, Option, Some, None, refl, sym, ap, ◌∙◌, arith}
use Rattle.std.specs.Prelude.{◌==◌, nat_lt, if◌then◌else◌}
use Rattle.std.proofs.lemmas.Bool.Decides.{nat_tests}
use Rattle.std.proofs.Math.Nat.{mul-le-mul}
use Rattle.board_table.specs.declared.board.Board.{Board}
use Rattle.msp430_isa.specs.declared.instr.TwoOp.{TwoOp}
use Rattle.msp430_isa.specs.declared.instr.TwoOp.TheVariants.{Mov as MOV}
use Rattle.msp430_isa.specs.declared.instr.OneOp.{OneOp}
use Rattle.msp430_isa.specs.declared.instr.OneOp.TheVariants.{Push as PUSH, Call as CALL}
use Rattle.msp430_isa.specs.declared.instr.Src.{Src}
use Rattle.msp430_isa.specs.declared.instr.Src.TheVariants.{Reg as FromReg, Index as FromIndex, Abs as FromAbs, At, AtPlus, Imm, Short as ShortConstant}
use Rattle.msp430_isa.specs.declared.instr.Dst.{Dst}
use Rattle.msp430_isa.specs.declared.instr.Dst.TheVariants.{Reg as ToReg, Index as ToIndex, Abs as ToAbs}
use Rattle.msp430_isa.specs.declared.instr.Instr.{Instr}
use Rattle.msp430_isa.specs.declared.instr.Instr.TheVariants.{Two, One, Jump}
use Rattle.msp430_isa.specs.Fields.{source_words, destination_words}
use Rattle.msp430_isa.specs.Encoding.{length_of}
use Rattle.msp430_isa.specs.Results.{reads_destination, writes_destination, two_flags, two_result, one_flags, one_result, is_taken, jump_target}
use Rattle.msp430_machine.specs.declared.answer.Did.{Did}
use Rattle.msp430_machine.specs.declared.addresses.Region.{Region}
use Rattle.msp430_machine.specs.declared.addresses.Region.TheVariants.{Ports, Sram, Fram, Code, Empty}
use Rattle.msp430_machine.specs.Addresses.{region, out_port, end_port}
use Rattle.msp430_machine.specs.State.{Phase, Off, Awake, Asleep, Ended, Trapped, Faulted, State, set_at, with_register, with_status}
use Rattle.msp430_machine.specs.Memory.{sent_to, written_in, written, word_at, with_half, after_read_in}
use Rattle.msp430_machine.specs.Operands.{Operand, Constant, InRegister, InMemory, source, destination, incremented, pushed_at}
use Rattle.msp430_machine.specs.Execution.{source_value, after_reading, after_source, with_value, two_values, pushed, gone_to, one_done, done, put_by}
use Rattle.msp430_machine.specs.Cost.{read_cost_in, write_cost_in, read_cost, write_cost, two_class, destination_cost, one_class, one_written, cost}
use Rattle.msp430_machine.specs.Steps.{Next, Faults, Does, next, answer_by, answer_of, begun, cut_off, executed, stepped_by, stepped}
use Rattle.power_core.specs.Cores.{is_executed}

-- ---- No instruction moves the charge but by its cost.

sent : (s : State) (a v : ℕ) → (sent_to s a v).charge ≡ s.charge
sent s a v =
    elim (a == out_port) as (λ c. (if c then s else if a == end_port then record s { phase = Ended v } else record s { phase = Trapped v }).charge ≡ s.charge) [
      | true ↦ refl
      | false ↦ elim (a == end_port) as (λ c. (if c then record s { phase = Ended v } else record s { phase = Trapped v }).charge ≡ s.charge) [ true ↦ refl | false ↦ refl ]
    ]

in_region : (r : Region) (s : State) (a w : ℕ) → (written_in r s a w).charge ≡ s.charge
in_region Sram s a w = refl
in_region Fram s a w = refl
in_region Code s a w = refl
in_region Ports s a w = sent s a w
in_region Empty s a w = refl

at_address : (byte : Bool) (s : State) (a v : ℕ) → (written byte s a v).charge ≡ s.charge
at_address true s a v = in_region (region a) s a (with_half a (word_at s a) v)
at_address false s a v = in_region (region a) s a v

in_register : (s : State) (r v : ℕ) → (with_register s r v).charge ≡ s.charge
in_register s r v =
    elim (r == 2) as (λ c. (if c then with_status s v else if r == 3 then s else record s { reg = set_at s.reg r v }).charge ≡ s.charge) [
      | true ↦ refl
      | false ↦ elim (r == 3) as (λ c. (if c then s else record s { reg = set_at s.reg r v }).charge ≡ s.charge) [ true ↦ refl | false ↦ refl ]
    ]

in_place : (byte : Bool) (s : State) (place : Operand) (v : ℕ) → (with_value byte s place v).charge ≡ s.charge
in_place byte s (Constant c) v = refl
in_place byte s (InRegister r) v = in_register s r v
in_place byte s (InMemory a) v = at_address byte s a v

read_from : (r : Region) (s : State) → (after_read_in r s).charge ≡ s.charge
read_from Ports s = refl
read_from Sram s = refl
read_from Fram s = refl
read_from Code s = refl
read_from Empty s = refl

reading : (s : State) (place : Operand) → (after_reading s place).charge ≡ s.charge
reading s (Constant v) = refl
reading s (InRegister r) = refl
reading s (InMemory a) = read_from (region a) s

incrementing : (byte : Bool) (s : State) (src : Src) → (incremented byte s src).charge ≡ s.charge
incrementing byte s (AtPlus r) = in_register s r _
incrementing byte s (FromReg r) = refl
incrementing byte s (FromIndex r x) = refl
incrementing byte s (FromAbs a) = refl
incrementing byte s (At r) = refl
incrementing byte s (Imm v) = refl
incrementing byte s (ShortConstant v) = refl

sourced : (byte : Bool) (s : State) (src : Src) → (after_source byte s src).charge ≡ s.charge
sourced byte s src = incrementing byte (after_reading s (source s src)) src ∙ reading s (source s src)

two_valued : (op : TwoOp) (byte : Bool) (v : ℕ) (place : Operand) (s : State) (d : ℕ) → (two_values op byte v place s d).charge ≡ s.charge
two_valued op byte v place s d =
    let t : State = record s { flags = two_flags op byte s.flags v d } in
    elim (writes_destination op) as (λ c. (if c then with_value byte t place (two_result op byte s.flags.carry v d) else t).charge ≡ s.charge) [
      | true ↦ in_place byte t place (two_result op byte s.flags.carry v d)
      | false ↦ refl
    ]

pushing : (s : State) (v : ℕ) → (pushed s v).charge ≡ s.charge
pushing s v = at_address false (record s { reg = set_at s.reg 1 (pushed_at s) }) (pushed_at s) v

one_valued : (op : OneOp) (byte : Bool) (v : ℕ) (place : Operand) (s : State) → (one_done op byte v place s).charge ≡ s.charge
one_valued PUSH byte v place s = pushing s v
one_valued CALL byte v place s = pushing s (s.reg 0)
one_valued op byte v place s = in_place byte (record s { flags = one_flags op byte s.flags v }) place (one_result op byte s.flags.carry v)

pub done_charge : (input : List ℕ) (i : Instr) (s : State) → (done input i s).charge ≡ s.charge
done_charge input (Two op byte src dst) s =
    two_valued op byte (source_value input byte s (source s src)) (destination (after_source byte s src) dst) (after_source byte s src) _ ∙ sourced byte s src
done_charge input (One op byte src) s = one_valued op byte (source_value input byte s (source s src)) (source s src) (after_source byte s src) ∙ sourced byte s src
done_charge input (Jump on words) s =
    elim (is_taken on s.flags) as (λ c. (if c then gone_to s (jump_target (s.reg 0) words) else s).charge ≡ s.charge) [ true ↦ refl | false ↦ refl ]

-- ---- What an instruction costs is at most ten millions.

read_in_small : (b : Board) (r : Region) → read_cost_in b r ≤ 1000000
read_in_small b Sram = b.access.sram_read_range
read_in_small b Ports = b.access.port_read_range
read_in_small b Fram = b.access.fram_read_range
read_in_small b Code = b.access.fram_read_range
read_in_small b Empty = b.access.fram_read_range

write_in_small : (b : Board) (r : Region) → write_cost_in b r ≤ 1000000
write_in_small b Sram = b.access.sram_write_range
write_in_small b Ports = b.access.port_write_range
write_in_small b Fram = b.access.fram_write_range
write_in_small b Code = b.access.fram_write_range
write_in_small b Empty = b.access.fram_write_range

read_small : (b : Board) (place : Operand) → read_cost b place ≤ 1000000
read_small b (Constant v) = omega arith
read_small b (InRegister r) = omega arith
read_small b (InMemory a) = read_in_small b (region a)

write_small : (b : Board) (place : Operand) → write_cost b place ≤ 1000000
write_small b (Constant v) = omega arith
write_small b (InRegister r) = omega arith
write_small b (InMemory a) = write_in_small b (region a)

if_small : (c : Bool) (x n : ℕ) → x ≤ n → (if c then x else 0) ≤ n
if_small true x n h = h
if_small false x n h = omega arith

destination_small : (b : Board) (op : TwoOp) (place : Operand) → destination_cost b op place ≤ 2000000
destination_small b op place =
    let r = if_small (reads_destination op) (read_cost b place) 1000000 (read_small b place) in
    let w = if_small (writes_destination op) (write_cost b place) 1000000 (write_small b place) in
    omega (arith, r, w)

two_class_small : (b : Board) (op : TwoOp) → two_class b op ≤ 1000000
two_class_small b MOV = b.core.move_range.1
two_class_small b op = b.core.alu_range.1

one_class_small : (b : Board) (op : OneOp) → one_class b op ≤ 1000000
one_class_small b PUSH = b.core.push_range.1
one_class_small b CALL = b.core.call_range.1
one_class_small b op = b.core.one_range.1

source_short : (src : Src) → length (source_words src) ≤ 1
source_short (FromReg r) = omega arith
source_short (FromIndex r x) = omega arith
source_short (FromAbs a) = omega arith
source_short (At r) = omega arith
source_short (AtPlus r) = omega arith
source_short (Imm v) = omega arith
source_short (ShortConstant v) = omega arith

destination_short : (dst : Dst) → length (destination_words dst) ≤ 1
destination_short (ToReg r) = omega arith
destination_short (ToIndex r x) = omega arith
destination_short (ToAbs a) = omega arith

product_small : (f n : ℕ) → f ≤ 1000000 → n ≤ 3 → f * n ≤ 3000000
product_small f n h k = mul-le-mul h k

pub cost_small : (b : Board) (s : State) (i : Instr) → cost b s i ≤ 10000000
cost_small b s (Two op byte src dst) =
    let words = product_small b.access.fetch (length_of (Two op byte src dst)) b.access.fetch_range (omega (arith, source_short src, destination_short dst)) in
    omega (arith, two_class_small b op, words, read_small b (source s src), destination_small b op (destination s dst))
cost_small b s (One op byte src) =
    let words = product_small b.access.fetch (length_of (One op byte src)) b.access.fetch_range (omega (arith, source_short src)) in
    omega (arith, one_class_small b op, words, read_small b (source s src), write_small b (one_written op s (source s src)))
cost_small b s (Jump on words) = omega (arith, b.core.jump_range.1, b.access.fetch_range)

-- ---- One step

told_executed : (c : ℕ) (p : Phase) → is_executed (answer_by c p) ≡ true
told_executed c Off = refl
told_executed c Awake = refl
told_executed c Asleep = refl
told_executed c (Ended v) = refl
told_executed c (Trapped v) = refl
told_executed c (Faulted why) = refl

answered_executed : (c : ℕ) (o : Option ℕ) (p : Phase) → is_executed (answer_of c o p) ≡ true
answered_executed c None p = told_executed c p
answered_executed c (Some v) p = refl

-- what a step comes to, in numbers
pub record Spends (s : State) (t : State) (spent : ℕ) (did : Did) : Type 0 where
  pub charge : t.charge + spent ≡ s.charge
  pub small : spent ≤ 10000000
  pub none_taken : is_executed did ≡ false → t.taken ≡ s.taken

paid : (input : List ℕ) (i : Instr) (c : ℕ) (s : State) → c ≤ 10000000 → c ≤ s.charge → Spends s (executed input i c s).state c (executed input i c s).answer
paid input i c s small enough = record {
  charge = (let e = done_charge input i (begun c i s) in omega (arith, e, enough));
  small = small;
  none_taken = λ h. absurd (let no : true ≡ false = sym (answered_executed c (put_by input i (begun c i s)) (done input i (begun c i s)).phase) ∙ h in cc);
}

paid_or_not : (input : List ℕ) (i : Instr) (c : ℕ) (s : State) → c ≤ 10000000 → (short : Bool) → nat_lt s.charge c ≡ short
    → let o = if short then cut_off c s else executed input i c s in Spends s o.state o.spent o.answer
paid_or_not input i c s small true h = record { charge = omega arith; small = omega arith; none_taken = λ x. refl }
paid_or_not input i c s small false h = paid input i c s small (grind (arith, nat_tests, h))

by_next : (b : Board) (input : List ℕ) (s : State) (n : Next) → Spends s (stepped_by b input s n).state (stepped_by b input s n).spent (stepped_by b input s n).answer
by_next b input s (Faults why) = record { charge = omega arith; small = omega arith; none_taken = λ x. refl }
by_next b input s (Does i) = paid_or_not input i (cost b s i) s (cost_small b s i) (nat_lt s.charge (cost b s i)) refl

pub spends : (b : Board) (input : List ℕ) (s : State) → Spends s (stepped b input s).state (stepped b input s).spent (stepped b input s).answer
spends b input s = by_next b input s (next s)

-- ---- The same, of a state that a step left

pub charge_left : (b : Board) (input : List ℕ) (s t : State) → t ≡ (stepped b input s).state → t.charge + (stepped b input s).spent ≡ s.charge
charge_left b input s t e = ap (λ x. x.charge + (stepped b input s).spent) e ∙ (spends b input s).charge

pub spent_small : (b : Board) (input : List ℕ) (s : State) → (stepped b input s).spent ≤ 10000000
spent_small b input s = (spends b input s).small

pub taken_left : (b : Board) (input : List ℕ) (s t : State) (did : Did) → t ≡ (stepped b input s).state → did ≡ (stepped b input s).answer → is_executed did ≡ false → t.taken ≡ s.taken
taken_left b input s t did e told h = ap (λ x. x.taken) e ∙ (spends b input s).none_taken (ap is_executed (sym told) ∙ h)
