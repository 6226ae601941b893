-- What the answer of a step tells of the machine's phase.
use Rattle.std.proofs.Common.{◌≡◌, ℕ, Bool, true, false, List, Option, Some, None, refl, sym, ap, ◌∙◌, subst}
use Rattle.std.specs.Prelude.{◌/◌, ◌%◌, ◌==◌, nat_lt, if◌then◌else◌}
use Rattle.board_table.specs.declared.board.Board.{Board}
use Rattle.msp430_isa.specs.declared.instr.TwoOp.{TwoOp}
use Rattle.msp430_isa.specs.declared.instr.TwoOp.TheVariants.{Mov as MOV}
use Rattle.msp430_isa.specs.declared.instr.OneOp.{OneOp}
use Rattle.msp430_isa.specs.declared.instr.OneOp.TheVariants.{Push as PUSH, Call as CALL}
use Rattle.msp430_isa.specs.declared.instr.Src.{Src}
use Rattle.msp430_isa.specs.declared.instr.Src.TheVariants.{Reg as FromReg, Index as FromIndex, Abs as FromAbs, At, AtPlus, Imm, Short as ShortConstant}
use Rattle.msp430_isa.specs.declared.instr.Instr.{Instr}
use Rattle.msp430_isa.specs.declared.instr.Instr.TheVariants.{Two, One, Jump}
use Rattle.msp430_isa.specs.Results.{writes_destination, two_flags, two_result, one_flags, one_result, is_taken, jump_target}
use Rattle.msp430_machine.specs.declared.answer.Did.{Did}
use Rattle.msp430_machine.specs.declared.answer.Did.TheVariants.{Ran, Out, Slept, Ended as DidEnd, Trapped as DidTrap, Short, Fault}
use Rattle.msp430_machine.specs.declared.addresses.Region.{Region}
use Rattle.msp430_machine.specs.declared.addresses.Region.TheVariants.{Ports, Sram, Fram, Code, Empty}
use Rattle.msp430_machine.specs.Addresses.{region, out_port, end_port}
use Rattle.msp430_machine.specs.State.{Phase, Off, Awake, Asleep, Ended, Trapped, Faulted, State, set_at, with_register, with_status, phase_by_status}
use Rattle.msp430_machine.specs.Memory.{sent_to, written_in, written, word_at, with_half, after_read_in, put_in, put_at}
use Rattle.msp430_machine.specs.Operands.{Operand, Constant, InRegister, InMemory, source, destination, incremented, pushed_at}
use Rattle.msp430_machine.specs.Execution.{source_value, after_reading, after_source, destination_value, with_value, two_values, two_done, pushed, gone_to, one_done, done, put_to, put_by_two, put_by}
use Rattle.msp430_machine.specs.Cost.{cost}
use Rattle.msp430_machine.specs.Steps.{Next, Faults, Does, next, answer_by, answer_of, begun, cut_off, executed, stepped_by, stepped}
use Rattle.supplied_run.specs.Rows.{IsRunning}

-- awake or asleep
abbrev pub IsUp : Phase → Type 0
IsUp Off = ⊥
IsUp Awake = Unit {0}
IsUp Asleep = Unit {0}
IsUp (Ended w) = ⊥
IsUp (Trapped n) = ⊥
IsUp (Faulted why) = ⊥

-- what an instruction may leave
abbrev pub IsLeft : Phase → Type 0
IsLeft Off = ⊥
IsLeft Awake = Unit {0}
IsLeft Asleep = Unit {0}
IsLeft (Ended w) = Unit {0}
IsLeft (Trapped n) = Unit {0}
IsLeft (Faulted why) = ⊥

up_left : (p : Phase) → IsUp p → IsLeft p
up_left Awake up = tt
up_left Asleep up = tt
up_left Off up = up
up_left (Ended w) up = tt
up_left (Trapped n) up = tt
up_left (Faulted why) up = up

up_runs : (p : Phase) → IsUp p → IsRunning p
up_runs Awake up = tt
up_runs Asleep up = tt
up_runs Off up = tt
up_runs (Ended w) up = up
up_runs (Trapped n) up = up
up_runs (Faulted why) up = up

by_status : (p : Phase) (v : ℕ) → IsUp p → IsUp (phase_by_status p v)
by_status p v up = pick (v / 16 % 2 == 1)
  where
    pick : (c : Bool) → IsUp (if c then Asleep else p)
    pick true = tt
    pick false = up

in_register : (s : State) (r v : ℕ) → IsUp s.phase → IsUp (with_register s r v).phase
in_register s r v up =
    elim (r == 2) as (λ c. IsUp (if c then with_status s v else if r == 3 then s else record s { reg = set_at s.reg r v }).phase) [
      | true ↦ by_status s.phase v up
      | false ↦ elim (r == 3) as (λ c. IsUp (if c then s else record s { reg = set_at s.reg r v }).phase) [ true ↦ up | false ↦ up ]
    ]

sent : (s : State) (a v : ℕ) → IsUp s.phase → IsLeft (sent_to s a v).phase
sent s a v up =
    elim (a == out_port) as (λ c. IsLeft (if c then s else if a == end_port then record s { phase = Ended v } else record s { phase = Trapped v }).phase) [
      | true ↦ up_left s.phase up
      | false ↦ elim (a == end_port) as (λ c. IsLeft (if c then record s { phase = Ended v } else record s { phase = Trapped v }).phase) [ true ↦ tt | false ↦ tt ]
    ]

in_region : (r : Region) (s : State) (a w : ℕ) → IsUp s.phase → IsLeft (written_in r s a w).phase
in_region Sram s a w up = up_left s.phase up
in_region Fram s a w up = up_left s.phase up
in_region Code s a w up = up_left s.phase up
in_region Ports s a w up = sent s a w up
in_region Empty s a w up = up_left s.phase up

at_address : (byte : Bool) (s : State) (a v : ℕ) → IsUp s.phase → IsLeft (written byte s a v).phase
at_address true s a v up = in_region (region a) s a (with_half a (word_at s a) v) up
at_address false s a v up = in_region (region a) s a v up

in_place : (byte : Bool) (s : State) (place : Operand) (v : ℕ) → IsUp s.phase → IsLeft (with_value byte s place v).phase
in_place byte s (Constant c) v up = up_left s.phase up
in_place byte s (InRegister r) v up = up_left _ (in_register s r v up)
in_place byte s (InMemory a) v up = at_address byte s a v up

read_from : (r : Region) (s : State) → IsUp s.phase → IsUp (after_read_in r s).phase
read_from Ports s up = up
read_from Sram s up = up
read_from Fram s up = up
read_from Code s up = up
read_from Empty s up = up

reading : (s : State) (place : Operand) → IsUp s.phase → IsUp (after_reading s place).phase
reading s (Constant v) up = up
reading s (InRegister r) up = up
reading s (InMemory a) up = read_from (region a) s up

incrementing : (byte : Bool) (s : State) (src : Src) → IsUp s.phase → IsUp (incremented byte s src).phase
incrementing byte s (AtPlus r) up = in_register s r _ up
incrementing byte s (FromReg r) up = up
incrementing byte s (FromIndex r x) up = up
incrementing byte s (FromAbs a) up = up
incrementing byte s (At r) up = up
incrementing byte s (Imm v) up = up
incrementing byte s (ShortConstant v) up = up

sourced : (byte : Bool) (s : State) (src : Src) → IsUp s.phase → IsUp (after_source byte s src).phase
sourced byte s src up = incrementing byte (after_reading s (source s src)) src (reading s (source s src) up)

two_valued : (op : TwoOp) (byte : Bool) (v : ℕ) (place : Operand) (s : State) (d : ℕ) → IsUp s.phase → IsLeft (two_values op byte v place s d).phase
two_valued op byte v place s d up =
    let t : State = record s { flags = two_flags op byte s.flags v d } in
    elim (writes_destination op) as (λ c. IsLeft (if c then with_value byte t place (two_result op byte s.flags.carry v d) else t).phase) [
      | true ↦ in_place byte t place (two_result op byte s.flags.carry v d) up
      | false ↦ up_left s.phase up
    ]

pushing : (s : State) (v : ℕ) → IsUp s.phase → IsLeft (pushed s v).phase
pushing s v up = at_address false (record s { reg = set_at s.reg 1 (pushed_at s) }) (pushed_at s) v up

one_valued : (op : OneOp) (byte : Bool) (v : ℕ) (place : Operand) (s : State) → IsUp s.phase → IsLeft (one_done op byte v place s).phase
one_valued PUSH byte v place s up = pushing s v up
one_valued CALL byte v place s up = pushing s (s.reg 0) up
one_valued op byte v place s up = in_place byte (record s { flags = one_flags op byte s.flags v }) place (one_result op byte s.flags.carry v) up

done_left : (input : List ℕ) (i : Instr) (s : State) → IsUp s.phase → IsLeft (done input i s).phase
done_left input (Two op byte src dst) s up =
    two_valued op byte (source_value input byte s (source s src)) (destination (after_source byte s src) dst) (after_source byte s src) _ (sourced byte s src up)
done_left input (One op byte src) s up =
    one_valued op byte (source_value input byte s (source s src)) (source s src) (after_source byte s src) (sourced byte s src up)
done_left input (Jump on words) s up =
    elim (is_taken on s.flags) as (λ c. IsLeft (if c then gone_to s (jump_target (s.reg 0) words) else s).phase) [ true ↦ up_left s.phase up | false ↦ up_left s.phase up ]

-- ---- Where a word is put, the machine goes on.

abbrev IsUpIf : Option ℕ → Phase → Type 0
IsUpIf None p = Unit {0}
IsUpIf (Some v) p = IsUp p

sent_out : (c : Bool) (s : State) (a v w : ℕ) → IsUp s.phase
    → IsUpIf (if c then Some v else None) (if c then s else if a == end_port then record s { phase = Ended w } else record s { phase = Trapped w }).phase
sent_out true s a v w up = up
sent_out false s a v w up = tt

region_out : (r : Region) (s : State) (a v w : ℕ) → IsUp s.phase → IsUpIf (put_in r a v) (written_in r s a w).phase
region_out Ports s a v w up = sent_out (a == out_port) s a v w up
region_out Sram s a v w up = tt
region_out Fram s a v w up = tt
region_out Code s a v w up = tt
region_out Empty s a v w up = tt

address_out : (byte : Bool) (s : State) (a v w : ℕ) → IsUp s.phase → IsUpIf (put_at a v) (written byte s a w).phase
address_out true s a v w up = region_out (region a) s a v (with_half a (word_at s a) w) up
address_out false s a v w up = region_out (region a) s a v w up

place_out : (byte : Bool) (s : State) (place : Operand) (v w : ℕ) → IsUp s.phase → IsUpIf (put_to place v) (with_value byte s place w).phase
place_out byte s (Constant c) v w up = tt
place_out byte s (InRegister r) v w up = tt
place_out byte s (InMemory a) v w up = address_out byte s a v w up

two_out : (op : TwoOp) (byte : Bool) (v : ℕ) (place : Operand) (s : State) → IsUp s.phase → IsUpIf (put_by_two op v place) (two_done op byte v place s).phase
two_out MOV byte v place s up =
    let d : ℕ = destination_value byte s place in
    place_out byte (record s { flags = two_flags MOV byte s.flags v d }) place v (two_result MOV byte s.flags.carry v d) up
two_out op byte v place s up = tt

done_out : (input : List ℕ) (i : Instr) (s : State) → IsUp s.phase → IsUpIf (put_by input i s) (done input i s).phase
done_out input (Two op byte src dst) s up =
    two_out op byte (source_value input byte s (source s src)) (destination (after_source byte s src) dst) (after_source byte s src) (sourced byte s src up)
done_out input (One op byte src) s up = tt
done_out input (Jump on words) s up = tt

-- ---- One step

-- what an answer tells of the state that the step left
abbrev pub Tells : Did → State → Type 0
Tells (Ran need) t = IsRunning t.phase
Tells (Out v) t = IsRunning t.phase
Tells Slept t = t.phase ≡ Asleep
Tells (DidEnd v) t = t.phase ≡ Ended v
Tells (DidTrap v) t = t.phase ≡ Trapped v
Tells (Short need charge) t = t.phase ≡ Off
Tells (Fault pc why) t = (t.phase ≡ Faulted why) × (pc ≡ t.reg 0)

answer_tells : (need : ℕ) (o : Option ℕ) (p : Phase) (t : State) → t.phase ≡ p → IsLeft p → IsUpIf o p → Tells (answer_of need o p) t
answer_tells need (Some v) p t is left up = subst (λ q. IsRunning q) (sym is) (up_runs p up)
answer_tells need None Off t is left up = absurd left
answer_tells need None Awake t is left up = subst (λ q. IsRunning q) (sym is) tt
answer_tells need None Asleep t is left up = is
answer_tells need None (Ended v) t is left up = is
answer_tells need None (Trapped v) t is left up = is
answer_tells need None (Faulted why) t is left up = absurd left

paid_tells : (input : List ℕ) (i : Instr) (need : ℕ) (s : State) (short : Bool) → IsUp s.phase
    → let o = if short then cut_off need s else executed input i need s in Tells o.answer o.state
paid_tells input i need s true up = refl
paid_tells input i need s false up =
    answer_tells need (put_by input i (begun need i s)) (done input i (begun need i s)).phase (done input i (begun need i s)) refl
    (done_left input i (begun need i s) up) (done_out input i (begun need i s) up)

next_tells : (b : Board) (input : List ℕ) (s : State) (n : Next) → IsUp s.phase → Tells (stepped_by b input s n).answer (stepped_by b input s n).state
next_tells b input s (Faults why) up = (refl, refl)
next_tells b input s (Does i) up = paid_tells input i (cost b s i) s (nat_lt s.charge (cost b s i)) up

pub step_tells : (b : Board) (input : List ℕ) (s : State) → s.phase ≡ Awake → Tells (stepped b input s).answer (stepped b input s).state
step_tells b input s awake = next_tells b input s (next s) (subst (λ p. IsUp p) (sym awake) tt)
