-- The definitions on numbers that are known from outside.
use Rattle.std.proofs.Common.{arith}
use Rattle.std.specs.Prelude.{◌≡◌, ℕ, ◌+◌, ◌-◌, true, false, refl, pos, negsuc, [], Some}
use Rattle.board_table.specs.declared.board.Board.{Board}
use Rattle.msp430_isa.specs.declared.instr.Src.TheVariants.{Reg as FromReg, Abs as FromAbs, Imm, Short}
use Rattle.msp430_isa.specs.declared.instr.Dst.TheVariants.{Reg as ToReg, Abs as ToAbs}
use Rattle.msp430_isa.specs.declared.instr.TwoOp.TheVariants.{Mov as MOV, Add as ADD, Cmp as CMP, Bis as BIS}
use Rattle.msp430_isa.specs.declared.instr.OneOp.TheVariants.{Rra as RRA}
use Rattle.msp430_isa.specs.declared.instr.Cond.TheVariants.{Jne as JNE}
use Rattle.msp430_isa.specs.declared.instr.Instr.TheVariants.{Two, Jump}
use Rattle.msp430_isa.specs.Results.{sum_flags, one_result, jump_target}
use Rattle.msp430_machine.specs.declared.answer.Why.TheVariants.{Odd, Port, ReadOnly, Fetch}
use Rattle.msp430_machine.specs.State.{State}
use Rattle.msp430_machine.specs.Memory.{word_at}
use Rattle.msp430_machine.specs.Access.{access_fault}
use Rattle.msp430_machine.specs.Cost.{cost}
use Rattle.msp430_machine.specs.Execution.{done}
use Rattle.msp430_machine.specs.Steps.{Faults, next}

abbrev pub ordinary : Board
ordinary = record {
  budget = 2000;
  core = record {
    move_ = 1;
    alu = 1;
    one = 1;
    push = 2;
    call = 3;
    jump = 2;
    move_range = omega arith;
    alu_range = omega arith;
    one_range = omega arith;
    push_range = omega arith;
    call_range = omega arith;
    jump_range = omega arith;
  };
  access = record {
    fetch = 2;
    sram_read = 1;
    sram_write = 1;
    fram_read = 2;
    fram_write = 3;
    port_read = 2;
    port_write = 2;
    fetch_range = omega arith;
    sram_read_range = omega arith;
    sram_write_range = omega arith;
    fram_read_range = omega arith;
    fram_write_range = omega arith;
    port_read_range = omega arith;
    port_write_range = omega arith;
  };
  budget_range = omega arith;
}

-- waking a sleeping program: CMP #1,&1800; JNE; MOV &1804,SP; MOV &1802,PC; MOV #0,&1800
wake_costs_33 : (s : State) → cost ordinary s (Two CMP false (Short 1) (ToAbs 0x1800)) + cost ordinary s (Jump JNE (pos 4)) + cost ordinary s (Two MOV false (FromAbs 0x1804) (ToReg 1)) + cost ordinary s (Two MOV false (FromAbs 0x1802) (ToReg 0)) + cost ordinary s (Two MOV false (Short 0) (ToAbs 0x1800)) ≡ 33
wake_costs_33 s = refl

-- putting it to sleep: MOV SP,&1804; MOV #r,&1802; MOV #1,&1800; BIS #16,SR
sleep_costs_31 : (s : State) (r : ℕ) → cost ordinary s (Two MOV false (FromReg 1) (ToAbs 0x1804)) + cost ordinary s (Two MOV false (Imm r) (ToAbs 0x1802)) + cost ordinary s (Two MOV false (Short 1) (ToAbs 0x1800)) + cost ordinary s (Two BIS false (Imm 16) (ToReg 2)) ≡ 31
sleep_costs_31 s r = refl

-- 0x7FFF + 1 overflows, 0xFFFF + 1 carries, and 3 - 5 borrows
overflow : sum_flags false 0x7FFF 1 false ≡ record { carry = false; zero_flag = false; negative = true; overflow = true }
overflow = refl

carry : sum_flags false 0xFFFF 1 false ≡ record { carry = true; zero_flag = true; negative = false; overflow = false }
carry = refl

borrow : sum_flags true 3 (255 - 5) true ≡ record { carry = false; zero_flag = false; negative = true; overflow = false }
borrow = refl

halved : one_result RRA false false 0x8004 ≡ 0xC002
halved = refl

-- a jump to itself
back : jump_target 0x8002 (negsuc 0) ≡ 0x8000
back = refl

-- the order of faults: a word at an odd port is odd, IN isn't read as a destination, code isn't written
odd_first : (s : State) → access_fault s (Two MOV false (FromAbs 0x0F03) (ToAbs 0x8001)) ≡ Some Odd
odd_first s = refl

in_is_a_source : (s : State) → access_fault s (Two CMP false (Short 1) (ToAbs 0x0F00)) ≡ Some Port
in_is_a_source s = refl

in_is_a_word : (s : State) → access_fault s (Two MOV true (FromAbs 0x0F00) (ToReg 15)) ≡ Some Port
in_is_a_word s = refl

code_is_read_only : (s : State) → access_fault s (Two ADD false (Short 1) (ToAbs 0x9000)) ≡ Some ReadOnly
code_is_read_only s = refl

-- a word behind the code's end can't be fetched
ends_behind : (s : State) → next (record s { reg = λ r. 0xFF7E; code = λ k. 0x403F }) ≡ Faults Fetch
ends_behind s = refl

-- a written word is read again, and the one beside it is as before
gate_written : (s : State) → word_at (done [] (Two MOV false (Short 1) (ToAbs 0x1800)) s) 0x1800 ≡ 1
gate_written s = refl

resume_kept : (s : State) → word_at (done [] (Two MOV false (Short 1) (ToAbs 0x1800)) s) 0x1802 ≡ word_at s 0x1802
resume_kept s = refl
