-- The instructions of boot and of a head, one by one, and what the jump of boot does.
use Rattle.std.proofs.Common.{◌≡◌, ℕ, ◌<◌, true, false, List, ap, arith, pos}
use Rattle.std.specs.Prelude.{nat_lt, if◌then◌else◌, not, ◌&&◌}
use Rattle.std.proofs.lemmas.Bool.Decides.{nat_tests}
use Rattle.msp430_isa.specs.declared.instr.Src.TheVariants.{Reg as FromReg, Abs as FromAbs, Imm, Short}
use Rattle.msp430_isa.specs.declared.instr.Dst.TheVariants.{Reg as ToReg, Abs as ToAbs}
use Rattle.msp430_isa.specs.declared.instr.TwoOp.TheVariants.{Cmp as CMP, Bis as BIS}
use Rattle.msp430_isa.specs.declared.instr.Cond.TheVariants.{Jne as JNE}
use Rattle.msp430_isa.specs.declared.instr.Instr.{Instr}
use Rattle.msp430_isa.specs.declared.instr.Instr.TheVariants.{Two, Jump}
use Rattle.msp430_isa.specs.Profile.{in_profile}
use Rattle.msp430_isa.specs.Results.{jump_target}
use Rattle.msp430_machine.specs.State.{State}
use Rattle.msp430_machine.specs.Execution.{done, gone_to}
use Rattle.resumed_runs.specs.Code.{move}

-- ---- Boot

abbrev pub tests : Instr
tests = Two CMP false (Short 1) (ToAbs 0x1800)

abbrev pub jumps : Instr
jumps = Jump JNE (pos 4)

abbrev pub stacks : Instr
stacks = move (FromAbs 0x1804) (ToReg 1)

abbrev pub resumes : Instr
resumes = move (FromAbs 0x1802) (ToReg 0)

abbrev pub traps : Instr
traps = move (Short 4) (ToAbs 0x0F06)

-- ---- A head

abbrev pub keeps_stack : Instr
keeps_stack = move (FromReg 1) (ToAbs 0x1804)

abbrev pub marks : ℕ → Instr
marks r = move (Imm r) (ToAbs 0x1802)

abbrev pub opens : Instr
opens = move (Short 1) (ToAbs 0x1800)

abbrev pub sleeps : Instr
sleeps = Two BIS false (Imm 16) (ToReg 2)

abbrev pub closes : Instr
closes = move (Short 0) (ToAbs 0x1800)

pub marks_fits : (r : ℕ) → r < 65536 → in_profile (marks r) ≡ true
marks_fits r low = let e : nat_lt r 65536 ≡ true = grind (arith, nat_tests) in ap (λ c. c && true) e

-- ---- The jump

pub passes : (input : List ℕ) (s : State) → s.flags.zero_flag ≡ true → done input jumps s ≡ s
passes input s zero = ap (λ z. if not z then gone_to s (jump_target (s.reg 0) (pos 4)) else s) zero

pub goes_on : (input : List ℕ) (s : State) → s.flags.zero_flag ≡ false → done input jumps s ≡ gone_to s (jump_target (s.reg 0) (pos 4))
goes_on input s zero = ap (λ z. if not z then gone_to s (jump_target (s.reg 0) (pos 4)) else s) zero
