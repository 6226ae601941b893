use Rattle.std.proofs.Common.{sym, arith}
use Rattle.msp430_machine.proofs.Decoding.{found, none_found, can_execute, err_is_no_ok}
use Rattle.msp430_machine.proofs.step.instruction_at.Goals as goal

pub returns-in-Ok-clause-value : goal.returns-in-Ok-clause-value
returns-in-Ok-clause-value c = sym (found c.args.w c.args.x c.args.y c.in-Ok.instr _ c.in-Ok.ensures.spelt)

pub returns-in-Ok-clause-can : goal.returns-in-Ok-clause-can
returns-in-Ok-clause-can c = can_execute _ _ _ c.in-Ok.ensures.spelt

pub returns-in-Err-clause-value : goal.returns-in-Err-clause-value
returns-in-Err-clause-value c = sym (none_found c.args.w c.args.x c.args.y (omega arith) (omega arith) (λ i n s. absurd (err_is_no_ok _ _ (c.in-Err.ensures.every i n s))))
