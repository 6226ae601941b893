use Rattle.std.proofs.Common.{sym, arith}
use Rattle.msp430_machine.proofs.Decoding.{found, none_found, err_is_no_ok}
use Rattle.cert_sweep.proofs.lookups.instruction_at.Goals as goal

pub returns-in-Ok : goal.returns-in-Ok
returns-in-Ok c = sym (found c.args.w c.args.x c.args.y c.in-Ok.instr _ c.in-Ok.ensures.spelt)

pub returns-in-Err : goal.returns-in-Err
returns-in-Err c = sym (none_found c.args.w c.args.x c.args.y (omega arith) (omega arith) (λ i n s. absurd (err_is_no_ok _ _ (c.in-Err.ensures.every i n s))))
