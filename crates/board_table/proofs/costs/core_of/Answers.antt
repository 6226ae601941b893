use Rattle.std.proofs.Common.{refl, option_map}
use Rattle.toml.specs.View.{view}
use Rattle.board_table.specs.Reading.{core_numbers}
use Rattle.board_table.specs.Steps.{core_readings}
use Rattle.board_table.proofs.Chain.{failed, fails, next}
use Rattle.board_table.proofs.costs.core_of.Goals as goal

pub returns-in_err-move_ : goal.returns-in_err-move_
returns-in_err-move_ c = failed core_numbers _ (core_readings (option_map (λ v. view v.now) c.args.table)) _ c.from_residual.ensures.1 (fails _ _ _ c.in_err-move_.ensures.value)

pub returns-in_err-alu : goal.returns-in_err-alu
returns-in_err-alu c = failed core_numbers _ (core_readings (option_map (λ v. view v.now) c.args.table)) _ c.from_residual-in_err-alu.ensures.1 (next _ _ _ _ c.in_ok-move_.ensures.value (fails _ _ _ c.in_err-alu.ensures.value))

pub returns-in_err-one : goal.returns-in_err-one
returns-in_err-one c = failed core_numbers _ (core_readings (option_map (λ v. view v.now) c.args.table)) _ c.from_residual-in_err-one.ensures.1 (next _ _ _ _ c.in_ok-move_.ensures.value (next _ _ _ _ c.in_ok-alu.ensures.value (fails _ _ _ c.in_err-one.ensures.value)))

pub returns-in_err-push : goal.returns-in_err-push
returns-in_err-push c = failed core_numbers _ (core_readings (option_map (λ v. view v.now) c.args.table)) _ c.from_residual-in_err-push.ensures.1 (next _ _ _ _ c.in_ok-move_.ensures.value (next _ _ _ _ c.in_ok-alu.ensures.value (next _ _ _ _ c.in_ok-one.ensures.value (fails _ _ _ c.in_err-push.ensures.value))))

pub returns-in_err-call : goal.returns-in_err-call
returns-in_err-call c = failed core_numbers _ (core_readings (option_map (λ v. view v.now) c.args.table)) _ c.from_residual-in_err-call.ensures.1 (next _ _ _ _ c.in_ok-move_.ensures.value (next _ _ _ _ c.in_ok-alu.ensures.value (next _ _ _ _ c.in_ok-one.ensures.value (next _ _ _ _ c.in_ok-push.ensures.value (fails _ _ _ c.in_err-call.ensures.value)))))

pub returns-in_err-jump : goal.returns-in_err-jump
returns-in_err-jump c = failed core_numbers _ (core_readings (option_map (λ v. view v.now) c.args.table)) _ c.from_residual-in_err-jump.ensures.1 (next _ _ _ _ c.in_ok-move_.ensures.value (next _ _ _ _ c.in_ok-alu.ensures.value (next _ _ _ _ c.in_ok-one.ensures.value (next _ _ _ _ c.in_ok-push.ensures.value (next _ _ _ _ c.in_ok-call.ensures.value (fails _ _ _ c.in_err-jump.ensures.value))))))

pub returns : goal.returns
returns c = rw (c.in_ok-move_.ensures.value, c.in_ok-alu.ensures.value, c.in_ok-one.ensures.value, c.in_ok-push.ensures.value, c.in_ok-call.ensures.value, c.in_ok-jump.ensures.value) refl
