use Rattle.std.proofs.Common.{refl, option_map}
use Rattle.toml.specs.View.{view}
use Rattle.board_table.specs.Reading.{access_numbers}
use Rattle.board_table.specs.Steps.{access_readings}
use Rattle.board_table.proofs.Chain.{failed, fails, next}
use Rattle.board_table.proofs.costs.access_of.Goals as goal

pub returns-in_err-fetch : goal.returns-in_err-fetch
returns-in_err-fetch c = failed access_numbers _ (access_readings (option_map (λ v. view v.now) c.args.table)) _ c.from_residual.ensures.1 (fails _ _ _ c.in_err-fetch.ensures.value)

pub returns-in_err-sram_read : goal.returns-in_err-sram_read
returns-in_err-sram_read c = failed access_numbers _ (access_readings (option_map (λ v. view v.now) c.args.table)) _ c.from_residual-in_err-sram_read.ensures.1 (next _ _ _ _ c.in_ok-fetch.ensures.value (fails _ _ _ c.in_err-sram_read.ensures.value))

pub returns-in_err-sram_write : goal.returns-in_err-sram_write
returns-in_err-sram_write c = failed access_numbers _ (access_readings (option_map (λ v. view v.now) c.args.table)) _ c.from_residual-in_err-sram_write.ensures.1 (next _ _ _ _ c.in_ok-fetch.ensures.value (next _ _ _ _ c.in_ok-sram_read.ensures.value (fails _ _ _ c.in_err-sram_write.ensures.value)))

pub returns-in_err-fram_read : goal.returns-in_err-fram_read
returns-in_err-fram_read c = failed access_numbers _ (access_readings (option_map (λ v. view v.now) c.args.table)) _ c.from_residual-in_err-fram_read.ensures.1 (next _ _ _ _ c.in_ok-fetch.ensures.value (next _ _ _ _ c.in_ok-sram_read.ensures.value (next _ _ _ _ c.in_ok-sram_write.ensures.value (fails _ _ _ c.in_err-fram_read.ensures.value))))

pub returns-in_err-fram_write : goal.returns-in_err-fram_write
returns-in_err-fram_write c = failed access_numbers _ (access_readings (option_map (λ v. view v.now) c.args.table)) _ c.from_residual-in_err-fram_write.ensures.1 (next _ _ _ _ c.in_ok-fetch.ensures.value (next _ _ _ _ c.in_ok-sram_read.ensures.value (next _ _ _ _ c.in_ok-sram_write.ensures.value (next _ _ _ _ c.in_ok-fram_read.ensures.value (fails _ _ _ c.in_err-fram_write.ensures.value)))))

pub returns-in_err-port_read : goal.returns-in_err-port_read
returns-in_err-port_read c = failed access_numbers _ (access_readings (option_map (λ v. view v.now) c.args.table)) _ c.from_residual-in_err-port_read.ensures.1 (next _ _ _ _ c.in_ok-fetch.ensures.value (next _ _ _ _ c.in_ok-sram_read.ensures.value (next _ _ _ _ c.in_ok-sram_write.ensures.value (next _ _ _ _ c.in_ok-fram_read.ensures.value (next _ _ _ _ c.in_ok-fram_write.ensures.value (fails _ _ _ c.in_err-port_read.ensures.value))))))

pub returns-in_err-port_write : goal.returns-in_err-port_write
returns-in_err-port_write c = failed access_numbers _ (access_readings (option_map (λ v. view v.now) c.args.table)) _ c.from_residual-in_err-port_write.ensures.1 (next _ _ _ _ c.in_ok-fetch.ensures.value (next _ _ _ _ c.in_ok-sram_read.ensures.value (next _ _ _ _ c.in_ok-sram_write.ensures.value (next _ _ _ _ c.in_ok-fram_read.ensures.value (next _ _ _ _ c.in_ok-fram_write.ensures.value (next _ _ _ _ c.in_ok-port_read.ensures.value (fails _ _ _ c.in_err-port_write.ensures.value)))))))

pub returns : goal.returns
returns c = rw (c.in_ok-fetch.ensures.value, c.in_ok-sram_read.ensures.value, c.in_ok-sram_write.ensures.value, c.in_ok-fram_read.ensures.value, c.in_ok-fram_write.ensures.value, c.in_ok-port_read.ensures.value, c.in_ok-port_write.ensures.value) refl
