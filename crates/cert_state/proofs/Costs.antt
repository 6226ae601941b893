-- Accesses of one region cost the same.
use Rattle.std.proofs.Common.{◌≡◌, ap, refl}
use Rattle.board_table.specs.declared.board.Board.{Board}
use Rattle.msp430_isa.specs.declared.instr.Instr.{Instr}
use Rattle.msp430_isa.specs.declared.instr.Instr.TheVariants.{Two, One, Jump}
use Rattle.msp430_machine.specs.Operands.{Operand, Constant, InRegister, InMemory}
use Rattle.msp430_machine.specs.Cost.{read_cost_in, write_cost_in, read_cost, write_cost, cost_by}
use Rattle.cert_state.specs.Costs.{IsAsCostly}

read_alike : (b : Board) (p q : Operand) → IsAsCostly p q → read_cost b p ≡ read_cost b q
read_alike b (InMemory m) (InMemory n) h = ap (read_cost_in b) h
read_alike b (Constant v) (Constant w) h = refl
read_alike b (InRegister r) (InRegister s) h = refl
read_alike b (InMemory m) (Constant w) h = absurd h
read_alike b (InMemory m) (InRegister s) h = absurd h
read_alike b (Constant v) (InMemory n) h = absurd h
read_alike b (Constant v) (InRegister s) h = absurd h
read_alike b (InRegister r) (InMemory n) h = absurd h
read_alike b (InRegister r) (Constant w) h = absurd h

write_alike : (b : Board) (p q : Operand) → IsAsCostly p q → write_cost b p ≡ write_cost b q
write_alike b (InMemory m) (InMemory n) h = ap (write_cost_in b) h
write_alike b (Constant v) (Constant w) h = refl
write_alike b (InRegister r) (InRegister s) h = refl
write_alike b (InMemory m) (Constant w) h = absurd h
write_alike b (InMemory m) (InRegister s) h = absurd h
write_alike b (Constant v) (InMemory n) h = absurd h
write_alike b (Constant v) (InRegister s) h = absurd h
write_alike b (InRegister r) (InMemory n) h = absurd h
write_alike b (InRegister r) (Constant w) h = absurd h

pub cost_alike : (b : Board) (i : Instr) (from to read changed : Operand) → IsAsCostly from read → IsAsCostly to changed → cost_by b i from to ≡ cost_by b i read changed
cost_alike b (Two op byte src dst) from to read changed g h =
    let reading = read_alike b from read g in
    let again = read_alike b to changed h in
    let writing = write_alike b to changed h in
    cc
cost_alike b (One op byte src) from to read changed g h =
    let reading = read_alike b from read g in
    let writing = write_alike b to changed h in
    cc
cost_alike b (Jump on words) from to read changed g h = refl
