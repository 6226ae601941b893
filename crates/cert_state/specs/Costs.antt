-- Operands whose accesses cost the same.
use Rattle.std.specs.Prelude.{◌≡◌}
use Rattle.msp430_machine.specs.Addresses.{region}
use Rattle.msp430_machine.specs.Operands.{Operand, Constant, InRegister, InMemory}

-- no accesses of memory, or accesses of one region
abbrev pub IsAsCostly : Operand → Operand → Type 0
IsAsCostly (InMemory a) (InMemory b) = region a ≡ region b
IsAsCostly (Constant v) (Constant w) = Unit {0}
IsAsCostly (InRegister r) (InRegister q) = Unit {0}
IsAsCostly p q = ⊥
