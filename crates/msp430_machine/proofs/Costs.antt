-- What an instruction costs that makes no address of a register.
use Rattle.std.proofs.Common.{◌≡◌, true, false, refl, sym, ap, ◌∙◌}
use Rattle.std.proofs.lemmas.Bool.{and_parts}
use Rattle.board_table.specs.declared.board.Board.{Board}
use Rattle.msp430_isa.specs.declared.instr.OneOp.{OneOp}
use Rattle.msp430_isa.specs.declared.instr.OneOp.TheVariants.{Push as PUSH, Call as CALL}
use Rattle.msp430_isa.specs.declared.instr.Src.{Src}
use Rattle.msp430_isa.specs.declared.instr.Src.TheVariants.{Reg as FromReg, Index as FromIndex, Abs as FromAbs, At, AtPlus, Imm, Short}
use Rattle.msp430_isa.specs.declared.instr.Dst.{Dst}
use Rattle.msp430_isa.specs.declared.instr.Dst.TheVariants.{Reg as ToReg, Index as ToIndex, Abs as ToAbs}
use Rattle.msp430_isa.specs.declared.instr.Instr.{Instr}
use Rattle.msp430_isa.specs.declared.instr.Instr.TheVariants.{Two, One, Jump}
use Rattle.msp430_machine.specs.State.{State}
use Rattle.msp430_machine.specs.Operands.{Operand, source, destination}
use Rattle.msp430_machine.specs.Cost.{one_written, from_of, to_of, cost_by, cost, any_state, instruction_cost, source_is_fixed, destination_is_fixed, leaves_stack, is_fixed}

fixed_source : (s : State) (src : Src) → source_is_fixed src ≡ true → source s src ≡ source any_state src
fixed_source s (FromReg r) h = refl
fixed_source s (FromAbs a) h = refl
fixed_source s (Imm v) h = refl
fixed_source s (Short v) h = refl
fixed_source s (FromIndex r x) h = absurd (let no : false ≡ true = h in cc)
fixed_source s (At r) h = absurd (let no : false ≡ true = h in cc)
fixed_source s (AtPlus r) h = absurd (let no : false ≡ true = h in cc)

fixed_destination : (s : State) (dst : Dst) → destination_is_fixed dst ≡ true → destination s dst ≡ destination any_state dst
fixed_destination s (ToReg r) h = refl
fixed_destination s (ToAbs a) h = refl
fixed_destination s (ToIndex r x) h = absurd (let no : false ≡ true = h in cc)

written_alike : (s : State) (op : OneOp) (v : Operand) → leaves_stack op ≡ true → one_written op s v ≡ v
written_alike s PUSH v h = absurd (let no : false ≡ true = h in cc)
written_alike s CALL v h = absurd (let no : false ≡ true = h in cc)
written_alike s op v h = refl

pub fixed_from : (s : State) (i : Instr) → is_fixed i ≡ true → from_of s i ≡ from_of any_state i
fixed_from s (Two op byte src dst) h = fixed_source s src (and_parts (source_is_fixed src) (destination_is_fixed dst) h).0
fixed_from s (One op byte src) h = fixed_source s src (and_parts (leaves_stack op) (source_is_fixed src) h).1
fixed_from s (Jump on words) h = refl

pub fixed_to : (s : State) (i : Instr) → is_fixed i ≡ true → to_of s i ≡ to_of any_state i
fixed_to s (Two op byte src dst) h = fixed_destination s dst (and_parts (source_is_fixed src) (destination_is_fixed dst) h).1
fixed_to s (One op byte src) h =
    let p = and_parts (leaves_stack op) (source_is_fixed src) h in
    written_alike s op (source s src) p.0 ∙ fixed_source s src p.1 ∙ sym (written_alike any_state op (source any_state src) p.0)
fixed_to s (Jump on words) h = refl

-- it is the same in each state
pub fixed_cost : (b : Board) (s : State) (i : Instr) → is_fixed i ≡ true → cost b s i ≡ instruction_cost b i
fixed_cost b s i h = ap (λ from. cost_by b i from (to_of s i)) (fixed_from s i h) ∙ ap (λ to. cost_by b i (from_of any_state i) to) (fixed_to s i h)
