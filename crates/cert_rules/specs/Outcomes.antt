-- How the code goes on behind an instruction.
use Rattle.std.specs.Prelude.{ℕ, ◌+◌, ◌-◌, ◌*◌, ◌==◌, Bool, true, false, not, ◌&&◌, ◌||◌, Option, Some, None, is_none, ℤ, pos, negsuc, if◌then◌else◌}
use Rattle.board_table.specs.declared.board.Board.{Board}
use Rattle.certificate.specs.Rows.{Flat}
use Rattle.msp430_isa.specs.declared.instr.TwoOp.{TwoOp}
use Rattle.msp430_isa.specs.declared.instr.Cond.{Cond}
use Rattle.msp430_isa.specs.declared.instr.Instr.{Instr}
use Rattle.msp430_isa.specs.declared.instr.Instr.TheVariants.{Two, One, Jump}
use Rattle.msp430_isa.specs.Results.{writes_destination}
use Rattle.msp430_machine.specs.Addresses.{end_port, trap_port}
use Rattle.cert_rules.specs.Slots.{first_in}
use Rattle.cert_rules.specs.Known.{Known, with_cost}
use Rattle.cert_rules.specs.Places.{Place, Number, InReg, InReach, destination_place, cost_of}
use Rattle.cert_rules.specs.Forms.{Kind, Computes, Branches, Leaps, Calls, Returns}
use Rattle.cert_rules.specs.Effects.{computed, on_edge, is_always, called}
use Rattle.cert_rules.specs.Tables.{function_at}
use Rattle.cert_rules.specs.Sheet.{Sheet}
use Rattle.cert_rules.specs.Calls.{flat_of}

-- It falls on, or jumps to a target, or both, each with what is known there; it ends the program; it returns; or it calls
-- a function that begins with a head, and goes on at the head behind the call.
pub data Outcome : Type 0 where
  Goes : Option Known → Option Known → ℕ → Outcome
  Ends : Known → Outcome
  Leaves : Known → Outcome
  Enters : Known → Outcome

abbrev pub falls_only : Known → Outcome
falls_only κ = Goes (Some κ) None 0

-- each address that may be written is END or TRAP
abbrev pub is_end : ℕ → Bool
is_end a = a == end_port || a == trap_port

abbrev pub always_ends : Place → Bool
always_ends (Number v) = false
always_ends (InReg r) = false
always_ends (InReach p) = is_none (first_in (λ a. not (is_end a)) p.least p.greatest)

abbrev pub may_end : Bool → Place → Known → Outcome
may_end writes dst κ = if writes && always_ends dst then Ends κ else falls_only κ

abbrev pub outcome_of_two : TwoOp → Place → Known → Outcome
outcome_of_two op dst κ = may_end (writes_destination op) dst κ

abbrev pub computed_outcome : Board → Known → Instr → Outcome
computed_outcome b κ (Two op byte src dst) = outcome_of_two op (destination_place κ dst) (computed b (Two op byte src dst) κ)
computed_outcome b κ (One op byte src) = falls_only (computed b (One op byte src) κ)
computed_outcome b κ (Jump on words) = falls_only κ

-- where a jump goes, without wrapping
abbrev pub target_of : ℕ → ℤ → ℕ
target_of next (pos n) = next + 2 * n
target_of next (negsuc n) = next - 2 * (n + 1)

abbrev pub jumps_to : Known → ℕ → Outcome
jumps_to κ target = Goes None (Some κ) target

abbrev pub branch_outcome : Cond → ℕ → Known → Known → Outcome
branch_outcome on target before κ =
    if is_always on then jumps_to κ target
    else Goes (on_edge on false before.test κ) (on_edge on true before.test κ) target

abbrev pub call_outcome : Option Flat → Known → Outcome
call_outcome None κ = Enters κ
call_outcome (Some f) κ = falls_only (called f κ)

abbrev pub outcome_of : Sheet → ℕ → Known → Instr → Kind → Outcome
outcome_of t next κ i Computes = computed_outcome t.board κ i
outcome_of t next κ i (Branches on words) = branch_outcome on (target_of next words) κ (with_cost (cost_of t.board κ i) κ)
outcome_of t next κ i (Leaps target) = jumps_to (with_cost (cost_of t.board κ i) κ) target
outcome_of t next κ i (Calls target) = call_outcome (flat_of (function_at t.functions target)) (with_cost (cost_of t.board κ i) κ)
outcome_of t next κ i Returns = Leaves (with_cost (cost_of t.board κ i) κ)
