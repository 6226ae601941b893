-- The code of a position where objects have these addresses in FRAM, and these where the operations of its section find them.
use Rattle.std.specs.Prelude.{ℕ, ◌+◌, ◌*◌, ◌<◌, List, [], ◌∷◌}
use Rattle.msp430_isa.specs.declared.instr.Src.TheVariants.{Imm}
use Rattle.msp430_isa.specs.declared.instr.Dst.TheVariants.{Reg as ToReg}
use Rattle.msp430_isa.specs.declared.instr.Instr.{Instr}
use Rattle.resumed_runs.specs.Code.{head, move}
use Rattle.op_cost.specs.Templates.{template}
use Rattle.op_cost.specs.Templates as templates
use Rattle.emit_templates.specs.Placed.{HasHomes, home_in}
use Rattle.plan_code.specs.PlanBlocks.{object_move, turn_end}
use Rattle.plan_positions.specs.declared.position.What.{What}
use Rattle.plan_positions.specs.declared.position.What.TheVariants.{Sleeps, Restores, Sets, Does, Turns, Saves}
use Rattle.position_code.specs.declared.code.Moved.{Moved}

abbrev pub code_with : Moved → List ℕ → List ℕ → ℕ → ℕ → What → List Instr
code_with m fram places here target Sleeps = head (0x8000 + 2 * (here + 9))
code_with m fram places here target (Restores o) = object_move m.array m.words (home_in fram o) (home_in places o)
code_with m fram places here target (Sets turns) = move (Imm turns) (ToReg 10) ∷ []
code_with m fram places here target (Does x) = templates.code_of (template (home_in places) target x.op)
code_with m fram places here target Turns = turn_end
code_with m fram places here target (Saves o) = object_move m.array m.words (home_in places o) (home_in fram o)

-- each object of an operation has its address, and turns are counted in sixteen bits
abbrev pub IsReady : List ℕ → What → Type 0
IsReady places (Does x) = HasHomes places x.op
IsReady places (Sets turns) = turns < 65536
IsReady places _ = Unit {0}
