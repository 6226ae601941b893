use Rattle.std.proofs.Common.{◌≡◌, ◌+◌, ◌≤◌, ◌++◌, length}
use Rattle.op_cost.specs.Templates.{code_of, template}
use Rattle.emit_templates.specs.Placed.{home_in}
use Rattle.emit_certs.specs.Timed.{code_in, timed_from}
use Rattle.emit_certs.proofs.timing.timed.Given as goal

-- what is there and the instructions that are left make the whole
abbrev pub invariant-loop-instr : goal.invariant-loop-instr
invariant-loop-instr l = record {
  whole : code_in l.code.items ++ timed_from l.fn.op.kind (length l.code.items) l.left ≡ template (home_in l.fn.places.of.items) 0 l.fn.op;
  count : l.index ≡ length l.code.items;
  few : length l.code.items + length l.left ≤ 96;
}

abbrev pub decreases-loop-instr : goal.decreases-loop-instr
decreases-loop-instr l = length l.left
