use Rattle.std.proofs.Common.{◌≡◌, ◌++◌, flat_map, drop}
use Rattle.msp430_isa.specs.Encoding.{words_of}
use Rattle.resumed_runs.specs.Bytes.{bytes_of}
use Rattle.emit_each.proofs.code.put_instructions.Given as goal

-- what is there and the instructions that are left make the whole
abbrev pub invariant-loop-instruction : goal.invariant-loop-instruction
invariant-loop-instruction l =
    l.to.items ++ bytes_of (flat_map words_of (drop l.instruction-index l.instructions)) ≡ l.initial.to.items ++ bytes_of (flat_map words_of l.instructions)
