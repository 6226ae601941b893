use Rattle.std.proofs.Common.{◌≡◌, ◌+◌, ◌*◌, ◌≤◌, drop}
use Rattle.resumed_runs.specs.Code.{size_of}
use Rattle.position_code.proofs.code.size_of_all.Given as goal

abbrev pub invariant-loop-instruction : goal.invariant-loop-instruction
invariant-loop-instruction l = (l.words + size_of (drop l.instruction-index l.instructions) ≡ size_of l.instructions) × (l.words ≤ 3 * l.instruction-index)
