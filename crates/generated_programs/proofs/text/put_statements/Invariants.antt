use Rattle.std.proofs.Common.{◌≡◌, ◌++◌}
use Rattle.std.specs.Prelude.{string_bytes}
use Rattle.generated_programs.specs.Generated.{statements}
use Rattle.generated_programs.proofs.text.put_statements.Given as goal

-- the statements so far, and those that are left
abbrev pub invariant-loop-left : goal.invariant-loop-left
invariant-loop-left l = string_bytes l.text ++ statements l.left l.x ≡ string_bytes l.fn.text ++ statements l.size l.seed

abbrev pub decreases-loop-left : goal.decreases-loop-left
decreases-loop-left l = l.left
