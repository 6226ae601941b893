use Rattle.std.proofs.Common.{◌≡◌, length}
use Rattle.cert_rules.specs.Faults.{first_of}
use Rattle.cert_rules.specs.Tables.{head_fault}
use Rattle.cert_state.specs.Shown.{blocks_in, functions_in}
use Rattle.cert_check.proofs.row_rules.heads_fault.Given as goal

-- the heads so far hold
abbrev pub invariant-loop-rest : goal.invariant-loop-rest
invariant-loop-rest l = first_of (head_fault (blocks_in l.segments) (functions_in l.functions)) l.rest ≡ first_of (head_fault (blocks_in l.segments) (functions_in l.functions)) l.stretches

abbrev pub decreases-loop-rest : goal.decreases-loop-rest
decreases-loop-rest l = length l.rest
