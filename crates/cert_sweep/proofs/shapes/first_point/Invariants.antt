use Rattle.std.proofs.Common.{◌≡◌, length}
use Rattle.cert_rules.specs.Tables.{row_at}
use Rattle.cert_sweep.specs.Views.{points_in}
use Rattle.cert_sweep.proofs.shapes.first_point.Given as goal

-- no point so far is of the stretch
abbrev pub invariant-loop-rest : goal.invariant-loop-rest
invariant-loop-rest l = row_at (λ p. p.stretch) (points_in l.rest) l.stretch ≡ row_at (λ p. p.stretch) (points_in l.points) l.stretch

abbrev pub decreases-loop-rest : goal.decreases-loop-rest
decreases-loop-rest l = length l.rest
