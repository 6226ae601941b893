use Rattle.std.proofs.Common.{◌≡◌, ℕ, length}
use Rattle.cert_sweep.specs.Rising.{Rises, first_from}
use Rattle.cert_sweep.proofs.rising.first_from.Given as goal

-- the first row is in the rest
abbrev pub invariant-loop-rest : goal.invariant-loop-rest
invariant-loop-rest g l = (first_from g.T.Numbered.number l.n l.rest ≡ first_from g.T.Numbered.number l.n l.rows) × Rises g.T.Numbered.number 0 l.rest

abbrev pub decreases-loop-rest : goal.decreases-loop-rest
decreases-loop-rest g l = length l.rest
