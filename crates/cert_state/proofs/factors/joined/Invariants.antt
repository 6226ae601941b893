use Rattle.std.proofs.Common.{◌≡◌, ◌++◌, length, map}
use Rattle.cert_rules.specs.Spending.{joined}
use Rattle.cert_state.specs.Views.{factor_of}
use Rattle.cert_state.proofs.factors.joined.Given as goal

-- the factors so far are of other slots
abbrev pub invariant-loop-rest : goal.invariant-loop-rest
invariant-loop-rest l = map factor_of l.made.items ++ joined l.of l.adds l.takes (map factor_of l.rest) ≡ joined l.of l.adds l.takes (map factor_of l.factors)

abbrev pub decreases-loop-rest : goal.decreases-loop-rest
decreases-loop-rest l = length l.rest
