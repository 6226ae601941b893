use Rattle.std.proofs.Common.{◌≡◌, length}
use Rattle.cert_rules.specs.Calls.{least_word, unnamed_word}
use Rattle.cert_sweep.proofs.calls.unnamed_word.Given as goal

-- the least word so far, and of those that are left
abbrev pub invariant-loop-rest : goal.invariant-loop-rest
invariant-loop-rest l = least_word l.least (unnamed_word l.own.items l.rest) ≡ unnamed_word l.own.items l.spans

abbrev pub decreases-loop-rest : goal.decreases-loop-rest
decreases-loop-rest l = length l.rest
