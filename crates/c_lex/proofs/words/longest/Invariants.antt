use Rattle.std.proofs.Common.{◌≡◌, length, max, map}
use Rattle.c_lex.specs.Scan.{longest}
use Rattle.c_lex.proofs.words.longest.Given as goal

abbrev pub invariant-loop-rest : goal.invariant-loop-rest
invariant-loop-rest l = max l.best (longest (map (λ k. k.now) l.rest) l.text) ≡ longest (map (λ k. k.now) l.words) l.text

abbrev pub decreases-loop-rest : goal.decreases-loop-rest
decreases-loop-rest l = length l.rest
