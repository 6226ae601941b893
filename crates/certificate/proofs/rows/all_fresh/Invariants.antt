use Rattle.std.proofs.Common.{◌≡◌, true, take}
use Rattle.std.specs.List.{list_all}
use Rattle.certificate.specs.Grammar.{is_fresh_slot}
use Rattle.certificate.proofs.rows.all_fresh.Given as goal

-- each fact so far is fresh
abbrev pub invariant-loop-fact : goal.invariant-loop-fact
invariant-loop-fact l = list_all (λ f. is_fresh_slot l.spans f.of) (take l.fact-index l.facts) ≡ true
