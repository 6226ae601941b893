use Rattle.std.proofs.Common.{◌≡◌, ◌*◌, ◌≤◌, ◌^◌, take}
use Rattle.std.specs.Prelude.{sum_by}
use Rattle.plan_report.proofs.chains.cost_of.Given as goal

-- what those so far cost, each below 2 ^ 64
abbrev pub invariant-loop-stretch : goal.invariant-loop-stretch
invariant-loop-stretch l = record {
  sum : l.cost ≡ sum_by (λ s. s.cost) (take l.stretch-index l.stretches);
  small : l.cost ≤ l.stretch-index * 2 ^ 64;
}
