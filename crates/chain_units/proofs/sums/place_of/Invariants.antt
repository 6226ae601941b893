use Rattle.std.proofs.Common.{◌≤◌, ◌<◌, ◌-◌, length, take}
use Rattle.std.specs.List.{AllByRecursion}
use Rattle.item_weights.specs.declared.uses.Use.{Use}
use Rattle.chain_units.proofs.sums.place_of.Given as goal

abbrev pub invariant-loop-at : goal.invariant-loop-at
invariant-loop-at l = record { within : l.at ≤ length l.uses; before : AllByRecursion (λ (u : Use). u.object < l.object) (take l.at l.uses) }

abbrev pub decreases-loop-at : goal.decreases-loop-at
decreases-loop-at l = length l.uses - l.at
