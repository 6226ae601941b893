use Rattle.std.proofs.Common.{◌≤◌, length, max}
use denote.Param.Weighed.{most}
use Rattle.c_parse.specs.declared.raw.Raw.{size-Raw}
use Rattle.c_parse.proofs.raw.Raw.+drop.Given as goal

abbrev pub decreases-drop : goal.decreases-drop
decreases-drop l = goal.size-drop l

abbrev pub invariant-nodes : goal.invariant-nodes
invariant-nodes l = size-Raw l.self ≤ size-Raw l.initial.self

-- what is left of a node's parts is no deeper than they were
abbrev pub invariant-parts : goal.invariant-parts
invariant-parts l = max (size-Raw l.part) (most size-Raw l.parts) ≤ max (size-Raw l.initial.part) (most size-Raw l.initial.parts)

abbrev pub decreases-parts : goal.decreases-parts
decreases-parts l = length l.parts
