use Rattle.std.proofs.Common.{◌≡◌, ◌++◌, length}
use Rattle.std.specs.Prelude.{◌||◌}
use Rattle.plan_code.specs.Positions.{chosen, restored}
use Rattle.plan_positions.specs.Told.{told_section}
use Rattle.plan_positions.proofs.moves.restored.Given as goal

-- the objects that are chosen, and those of what is left, make the whole
abbrev pub invariant-loop-object : goal.invariant-loop-object
invariant-loop-object g l = l.made.items ++ chosen (λ o. (g.K.Knowledge.known l.fn.k).is_array o || (g.K.Knowledge.known l.fn.k).before l.fn.section.first o) l.left ≡ restored (g.K.Knowledge.known l.fn.k) (told_section l.fn.section)

abbrev pub decreases-loop-object : goal.decreases-loop-object
decreases-loop-object g l = length l.left
