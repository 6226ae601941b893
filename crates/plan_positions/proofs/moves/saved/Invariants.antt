use Rattle.std.proofs.Common.{◌≡◌, ◌++◌, length}
use Rattle.std.specs.Prelude.{◌&&◌}
use Rattle.plan_code.specs.Positions.{chosen, is_wanted, is_written, saved}
use Rattle.plan_positions.specs.Told.{told_section, told_shape}
use Rattle.plan_positions.proofs.moves.saved.Given as goal

-- the objects that are chosen, and those of what is left, make the whole
abbrev pub invariant-loop-object : goal.invariant-loop-object
invariant-loop-object g l = l.made.items ++ chosen (λ o. is_written l.fn.nodes o && is_wanted (g.K.Knowledge.known l.fn.k) (told_shape l.fn.section.shape) (told_section l.fn.section) o) l.left ≡ saved (g.K.Knowledge.known l.fn.k) (told_section l.fn.section)

abbrev pub decreases-loop-object : goal.decreases-loop-object
decreases-loop-object g l = length l.left
