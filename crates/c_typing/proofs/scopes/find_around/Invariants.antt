use Rattle.std.proofs.Common.{◌≡◌, length}
use Rattle.c_typing.specs.Scopes.{find}
use Rattle.c_typing.specs.Kept.{scopes_of}
use Rattle.c_typing.proofs.scopes.find_around.Given as goal

-- the name isn't in the scopes that were passed
abbrev pub invariant-loop-last : goal.invariant-loop-last
invariant-loop-last l = find l.name (scopes_of l.rest) ≡ find l.name (scopes_of l.scopes)

abbrev pub decreases-loop-last : goal.decreases-loop-last
decreases-loop-last l = length l.rest
