use Rattle.std.proofs.Common.{inr}
use Rattle.c_parse.specs.Profile.{begins, is_void}
use Rattle.c_parse.proofs.Fronts.{or_left, clash, same_told}
use Rattle.c_parse.proofs.profile.is_pointer.Goals as goal

pub returns-then-void : goal.returns-then-void
returns-then-void c = inr (same_told (begins is_void) _ _ _ _ c.requires.near c.begins_void-void.ensures c.if-void.true)

pub returns-in_ok-named : goal.returns-in_ok-named
returns-in_ok-named c = or_left _ _ _ (clash _ (same_told (begins is_void) _ _ _ _ c.requires.near c.begins_void-void.ensures c.if-void.false)) c.in_ok-named.ensures
