use Rattle.std.proofs.Common.{inr}
use Rattle.c_parse.specs.Profile.{ends_in_step}
use Rattle.c_parse.proofs.Fronts.{or_left, clash, same_told}
use Rattle.c_parse.proofs.profile.is_comma.Goals as goal

pub returns-then-stepped : goal.returns-then-stepped
returns-then-stepped c = inr (same_told ends_in_step _ _ _ _ c.requires.near c.ends_in_step-stepped.ensures c.if-stepped.true)

pub returns-in_ok-operated : goal.returns-in_ok-operated
returns-in_ok-operated c = or_left _ _ _ (clash _ (same_told ends_in_step _ _ _ _ c.requires.near c.ends_in_step-stepped.ensures c.if-stepped.false)) c.in_ok-operated.ensures
