use Rattle.c_parse.specs.Profile.{is_in_switch}
use Rattle.c_parse.proofs.Fronts.{and_right, clash, same_told}
use Rattle.c_parse.proofs.profile.is_label.Goals as goal

pub returns-in_ok-ended : goal.returns-in_ok-ended
returns-in_ok-ended c = and_right _ _ _ (same_told is_in_switch _ _ _ _ c.requires.near c.is_in_switch-inside.ensures c.if-inside.true) c.in_ok-ended.ensures

pub returns-else-inside : goal.returns-else-inside
returns-else-inside c = λ p. clash _ (same_told is_in_switch _ _ _ _ c.requires.near c.is_in_switch-inside.ensures c.if-inside.false) p.0
