use Rattle.std.proofs.Common.{inl, inr}
use Rattle.c_parse.specs.Profile.{begins, is_void, is_increment}
use Rattle.c_parse.proofs.Fronts.{told_not, told, untold, neither, clash, same_told}
use Rattle.c_parse.proofs.profile.is_declarator.Goals as goal

pub returns-then-void : goal.returns-then-void
returns-then-void c = inr (same_told (begins is_void) _ _ _ _ c.requires.near c.begins_void-void.ensures c.if-void.true)

pub returns-then-stepped : goal.returns-then-stepped
returns-then-stepped c = neither _ _
    (λ d. clash _ d.2 (same_told (begins is_increment) _ _ _ _ c.requires.near c.begins_increment-stepped.ensures c.if-stepped.true))
    (clash _ (same_told (begins is_void) _ _ _ _ c.requires.near c.begins_void-void.ensures c.if-void.false))

pub returns-in_ok-operand : goal.returns-in_ok-operand
returns-in_ok-operand c = told_not _ _ _ c.in_ok-operand.ensures
    (λ none. inl (
      told _ _ c.in_ok-named.ensures c.if-named.true,
      none,
      same_told (begins is_increment) _ _ _ _ c.requires.near c.begins_increment-stepped.ensures c.if-stepped.false,
    ))
    (λ some. neither _ _ (λ d. d.1 some) (clash _ (same_told (begins is_void) _ _ _ _ c.requires.near c.begins_void-void.ensures c.if-void.false)))

pub returns-else-named : goal.returns-else-named
returns-else-named c = neither _ _
    (λ d. untold _ _ c.in_ok-named.ensures c.if-named.false d.0)
    (clash _ (same_told (begins is_void) _ _ _ _ c.requires.near c.begins_void-void.ensures c.if-void.false))
