use Rattle.std.proofs.Common.{inl}
use Rattle.c_parse.specs.Profile.{begins, is_type_word}
use Rattle.c_parse.proofs.Fronts.{told, untold, or_right, and_right, neither, clash, same_told}
use Rattle.c_parse.proofs.profile.is_in_cast.Goals as goal

pub returns-then-begun : goal.returns-then-begun
returns-then-begun c = inl (told _ _ c.in_ok-begun.ensures c.if-begun.true)

pub returns-in_ok-ended : goal.returns-in_ok-ended
returns-in_ok-ended c = or_right _ _ _ (untold _ _ c.in_ok-begun.ensures c.if-begun.false)
    (and_right _ _ _ (same_told (begins is_type_word) _ _ _ _ c.requires.near c.begins_type_word-typed.ensures c.if-typed.true) c.in_ok-ended.ensures)

pub returns-else-typed : goal.returns-else-typed
returns-else-typed c = neither _ _ (untold _ _ c.in_ok-begun.ensures c.if-begun.false)
    (λ p. clash _ (same_told (begins is_type_word) _ _ _ _ c.requires.near c.begins_type_word-typed.ensures c.if-typed.false) p.0)
