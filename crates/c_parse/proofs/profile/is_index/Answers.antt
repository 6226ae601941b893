use Rattle.std.proofs.Common.{inl, sym, ap, ◌∙◌}
use Rattle.c_parse.specs.Profile.{begins, is_close_index, ends_in_parameter}
use Rattle.c_parse.proofs.Fronts.{or_right, tells_is, clash, same_told}
use Rattle.c_parse.proofs.profile.is_index.Goals as goal

pub returns-then-indexed : goal.returns-then-indexed
returns-then-indexed c = λ before near. inl (same_told (begins is_close_index) _ _ _ _ near c.begins_close_index-indexed.ensures c.if-indexed.true)

pub returns-else-indexed : goal.returns-else-indexed
returns-else-indexed c = λ before near. or_right _ _ _ (clash _ (same_told (begins is_close_index) _ _ _ _ near c.begins_close_index-indexed.ensures c.if-indexed.false))
    (tells_is _ _ (sym (c.ends_in_parameter.ensures ∙ ap ends_in_parameter near)))
