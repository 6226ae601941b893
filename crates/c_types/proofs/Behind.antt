-- What stands behind a list, where a tree has none of what is listed.
use Rattle.std.proofs.Common.{◌≡◌, ◌≢◌, List, [], ◌++◌, append-nil, sym, ap, ◌∙◌, refl}
use Rattle.c_parse.specs.declared.raw.RawRule.{RawRule}
use Rattle.c_parse.specs.declared.raw.RawRule.TheVariants as rule
use Rattle.c_parse.specs.declared.raw.Raw.TheOpen.{Raw-F}
use Rattle.c_typing.specs.Judged.{Judged, nothing}
use Rattle.c_typing.specs.Programs.{judged_by}

pub nothing_behind : {A : Type 0} (xs ys : List A) → ys ≡ [] → xs ≡ xs ++ ys
nothing_behind xs ys e = sym (ap (λ l. xs ++ l) e ∙ append-nil xs)

pub other_defines : (r : RawRule) (parts : List Judged) → r ≢ rule.Program → r ≢ rule.External → (judged_by (Raw-F.Node r parts)).defines ≡ nothing.defines
other_defines rule.Program parts h i = absurd (h refl)
other_defines rule.External parts h i = absurd (i refl)
other_defines _ parts h i = refl

pub other_params : (r : RawRule) (parts : List Judged) → r ≢ rule.Params → r ≢ rule.Param → (judged_by (Raw-F.Node r parts)).params ≡ nothing.params
other_params rule.Params parts h i = absurd (h refl)
other_params rule.Param parts h i = absurd (i refl)
other_params _ parts h i = refl
