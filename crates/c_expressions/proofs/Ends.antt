-- Where several trees end.
use Rattle.std.proofs.Common.{◌≡◌, refl, List, [], ◌∷◌, ◌++◌, map}
use Rattle.c_parse.specs.declared.raw.Raw.{Raw}
use Rattle.c_typing.specs.Programs.{judged, last_place}

pub last_of : (others : List Raw) (last : Raw) → last_place (map judged (others ++ last ∷ [])) ≡ (judged last).end
last_of [] last = refl
last_of (a ∷ []) last = refl
last_of (a ∷ b ∷ others) last = last_of (b ∷ others) last
