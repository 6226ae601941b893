-- Lists that were appended to, one call behind another.
use Rattle.std.proofs.Common.{◌≡◌, List, ◌++◌, ap, ◌∙◌}
use Rattle.std.specs.Prelude.{Result, Ok, Err, OnOk}
use Rattle.std.proofs.lemmas.List.{append_assoc}

pub two_parts : {T E X : Type 0} (r : Result T E) (old mid new a b : List X) → mid ≡ old ++ a → OnOk r (new ≡ mid ++ b) → OnOk r (new ≡ old ++ (a ++ b))
two_parts (Ok x) old mid new a b e h = h ∙ ap (λ l. l ++ b) e ∙ append_assoc old a b
two_parts (Err x) old mid new a b e h = tt
