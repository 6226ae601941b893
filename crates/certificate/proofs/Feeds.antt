-- Texts without a line feed.
use Rattle.std.proofs.Common.{◌≡◌, ◌+◌, ◌==◌, ℕ, List, [], ◌∷◌, false, length, arith, inl, inr}
use Rattle.std.specs.List.{list_any, position_or_len}
use Rattle.std.proofs.lemmas.Bool.{cases_Bool, or_parts}
use Rattle.certificate.specs.Texts.{Lacks}

pub none_lacks : (m : ℕ) (t : List ℕ) → list_any (λ b. b == m) t ≡ false → Lacks m t
none_lacks m [] e = tt
none_lacks m (b ∷ t) e = let p = or_parts (b == m) (list_any (λ b. b == m) t) e in (p.0, none_lacks m t p.1)

pub whole_lacks : (m : ℕ) (t : List ℕ) → position_or_len (λ b. b == m) t ≡ length t → Lacks m t
whole_lacks m [] e = tt
whole_lacks m (b ∷ t) e = elim (cases_Bool (b == m)) [
  | inl is ↦ absurd (let k : 0 ≡ length (b ∷ t) = rw is at e in omega arith)
  | inr unlike ↦ let k : 1 + position_or_len (λ b. b == m) t ≡ length (b ∷ t) = rw unlike at e in (unlike, whole_lacks m t (omega arith))
]
