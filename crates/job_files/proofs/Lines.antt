-- Texts that are put one behind another.
use Rattle.std.proofs.Common.{◌≡◌, ◌∙◌, ◌+◌, ◌++◌, ℕ, suc, List, [], ◌∷◌, Option, Some, None, Ok, Err, sym, ap, append_assoc, length, take, arith, length-append}
use Rattle.std.specs.Prelude.{Result}
use Rattle.base_io.specs.Pieces.{AddsTold}
use Rattle.base_io.specs.declared.sink.SinkFault.{SinkFault}

take_behind : (a b : List ℕ) (n : ℕ) → take (length a + n) (a ++ b) ≡ a ++ take n b
take_behind [] b n = ap (λ k. take k b) (none n)
  where
    none : (n : ℕ) → 0 + n ≡ n
    none n = omega arith
take_behind (x ∷ a) b n = ap (λ k. take k (x ∷ (a ++ b))) (more (length a) n) ∙ ap (λ l. x ∷ l) (take_behind a b n)
  where
    more : (k n : ℕ) → suc k + n ≡ suc (k + n)
    more k n = omega arith

module _ (a b : List ℕ) (t : Unit {0}) where
  abbrev Told : List ℕ → Result (Unit {0}) SinkFault → Option (List ℕ) → Option (List ℕ) → Type 0
  Told bytes r old new = AddsTold {T = Unit {0}} {E = SinkFault} bytes r old new

  -- a text was put, and then another
  pub told_then : (r : Result (Unit {0}) SinkFault) (old mid new : Option (List ℕ)) → Told a (Ok t) old mid → Told b r mid new → Told (a ++ b) r old new
  told_then (Ok u) (Some old) (Some mid) (Some new) h k = k ∙ ap (λ m. m ++ b) h ∙ append_assoc old a b
  told_then (Err f) (Some old) (Some mid) (Some new) h (n, le, k) = (
    length a + n,
    rw length-append (omega (arith, le)),
    k ∙ ap (λ m. m ++ take n b) h ∙ append_assoc old a (take n b) ∙ ap (λ l. old ++ l) (sym (take_behind a b n)),
  )
  told_then r (Some old) (Some mid) None h k = absurd k
  told_then r (Some old) None new h k = absurd h
  told_then r None (Some mid) new h k = absurd h
  told_then r None None (Some new) h k = absurd k
  told_then r None None None h k = tt
