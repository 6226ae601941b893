-- Texts that are appended one behind another.
use Rattle.std.proofs.Common.{◌≡◌, ◌∙◌, ◌++◌, ◌-◌, ◌≤◌, List, [], ◌∷◌, ℕ, Ok, Err, ap, append_assoc, append-nil, sym, subst, arith, length, map, take, drop, slice_index_or}
use Rattle.std.proofs.Math.Seq.{take-length}
use Rattle.certificate.specs.Spelling.{parts}
use Rattle.std.specs.Prelude.{Result}
use Rattle.std.specs.List.{join_with_byte}
use Rattle.certificate.specs.Appending.{Appends, more_parts}

-- What was appended behind some text was appended.
pub grown : (done old mid new : List ℕ) → mid ≡ old ++ done → (more : List ℕ) × (new ≡ mid ++ more) → (more : List ℕ) × (new ≡ old ++ more)
grown done old mid new first second = (done ++ second.0, second.1 ∙ ap (λ m. m ++ second.0) first ∙ append_assoc old done second.0)

-- parts with commas between, by the first and those behind it
pub parts_more : (p : List ℕ) (parts : List (List ℕ)) → join_with_byte 44 (p ∷ parts) ≡ p ++ more_parts parts
parts_more p [] = sym (append-nil p)
parts_more p (q ∷ parts) = ap (λ t. p ++ 44 ∷ t) (parts_more q parts)

-- An Ok, and then another text.
pub appends_more : {U E : Type 0} (a b : List ℕ) (r : Result U E) (old mid new : List ℕ) → mid ≡ old ++ a → Appends b r mid new → Appends (a ++ b) r old new
appends_more a b (Ok u) old mid new first second = second ∙ ap (λ m. m ++ b) first ∙ append_assoc old a b
appends_more a b (Err e) old mid new first second = grown a old mid new first second

-- the first part, and then those behind it
pub parts_in_two : {A U E : Type 0} (f : A → List ℕ) (xs : List A) (d : A) (r : Result U E) (old mid new : List ℕ) → 1 ≤ length xs → mid ≡ old ++ f (slice_index_or xs 0 d)
    → Appends (more_parts (map f (take (length xs - 1) (drop 1 xs)))) r mid new → Appends (parts (map f xs)) r old new
parts_in_two f [] d r old mid new l first second = absurd (omega arith)
parts_in_two f (x ∷ xs) d r old mid new l first second =
    let same : take (length (x ∷ xs) - 1) xs ≡ xs = ap (λ n. take n xs) (let k : length (x ∷ xs) - 1 ≡ length xs = omega arith in k) ∙ take-length xs in
    let k = subst (λ l. Appends (more_parts (map f l)) r mid new) same second in
    subst (λ t. Appends t r old new) (sym (parts_more (f x) (map f xs))) (appends_more (f x) (more_parts (map f xs)) r old mid new first k)
