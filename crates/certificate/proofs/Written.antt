-- Rows that are appended one behind another.
use Rattle.std.proofs.Common.{◌≡◌, ◌∙◌, ◌+◌, ◌<◌, ◌++◌, ℕ, List, [], ◌∷◌, sym, ap, subst, suc, add-one, append_assoc, codes, decimal, drop, drop-cons, get_or, length, map}
use Rattle.std.specs.Prelude.{Result}
use Rattle.certificate.specs.Appending.{Appends}
use Rattle.certificate.specs.Line.{Line, budget, end}
use Rattle.certificate.specs.Spelling.{fed_line, first_line, row_text, rows_text}
use Rattle.certificate.proofs.Appends.{appends_more}
use Rattle.certificate.proofs.Exact.{flat_append}

-- a row of those left, behind what was appended
pub row_more : {A B : Type 0} (h : B → Line) (k : A → B) (xs : List A) (i : ℕ) (x : A) (old mid new : List ℕ) → i < length xs → x ≡ get_or xs i x
    → new ≡ mid ++ fed_line (row_text (h (k x)))
    → (done : List ℕ) × (mid ≡ old ++ done) × (done ++ rows_text (map h (map k (drop i xs))) ≡ rows_text (map h (map k xs)))
    → (done : List ℕ) × (new ≡ old ++ done) × (done ++ rows_text (map h (map k (drop (i + 1) xs))) ≡ rows_text (map h (map k xs)))
row_more h k xs i x old mid new l is e d =
    let row : List ℕ = fed_line (row_text (h (k x))) in
    let left : List ℕ = rows_text (map h (map k (drop (i + 1) xs))) in
    let item : drop i xs ≡ x ∷ drop (i + 1) xs = rw add-one (drop-cons xs i x l ∙ ap (λ y. y ∷ drop (suc i) xs) (sym is)) in
    let next : rows_text (map h (map k (drop i xs))) ≡ row ++ left = ap (λ l. rows_text (map h (map k l))) item in (
      d.0 ++ row,
      e ∙ ap (λ m. m ++ row) d.1 ∙ append_assoc old d.0 row,
      append_assoc d.0 row left ∙ ap (λ t. d.0 ++ t) (sym next) ∙ d.2,
    )

-- the first lines, and the rows of each kind
pub whole_text : {U E : Type 0} (n : ℕ) (f s p : List Line) (r : Result U E) (old a b c d new : List ℕ) → a ≡ old ++ (codes "schematic-cert 1\nbudget " ++ fed_line (decimal n))
    → b ≡ a ++ rows_text f → c ≡ b ++ rows_text s → d ≡ c ++ rows_text p → Appends (codes "end\n") r d new
    → Appends (fed_line first_line ++ rows_text (budget n ∷ (f ++ (s ++ (p ++ end ∷ []))))) r old new
whole_text n f s p r old a b c d new ea eb ec ed more =
    let head : List ℕ = codes "schematic-cert 1\nbudget " ++ fed_line (decimal n) in
    let rows : rows_text f ++ (rows_text s ++ (rows_text p ++ codes "end\n")) ≡ rows_text (f ++ (s ++ (p ++ end ∷ []))) =
    ap (λ t. rows_text f ++ (rows_text s ++ t)) (sym (flat_append p (end ∷ []))) ∙ ap (λ t. rows_text f ++ t) (sym (flat_append s (p ++ end ∷ []))) ∙ sym (flat_append f (s ++ (p ++ end ∷ []))) in
    let last = appends_more (rows_text p) (codes "end\n") r c d new ed more in
    let later = appends_more (rows_text s) (rows_text p ++ codes "end\n") r b c new ec last in
    let behind = appends_more (rows_text f) (rows_text s ++ (rows_text p ++ codes "end\n")) r a b new eb later in
    subst (λ t. Appends t r old new) (ap (λ t. head ++ t) rows) (appends_more head (rows_text f ++ (rows_text s ++ (rows_text p ++ codes "end\n"))) r old a new ea behind)
