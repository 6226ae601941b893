-- Parts with a mark between each two.
use Rattle.std.proofs.Common.{◌≡◌, ◌∙◌, ◌==◌, ◌≤◌, ◌++◌, ℕ, List, [], ◌∷◌, refl, ap, eq-eqb}
use Rattle.std.specs.List.{join_with_byte, onto_first}
use Rattle.std.proofs.lemmas.List.Splits.{slice_split-cons_no, slice_split-cons_yes, join_with_byte-slice_split}
use Rattle.certificate.specs.Texts.{Lacks}
use Rattle.certificate.specs.Fields.{parts_of}
use Rattle.certificate.proofs.Marks.{From, from_append}

-- a part, its mark, and what is behind
pub part_and : (m : ℕ) (a b : List ℕ) → Lacks m a → parts_of m (a ++ m ∷ b) ≡ a ∷ parts_of m b
part_and m [] b p = slice_split-cons_yes (λ c. c == m) m b (eq-eqb m m refl)
part_and m (c ∷ a) b p = slice_split-cons_no (λ d. d == m) c (a ++ m ∷ b) p.0 ∙ ap (onto_first c) (part_and m a b p.1)

pub part_alone : (m : ℕ) (a : List ℕ) → Lacks m a → parts_of m a ≡ a ∷ []
part_alone m [] p = refl
part_alone m (c ∷ a) p = slice_split-cons_no (λ d. d == m) c a p.0 ∙ ap (onto_first c) (part_alone m a p.1)

abbrev pub AllLack : ℕ → List (List ℕ) → Type 0
AllLack m [] = Unit {0}
AllLack m (p ∷ parts) = Lacks m p × AllLack m parts

abbrev pub AllFrom : ℕ → List (List ℕ) → Type 0
AllFrom low [] = Unit {0}
AllFrom low (p ∷ parts) = From low p × AllFrom low parts

pub parts_back : (m : ℕ) (p : List ℕ) (parts : List (List ℕ)) → AllLack m (p ∷ parts) → parts_of m (join_with_byte m (p ∷ parts)) ≡ p ∷ parts
parts_back m p [] l = part_alone m p l.0
parts_back m p (q ∷ parts) l = part_and m p (join_with_byte m (q ∷ parts)) l.0 ∙ ap (λ r. p ∷ r) (parts_back m q parts l.1)

pub parts_told : (m : ℕ) (text : List ℕ) → join_with_byte m (parts_of m text) ≡ text
parts_told m text = join_with_byte-slice_split m text

pub join_from : (m low : ℕ) (parts : List (List ℕ)) → low ≤ m → AllFrom low parts → From low (join_with_byte m parts)
join_from m low [] l p = tt
join_from m low (a ∷ []) l p = p.0
join_from m low (a ∷ b ∷ parts) l p = from_append low a (m ∷ join_with_byte m (b ∷ parts)) p.0 (l, join_from m low (b ∷ parts) l p.1)

pub all_lack_append : (m : ℕ) (a b : List (List ℕ)) → AllLack m a → AllLack m b → AllLack m (a ++ b)
all_lack_append m [] b p q = q
all_lack_append m (x ∷ a) b p q = (p.0, all_lack_append m a b p.1 q)
