-- Sections one by one.
use Rattle.std.proofs.Common.{◌≡◌, ℕ, ◌+◌, List, [], ◌∷◌, ◌++◌, length, refl, sym, ap, ◌∙◌, append_assoc}
use Rattle.std.specs.Prelude.{map}
use Rattle.std.proofs.lemmas.List.{append-nil, length-map}
use Rattle.chain_units.specs.Known.{Known}
use Rattle.plan_code.specs.Positions as positions
use Rattle.plan_positions.specs.declared.section.Section.{Section}
use Rattle.plan_positions.specs.declared.position.Position.{Position}
use Rattle.plan_positions.specs.Told.{all_told, firsts_from, told, told_section}

-- what is there, of the sections that were laid, and what is left
pub record SoFar (k : Known) (sections left : List Section) (at : ℕ) (lists : List (List Position)) (firsts : List ℕ) : Type 0 where
  pub made : List positions.Position
  pub apart : (more : List (List Position)) → all_told (map told_section sections) (lists ++ more) ≡ made ++ all_told (map told_section left) more
  pub whole : made ++ positions.positions_from k at (map told_section left) ≡ positions.positions_from k 0 (map told_section sections)
  pub numbers : firsts ++ firsts_from k at (map told_section left) ≡ firsts_from k 0 (map told_section sections)

pub so_begun : (k : Known) (sections : List Section) → SoFar k sections sections 0 [] []
so_begun k sections = record { made = []; apart = λ more. refl; whole = refl; numbers = refl }

module _ (k : Known) (sections left rest : List Section) (x : Section) (at : ℕ) (lists : List (List Position)) (firsts : List ℕ) (ps : List Position) (split : left ≡ x ∷ rest)
    (are : map (told (told_section x)) ps ≡ positions.section_positions k at (told_section x)) where
  abbrev sp : List positions.Position
  sp = positions.section_positions k at (told_section x)

  sized : length ps ≡ length sp
  sized = sym (length-map ps (told (told_section x))) ∙ ap length are

  pub so_more : SoFar k sections left at lists firsts → SoFar k sections rest (at + length ps) (lists ++ ps ∷ []) (firsts ++ at ∷ [])
  so_more h = record {
    made = h.made ++ sp;
    apart = λ more.
        ap (λ l. all_told (map told_section sections) l) (append_assoc lists (ps ∷ []) more)
        ∙ (h.apart (ps ∷ more)
        ∙ (ap (λ (l : List Section). h.made ++ all_told (map told_section l) (ps ∷ more)) split
        ∙ (ap (λ l. h.made ++ (l ++ all_told (map told_section rest) more)) are
        ∙ sym (append_assoc h.made sp (all_told (map told_section rest) more)))));
    whole =
        append_assoc h.made sp (positions.positions_from k (at + length ps) (map told_section rest))
        ∙ (ap (λ n. h.made ++ (sp ++ positions.positions_from k (at + n) (map told_section rest))) sized
        ∙ (ap (λ (l : List Section). h.made ++ positions.positions_from k at (map told_section l)) (sym split) ∙ h.whole));
    numbers =
        append_assoc firsts (at ∷ []) (firsts_from k (at + length ps) (map told_section rest))
        ∙ (ap (λ n. firsts ++ at ∷ firsts_from k (at + n) (map told_section rest)) sized
        ∙ (ap (λ (l : List Section). firsts ++ firsts_from k at (map told_section l)) (sym split) ∙ h.numbers));
  }

module _ (k : Known) (sections left : List Section) (at : ℕ) (lists : List (List Position)) (firsts : List ℕ) (h : SoFar k sections left at lists firsts) (none : left ≡ []) where
  pub all_positions : all_told (map told_section sections) lists ≡ positions.positions_from k 0 (map told_section sections)
  all_positions =
      ap (λ l. all_told (map told_section sections) l) (sym (append-nil lists))
      ∙ (h.apart []
      ∙ (ap (λ (l : List Section). h.made ++ all_told (map told_section l) []) none
      ∙ (ap (λ (l : List Section). h.made ++ positions.positions_from k at (map told_section l)) (sym none) ∙ h.whole)))

  pub all_firsts : firsts ≡ firsts_from k 0 (map told_section sections)
  all_firsts =
      sym (append-nil firsts)
      ∙ (ap (λ (l : List Section). firsts ++ firsts_from k at (map told_section l)) (sym none) ∙ h.numbers)
