-- However a text is cut in two, its rows are the same.
use Rattle.std.proofs.Common.{◌≡◌, ◌∙◌, ◌+◌, ◌==◌, ◌≤◌, ◌++◌, ℕ, List, [], ◌∷◌, Option, Some, None, false, refl, sym, ap, length, arith, inl, inr, append_assoc, append-nil}
use Rattle.std.specs.Prelude.{option_to_list}
use Rattle.std.specs.List.{onto_first}
use Rattle.std.proofs.lemmas.Bool.{cases_Bool}
use Rattle.std.proofs.lemmas.List.Splits.{slice_split-cons_no}
use Rattle.certificate.specs.declared.state.Stage.{Stage}
use Rattle.certificate.specs.Fields.{parts_of}
use Rattle.certificate.specs.Line.{Line}
use Rattle.certificate.specs.Reading.{Progress, Taken, behind_rows, fed, read_line, read_lines, stopped_at}
use Rattle.certificate.proofs.Passing.{passes}
use Rattle.certificate.proofs.Pieces.{behind_part, part_done, part_on, some_parts}

-- no line feed stands in it
abbrev pub Clean : List ℕ → Type 0
Clean [] = Unit {0}
Clean (c ∷ line) = ((c == 10) ≡ false) × Clean line

clean_more : (line : List ℕ) (b : ℕ) → Clean line → (b == 10) ≡ false → Clean (line ++ b ∷ [])
clean_more [] b clean other = (other, tt)
clean_more (c ∷ line) b clean other = (clean.0, clean_more line b clean.1 other)

pub behind_none : (parts : List (List ℕ)) → behind_part [] parts ≡ parts
behind_none [] = refl
behind_none (p ∷ parts) = refl

onto_behind : (c : ℕ) (line : List ℕ) (parts : List (List ℕ)) → 1 ≤ length parts → onto_first c (behind_part line parts) ≡ behind_part (c ∷ line) parts
onto_behind c line [] l = absurd (omega (arith, l))
onto_behind c line (p ∷ parts) l = refl

joined : (line text : List ℕ) → Clean line → parts_of 10 (line ++ text) ≡ behind_part line (parts_of 10 text)
joined [] text clean = sym (behind_none (parts_of 10 text))
joined (c ∷ line) text clean =
    slice_split-cons_no (λ b. b == 10) c (line ++ text) clean.0 ∙ ap (onto_first c) (joined line text clean.1)
    ∙ onto_behind c line (parts_of 10 text) (some_parts 10 text)

-- what is read of a piece behind what was read before
abbrev pub go_on : (List Line × Progress) → List ℕ → (List Line × Progress)
go_on r piece = behind_rows r.0 (fed r.1 piece)

pub stops : (s : Stage) (at : ℕ) (line : List ℕ) (more : List (List ℕ)) → 1 ≤ length more → read_line s line ≡ None → read_lines s at (line ∷ more) ≡ stopped_at at
stops s at line [] l none = absurd (omega (arith, l))
stops s at line (next ∷ rest) l none = rw none refl

module _ (b : List ℕ) where
  abbrev Law : Stage → ℕ → List ℕ → List ℕ → Type 0
  Law s at line a = read_lines s at (behind_part line (parts_of 10 (a ++ b))) ≡ go_on (read_lines s at (behind_part line (parts_of 10 a))) b

  finished : (s : Stage) (at : ℕ) (line a : List ℕ) (o : Option Taken) → read_line s line ≡ o
      → ((t : Stage) (k : ℕ) → Law t k [] a) → read_lines s at (line ∷ parts_of 10 (a ++ b)) ≡ go_on (read_lines s at (line ∷ parts_of 10 a)) b
  finished s at line a None e law =
      stops s at line (parts_of 10 (a ++ b)) (some_parts 10 (a ++ b)) e
      ∙ ap (λ r. go_on r b) (sym (stops s at line (parts_of 10 a) (some_parts 10 a) e))
  finished s at line a (Some t) e law =
      let k : ℕ = at + length line + 1 in
      let r : List Line × Progress = read_lines t.1 k (parts_of 10 a) in
      let rows : List Line = option_to_list t.0 in
      let below : read_lines t.1 k (parts_of 10 (a ++ b)) ≡ go_on r b =
      ap (read_lines t.1 k) (sym (behind_none (parts_of 10 (a ++ b)))) ∙ law t.1 k ∙ ap (λ parts. go_on (read_lines t.1 k parts) b) (behind_none (parts_of 10 a)) in
      passes s at line _ (parts_of 10 (a ++ b)) t (some_parts 10 (a ++ b)) refl e
      ∙ ap (behind_rows rows) below
      ∙ ap (λ l. (l, (fed r.1 b).1)) (sym (append_assoc rows r.0 (fed r.1 b).0))
      ∙ ap (λ r. go_on r b) (sym (passes s at line _ (parts_of 10 a) t (some_parts 10 a) refl e))

  pub two_pieces : (a : List ℕ) (s : Stage) (at : ℕ) (line : List ℕ) → Clean line → Law s at line a
  two_pieces [] s at line clean = ap (read_lines s at) (sym (joined line b clean) ∙ ap (λ l. parts_of 10 (l ++ b)) (sym (append-nil line)))
  two_pieces (c ∷ a) s at line clean = elim (cases_Bool (c == 10)) [
    | inl is ↦
        ap (read_lines s at) (part_done 10 line c (a ++ b) is)
        ∙ finished s at line a (read_line s line) refl (λ t k. two_pieces a t k [] tt)
        ∙ ap (λ parts. go_on (read_lines s at parts) b) (sym (part_done 10 line c a is))
    | inr other ↦
        ap (read_lines s at) (part_on 10 line c (a ++ b) other)
        ∙ two_pieces a s at (line ++ c ∷ []) (clean_more line c clean other)
        ∙ ap (λ parts. go_on (read_lines s at parts) b) (sym (part_on 10 line c a other))
  ]
