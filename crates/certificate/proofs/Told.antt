-- What has been read of a text.
use Rattle.std.proofs.Common.{◌≡◌, ◌∙◌, ◌+◌, ◌==◌, ◌≤◌, ◌++◌, ℕ, List, [], ◌∷◌, Option, Some, None, false, refl, sym, ap, subst, length, arith, inl, inr, append_assoc, length-append}
use Rattle.std.proofs.lemmas.Bool.{cases_Bool}
use Rattle.std.specs.Prelude.{option_and_then, option_to_list}
use Rattle.std.specs.List.{join_with_byte, onto_first}
use Rattle.std.proofs.lemmas.List.Splits.{slice_split-cons_no, slice_split-cons_yes}
use Rattle.certificate.specs.declared.state.Stage.{Stage}
use Rattle.certificate.specs.declared.state.Stage.TheVariants as stage
use Rattle.certificate.specs.Line.{Line}
use Rattle.certificate.specs.Grammar.{IsRow}
use Rattle.certificate.specs.Spelling.{row_text, rows_text}
use Rattle.certificate.specs.Texts.{Lacks}
use Rattle.certificate.specs.Fields.{before_mark, parts_of}
use Rattle.certificate.specs.Reading.{Progress, Taken, behind_rows, going, read_line, read_lines, read_row, read_text, row_line, stage_behind, stopped}
use Rattle.certificate.proofs.Marks.{before_no, before_yes, map_some, some_is, then_some}
use Rattle.certificate.proofs.Lists.{AllLack, part_and, parts_told}
use Rattle.certificate.proofs.Passing.{passes}
use Rattle.certificate.proofs.Pieces.{some_parts}
use Rattle.certificate.proofs.TwoPieces.{stops}
use Rattle.certificate.proofs.RowsTold.{row_back, row_lacks, row_told}
use Rattle.certificate.proofs.Order.{AllRows, IsLater, later, stages}

-- ---- Lines

onto_lacks : (m b : ℕ) (parts : List (List ℕ)) → (b == m) ≡ false → AllLack m parts → AllLack m (onto_first b parts)
onto_lacks m b [] e h = ((e, tt), tt)
onto_lacks m b (p ∷ parts) e h = ((e, h.0), h.1)

each_lacks : (m : ℕ) (t : List ℕ) → AllLack m (parts_of m t)
each_lacks m [] = (tt, tt)
each_lacks m (b ∷ t) = elim (cases_Bool (b == m)) [
  | inl is ↦ subst (AllLack m) (sym (slice_split-cons_yes (λ c. c == m) b t is)) (tt, each_lacks m t)
  | inr other ↦ subst (AllLack m) (sym (slice_split-cons_no (λ c. c == m) b t other)) (onto_lacks m b (parts_of m t) other (each_lacks m t))
]

pub before_itself : (m : ℕ) (t : List ℕ) → Lacks m (before_mark m t)
before_itself m [] = tt
before_itself m (b ∷ t) = elim (cases_Bool (b == m)) [
  | inl is ↦ subst (Lacks m) (sym (before_yes m b t is)) tt
  | inr other ↦ subst (Lacks m) (sym (before_no m b t other)) (other, before_itself m t)
]

later_line : (s : Stage) (line : List ℕ) → IsLater s → read_line s line ≡ row_line s line
later_line stage.Header line l = absurd l
later_line stage.Budget line l = refl
later_line stage.First line l = refl
later_line (stage.Functions low) line l = refl
later_line (stage.Stretches low) line l = refl
later_line (stage.Points low) line l = refl
later_line stage.Ended line l = refl

pub record LineTold (s : Stage) (line : List ℕ) (t : Taken) : Type 0 where
  pub row : Line
  pub is : IsRow row
  pub text : line ≡ row_text row
  pub leads : stage_behind s row ≡ Some t.1
  pub gives : t.0 ≡ Some row

line_told : (s : Stage) (line : List ℕ) (t : Taken) → IsLater s → read_line s line ≡ Some t → LineTold s line t
line_told s line t l e =
    let k : row_line s line ≡ Some t = sym (later_line s line l) ∙ e in
    let a = then_some (read_row line) _ t k in
    let b = map_some (stage_behind s a.0) _ t a.2 in
    let r = row_told line a.0 a.1 in
    record { row = a.0; is = r.0; text = r.1; leads = b.1 ∙ ap (λ t. Some t.1) b.2; gives = sym (ap (λ t. t.0) b.2) }

line_by : (s : Stage) (line : List ℕ) (r : Line) (u : Stage) → IsLater s → read_row line ≡ Some r → stage_behind s r ≡ Some u → read_line s line ≡ Some (Some r, u)
line_by s line r u l e b = let k : row_line s line ≡ Some (Some r, u) = rw (e, b) refl in later_line s line l ∙ k

-- ---- Texts behind the first line

pub record Goes (s : Stage) (at : ℕ) (text : List ℕ) (rows : List Line) (t : Stage) (line : List ℕ) (k : ℕ) : Type 0 where
  pub all : AllRows rows
  pub lead : stages s rows ≡ Some t
  pub spelt : text ≡ rows_text rows ++ line
  pub place : k ≡ at + length (rows_text rows)
  pub one_line : Lacks 10 line

pub record Stops (s : Stage) (at : ℕ) (text : List ℕ) (k : ℕ) : Type 0 where
  pub rows : List Line
  pub to : Stage
  pub line : List ℕ
  pub behind : List ℕ
  pub all : AllRows rows
  pub lead : stages s rows ≡ Some to
  pub spelt : text ≡ rows_text rows ++ (line ++ 10 ∷ behind)
  pub place : k ≡ at + length (rows_text rows)
  pub one_line : Lacks 10 line
  pub bad : read_line to line ≡ None

abbrev pub ToldBy : Stage → ℕ → List ℕ → List Line → Progress → Type 0
ToldBy s at text rows (going t line k) = Goes s at text rows t line k
ToldBy s at text rows (stopped k) = Stops s at text k

longer : (a b c : List ℕ) → a ++ 10 ∷ (b ++ c) ≡ ((a ++ 10 ∷ []) ++ b) ++ c
longer a b c = sym (append_assoc (a ++ 10 ∷ []) b c ∙ append_assoc a (10 ∷ []) (b ++ c))

sizes : (at n : ℕ) (line : List ℕ) (rest : List ℕ) → n ≡ length rest → at + length line + 1 + n ≡ at + length ((line ++ 10 ∷ []) ++ rest)
sizes at n line rest e = omega (arith, length-append (line ++ 10 ∷ []) rest, length-append line (10 ∷ []))

prepend : (s u : Stage) (at : ℕ) (line text : List ℕ) (r : Line) (rows : List Line) (p : Progress) → IsRow r → line ≡ row_text r → stage_behind s r ≡ Some u
    → ToldBy u (at + length line + 1) text rows p → ToldBy s at (line ++ 10 ∷ text) (r ∷ rows) p
prepend s u at line text r rows (going t l k) is e b h =
    record {
      all = (is, h.all);
      lead = ap (option_and_then (λ t. stages t rows)) b ∙ h.lead;
      spelt = ap (λ x. line ++ 10 ∷ x) h.spelt ∙ longer line (rows_text rows) l ∙ ap (λ x. ((x ++ 10 ∷ []) ++ rows_text rows) ++ l) e;
      place = h.place ∙ sizes at (length (rows_text rows)) line (rows_text rows) refl ∙ ap (λ x. at + length ((x ++ 10 ∷ []) ++ rows_text rows)) e;
      one_line = h.one_line;
    }
prepend s u at line text r rows (stopped k) is e b h =
    record {
      rows = r ∷ h.rows;
      to = h.to;
      line = h.line;
      behind = h.behind;
      all = (is, h.all);
      lead = ap (option_and_then (λ t. stages t h.rows)) b ∙ h.lead;
      spelt = ap (λ x. line ++ 10 ∷ x) h.spelt ∙ longer line (rows_text h.rows) (h.line ++ 10 ∷ h.behind) ∙ ap (λ x. ((x ++ 10 ∷ []) ++ rows_text h.rows) ++ (h.line ++ 10 ∷ h.behind)) e;
      place = h.place ∙ sizes at (length (rows_text h.rows)) line (rows_text h.rows) refl ∙ ap (λ x. at + length ((x ++ 10 ∷ []) ++ rows_text h.rows)) e;
      one_line = h.one_line;
      bad = h.bad;
    }

abbrev ToldOf : Stage → ℕ → List ℕ → (List Line × Progress) → Type 0
ToldOf s at text r = ToldBy s at text r.0 r.1

told_row : (s : Stage) (at : ℕ) (line text : List ℕ) (t : Taken) (r : List Line × Progress) → LineTold s line t → ToldBy t.1 (at + length line + 1) text r.0 r.1
    → ToldOf s at (line ++ 10 ∷ text) (behind_rows (option_to_list t.0) r)
told_row s at line text t r h told =
    subst (λ o. ToldOf s at (line ++ 10 ∷ text) (behind_rows (option_to_list o) r)) (sym h.gives)
    (prepend s t.1 at line text h.row r.0 r.1 h.is h.text h.leads told)

abbrev IsTold : List (List ℕ) → Type 0
IsTold parts = (s : Stage) (at : ℕ) → IsLater s → ToldOf s at (join_with_byte 10 parts) (read_lines s at parts)

by_line : (line next : List ℕ) (rest : List (List ℕ)) (s : Stage) (at : ℕ) → IsLater s → Lacks 10 line → IsTold (next ∷ rest) → (o : Option Taken) → read_line s line ≡ o
    → ToldOf s at (line ++ 10 ∷ join_with_byte 10 (next ∷ rest)) (read_lines s at (line ∷ next ∷ rest))
by_line line next rest s at l lacks below None e =
    subst (ToldOf s at (line ++ 10 ∷ join_with_byte 10 (next ∷ rest))) (sym (stops s at line (next ∷ rest) (omega arith) e))
    (record { rows = []; to = s; line = line; behind = join_with_byte 10 (next ∷ rest); all = tt; lead = refl; spelt = refl; place = omega arith; one_line = lacks; bad = e })
by_line line next rest s at l lacks below (Some t) e =
    let k = line_told s line t l e in
    subst (ToldOf s at (line ++ 10 ∷ join_with_byte 10 (next ∷ rest))) (sym (passes s at line (line ∷ next ∷ rest) (next ∷ rest) t (omega arith) refl e))
    (told_row s at line (join_with_byte 10 (next ∷ rest)) t (read_lines t.1 (at + length line + 1) (next ∷ rest)) k (below t.1 (at + length line + 1) (later s k.row t.1 k.leads)))

lines_told : (parts : List (List ℕ)) → 1 ≤ length parts → AllLack 10 parts → IsTold parts
lines_told [] some h s at l = absurd (omega arith)
lines_told (line ∷ []) some h s at l = record { all = tt; lead = refl; spelt = refl; place = omega arith; one_line = h.0 }
lines_told (line ∷ next ∷ rest) some h s at l = by_line line next rest s at l h.0 (lines_told (next ∷ rest) (omega arith) h.1) (read_line s line) refl

pub text_told : (text : List ℕ) (s : Stage) (at : ℕ) → IsLater s → ToldOf s at text (read_text s at text)
text_told text s at l =
    subst (λ t. ToldOf s at t (read_text s at text)) (parts_told 10 text) (lines_told (parts_of 10 text) (some_parts 10 text) (each_lacks 10 text) s at l)

-- rows are read, and then what stands behind them
pub read_on : (rows : List Line) (s t : Stage) (at : ℕ) (more : List ℕ) → IsLater s → AllRows rows → stages s rows ≡ Some t
    → read_text s at (rows_text rows ++ more) ≡ behind_rows rows (read_text t (at + length (rows_text rows)) more)
read_on [] s t at more l h e =
    let k = some_is s t e in
    let n : at ≡ at + 0 = omega arith in
    λ i. read_text (k i) (n i) more
read_on (r ∷ rows) s t at more l h e =
    let a = then_some (stage_behind s r) (λ t. stages t rows) t e in
    let line : List ℕ = row_text r in
    let is = line_by s line r a.0 l (row_back r h.0) a.1 in
    let cut : parts_of 10 (rows_text (r ∷ rows) ++ more) ≡ line ∷ parts_of 10 (rows_text rows ++ more) =
    ap (parts_of 10) (sym (longer line (rows_text rows) more)) ∙ part_and 10 line (rows_text rows ++ more) (row_lacks r h.0) in
    let below = read_on rows a.0 t (at + length line + 1) more (later s r a.0 a.1) h.1 a.2 in
    let n : at + length line + 1 + length (rows_text rows) ≡ at + length (rows_text (r ∷ rows)) = sizes at (length (rows_text rows)) line (rows_text rows) refl in
    ap (read_lines s at) cut
    ∙ passes s at line _ (parts_of 10 (rows_text rows ++ more)) (Some r, a.0) (some_parts 10 (rows_text rows ++ more)) refl is
    ∙ ap (behind_rows (r ∷ [])) below
    ∙ ap (λ k. behind_rows (r ∷ rows) (read_text t k more)) n
