-- The rows read so far are the first of a certificate's.
use Rattle.std.proofs.Common.{◌≡◌, ◌∙◌, ◌++◌, ℕ, List, [], Some, refl, sym, ap, subst}
use Rattle.certificate.specs.declared.state.Stage.{Stage}
use Rattle.certificate.specs.declared.state.Stage.TheVariants as stage
use Rattle.certificate.specs.Rows.{Certificate}
use Rattle.certificate.specs.Line.{Line, rows_of}
use Rattle.certificate.specs.Grammar.{IsCertificate}
use Rattle.certificate.specs.Texts.{Holds}
use Rattle.certificate.specs.Reading.{IsGoing, Progress, fed, going, read_text, stopped}
use Rattle.certificate.proofs.Order.{AllRows, ending, ending_leads, ending_rows, rows_append, stages, stages_append, stages_later}
use Rattle.certificate.proofs.Told.{ToldBy, text_told}
use Rattle.certificate.proofs.Exact.{alone, cases_of, first, holds_read, other, pieces, read_all, rows_held}

pub first_of : (front more : List ℕ) (c : Certificate) → Holds (front ++ more) c → (rest : List Line) × ((read_all front).0 ++ rest ≡ rows_of c)
first_of front more c h = ((fed (read_all front).1 more).0, ap (λ r. r.0) (sym (pieces front more) ∙ holds_read (front ++ more) c h))

-- a certificate that begins with the rows
abbrev pub FirstOf : List Line → Type 0
FirstOf rows = (c : Certificate) × (rest : List Line) × IsCertificate c × (rows ++ rest ≡ rows_of c)

first_by : (rows : List Line) (t : Stage) → AllRows rows → stages stage.Budget rows ≡ Some t → FirstOf rows
first_by rows t all lead =
    let more : List Line = ending t in
    let h = rows_held (rows ++ more) (rows_append rows more all (ending_rows t)) (stages_append rows more stage.Budget t lead ∙ ending_leads t (stages_later rows stage.Budget t tt lead)) in
    (h.whole, more, h.holds.is, h.list)

first_going : (more : List ℕ) (rows : List Line) (p : Progress) → ToldBy stage.Budget 17 more rows p → IsGoing p → FirstOf rows
first_going more rows (going t line k) h g = first_by rows t h.all h.lead
first_going more rows (stopped k) h g = absurd g

first_none : FirstOf []
first_none = first_by [] stage.Budget tt refl

-- while no line was bad
pub first_told : (text : List ℕ) → IsGoing (read_all text).1 → FirstOf (read_all text).0
first_told text g = elim (cases_of text) [
  | alone l r ↦ subst (λ r. FirstOf r.0) (sym r) first_none
  | other line behind is l none r ↦ absurd (subst (λ r. IsGoing r.1) r g)
  | first more is r ↦
      let told = first_going more (read_text stage.Budget 17 more).0 (read_text stage.Budget 17 more).1 (text_told more stage.Budget 17 tt) (subst (λ r. IsGoing r.1) r g) in
      subst (λ r. FirstOf r.0) (sym r) told
]
