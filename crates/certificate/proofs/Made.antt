-- What a reader of whole texts answers.
use Rattle.std.proofs.Common.{◌≡◌, ◌∙◌, ◌≢◌, ℕ, List, [], None, refl, sym, ap, subst}
use Rattle.std.specs.Prelude.{Result, Ok, Err, MatchResult, IfOk, IfErr}
use Rattle.certificate.specs.declared.cert.Cert.{Cert}
use Rattle.certificate.specs.declared.fault.CertText.{CertText}
use Rattle.certificate.specs.declared.fault.CertText.TheVariants as fault
use Rattle.certificate.specs.Rows.{Certificate}
use Rattle.certificate.specs.Line.{Line, rows_of}
use Rattle.certificate.specs.Appending.{RowsRead}
use Rattle.certificate.specs.Reading.{fault_at_end, fed, nothing_read}
use Rattle.certificate.specs.Texts.{BadLineAt, Holds, IsFaultOf}
use Rattle.certificate.specs.Whole.{certificate_of}
use Rattle.certificate.proofs.Marks.{none_not, some_is}
use Rattle.certificate.proofs.Exact.{HeldBy, bad_only, bad_told, fault_held, holds_read, no_end}

abbrev pub Made : List Line → Result Cert CertText → Type 0
Made rows r = MatchResult r (λ cert. (c : Certificate) → rows ≡ rows_of c → certificate_of cert ≡ c) (λ f. f ≡ fault.Memory)

-- the rows of a text that has ended
abbrev pub Ended : List ℕ → List Line → Type 0
Ended text rows = (rows ≡ (fed nothing_read text).0) × (fault_at_end (fed nothing_read text).1 ≡ None)

pub made_holds : (r : Result Cert CertText) (rows : List Line) (text : List ℕ) → Made rows r → Ended text rows → IfOk r (λ cert. Holds text (certificate_of cert))
made_holds (Ok cert) rows text m e = let h = fault_held text e.1 in subst (Holds text) (sym (m h.whole (e.0 ∙ h.list))) h.holds
made_holds (Err f) rows text m e = tt

pub made_bad : (r : Result Cert CertText) (rows : List Line) (text : List ℕ) → Made rows r → IfErr r (λ f. IsFaultOf text f)
made_bad (Ok cert) rows text m = tt
made_bad (Err f) rows text m = subst (IsFaultOf text) (sym m) tt

pub made_only : (r : Result Cert CertText) (rows : List Line) (text : List ℕ) → Made rows r → Ended text rows → (c : Certificate) → Holds text c → MatchResult r (λ cert. certificate_of cert ≡ c) (λ f. f ≡ fault.Memory)
made_only (Ok cert) rows text m e c h = m c (e.0 ∙ ap (λ r. r.0) (holds_read text c h))
made_only (Err f) rows text m e c h = m

pub made_line : (r : Result Cert CertText) (rows : List Line) (text : List ℕ) → Ended text rows → (at : ℕ) → BadLineAt text at → MatchResult r (λ cert. ⊥) (λ f. f ≢ fault.Memory → f ≡ fault.BadLine at)
made_line r rows text e at b = none_not at (sym e.1 ∙ bad_only text at b)

-- the fault of a text
abbrev pub Faulty : List ℕ → CertText → Type 0
Faulty text f = RowsRead {R = Unit {0}} (λ u. []) (Err f) (fed nothing_read text)

pub faulty_bad : (f : CertText) (text : List ℕ) → Faulty text f → IsFaultOf text f
faulty_bad (fault.BadLine at) text e = bad_told text at e
faulty_bad fault.Memory text e = tt

pub faulty_only : (f : CertText) (text : List ℕ) → Faulty text f → (c : Certificate) → Holds text c → f ≡ fault.Memory
faulty_only (fault.BadLine at) text e c h = absurd (no_end text at c e h)
faulty_only fault.Memory text e c h = refl

pub faulty_line : (f : CertText) (text : List ℕ) → Faulty text f → (at : ℕ) → BadLineAt text at → f ≢ fault.Memory → f ≡ fault.BadLine at
faulty_line (fault.BadLine k) text e at b n = ap (λ k. fault.BadLine k) (some_is k at (sym e ∙ bad_only text at b))
faulty_line fault.Memory text e at b n = absurd (n refl)

-- what is made of the rows of a certificate's text keeps the rules
pub is_ended : (text : List ℕ) (rows : List Line) → Ended text rows → HeldBy text rows
is_ended text rows e = let h = fault_held text e.1 in record { whole = h.whole; holds = h.holds; list = e.0 ∙ h.list }
