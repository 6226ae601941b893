-- Texts of a check that are refused, in the order in which they are looked at.
use Rattle.std.proofs.Common.{◌≡◌, List, Result, Ok, Err, MatchResult, sym, subst}
use Rattle.ti_txt.specs.Grammar.{Holds}
use Rattle.ti_txt.specs.Image.{Block}
use Rattle.certificate.specs.Rows.{Certificate}
use Rattle.certificate.specs.Texts.{Holds as HoldsCertificate}
use Rattle.cert_check.specs.Checking.{IsRefusal}
use Rattle.cert_check.specs.declared.refused.Refused.{Refused}
use Rattle.cert_check.specs.declared.refused.Refused.TheVariants.{Rule as Breaks, Memory}
use Rattle.job_files.specs.Answers.{Answer, IsRefusedFor, answer_of}
use Rattle.job_files.specs.Boards.{RefusesBoard}
use Rattle.job_files.specs.Images.{RefusesImage}
use Rattle.job_files.specs.Inputs.{RefusesText}
use Rattle.job_files.specs.Refusals.{Refusal, board_refused, certificate_refused, image_refused, text_refused}
use Rattle.job_files.specs.Text.{Text}
use Rattle.job_files.specs.declared.status.Status.{Status}
use Rattle.job_files.proofs.Refusing.{refused_on}
use Rattle.check_job.specs.Check.{Check, CheckTexts}
use Rattle.check_job.specs.Checking.{AreCertified, AreHeld, CheckHolds, IsBadCertificate, IsCertified, RefusesCheckTexts, RefusesRules}
use Rattle.check_job.specs.InCode.{answer_of_rules}

module _ (job : Check) (t : CheckTexts) where
  refused_image : (r : Refusal) → RefusesImage t.image r → RefusesCheckTexts job t r
  refused_image (image_refused k at) h = h
  refused_image r h = absurd h

  refused_certificate : (image : List Block) → Holds t.image image → (r : Refusal) → RefusesText (IsBadCertificate job.certificate t.certificate) r → RefusesCheckTexts job t r
  refused_certificate image is (text_refused n at) h = ((image, is), h)
  refused_certificate image is r h = absurd h

  refused_board : (image : List Block) → Holds t.image image → (c : Certificate) → HoldsCertificate t.certificate c → (r : Refusal) → RefusesBoard t.board r → RefusesCheckTexts job t r
  refused_board image is c spells (board_refused k key) h = ((image, is), (c, spells), h)
  refused_board image is c spells r h = absurd h

  refused_rules : (held : CheckHolds) → AreHeld job.budget t held → (r : Refusal) → RefusesRules held r → RefusesCheckTexts job t r
  refused_rules held are (certificate_refused rule address left right) h = (held, are, h)
  refused_rules held are r h = absurd h

  -- ---- The same of texts that are these, unless there is no memory

  pub image_refuses : (image : Text) (a : Answer) → image ≡ t.image → IsRefusedFor (RefusesImage image) a → IsRefusedFor (RefusesCheckTexts job t) a
  image_refuses image a e h = refused_on (RefusesImage t.image) (RefusesCheckTexts job t) refused_image a (subst (λ x. IsRefusedFor (RefusesImage x) a) e h)

  pub certificate_refuses : (image certificate : Text) (a : Answer) → image ≡ t.image → certificate ≡ t.certificate → (blocks : List Block) → Holds image blocks
      → IsRefusedFor (RefusesText (IsBadCertificate job.certificate certificate)) a → IsRefusedFor (RefusesCheckTexts job t) a
  certificate_refuses image certificate a e f blocks is h =
      refused_on (RefusesText (IsBadCertificate job.certificate t.certificate)) (RefusesCheckTexts job t)
      (refused_certificate blocks (subst (λ x. Holds x blocks) e is)) a
      (subst (λ x. IsRefusedFor (RefusesText (IsBadCertificate job.certificate x)) a) f h)

  pub board_refuses : (image certificate board : Text) (a : Answer) → image ≡ t.image → certificate ≡ t.certificate → board ≡ t.board → (blocks : List Block) (c : Certificate) → Holds image blocks
      → HoldsCertificate certificate c → IsRefusedFor (RefusesBoard board) a → IsRefusedFor (RefusesCheckTexts job t) a
  board_refuses image certificate board a e f g blocks c is spells h =
      refused_on (RefusesBoard t.board) (RefusesCheckTexts job t)
      (refused_board blocks (subst (λ x. Holds x blocks) e is) c (subst (λ x. HoldsCertificate x c) f spells)) a
      (subst (λ x. IsRefusedFor (RefusesBoard x) a) g h)

  rules_refuse : (held : CheckHolds) → AreHeld job.budget t held → (a : Answer) → IsRefusedFor (RefusesRules held) a → IsRefusedFor (RefusesCheckTexts job t) a
  rules_refuse held are a h = refused_on (RefusesRules held) (RefusesCheckTexts job t) (refused_rules held are) a h

  -- what the rules come to is what the texts come to
  pub rules_told : {T : Type 0} (held : CheckHolds) → AreHeld job.budget t held → (r : Result T Status) → MatchResult r (λ x. IsCertified held) (λ s. IsRefusedFor (RefusesRules held) (answer_of s))
      → MatchResult r (λ x. AreCertified job.budget t) (λ s. IsRefusedFor (RefusesCheckTexts job t) (answer_of s))
  rules_told held are (Ok x) h = record { held = held; are_held = are; certified = h }
  rules_told held are (Err s) h = rules_refuse held are (answer_of s) h

-- what the rules answer is told
pub rules_answer : (held : CheckHolds) (x : Refused) (a : Answer) → IsRefusal held.image held.certificate held.board x → a ≡ answer_of_rules x → IsRefusedFor (RefusesRules held) a
rules_answer held (Breaks rule address left right) a h e = subst (IsRefusedFor (RefusesRules held)) (sym e) h.0
rules_answer held Memory a h e = subst (IsRefusedFor (RefusesRules held)) (sym e) tt
