-- The job `check`: what its files hold, what the rules say of it, and why it comes to what it answers.
use Rattle.std.specs.Prelude.{◌≡◌, ℕ, List, Option, Some}
use Rattle.base_io.specs.Files.{Files}
use Rattle.board_table.specs.declared.board.Board.{Board}
use Rattle.ti_txt.specs.Grammar.{Holds}
use Rattle.ti_txt.specs.Image.{Block}
use Rattle.certificate.specs.Rows.{Certificate}
use Rattle.certificate.specs.Texts.{BadLineAt, Holds as HoldsCertificate}
use Rattle.cert_rules.specs.Sweep.{Certified, Verdict}
use Rattle.job_files.specs.Answers.{Answer, done}
use Rattle.job_files.specs.Boards.{IsBoardWith, IsNoBoard}
use Rattle.job_files.specs.Images.{IsNoImage}
use Rattle.job_files.specs.Reads.{AreHad, ReadingCauses}
use Rattle.job_files.specs.Refusals.{Refusal, board_refused, certificate_refused, image_refused, text_refused}
use Rattle.job_files.specs.Text.{Text}
use Rattle.check_job.specs.Check.{Check, CheckTexts, check_files, texts_in}

-- ---- The texts

-- what the texts of a check hold
pub record CheckHolds : Type 0 where
  pub image : List Block
  pub certificate : Certificate
  pub board : Board

-- each text is in its grammar, and this is what they hold, under the budget that is asked for
pub record AreHeld (budget : Option ℕ) (t : CheckTexts) (held : CheckHolds) : Type 0 where
  pub image : Holds t.image held.image
  pub certificate : HoldsCertificate t.certificate held.certificate
  pub board : IsBoardWith budget t.board held.board

-- the text of this name is no certificate's: its first bad line begins there
abbrev pub IsBadCertificate : Text → Text → Text → ℕ → Type 0
IsBadCertificate name text n at = (n ≡ name) × BadLineAt text at

-- ---- The rules

-- every rule holds
abbrev pub IsCertified : CheckHolds → Type 0
IsCertified held = Certified held.image held.certificate held.board

-- the first rule that doesn't hold is this one, at this address, and these are the two values that don't fit
abbrev pub RefusesRules : CheckHolds → Refusal → Type 0
RefusesRules held (certificate_refused rule address left right) =
    Verdict held.image held.certificate held.board (Some (record { rule = rule; address = address; left = left; right = right }))
RefusesRules held r = ⊥

-- the texts hold an image, a certificate and a board, and every rule holds
pub record AreCertified (budget : Option ℕ) (t : CheckTexts) : Type 0 where
  pub held : CheckHolds
  pub are_held : AreHeld budget t held
  pub certified : IsCertified held

abbrev pub IsImageText : Text → Type 0
IsImageText text = (image : List Block) × Holds text image

abbrev pub IsCertificateText : Text → Type 0
IsCertificateText text = (c : Certificate) × HoldsCertificate text c

-- why the texts of a check are refused: the image first, then the certificate, the board, and the first rule that doesn't hold
abbrev pub RefusesCheckTexts : Check → CheckTexts → Refusal → Type 0
RefusesCheckTexts job t (image_refused fault at) = IsNoImage t.image fault at
RefusesCheckTexts job t (text_refused name at) = IsImageText t.image × IsBadCertificate job.certificate t.certificate name at
RefusesCheckTexts job t (board_refused fault key) = IsImageText t.image × IsCertificateText t.certificate × IsNoBoard t.board fault key
RefusesCheckTexts job t r = (held : CheckHolds) × AreHeld job.budget t held × RefusesRules held r

-- some texts of a check are refused so
abbrev pub RefusesCheck : Check → Refusal → Type 0
RefusesCheck job r = (t : CheckTexts) × RefusesCheckTexts job t r

-- ---- The files

-- the texts of its files are refused so
abbrev pub RefusesCheckFiles : Check → Files → Refusal → Type 0
RefusesCheckFiles job files r = (t : CheckTexts) × AreHad files (check_files job) (texts_in t) × RefusesCheckTexts job t r

-- its files are read, and hold an image that its certificate certifies on the board
abbrev pub AreCertifiedFiles : Check → Files → Type 0
AreCertifiedFiles job files = (t : CheckTexts) × AreHad files (check_files job) (texts_in t) × AreCertified job.budget t

-- why a check of these files comes to each answer
abbrev pub CheckCauses : Check → Files → Answer → Type 0
CheckCauses job files done = AreCertifiedFiles job files
CheckCauses job files a = ReadingCauses files (check_files job) (RefusesCheckFiles job files) a
