-- A check as it is asked for, with its files and their texts.
use Rattle.std.specs.Prelude.{ℕ, List, [], ◌∷◌, Option}
use Rattle.job_files.specs.Reads.{Wanted, most_board, most_certificate, most_image, wanted}
use Rattle.job_files.specs.Text.{Text}

-- A check: its files, and the budget that takes the place of the board's, if one is asked for.
pub record Check : Type 0 where
  pub image : Text
  pub certificate : Text
  pub board : Text
  pub budget : Option ℕ

-- the files of a check, in the order of its words
abbrev pub check_files : Check → List Wanted
check_files job = wanted most_image job.image ∷ wanted most_certificate job.certificate ∷ wanted most_board job.board ∷ []

-- the texts of the files of a check
pub record CheckTexts : Type 0 where
  pub image : Text
  pub certificate : Text
  pub board : Text

abbrev pub texts_in : CheckTexts → List Text
texts_in t = t.image ∷ t.certificate ∷ t.board ∷ []
