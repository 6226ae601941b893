-- A run as it is asked for, with its files and their texts.
use Rattle.std.specs.Prelude.{ℕ, List, ◌∷◌, map, Option}
use Rattle.job_files.specs.Reads.{Wanted, most_board, most_image, most_input, wanted}
use Rattle.job_files.specs.Text.{Text}

-- A run: its files, the budget that takes the place of the board's, if one is asked for, and the most instructions.
pub record Run : Type 0 where
  pub image : Text
  pub board : Text
  pub input : Text
  pub supplies : List Text
  pub budget : Option ℕ
  pub steps : ℕ

-- the files of a run, in the order of its words
abbrev pub run_files : Run → List Wanted
run_files job = wanted most_image job.image ∷ wanted most_board job.board ∷ wanted most_input job.input ∷ map (wanted most_input) job.supplies

-- the texts of the files of a run
pub record RunTexts : Type 0 where
  pub image : Text
  pub board : Text
  pub input : Text
  pub supplies : List Text

abbrev pub texts_in : RunTexts → List Text
texts_in t = t.image ∷ t.board ∷ t.input ∷ t.supplies
