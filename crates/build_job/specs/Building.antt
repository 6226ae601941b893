-- The job `build`: what its files hold, and why it comes to what it answers.
use Rattle.std.specs.Prelude.{◌≡◌, ℕ, List, Option}
use Rattle.base_io.specs.Files.{Files}
use Rattle.board_table.specs.declared.board.Board.{Board}
use Rattle.ti_txt.specs.Image.{Block}
use Rattle.c_tree.specs.declared.tree.Program.{Program}
use Rattle.lowered_graphs.specs.GraphOf.{graph_of}
use Rattle.emit_each.specs.Emitting.{IsEmitted}
use Rattle.job_files.specs.Answers.{Answer, done, write_fault}
use Rattle.job_files.specs.Boards.{IsBoardWith, IsNoBoard}
use Rattle.job_files.specs.Reads.{AreHad, ReadingCauses, two_texts}
use Rattle.job_files.specs.Refusals.{Refusal, board_refused, form_not_built, program_refused}
use Rattle.job_files.specs.Text.{Text}
use Rattle.program_files.specs.Programs.{IsNoProgram}
use Rattle.build_job.specs.Build.{Build, build_files}
use Rattle.build_job.specs.Images.{RefusesGraph}
use Rattle.build_job.specs.Programs.{IsLoneText, IsOtherText}

-- ---- The texts

-- a program whose `main` calls no function of it, and a board
pub record AreGiven (wanted : Option ℕ) (text bytes : Text) (p : Program) (board : Board) : Type 0 where
  pub program : IsLoneText text p
  pub board_file : IsBoardWith wanted bytes board

-- and the image of its graph on that board
pub record IsFine (wanted : Option ℕ) (text bytes : Text) (p : Program) (board : Board) (image : List Block) : Type 0 where
  pub given : AreGiven wanted text bytes p board
  pub emitted : IsEmitted board (graph_of p) image

-- Why two texts are refused under the budget that is asked for: the program first, then the board, and then what the program's graph needs
-- on it.
abbrev pub RefusesBuildTexts : Option ℕ → Text → Text → Refusal → Type 0
RefusesBuildTexts wanted text bytes (program_refused fault place) = IsNoProgram text fault place
RefusesBuildTexts wanted text bytes form_not_built = IsOtherText text
RefusesBuildTexts wanted text bytes (board_refused kind key) = ((p : Program) × IsLoneText text p) × IsNoBoard bytes kind key
RefusesBuildTexts wanted text bytes r = (p : Program) × (board : Board) × AreGiven wanted text bytes p board × RefusesGraph board (graph_of p) r

-- some texts of a build are refused so
abbrev pub RefusesBuild : Build → Refusal → Type 0
RefusesBuild job r = (text : Text) × (bytes : Text) × RefusesBuildTexts job.budget text bytes r

-- ---- The files

-- the texts of its files are refused so
abbrev pub RefusesBuildFiles : Build → Files → Refusal → Type 0
RefusesBuildFiles job files r = (text : Text) × (bytes : Text) × AreHad files (build_files job) (two_texts text bytes) × RefusesBuildTexts job.budget text bytes r

-- what its files hold, and the image
pub record AreFine (job : Build) (files : Files) : Type 0 where
  pub text : Text
  pub bytes : Text
  pub program : Program
  pub board : Board
  pub image : List Block
  pub read : AreHad files (build_files job) (two_texts text bytes)
  pub fine : IsFine job.budget text bytes program board image

-- why a build of these files comes to each answer
abbrev pub BuildCauses : Build → Files → Answer → Type 0
BuildCauses job files done = AreFine job files
BuildCauses job files (write_fault name) = (name ≡ job.image) × AreFine job files
BuildCauses job files a = ReadingCauses files (build_files job) (RefusesBuildFiles job files) a
