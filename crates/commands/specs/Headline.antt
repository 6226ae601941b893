-- The whole promise of a build that was done.
use Rattle.std.specs.Prelude.{◌≡◌, List, Option, Some, None, ⊤}
use Rattle.base_io.specs.Files.{Files, Writes}
use Rattle.board_table.specs.declared.board.Board.{Board}
use Rattle.ti_txt.specs.Image.{Block, IsImage}
use Rattle.ti_txt.specs.Spelling.{text_of}
use Rattle.c_tree.specs.Meaning.{meaning}
use Rattle.c_tree.specs.declared.tree.Program.{Program}
use Rattle.program_texts.specs.Front.{IsTextOf}
use Rattle.msp430_machine.specs.State.{State}
use Rattle.msp430_machine.specs.First.{IsFirst, HoldsBlocks}
use Rattle.power_core.specs.Agreement.{Agrees}
use Rattle.power_core.specs.Enduring.{Endures}
use Rattle.job_files.specs.Boards.{IsBoardWith}
use Rattle.job_files.specs.Text.{Text}
use Rattle.build_job.specs.Build.{Build}
use Rattle.commands.specs.Words.{AskBuild}

-- The words name four files. PROG holds the text of a program and BOARD that of a board. IMAGE now holds the one spelling
-- of an image, and no other file changed. On that board, with the budget that the words ask for if they ask for one, the
-- image agrees with the plain meaning of the program, under every supply whose refills each reach the budget, and under any
-- supply at all it never resumes half-done work.
pub record IsKept (words : List Text) (old new : Files) : Type 0 where
  pub job : Build
  pub asks : AskBuild words job
  pub text : Text
  pub program_file : old job.program ≡ Some text
  pub program : Program
  pub is_program : IsTextOf text program
  pub bytes : Text
  pub board_file : old job.board ≡ Some bytes
  pub board : Board
  pub is_board : IsBoardWith job.budget bytes board
  pub image : List Block
  pub is_image : IsImage image
  -- some device can be loaded with it
  pub held : (s : State) × IsFirst s × HoldsBlocks s image
  pub written : Writes job.image (text_of image) old new
  pub agrees : Agrees (meaning program) program.nodes image board
  pub endures : Endures (meaning program) program.nodes image board

abbrev pub IsKeptTold : List Text → Option Files → Option Files → Type 0
IsKeptTold words (Some old) (Some new) = IsKept words old new
IsKeptTold words None None = ⊤
IsKeptTold words (Some old) None = ⊥
IsKeptTold words None (Some new) = ⊥
