-- What holds of the causes themselves.
use Rattle.std.specs.Prelude.{◌≡◌, List}
use Rattle.base_io.specs.Files.{Files}
use Rattle.job_files.specs.Answers.{Answer, IsDecided}
use Rattle.job_files.specs.Text.{Text}
use Rattle.run_job.specs.Boxes.{Box}
use Rattle.commands.specs.Causes.{HasCause}

-- words, files and boxes decide one answer at most
abbrev pub DecideOne : Type 0
DecideOne = (words : List Text) (files : Files) (boxes : List Box) (a b : Answer) → IsDecided a → IsDecided b → HasCause words files boxes a → HasCause words files boxes b → a ≡ b
