-- What the parts of a say promise each other, before it begins.
use Rattle.std.specs.Prelude.{◌≡◌, IfSome}
use Rattle.base_io.specs.Files.{Files}
use Rattle.job_files.specs.Stores.{Seen}
use Rattle.job_files.specs.Text.{Text}
use Rattle.say_job.specs.Say.{Say}
use Rattle.say_job.specs.Saying.{AreOf, Hold}
use Rattle.say_job.specs.declared.opened_say.OpenedSay.{OpenedSay}

-- what these texts hold
abbrev pub IsHeldOf : Say → Text → Text → OpenedSay → Type 0
IsHeldOf job program input s = AreOf program input s.program s.input.items × (s.steps ≡ job.steps)

-- what the files hold
abbrev pub SayHolds : Say → Files → OpenedSay → Type 0
SayHolds job files s = Hold job files s.program s.input.items × (s.steps ≡ job.steps)

-- A say that may begin: its files are read and fine.
pub record MaySay (job : Say) (old new : Seen) (say : OpenedSay) : Type 0 where
  pub held : IfSome old.files (λ files. SayHolds job files say)
  pub steps : say.steps ≡ job.steps
  pub files : new.files ≡ old.files
  pub writes : new.writes ≡ old.writes
  pub reads : new.reads ≡ old.reads
