-- What a build that was done, a run of its image and a say of its program show of each other.
use Rattle.std.specs.Prelude.{◌≡◌, ◌≢◌, ◌≤◌, ◌⊎◌, ℕ, List, All, Option, Some, Result, IfOk}
use Rattle.base_io.specs.Files.{Files}
use Rattle.base_io.specs.declared.sink.SinkFault.{SinkFault}
use Rattle.c_tree.specs.Meaning.{meaning}
use Rattle.msp430_machine.specs.declared.answer.Refill.{Refill}
use Rattle.plain_meaning.specs.Behaviour.{Begins, Going, Meaning}
use Rattle.program_texts.specs.Shown.{end_of}
use Rattle.supplied_run.specs.declared.end.End.{End}
use Rattle.supplied_run.specs.declared.end.End.TheVariants.{Ended, Trapped, PowerFault, SupplyEnded, StepLimit, MachineFault, SupplyFault}
use Rattle.commands.specs.Headline.{IsKept}
use Rattle.job_files.specs.Stores.{Seen}
use Rattle.run_job.specs.Ends.{HasRun}
use Rattle.run_job.specs.Boxes.{Box, rows_with}
use Rattle.run_job.specs.Run.{Run}
use Rattle.say_job.specs.Ends.{HasSaid}
use Rattle.job_files.specs.Answers.{Answer}
use Rattle.job_files.specs.Text.{Text}
use Rattle.say_job.specs.Say.{Say}

-- one of two lists of words begins with the other
abbrev pub AreFronts : List ℕ → List ℕ → Type 0
AreFronts a b = Begins a b ⊎ Begins b a

-- each row has at least this amount
abbrev pub Reach : ℕ → List Refill → Type 0
Reach budget rows = All (λ row. budget ≤ row.amount) rows

-- a run that ended so, beside what the plain meaning says: the words are all the same, and so is the end
abbrev pub EndsAlike : List ℕ → Meaning → End → Type 0
EndsAlike put said (Ended w) = said.outcome ≢ Going → (put ≡ said.words) × (end_of said.outcome ≡ Ended w)
EndsAlike put said (Trapped n) = said.outcome ≢ Going → (put ≡ said.words) × (end_of said.outcome ≡ Trapped n)
EndsAlike put said SupplyEnded = Unit {0}
EndsAlike put said StepLimit = Unit {0}
EndsAlike put said SupplyFault = Unit {0}
EndsAlike put said PowerFault = ⊥
EndsAlike put said (MachineFault pc why) = ⊥

-- The files of a run after a build hold the image that it wrote and the board that it was for, under the same budget.
pub record IsOfBuild (words : List Text) (old new : Files) (kept : IsKept words old new) (job : Run) (files : Files) : Type 0 where
  pub image : files job.image ≡ new kept.job.image
  pub board : files job.board ≡ old kept.job.board
  pub budget : job.budget ≡ kept.job.budget

-- The files of a say hold the program that was built.
pub record IsOfProgram (words : List Text) (old new : Files) (kept : IsKept words old new) (job : Say) (files : Files) : Type 0 where
  pub program : files job.program ≡ old kept.job.program

-- what a run put, by the trail that it came to, and what a say of so many steps put
pub record AreAlike (put : List ℕ) (told : Result End SinkFault) (said : Meaning) : Type 0 where
  pub fronts : AreFronts put said.words
  pub ends : IfOk told (EndsAlike put said)

-- A build was done. Its image was run on its board, over rows that each reach its budget, and its program was said, on the same input.
-- Then one of the two lists of words is a front of the other, and a run that tells an end of the program tells that of the say, if the
-- say tells one; no such run tells a power fault or a fault of the machine.
abbrev pub ShownAlike : Type 0
ShownAlike =
    (words : List Text) (old new : Files) (kept : IsKept words old new)
    → (run : Run) (files : Files) (was is : Seen) (before left : List Box) (sunk now : Option Text) (m n : ℕ) (a : Answer)
    → (ran : HasRun run was is before left sunk now m n a)
    → (say : Say) (others : Files) (had has : Seen) (took takes : Option Text) (i j : ℕ) (b : Answer)
    → (said : HasSaid say had has took takes i j b)
    → was.files ≡ Some files → IsOfBuild words old new kept run files
    → had.files ≡ Some others → IsOfProgram words old new kept say others → others say.input ≡ files run.input
    → Reach kept.board.budget (rows_with before ran.held.rows)
    → AreAlike ran.is_shown.shown.trail.put ran.is_shown.told (meaning said.program said.words say.steps)
