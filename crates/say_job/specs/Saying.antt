-- The job `say`: what its files hold, what the plain meaning of the program comes to on the input, and why the job comes to what it answers.
use Rattle.std.specs.Prelude.{◌≡◌, ℕ, List}
use Rattle.base_io.specs.Files.{Files}
use Rattle.job_parts.specs.Input.{SpellsInput}
use Rattle.c_tree.specs.Meaning.{meaning}
use Rattle.c_tree.specs.declared.tree.Program.{Program}
use Rattle.plain_meaning.specs.Behaviour.{Outcome, Going, EndedWith, TrappedWith}
use Rattle.program_texts.specs.Front.{IsTextOf}
use Rattle.job_files.specs.Answers.{Answer, Stop, done, step_limit, stopped, trapped}
use Rattle.job_files.specs.Inputs.{IsBadInput}
use Rattle.job_files.specs.Reads.{AreHad, ReadingCauses, two_texts}
use Rattle.job_files.specs.Refusals.{Refusal, program_refused, text_refused}
use Rattle.job_files.specs.Text.{Text}
use Rattle.program_files.specs.Programs.{IsNoProgram}
use Rattle.say_job.specs.Say.{Say, say_files}

-- ---- The files

-- the texts are those of this program and of these input words
pub record AreOf (program input : Text) (p : Program) (words : List ℕ) : Type 0 where
  pub is_text : IsTextOf program p
  pub spells : SpellsInput input words

-- the files are read, and hold this program and these input words
pub record Hold (job : Say) (files : Files) (p : Program) (words : List ℕ) : Type 0 where
  pub program : Text
  pub input : Text
  pub had : AreHad files (say_files job) (two_texts program input)
  pub are : AreOf program input p words

-- why the texts of a say are refused: the program first, and then the input
abbrev pub RefusesSayTexts : Say → Text → Text → Refusal → Type 0
RefusesSayTexts job program input (program_refused fault place) = IsNoProgram program fault place
RefusesSayTexts job program input (text_refused name at) = ((p : Program) × IsTextOf program p) × IsBadInput job.input input name at
RefusesSayTexts job program input r = ⊥

-- some texts of a say are refused so
abbrev pub RefusesSay : Say → Refusal → Type 0
RefusesSay job r = (program : Text) × (input : Text) × RefusesSayTexts job program input r

-- the texts of its files are
abbrev pub RefusesSayFiles : Say → Files → Refusal → Type 0
RefusesSayFiles job files r = (program : Text) × (input : Text) × AreHad files (say_files job) (two_texts program input) × RefusesSayTexts job program input r

-- ---- The meaning

-- the files hold a program that, on their input and in at most the steps that are asked for, comes to stand so
abbrev pub Stands : Say → Files → Outcome → Type 0
Stands job files outcome = (p : Program) × (words : List ℕ) × Hold job files p words × ((meaning p words job.steps).outcome ≡ outcome)

-- why a say of these files stops
abbrev pub SayStops : Say → Files → Stop → Type 0
SayStops job files (trapped n) = Stands job files (TrappedWith n)
SayStops job files step_limit = Stands job files Going
SayStops job files stop = ⊥

-- why a say of these files comes to each answer
abbrev pub SayCauses : Say → Files → Answer → Type 0
SayCauses job files done = (w : ℕ) × Stands job files (EndedWith w)
SayCauses job files (stopped stop) = SayStops job files stop
SayCauses job files a = ReadingCauses files (say_files job) (RefusesSayFiles job files) a
