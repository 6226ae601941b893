-- What the words of the command line ask for: a build, a check, a run, a say, a plan, or a job that isn't built yet.
use Rattle.std.specs.Prelude.{◌≡◌, ℕ, List, Option, Some, Bool, true, false, map}
use denote.Bor.{Bor}
use Rattle.job_parts.specs.Asked.{Request, Task, asked, build, check, plan, run, say}
use Rattle.job_files.specs.Text.{Text}
use Rattle.build_job.specs.Build.{Build}
use Rattle.check_job.specs.Check.{Check}
use Rattle.plan_job.specs.Plan.{Plan}
use Rattle.run_job.specs.Run.{Run}
use Rattle.say_job.specs.Say.{Say}

-- the words as the call is lent them
abbrev pub words_in : List (Bor Text) → List Text
words_in words = map (λ word. word.now) words

-- the jobs that are built
abbrev pub is_built : Task → Bool
is_built (build program board image certificate) = true
is_built (check image certificate board) = true
is_built (run image board input supplies) = true
is_built (say program input) = true
is_built (plan program board) = true
is_built task = false

-- the words ask for a job that isn't built
pub record AskUnbuilt (words : List Text) : Type 0 where
  pub request : Request
  pub asks : asked words ≡ Some request
  pub unbuilt : is_built request.task ≡ false

-- the words ask for this build, with any number of steps, which a build doesn't use
pub record AskBuild (words : List Text) (job : Build) : Type 0 where
  pub steps : ℕ
  pub asks : asked words ≡ Some (record { task = build job.program job.board job.image job.certificate; budget = job.budget; steps = steps })

-- the words ask for this check, with any number of steps, which a check doesn't use
pub record AskCheck (words : List Text) (job : Check) : Type 0 where
  pub steps : ℕ
  pub asks : asked words ≡ Some (record { task = check job.image job.certificate job.board; budget = job.budget; steps = steps })

-- the words ask for this plan, with any number of steps, which a plan doesn't use
pub record AskPlan (words : List Text) (job : Plan) : Type 0 where
  pub steps : ℕ
  pub asks : asked words ≡ Some (record { task = plan job.program job.board; budget = job.budget; steps = steps })

-- the words ask for this run
pub record AskRun (words : List Text) (job : Run) : Type 0 where
  pub asks : asked words ≡ Some (record { task = run job.image job.board job.input job.supplies; budget = job.budget; steps = job.steps })

-- the words ask for this say, with any budget, which a say doesn't use
pub record AskSay (words : List Text) (job : Say) : Type 0 where
  pub budget : Option ℕ
  pub asks : asked words ≡ Some (record { task = say job.program job.input; budget = budget; steps = job.steps })
