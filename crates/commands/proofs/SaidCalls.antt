-- What a say comes to is what the job of the words comes to, and the call.
use Rattle.std.proofs.Common.{◌≡◌, ℕ, List, Option, Result, Ok, Err, MatchResult, refl, sym, subst, inr}
use Rattle.std.specs.Prelude.{string_bytes}
use Rattle.base_io.specs.declared.memory.Memory.{Memory}
use Rattle.job_parts.specs.Asked.{Task, say}
use Rattle.commands.specs.declared.call.Beginning.TheVariants.{Ends, Runs, Says}
use Rattle.job_files.specs.Answers.{Answer, answer_of}
use Rattle.job_files.specs.Output.{Sunk}
use Rattle.job_files.specs.Stores.{IsUnwritten, Seen}
use Rattle.job_files.specs.Text.{Text}
use Rattle.job_files.proofs.Telling.{map_told}
use Rattle.run_job.specs.Boxes.{Box}
use Rattle.say_job.specs.Ends.{IsSaid, SayEnds}
use Rattle.say_job.specs.Opening.{MaySay, SayHolds}
use Rattle.say_job.specs.Say.{Say}
use Rattle.say_job.specs.Saying.{Hold}
use Rattle.say_job.specs.declared.opened_say.OpenedSay.{OpenedSay}
use Rattle.commands.specs.Beginnings.{MatchBeginning, Speaks, TaskGivesUp, TaskRuns, TaskSays}
use Rattle.commands.specs.Call.{Called, TaskEnds}
use Rattle.commands.specs.declared.call.Beginning.{Beginning}

module _ (job : Say) (budget : Option ℕ) (old new : Seen) (before : List Box) where
  abbrev pub SayBegins : Result Beginning Memory → Type 0
  SayBegins r =
      MatchResult r
      (λ b. MatchBeginning b (λ ending. SayEnds job old new (answer_of ending.status) (string_bytes ending.line)) (λ opened. ⊥) (λ opened. MaySay job old new opened))
      (λ m. IsUnwritten old new)

  abbrev pub TaskBegins : Task → Result Beginning Memory → Type 0
  TaskBegins t r =
      MatchResult r
      (λ b. MatchBeginning b (λ ending. TaskEnds t budget job.steps old new before before (answer_of ending.status) (string_bytes ending.line))
      (λ opened. TaskRuns t budget job.steps old new before before opened) (λ opened. TaskSays t job.steps old new before before opened))
      (λ m. TaskGivesUp t old new before before)

  begins : (r : Result Beginning Memory) → SayBegins r → TaskBegins (say job.program job.input) r
  begins (Ok (Ends ending)) h = (h, refl)
  begins (Ok (Runs opened)) h = absurd h
  begins (Ok (Says opened)) h = (h, refl)
  begins (Err m) h = (h, refl)

  -- the boxes are as they were
  pub say_comes : (t : Task) → t ≡ say job.program job.input → (r : Result Beginning Memory) → SayBegins r → TaskBegins t r
  say_comes t is r h = subst (λ (x : Task). TaskBegins x r) (sym is) (begins r h)

-- a say that may begin, and what was put of it
pub said_call : (words : List Text) (old new : Seen) (before now : List Box) (opened : OpenedSay) (sunk after : Sunk) (a : Answer) → Speaks words old new before now opened
    → IsSaid opened.program opened.input.items opened.steps sunk.told after.told sunk.faults after.faults a → Called words old new before now sunk after a
said_call words old new before now opened sunk after a (job, asks, may, boxes) h = inr (inr (record {
  job = job;
  asks = asks;
  boxes = boxes;
  has_said = record {
    program = opened.program;
    words = opened.input.items;
    held = map_told old.files (λ f. SayHolds job f opened) (λ f. Hold job f opened.program opened.input.items) (λ f held. held.0) may.held;
    files = may.files;
    writes = may.writes;
    reads = may.reads;
    said = subst (λ n. IsSaid opened.program opened.input.items n sunk.told after.told sunk.faults after.faults a) may.steps h;
  };
}))
