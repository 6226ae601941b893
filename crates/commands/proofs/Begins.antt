-- What the parts of a call come to is what the call comes to.
use Rattle.std.proofs.Common.{◌≡◌, ◌∙◌, ℕ, false, true≢false, List, [], Option, None, Result, Ok, Err, MatchResult, refl, sym, ap, subst, inl, inr, arith}
use Rattle.std.specs.Prelude.{string_bytes}
use Rattle.base_io.specs.declared.memory.Memory.{Memory}
use Rattle.job_parts.specs.Asked.{Request, Task, asked, build, check, run, say, plan, gen}
use Rattle.msp430_machine.specs.Views.{state_of}
use Rattle.commands.specs.declared.call.Beginning.TheVariants.{Ends, Runs, Says}
use Rattle.job_files.specs.Answers.{Answer, answer_of, line_of, no_memory, not_built, usage}
use Rattle.job_files.specs.Output.{Puts, Sunk}
use Rattle.job_files.specs.Stores.{IsUnwritten, Seen}
use Rattle.job_files.specs.Text.{Text}
use Rattle.build_job.specs.Build.{Build}
use Rattle.build_job.specs.Ends.{BuildEnds}
use Rattle.check_job.specs.Check.{Check}
use Rattle.check_job.specs.Ends.{CheckEnds}
use Rattle.plan_job.specs.Ends.{PlanEnds}
use Rattle.plan_job.specs.Plan.{Plan}
use Rattle.run_job.specs.Boxes.{Box, FitBoxes}
use Rattle.run_job.specs.Ends.{IsShown, RunEnds, RunRefuses}
use Rattle.run_job.specs.Opening.{GivesUp, MayRun}
use Rattle.run_job.specs.Run.{Run}
use Rattle.run_job.specs.declared.opened_run.OpenedRun.{OpenedRun}
use Rattle.run_job.proofs.Opening.{has_run_of}
use Rattle.commands.specs.Beginnings.{FitsBoxes, MatchBeginning, Opens, Speaks, TaskGivesUp, TaskRuns, TaskSays, WordsGiveUp}
use Rattle.commands.specs.Call.{Called, ComesTo, IsRefusedAtOnce, TaskEnds}
use Rattle.commands.specs.Refusing.{IsRefusal}
use Rattle.commands.specs.Words.{is_built}
use Rattle.commands.specs.declared.call.Beginning.{Beginning}
use Rattle.commands.proofs.Dispatch.{refused_partly}

module _ (words : List Text) (old new : Seen) (before now : List Box) (sunk after : Sunk) (a : Answer) where
  -- the line of an ending was put
  pub line_call : (came : Answer) (line : Text) → ComesTo (asked words) old new before now came line → Puts came line sunk after a → Called words old new before now sunk after a
  line_call came line comes puts = inl (record { came = came; line = line; comes = inl comes; puts = inl puts })

  -- there was no memory, and the line of that was put
  pub memory_call : WordsGiveUp words old new before now → Puts no_memory (line_of [] no_memory) sunk after a → Called words old new before now sunk after a
  memory_call gives puts = inl (record {
    came = no_memory;
    line = line_of [] no_memory;
    comes = inr (record { answer = refl; kept = gives.0; boxes = gives.1; tells = refl });
    puts = inl puts;
  })

  -- a run that may begin, and what was shown of it
  pub run_call : (mid : List Box) (opened : OpenedRun) → Opens words old new before mid opened
      → IsShown opened.board opened.input.items opened.steps (state_of opened.core.machine) mid now sunk.told after.told sunk.faults after.faults a
      → Called words old new before now sunk after a
  run_call mid opened (job, asks, may) shown = inr (inl (record {
    job = job;
    asks = asks;
    has_run = has_run_of job old new before mid now opened sunk.told after.told sunk.faults after.faults a may shown;
  }))

-- words without a reading
pub usage_comes : (words : List Text) (old : Seen) (before : List Box) (a : Answer) (line : Text) → asked words ≡ None → a ≡ usage → line ≡ line_of [] usage
    → ComesTo (asked words) old old before before a line
usage_comes words old before a line e is tells =
    subst (λ (o : Option Request). ComesTo o old old before before a line) (sym e)
    (record { answer = is; files = refl; writes = refl; reads = refl; tells = tells ∙ ap (λ (x : Answer). line_of [] x) (sym is) }, refl)

-- a refused run, whose line is told
pub run_ends : (job : Run) (old new : Seen) (before now : List Box) (refusal a : Answer) (line : Text) → RunRefuses job old new before now refusal → a ≡ refusal → line ≡ line_of [] refusal
    → RunEnds job old new before now a line
run_ends job old new before now refusal a line h is tells = record {
  refuses = subst (λ (x : Answer). RunRefuses job old new before now x) (sym is) h;
  tells = tells ∙ ap (λ (x : Answer). line_of [] x) (sym is);
}

-- what a task comes to before anything is put
abbrev pub TaskBegins : Task → Option ℕ → ℕ → Seen → Seen → List Box → List Box → Result Beginning Memory → Type 0
TaskBegins t budget steps old new before now r =
    MatchResult r
    (λ b. MatchBeginning b (λ ending. TaskEnds t budget steps old new before now (answer_of ending.status) (string_bytes ending.line))
    (λ opened. TaskRuns t budget steps old new before now opened) (λ opened. TaskSays t steps old new before now opened))
    (λ m. TaskGivesUp t old new before now)

-- nothing was touched
untouched : (old : Seen) → IsUnwritten old old
untouched old = record { files = refl; writes = refl; reads = omega arith }

pub gives_up : (words : List Text) (old : Seen) (before : List Box) → WordsGiveUp words old old before before
gives_up words old before = (untouched old, inl refl)

task_gives_up : (t : Task) (old : Seen) (before : List Box) → TaskGivesUp t old old before before
task_gives_up (run i b n s) old before = (untouched old, record { rows = []; are = refl })
task_gives_up (build p b i c) old before = (untouched old, refl)
task_gives_up (check i c b) old before = (untouched old, refl)
task_gives_up (say p i) old before = (untouched old, refl)
task_gives_up (plan p b) old before = (untouched old, refl)
task_gives_up (gen n m b) old before = (untouched old, refl)

-- a refusal of words without a reading
pub usage_begins : (words : List Text) (old : Seen) (before : List Box) → asked words ≡ None → (r : Result Beginning Memory) → IsRefusal usage r
    → MatchResult r
    (λ b. MatchBeginning b (λ ending. ComesTo (asked words) old old before before (answer_of ending.status) (string_bytes ending.line))
    (λ opened. Opens words old old before before opened) (λ opened. Speaks words old old before before opened))
    (λ m. WordsGiveUp words old old before before)
usage_begins words old before e (Ok (Ends ending)) h = usage_comes words old before (answer_of ending.status) (string_bytes ending.line) e h.0 h.1
usage_begins words old before e (Ok (Runs opened)) h = absurd h
usage_begins words old before e (Ok (Says opened)) h = absurd h
usage_begins words old before e (Err m) h = gives_up words old before

-- a refusal of a job that isn't built
at_once : (t : Task) (budget : Option ℕ) (steps : ℕ) (old : Seen) (before : List Box) (a : Answer) (line : Text) → is_built t ≡ false
    → IsRefusedAtOnce not_built old old a line → TaskEnds t budget steps old old before before a line
at_once (plan program board) budget steps old before a line e h = absurd (true≢false e)
at_once (gen seed size board) budget steps old before a line e h = (h, refl)
at_once (build program board image certificate) budget steps old before a line e h = absurd (true≢false e)
at_once (check image certificate board) budget steps old before a line e h = absurd (true≢false e)
at_once (run image board input supplies) budget steps old before a line e h = absurd (true≢false e)
at_once (say program input) budget steps old before a line e h = absurd (true≢false e)

pub unbuilt_begins : (t : Task) (budget : Option ℕ) (steps : ℕ) (old : Seen) (before : List Box) → is_built t ≡ false → (r : Result Beginning Memory) → IsRefusal not_built r
    → TaskBegins t budget steps old old before before r
unbuilt_begins t budget steps old before e (Ok (Ends ending)) h =
    at_once t budget steps old before (answer_of ending.status) (string_bytes ending.line) e
    (record { answer = h.0; files = refl; writes = refl; reads = refl; tells = h.1 ∙ ap (λ (x : Answer). line_of [] x) (sym h.0) })
unbuilt_begins t budget steps old before e (Ok (Runs opened)) h = absurd h
unbuilt_begins t budget steps old before e (Ok (Says opened)) h = absurd h
unbuilt_begins t budget steps old before e (Err m) h = task_gives_up t old before

-- a build
module _ (job : Build) (steps : ℕ) (old new : Seen) (before : List Box) where
  abbrev pub BuildBegins : Result Beginning Memory → Type 0
  BuildBegins r =
      MatchResult r
      (λ b. MatchBeginning b (λ ending. BuildEnds job old new (answer_of ending.status) (string_bytes ending.line)) (λ opened. ⊥) (λ opened. ⊥))
      (λ m. IsUnwritten old new)

  build_task : (r : Result Beginning Memory) → BuildBegins r → TaskBegins (build job.program job.board job.image job.certificate) job.budget steps old new before before r
  build_task (Ok (Ends ending)) h = (h, refl)
  build_task (Ok (Runs opened)) h = absurd h
  build_task (Ok (Says opened)) h = absurd h
  build_task (Err m) h = (h, refl)

  pub build_comes : (t : Task) → t ≡ build job.program job.board job.image job.certificate → (r : Result Beginning Memory) → BuildBegins r → TaskBegins t job.budget steps old new before before r
  build_comes t is r h = subst (λ (x : Task). TaskBegins x job.budget steps old new before before r) (sym is) (build_task r h)

-- a check
module _ (job : Check) (steps : ℕ) (old new : Seen) (before : List Box) where
  abbrev pub CheckBegins : Result Beginning Memory → Type 0
  CheckBegins r =
      MatchResult r
      (λ b. MatchBeginning b (λ ending. CheckEnds job old new (answer_of ending.status) (string_bytes ending.line)) (λ opened. ⊥) (λ opened. ⊥))
      (λ m. IsUnwritten old new)

  check_task : (r : Result Beginning Memory) → CheckBegins r → TaskBegins (check job.image job.certificate job.board) job.budget steps old new before before r
  check_task (Ok (Ends ending)) h = (h, refl)
  check_task (Ok (Runs opened)) h = absurd h
  check_task (Ok (Says opened)) h = absurd h
  check_task (Err m) h = (h, refl)

  pub check_comes : (t : Task) → t ≡ check job.image job.certificate job.board → (r : Result Beginning Memory) → CheckBegins r → TaskBegins t job.budget steps old new before before r
  check_comes t is r h = subst (λ (x : Task). TaskBegins x job.budget steps old new before before r) (sym is) (check_task r h)

-- a plan
module _ (job : Plan) (steps : ℕ) (old new : Seen) (before : List Box) where
  abbrev pub PlanBegins : Result Beginning Memory → Type 0
  PlanBegins r =
      MatchResult r
      (λ b. MatchBeginning b (λ ending. PlanEnds job old new (answer_of ending.status) (string_bytes ending.line)) (λ opened. ⊥) (λ opened. ⊥))
      (λ m. IsUnwritten old new)

  plan_task : (r : Result Beginning Memory) → PlanBegins r → TaskBegins (plan job.program job.board) job.budget steps old new before before r
  plan_task (Ok (Ends ending)) h = (h, refl)
  plan_task (Ok (Runs opened)) h = absurd h
  plan_task (Ok (Says opened)) h = absurd h
  plan_task (Err m) h = (h, refl)

  pub plan_comes : (t : Task) → t ≡ plan job.program job.board → (r : Result Beginning Memory) → PlanBegins r → TaskBegins t job.budget steps old new before before r
  plan_comes t is r h = subst (λ (x : Task). TaskBegins x job.budget steps old new before before r) (sym is) (plan_task r h)

-- a run
module _ (job : Run) (old new : Seen) (before now : List Box) where
  abbrev pub RunBegins : Result Beginning Memory → Type 0
  RunBegins r =
      MatchResult r
      (λ b. MatchBeginning b (λ ending. RunEnds job old new before now (answer_of ending.status) (string_bytes ending.line)) (λ opened. MayRun job old new before now opened) (λ opened. ⊥))
      (λ m. GivesUp old new before now)

  run_task : (r : Result Beginning Memory) → RunBegins r → TaskBegins (run job.image job.board job.input job.supplies) job.budget job.steps old new before now r
  run_task (Ok (Ends ending)) h = h
  run_task (Ok (Runs opened)) h = h
  run_task (Ok (Says opened)) h = absurd h
  run_task (Err m) h = h

  pub run_comes : (t : Task) → t ≡ run job.image job.board job.input job.supplies → (r : Result Beginning Memory) → RunBegins r → TaskBegins t job.budget job.steps old new before now r
  run_comes t is r h = subst (λ (x : Task). TaskBegins x job.budget job.steps old new before now r) (sym is) (run_task r h)

  -- a run that is refused
  pub run_refused : (a : Answer) → RunRefuses job old new before now a → (r : Result Beginning Memory) → IsRefusal a r → RunBegins r
  run_refused a h (Ok (Ends ending)) told = run_ends job old new before now a (answer_of ending.status) (string_bytes ending.line) h told.0 told.1
  run_refused a h (Ok (Runs opened)) told = absurd told
  run_refused a h (Ok (Says opened)) told = absurd told
  run_refused a h (Err m) told = refused_partly job old new before now a h

-- each supply of a run has a box, where the words have one
pub run_fits : (t : Task) (n : ℕ) (image board input : Text) (supplies : List Text) → t ≡ run image board input supplies → FitsBoxes t n → FitBoxes supplies n
run_fits t n image board input supplies e h = subst (λ (x : Task). FitsBoxes x n) e h
