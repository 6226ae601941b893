-- What a job comes to is what the words come to.
use Rattle.std.proofs.Common.{◌≡◌, ℕ, List, [], Option, Some, Result, Ok, Err, MatchResult, sym, subst, inl, inr}
use Rattle.std.specs.Prelude.{string_bytes}
use Rattle.base_io.specs.declared.memory.Memory.{Memory}
use Rattle.job_parts.specs.Asked.{Request, Task, asked, build, check, run, say, plan, gen}
use Rattle.commands.specs.declared.call.Beginning.TheVariants.{Ends, Runs, Says}
use Rattle.job_files.specs.Answers.{Answer, answer_of, no_memory}
use Rattle.job_files.specs.Stores.{Seen}
use Rattle.job_files.specs.Text.{Text}
use Rattle.run_job.specs.Boxes.{Box, IsPartlyLoaded, LeavesBoxes}
use Rattle.run_job.specs.Ends.{RunRefuses}
use Rattle.run_job.specs.Opening.{GivesUp}
use Rattle.run_job.specs.Run.{Run}
use Rattle.run_job.specs.declared.opened_run.OpenedRun.{OpenedRun}
use Rattle.say_job.specs.declared.opened_say.OpenedSay.{OpenedSay}
use Rattle.commands.specs.Beginnings.{MatchBeginning, Opens, Speaks, TaskGivesUp, TaskRuns, TaskSays, WordsGiveUp}
use Rattle.commands.specs.Call.{ComesTo, TaskEnds}
use Rattle.commands.specs.declared.call.Beginning.{Beginning}

opens_task : (words : List Text) (t : Task) (budget : Option ℕ) (steps : ℕ) (old new : Seen) (before now : List Box) (opened : OpenedRun)
    → asked words ≡ Some (record { task = t; budget = budget; steps = steps }) → TaskRuns t budget steps old new before now opened → Opens words old new before now opened
opens_task words (run i b n s) budget steps old new before now opened e h =
    (record { image = i; board = b; input = n; supplies = s; budget = budget; steps = steps }, record { asks = e }, h)
opens_task words (build p b i c) budget steps old new before now opened e h = absurd h
opens_task words (check i c b) budget steps old new before now opened e h = absurd h
opens_task words (say p i) budget steps old new before now opened e h = absurd h
opens_task words (plan p b) budget steps old new before now opened e h = absurd h
opens_task words (gen n m b) budget steps old new before now opened e h = absurd h

speaks_task : (words : List Text) (t : Task) (budget : Option ℕ) (steps : ℕ) (old new : Seen) (before now : List Box) (opened : OpenedSay)
    → asked words ≡ Some (record { task = t; budget = budget; steps = steps }) → TaskSays t steps old new before now opened → Speaks words old new before now opened
speaks_task words (say program input) budget steps old new before now opened e h =
    (record { program = program; input = input; steps = steps }, record { budget = budget; asks = e }, h.0, h.1)
speaks_task words (build p b i c) budget steps old new before now opened e h = absurd h
speaks_task words (check i c b) budget steps old new before now opened e h = absurd h
speaks_task words (run i b n s) budget steps old new before now opened e h = absurd h
speaks_task words (plan p b) budget steps old new before now opened e h = absurd h
speaks_task words (gen n m b) budget steps old new before now opened e h = absurd h

gives_task : (words : List Text) (t : Task) (budget : Option ℕ) (steps : ℕ) (old new : Seen) (before now : List Box)
    → asked words ≡ Some (record { task = t; budget = budget; steps = steps }) → TaskGivesUp t old new before now → WordsGiveUp words old new before now
gives_task words (run i b n s) budget steps old new before now e h =
    let job : Run = record { image = i; board = b; input = n; supplies = s; budget = budget; steps = steps } in
    (h.0, inr ((job, record { asks = e }), h.1))
gives_task words (build p b i c) budget steps old new before now e h = (h.0, inl h.1)
gives_task words (check i c b) budget steps old new before now e h = (h.0, inl h.1)
gives_task words (say p i) budget steps old new before now e h = (h.0, inl h.1)
gives_task words (plan p b) budget steps old new before now e h = (h.0, inl h.1)
gives_task words (gen n m b) budget steps old new before now e h = (h.0, inl h.1)

module _ (words : List Text) (r : Request) (old new : Seen) (before now : List Box) (e : asked words ≡ Some r) where
  as_begun : (b : Beginning)
      → MatchBeginning b (λ ending. TaskEnds r.task r.budget r.steps old new before now (answer_of ending.status) (string_bytes ending.line)) (λ opened. TaskRuns r.task r.budget r.steps old new before now opened) (λ opened. TaskSays r.task r.steps old new before now opened)
      → MatchBeginning b (λ ending. ComesTo (asked words) old new before now (answer_of ending.status) (string_bytes ending.line)) (λ opened. Opens words old new before now opened) (λ opened. Speaks words old new before now opened)
  as_begun (Ends ending) h = subst (λ (o : Option Request). ComesTo o old new before now (answer_of ending.status) (string_bytes ending.line)) (sym e) h
  as_begun (Runs opened) h = opens_task words r.task r.budget r.steps old new before now opened e h
  as_begun (Says opened) h = speaks_task words r.task r.budget r.steps old new before now opened e h

  pub words_come : (res : Result Beginning Memory)
      → MatchResult res
      (λ b. MatchBeginning b (λ ending. TaskEnds r.task r.budget r.steps old new before now (answer_of ending.status) (string_bytes ending.line)) (λ opened. TaskRuns r.task r.budget r.steps old new before now opened) (λ opened. TaskSays r.task r.steps old new before now opened))
      (λ m. TaskGivesUp r.task old new before now)
      → MatchResult res
      (λ b. MatchBeginning b (λ ending. ComesTo (asked words) old new before now (answer_of ending.status) (string_bytes ending.line)) (λ opened. Opens words old new before now opened) (λ opened. Speaks words old new before now opened))
      (λ m. WordsGiveUp words old new before now)
  words_come (Ok b) h = as_begun b h
  words_come (Err m) h = gives_task words r.task r.budget r.steps old new before now e h

same : {before now : List Box} → now ≡ before → IsPartlyLoaded before now
same e = record { rows = []; are = e }

-- a refused run is given up where there is no memory for its line
pub refused_partly : (job : Run) (old new : Seen) (before now : List Box) (a : Answer) → RunRefuses job old new before now a → GivesUp old new before now
refused_partly job old new before now a h = (h.kept, partly a h.boxes)
  where
    partly : (a : Answer) → LeavesBoxes before now a → IsPartlyLoaded before now
    partly no_memory h = h
    partly a h = same h
