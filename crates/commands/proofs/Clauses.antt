-- What a call comes to says each clause of the public call.
use Rattle.std.proofs.Common.{◌≡◌, ◌<◌, ℕ, List, Option, Some, None, sym, subst, ◌∙◌, refl, inl, inr, ⊎_elim, IfSome}
use Rattle.base_io.specs.Counts.{Rose}
use Rattle.base_io.specs.Files.{Files}
use Rattle.job_parts.specs.Asked.{Request, Task, asked, build, check, run, say, plan, gen}
use Rattle.job_files.specs.Answers.{Answer, done, no_memory, not_built, usage, write_fault}
use Rattle.job_files.specs.Reads.{CountsReading}
use Rattle.job_files.specs.Stores.{Seen}
use Rattle.job_files.specs.Text.{Text, output}
use Rattle.job_files.proofs.Telling.{fill, grew_not, map_told}
use Rattle.build_job.specs.Build.{Build, build_files}
use Rattle.build_job.specs.Building.{BuildCauses, RefusesBuild}
use Rattle.build_job.specs.Ends.{BuildEnds, IsBuiltTold, LeavesStore}
use Rattle.check_job.specs.Check.{Check, check_files}
use Rattle.check_job.specs.Checking.{CheckCauses, RefusesCheck}
use Rattle.check_job.specs.Ends.{CheckEnds, CountsCheck}
use Rattle.plan_job.specs.Ends.{CountsPlan, PlanEnds}
use Rattle.plan_job.specs.Plan.{Plan}
use Rattle.plan_job.specs.Planning.{PlanCauses}
use Rattle.run_job.specs.Boxes.{Box}
use Rattle.run_job.specs.Ends.{RunEnds}
use Rattle.run_job.specs.Run.{Run, run_files}
use Rattle.run_job.specs.Running.{RefusesRun, RunCauses}
use Rattle.say_job.specs.Ends.{SayEnds}
use Rattle.say_job.specs.Say.{Say, say_files}
use Rattle.say_job.specs.Saying.{RefusesSay, SayCauses}
use Rattle.commands.specs.Causes.{HasCause}
use Rattle.commands.specs.Faults.{IsReadFaultOrFree, IsWriteFault, ReadFaultIs, SupplyFaultIs, TooLargeIs, WordsAre, WriteFaultIs}
use Rattle.commands.specs.Left.{LeavesTold}
use Rattle.commands.specs.Words.{AskBuild, AskCheck, AskPlan, AskRun, AskSay, AskUnbuilt}
use Rattle.commands.proofs.Asks.{asks_once, check_asks_once, run_asks_once, say_asks_once}
use Rattle.commands.proofs.PlannedClauses.{plan_caused, plan_large, plan_leaves, plan_line, plan_read, plan_read_rose, plan_supply, plan_words, plan_write}
use Rattle.commands.proofs.Reading.{AskReading, IsLine, reading_large, reading_leaves, reading_line, reading_read, reading_read_rose, reading_supply, reading_words, reading_write}
use Rattle.commands.proofs.Told.{same_told}
use Rattle.commands.specs.Call.{Comes, ComesTo, IsGivenUp, IsRefusedAtOnce, TaskEnds}

-- what a job came to has its cause
module _ (words : List Text) (files : Files) (boxes : List Box) where
  build_caused : (job : Build) → AskBuild words job → (a : Answer) → BuildCauses job files a → HasCause words files boxes a
  build_caused job asks usage h = absurd h
  build_caused job asks not_built h = absurd h
  build_caused job asks no_memory h = tt
  build_caused job asks (write_fault name) h = λ other. inl (job, asks, h)
  build_caused job asks a h = inl (job, asks, h)

  pub run_caused : (job : Run) → AskRun words job → (a : Answer) → RunCauses job files boxes a → HasCause words files boxes a
  run_caused job asks usage h = absurd h
  run_caused job asks not_built h = absurd h
  run_caused job asks no_memory h = tt
  run_caused job asks (write_fault name) h = absurd h
  run_caused job asks a h = inr (inl (job, asks, h))

  pub say_caused : (job : Say) → AskSay words job → (a : Answer) → SayCauses job files a → HasCause words files boxes a
  say_caused job asks usage h = absurd h
  say_caused job asks not_built h = absurd h
  say_caused job asks no_memory h = tt
  say_caused job asks (write_fault name) h = absurd h
  say_caused job asks a h = inr (inr (inl (job, asks, h)))

  check_caused : (job : Check) → AskCheck words job → (a : Answer) → CheckCauses job files a → HasCause words files boxes a
  check_caused job asks usage h = absurd h
  check_caused job asks not_built h = absurd h
  check_caused job asks no_memory h = tt
  check_caused job asks (write_fault name) h = absurd h
  check_caused job asks a h = inr (inr (inr (inl (job, asks, h))))

-- ---- How a job may have come to its answer

-- why words are refused
pub data RefusedWords (words : List Text) : Answer → Type 0 where
  unread : asked words ≡ None → RefusedWords words usage
  unbuilt : AskUnbuilt words → RefusedWords words not_built

module _ (words : List Text) (old new : Seen) (before now : List Box) (came : Answer) (line : Text) (P : Type 0)
    (refused : (r : Answer) → RefusedWords words r → IsRefusedAtOnce r old new came line → P)
    (built : (job : Build) → AskBuild words job → BuildEnds job old new came line → P)
    (ran : (job : Run) → AskRun words job → RunEnds job old new before now came line → P)
    (spoken : (job : Say) → AskSay words job → SayEnds job old new came line → P)
    (checked : (job : Check) → AskCheck words job → CheckEnds job old new came line → P)
    (planned : (job : Plan) → AskPlan words job → PlanEnds job old new came line → P) where
  by_task : (t : Task) (budget : Option ℕ) (steps : ℕ) → asked words ≡ Some (record { task = t; budget = budget; steps = steps })
      → TaskEnds t budget steps old new before now came line → P
  by_task (build program board image certificate) budget steps e h =
      built (record { program = program; board = board; image = image; certificate = certificate; budget = budget }) (record { steps = steps; asks = e }) h.0
  by_task (run image board input supplies) budget steps e h =
      ran (record { image = image; board = board; input = input; supplies = supplies; budget = budget; steps = steps }) (record { asks = e }) h
  by_task (check image certificate board) budget steps e h =
      checked (record { image = image; certificate = certificate; board = board; budget = budget }) (record { steps = steps; asks = e }) h.0
  by_task (say program input) budget steps e h = spoken (record { program = program; input = input; steps = steps }) (record { budget = budget; asks = e }) h.0
  by_task (plan p b) budget steps e h = planned (record { program = p; board = b; budget = budget }) (record { steps = steps; asks = e }) h.0
  by_task (gen n m b) budget steps e h =
      refused not_built (unbuilt (record { request = record { task = gen n m b; budget = budget; steps = steps }; asks = e; unbuilt = refl })) h.0

  by_asked : (o : Option Request) → asked words ≡ o → ComesTo o old new before now came line → P
  by_asked None e h = refused usage (unread e) h.0
  by_asked (Some r) e h = by_task r.task r.budget r.steps e h

  by_comes : (IsGivenUp words old new before now came line → P) → Comes words old new before now came line → P
  by_comes given h = ⊎_elim (by_asked (asked words) refl) given h

-- ---- Causes

refused_cause : (words : List Text) (files : Files) (boxes : List Box) (r : Answer) → RefusedWords words r → HasCause words files boxes r
refused_cause words files boxes _ (unread e) = e
refused_cause words files boxes _ (unbuilt e) = e

module _ (words : List Text) (old new : Seen) (before now : List Box) (came : Answer) (line : Text) where
  pub came_cause : Comes words old new before now came line → IfSome old.files (λ f. HasCause words f before came)
  came_cause =
      by_comes words old new before now came line (IfSome old.files (λ f. HasCause words f before came))
      (λ r e h. fill old.files (λ f. HasCause words f before came) (λ f. subst (HasCause words f before) (sym h.answer) (refused_cause words f before r e)))
      (λ job e h. map_told old.files (λ f. BuildCauses job f came) (λ f. HasCause words f before came) (λ f. build_caused words f before job e came) h.cause)
      (λ job e h. map_told old.files (λ f. RunCauses job f before came) (λ f. HasCause words f before came) (λ f. run_caused words f before job e came) h.refuses.cause)
      (λ job e h. map_told old.files (λ f. SayCauses job f came) (λ f. HasCause words f before came) (λ f. say_caused words f before job e came) h.cause)
      (λ job e h. map_told old.files (λ f. CheckCauses job f came) (λ f. HasCause words f before came) (λ f. check_caused words f before job e came) h.cause)
      (λ job e h. map_told old.files (λ f. PlanCauses job f came) (λ f. HasCause words f before came) (λ f. plan_caused words f before job e came) h.cause)
      (λ h. fill old.files (λ f. HasCause words f before came) (λ f. subst (HasCause words f before) (sym h.answer) tt))

-- ---- A build

module _ (words : List Text) (job : Build) (e : AskBuild words job) where
  build_asked : AskReading words (build_files job)
  build_asked = record { reads = λ w h. inl (job, e, h); once = asks_once words job e }

  built_told : (o n : Option Files) → IsBuiltTold job o n → LeavesTold words done o n
  built_told None None h = tt
  built_told (Some x) None h = h
  built_told None (Some y) h = h
  built_told (Some x) (Some y) h = inl (job, e, h)

kept_told : (words : List Text) (name : Text) (o n : Option Files) → n ≡ o → LeavesTold words (write_fault name) o n
kept_told words name = same_told words (write_fault name) (λ x y e. inl e)

built_or_kept : (words : List Text) (o n : Option Files) → LeavesTold words done o n → LeavesTold words (write_fault output) o n
built_or_kept words None None h = tt
built_or_kept words (Some x) None h = h
built_or_kept words None (Some y) h = h
built_or_kept words (Some x) (Some y) h = ⊎_elim (λ built. inr (refl, built)) (λ kept. inl kept.1) h

-- what a build says of each count, of its words and of the files
module _ (words : List Text) (old new : Seen) (job : Build) (e : AskBuild words job) where
  build_words : (a : Answer) → LeavesStore job old new a → WordsAre words a
  build_words done h = λ n. absurd (asks_once words job e n)
  build_words (write_fault name) h = λ n. absurd (asks_once words job e n)
  build_words a h = reading_words words (build_files job) (build_asked words job e) (RefusesBuild job) old.reads new.reads new.bad a h.1

  build_read : (a : Answer) → LeavesStore job old new a → ReadFaultIs words old.reads new.reads new.bad a
  build_read done h = tt
  build_read (write_fault name) h = tt
  build_read a h = reading_read words (build_files job) (build_asked words job e) (RefusesBuild job) old.reads new.reads new.bad a h.1

  build_read_rose : (a : Answer) → LeavesStore job old new a → old.reads < new.reads → IsReadFaultOrFree a
  build_read_rose done h less = absurd (grew_not old.reads new.reads h.2 less)
  build_read_rose (write_fault name) h less = absurd (grew_not old.reads new.reads h.1.reads less)
  build_read_rose a h less = reading_read_rose words (build_files job) (build_asked words job e) (RefusesBuild job) old.reads new.reads new.bad a h.1 less

  build_write : (a : Answer) → LeavesStore job old new a → (before now : ℕ) → WriteFaultIs words old.writes new.writes before now a
  build_write done h before now = tt
  build_write (write_fault name) h before now = inr ((job, e, h.0), h.1.writes.1)
  build_write a h before now = reading_write words (build_files job) (build_asked words job e) (RefusesBuild job) old.reads new.reads new.bad a h.1 old.writes new.writes before now

  build_large : (a : Answer) → LeavesStore job old new a → TooLargeIs words a
  build_large done h = tt
  build_large (write_fault name) h = tt
  build_large a h = reading_large words (build_files job) (build_asked words job e) (RefusesBuild job) old.reads new.reads new.bad a h.1

  build_write_rose : (a : Answer) → LeavesStore job old new a → old.writes < new.writes → IsWriteFault a
  build_write_rose (write_fault name) h less = tt
  build_write_rose done h less = absurd (grew_not old.writes new.writes h.1 less)
  build_write_rose a h less = absurd (grew_not old.writes new.writes h.0.writes less)

  -- a write that failed leaves the files as they were
  build_failed : (a : Answer) → LeavesStore job old new a → old.writes < new.writes → new.files ≡ old.files
  build_failed (write_fault name) h less = h.1.files
  build_failed done h less = absurd (grew_not old.writes new.writes h.1 less)
  build_failed a h less = absurd (grew_not old.writes new.writes h.0.writes less)

  build_supply : (before now : List Box) (a : Answer) → LeavesStore job old new a → SupplyFaultIs words before now a
  build_supply before now done h = tt
  build_supply before now (write_fault name) h = tt
  build_supply before now a h = reading_supply words (build_files job) (build_asked words job e) (RefusesBuild job) old.reads new.reads new.bad before now a h.1

  build_leaves : (a : Answer) → LeavesStore job old new a → LeavesTold words a old.files new.files
  build_leaves done h = built_told words job e old.files new.files h.0
  build_leaves (write_fault name) h = kept_told words name old.files new.files h.1.files
  build_leaves a h = reading_leaves words (build_files job) (build_asked words job e) (RefusesBuild job) old.reads new.reads new.bad old.files new.files h.0.files a h.1

  -- what was left, where the output then failed
  build_leaves_failed : (a : Answer) → LeavesStore job old new a → LeavesTold words (write_fault output) old.files new.files
  build_leaves_failed done h = built_or_kept words old.files new.files (build_leaves done h)
  build_leaves_failed (write_fault name) h = kept_told words output old.files new.files h.1.files
  build_leaves_failed a h = kept_told words output old.files new.files h.0.files

  build_line : (a : Answer) → LeavesStore job old new a → IsLine a
  build_line done h = tt
  build_line (write_fault name) h = tt
  build_line a h = reading_line words (build_files job) (build_asked words job e) (RefusesBuild job) old.reads new.reads new.bad a h.1

-- ---- A check

module _ (words : List Text) (job : Check) (e : AskCheck words job) where
  check_asked : AskReading words (check_files job)
  check_asked = record { reads = λ w h. inr (inr (inr (inl (job, e, h)))); once = check_asks_once words job e }

-- what a check says of each count, of its words and of the files
module _ (words : List Text) (before now : ℕ) (bad : Text) (job : Check) (e : AskCheck words job) where
  check_words : (a : Answer) → CountsCheck job before now bad a → WordsAre words a
  check_words done h = λ n. absurd (check_asks_once words job e n)
  check_words a h = reading_words words (check_files job) (check_asked words job e) (RefusesCheck job) before now bad a h

  check_read : (a : Answer) → CountsCheck job before now bad a → ReadFaultIs words before now bad a
  check_read done h = tt
  check_read a h = reading_read words (check_files job) (check_asked words job e) (RefusesCheck job) before now bad a h

  check_read_rose : (a : Answer) → CountsCheck job before now bad a → before < now → IsReadFaultOrFree a
  check_read_rose done h less = absurd (grew_not before now h less)
  check_read_rose a h less = reading_read_rose words (check_files job) (check_asked words job e) (RefusesCheck job) before now bad a h less

  check_write : (a : Answer) → CountsCheck job before now bad a → (old new puts_before puts_now : ℕ) → WriteFaultIs words old new puts_before puts_now a
  check_write done h old new puts_before puts_now = tt
  check_write a h old new puts_before puts_now = reading_write words (check_files job) (check_asked words job e) (RefusesCheck job) before now bad a h old new puts_before puts_now

  check_large : (a : Answer) → CountsCheck job before now bad a → TooLargeIs words a
  check_large done h = tt
  check_large a h = reading_large words (check_files job) (check_asked words job e) (RefusesCheck job) before now bad a h

  check_supply : (boxes left : List Box) (a : Answer) → CountsCheck job before now bad a → SupplyFaultIs words boxes left a
  check_supply boxes left done h = tt
  check_supply boxes left a h = reading_supply words (check_files job) (check_asked words job e) (RefusesCheck job) before now bad boxes left a h

  check_leaves : (o n : Option Files) → n ≡ o → (a : Answer) → CountsCheck job before now bad a → LeavesTold words a o n
  check_leaves o n same done h = same_told words done (λ x y k. inr (inr (inr (inl (job, e))), k)) o n same
  check_leaves o n same a h = reading_leaves words (check_files job) (check_asked words job e) (RefusesCheck job) before now bad o n same a h

  check_line : (a : Answer) → CountsCheck job before now bad a → IsLine a
  check_line done h = tt
  check_line a h = reading_line words (check_files job) (check_asked words job e) (RefusesCheck job) before now bad a h

-- ---- A run or a say that is refused

run_asked : (words : List Text) (job : Run) → AskRun words job → AskReading words (run_files job)
run_asked words job e = record { reads = λ w h. inr (inl (job, e, h)); once = run_asks_once words job e }

say_asked : (words : List Text) (job : Say) → AskSay words job → AskReading words (say_files job)
say_asked words job e = record { reads = λ w h. inr (inr (inl (job, e, h))); once = say_asks_once words job e }

refused_line : (words : List Text) (r : Answer) → RefusedWords words r → IsLine r
refused_line words _ (unread e) = tt
refused_line words _ (unbuilt e) = tt

-- ---- What a job came to

refused_told : (words : List Text) (r : Answer) → RefusedWords words r → (o n : Option Files) → n ≡ o → LeavesTold words r o n
refused_told words _ (unread e) = same_told words usage (λ x y k. k)
refused_told words _ (unbuilt e) = same_told words not_built (λ x y k. k)

refused_leaves : (words : List Text) (old new : Seen) (r a : Answer) (line : Text) → RefusedWords words r → IsRefusedAtOnce r old new a line → LeavesTold words a old.files new.files
refused_leaves words old new r a line e h =
    subst (λ x. LeavesTold words x old.files new.files) (sym h.answer) (refused_told words r e old.files new.files h.files)

given_leaves : (words : List Text) (old new : Seen) (before now : List Box) (a : Answer) (line : Text) → IsGivenUp words old new before now a line → LeavesTold words a old.files new.files
given_leaves words old new before now a line h =
    subst (λ x. LeavesTold words x old.files new.files) (sym h.answer) (same_told words no_memory (λ x y k. k) old.files new.files h.kept.files)

-- what a refusal says of each clause
refused_words : (words : List Text) (r : Answer) → RefusedWords words r → WordsAre words r
refused_words words _ (unread e) = e
refused_words words _ (unbuilt e) = e

refused_read : (words : List Text) (r : Answer) → RefusedWords words r → (before now : ℕ) (bad : Text) → ReadFaultIs words before now bad r
refused_read words _ (unread e) before now bad = tt
refused_read words _ (unbuilt e) before now bad = tt

refused_write : (words : List Text) (r : Answer) → RefusedWords words r → (old new before now : ℕ) → WriteFaultIs words old new before now r
refused_write words _ (unread e) old new before now = tt
refused_write words _ (unbuilt e) old new before now = tt

refused_large : (words : List Text) (r : Answer) → RefusedWords words r → TooLargeIs words r
refused_large words _ (unread e) = tt
refused_large words _ (unbuilt e) = tt

refused_supply : (words : List Text) (before now : List Box) (r : Answer) → RefusedWords words r → SupplyFaultIs words before now r
refused_supply words before now _ (unread e) = tt
refused_supply words before now _ (unbuilt e) = tt

refused_not_write : (words : List Text) (r : Answer) (name : Text) → RefusedWords words r → r ≡ write_fault name → ⊥
refused_not_write words _ name (unread e) is = cc
refused_not_write words _ name (unbuilt e) is = cc

module _ (words : List Text) (old new : Seen) (before now : List Box) (came : Answer) (line : Text) (comes : Comes words old new before now came line) where
  pub came_words : WordsAre words came
  came_words =
      by_comes words old new before now came line (WordsAre words came)
      (λ r e h. subst (WordsAre words) (sym h.answer) (refused_words words r e))
      (λ job e h. build_words words old new job e came h.leaves)
      (λ job e h. reading_words words (run_files job) (run_asked words job e) (RefusesRun job) old.reads new.reads new.bad came h.refuses.counts)
      (λ job e h. reading_words words (say_files job) (say_asked words job e) (RefusesSay job) old.reads new.reads new.bad came h.counts)
      (λ job e h. check_words words old.reads new.reads new.bad job e came h.counts)
      (λ job e h. plan_words words old.reads new.reads new.bad job e came h.counts)
      (λ h. subst (WordsAre words) (sym h.answer) (λ n. inl refl))
      comes

  pub came_read : ReadFaultIs words old.reads new.reads new.bad came
  came_read =
      by_comes words old new before now came line (ReadFaultIs words old.reads new.reads new.bad came)
      (λ r e h. subst (ReadFaultIs words old.reads new.reads new.bad) (sym h.answer) (refused_read words r e old.reads new.reads new.bad))
      (λ job e h. build_read words old new job e came h.leaves)
      (λ job e h. reading_read words (run_files job) (run_asked words job e) (RefusesRun job) old.reads new.reads new.bad came h.refuses.counts)
      (λ job e h. reading_read words (say_files job) (say_asked words job e) (RefusesSay job) old.reads new.reads new.bad came h.counts)
      (λ job e h. check_read words old.reads new.reads new.bad job e came h.counts)
      (λ job e h. plan_read words old.reads new.reads new.bad job e came h.counts)
      (λ h. subst (ReadFaultIs words old.reads new.reads new.bad) (sym h.answer) tt)
      comes

  pub came_read_rose : old.reads < new.reads → IsReadFaultOrFree came
  came_read_rose less =
      by_comes words old new before now came line (IsReadFaultOrFree came)
      (λ r e h. absurd (grew_not old.reads new.reads h.reads less))
      (λ job e h. build_read_rose words old new job e came h.leaves less)
      (λ job e h. reading_read_rose words (run_files job) (run_asked words job e) (RefusesRun job) old.reads new.reads new.bad came h.refuses.counts less)
      (λ job e h. reading_read_rose words (say_files job) (say_asked words job e) (RefusesSay job) old.reads new.reads new.bad came h.counts less)
      (λ job e h. check_read_rose words old.reads new.reads new.bad job e came h.counts less)
      (λ job e h. plan_read_rose words old.reads new.reads new.bad job e came h.counts less)
      (λ h. subst IsReadFaultOrFree (sym h.answer) tt)
      comes

  pub came_write : (n m : ℕ) → WriteFaultIs words old.writes new.writes n m came
  came_write n m =
      let P : Answer → Type 0 = WriteFaultIs words old.writes new.writes n m in
      by_comes words old new before now came line (P came)
      (λ r e h. subst P (sym h.answer) (refused_write words r e old.writes new.writes n m))
      (λ job e h. build_write words old new job e came h.leaves n m)
      (λ job e h. reading_write words (run_files job) (run_asked words job e) (RefusesRun job) old.reads new.reads new.bad came h.refuses.counts old.writes new.writes n m)
      (λ job e h. reading_write words (say_files job) (say_asked words job e) (RefusesSay job) old.reads new.reads new.bad came h.counts old.writes new.writes n m)
      (λ job e h. check_write words old.reads new.reads new.bad job e came h.counts old.writes new.writes n m)
      (λ job e h. plan_write words old.reads new.reads new.bad job e came h.counts old.writes new.writes n m)
      (λ h. subst P (sym h.answer) tt)
      comes

  pub came_large : TooLargeIs words came
  came_large =
      by_comes words old new before now came line (TooLargeIs words came)
      (λ r e h. subst (TooLargeIs words) (sym h.answer) (refused_large words r e))
      (λ job e h. build_large words old new job e came h.leaves)
      (λ job e h. reading_large words (run_files job) (run_asked words job e) (RefusesRun job) old.reads new.reads new.bad came h.refuses.counts)
      (λ job e h. reading_large words (say_files job) (say_asked words job e) (RefusesSay job) old.reads new.reads new.bad came h.counts)
      (λ job e h. check_large words old.reads new.reads new.bad job e came h.counts)
      (λ job e h. plan_large words old.reads new.reads new.bad job e came h.counts)
      (λ h. subst (TooLargeIs words) (sym h.answer) tt)
      comes

  -- a write fault of the job is counted
  pub came_wrote : (name : Text) → came ≡ write_fault name → Rose old.writes new.writes
  came_wrote name is =
      by_comes words old new before now came line (Rose old.writes new.writes)
      (λ r e h. absurd (refused_not_write words r name e (sym h.answer ∙ is)))
      (λ job e h. (subst (LeavesStore job old new) is h.leaves).1.writes.1)
      (λ job e h. absurd (subst (CountsReading (run_files job) (RefusesRun job) old.reads new.reads new.bad) is h.refuses.counts))
      (λ job e h. absurd (subst (CountsReading (say_files job) (RefusesSay job) old.reads new.reads new.bad) is h.counts))
      (λ job e h. absurd (subst (CountsCheck job old.reads new.reads new.bad) is h.counts))
      (λ job e h. absurd (subst (CountsPlan job old.reads new.reads new.bad) is h.counts))
      (λ h. absurd (not_memory name (sym h.answer ∙ is)))
      comes
    where
      not_memory : (name : Text) → no_memory ≡ write_fault name → ⊥
      not_memory name e = cc

  pub came_write_rose : old.writes < new.writes → IsWriteFault came
  came_write_rose less =
      by_comes words old new before now came line (IsWriteFault came)
      (λ r e h. absurd (grew_not old.writes new.writes h.writes less))
      (λ job e h. build_write_rose words old new job e came h.leaves less)
      (λ job e h. absurd (grew_not old.writes new.writes h.refuses.kept.writes less))
      (λ job e h. absurd (grew_not old.writes new.writes h.kept.writes less))
      (λ job e h. absurd (grew_not old.writes new.writes h.kept.writes less))
      (λ job e h. absurd (grew_not old.writes new.writes h.kept.writes less))
      (λ h. absurd (grew_not old.writes new.writes h.kept.writes less))
      comes

  pub came_failed : old.writes < new.writes → new.files ≡ old.files
  came_failed less =
      by_comes words old new before now came line (new.files ≡ old.files)
      (λ r e h. h.files)
      (λ job e h. build_failed words old new job e came h.leaves less)
      (λ job e h. h.refuses.kept.files)
      (λ job e h. h.kept.files)
      (λ job e h. h.kept.files)
      (λ job e h. h.kept.files)
      (λ h. h.kept.files)
      comes

  pub came_leaves : LeavesTold words came old.files new.files
  came_leaves =
      by_comes words old new before now came line (LeavesTold words came old.files new.files)
      (λ r e h. refused_leaves words old new r came line e h)
      (λ job e h. build_leaves words old new job e came h.leaves)
      (λ job e h. reading_leaves words (run_files job) (run_asked words job e) (RefusesRun job) old.reads new.reads new.bad old.files new.files h.refuses.kept.files came h.refuses.counts)
      (λ job e h. reading_leaves words (say_files job) (say_asked words job e) (RefusesSay job) old.reads new.reads new.bad old.files new.files h.kept.files came h.counts)
      (λ job e h. check_leaves words old.reads new.reads new.bad job e old.files new.files h.kept.files came h.counts)
      (λ job e h. plan_leaves words old.reads new.reads new.bad job e old.files new.files h.kept.files came h.counts)
      (λ h. given_leaves words old new before now came line h)
      comes

  pub came_leaves_failed : LeavesTold words (write_fault output) old.files new.files
  came_leaves_failed =
      by_comes words old new before now came line (LeavesTold words (write_fault output) old.files new.files)
      (λ r e h. kept_told words output old.files new.files h.files)
      (λ job e h. build_leaves_failed words old new job e came h.leaves)
      (λ job e h. kept_told words output old.files new.files h.refuses.kept.files)
      (λ job e h. kept_told words output old.files new.files h.kept.files)
      (λ job e h. kept_told words output old.files new.files h.kept.files)
      (λ job e h. kept_told words output old.files new.files h.kept.files)
      (λ h. kept_told words output old.files new.files h.kept.files)
      comes

  -- no job that puts one line fails of a supply
  pub came_supply : SupplyFaultIs words before now came
  came_supply =
      by_comes words old new before now came line (SupplyFaultIs words before now came)
      (λ r e h. subst (SupplyFaultIs words before now) (sym h.answer) (refused_supply words before now r e))
      (λ job e h. build_supply words old new job e before now came h.leaves)
      (λ job e h. reading_supply words (run_files job) (run_asked words job e) (RefusesRun job) old.reads new.reads new.bad before now came h.refuses.counts)
      (λ job e h. reading_supply words (say_files job) (say_asked words job e) (RefusesSay job) old.reads new.reads new.bad before now came h.counts)
      (λ job e h. check_supply words old.reads new.reads new.bad job e before now came h.counts)
      (λ job e h. plan_supply words old.reads new.reads new.bad job e before now came h.counts)
      (λ h. subst (SupplyFaultIs words before now) (sym h.answer) tt)
      comes

  -- no job that puts one line runs an image
  pub came_line : IsLine came
  came_line =
      by_comes words old new before now came line (IsLine came)
      (λ r e h. subst IsLine (sym h.answer) (refused_line words r e))
      (λ job e h. build_line words old new job e came h.leaves)
      (λ job e h. reading_line words (run_files job) (run_asked words job e) (RefusesRun job) old.reads new.reads new.bad came h.refuses.counts)
      (λ job e h. reading_line words (say_files job) (say_asked words job e) (RefusesSay job) old.reads new.reads new.bad came h.counts)
      (λ job e h. check_line words old.reads new.reads new.bad job e came h.counts)
      (λ job e h. plan_line words old.reads new.reads new.bad job e came h.counts)
      (λ h. subst IsLine (sym h.answer) tt)
      comes
