-- How a plan ends whose files were read, or weren't.
use Rattle.std.proofs.Common.{◌≡◌, ◌≤◌, ℕ, [], Option, Some, None, Result, Ok, Err, IfOk, IfSome, MatchResult, sym, subst}
use Rattle.std.specs.Prelude.{string_bytes}
use Rattle.base_io.specs.Files.{Files}
use Rattle.base_io.specs.declared.memory.Memory.{Memory}
use Rattle.job_files.specs.Answers.{Answer, answer_of, done, line_of}
use Rattle.job_files.specs.Reads.{CountsReading}
use Rattle.job_files.specs.Stores.{IsUnwritten, Seen}
use Rattle.job_files.specs.Text.{Text}
use Rattle.job_files.specs.declared.ending.Ending.{Ending}
use Rattle.job_files.specs.declared.status.Status.{Status}
use Rattle.job_files.proofs.Telling.{map_told}
use Rattle.plan_job.specs.Plan.{Plan, plan_files}
use Rattle.plan_job.specs.Planning.{MayBePlanned, PlanCauses, RefusesPlan}
use Rattle.plan_job.specs.Ends.{CountsPlan, IsDoneText, IsPlanOfFiles, IsPlanText, IsSomeReport, PlanEnds}

done_text : (job : Plan) (o : Option Files) (told : Text) → IfSome o (λ f. IsPlanOfFiles job f told) → IsSomeReport told → IsDoneText job o told
done_text job None told h any = any
done_text job (Some f) told h any = h

module _ (job : Plan) (before now : ℕ) (bad : Text) where
  counts_as : (a : Answer) → CountsReading (plan_files job) (RefusesPlan job) before now bad a → CountsPlan job before now bad a
  counts_as done h = absurd h
  counts_as a h = h

  text_as : (o : Option Files) (told : Text) (a : Answer) → CountsReading (plan_files job) (RefusesPlan job) before now bad a → told ≡ line_of [] a → IsPlanText job o a told
  text_as o told done h e = absurd h
  text_as o told a h e = e

module _ (job : Plan) (old new : Seen) (files : new.files ≡ old.files) (writes : new.writes ≡ old.writes) (later : old.reads ≤ new.reads) where
  unwritten : IsUnwritten old new
  unwritten = record { files = files; writes = writes; reads = later }

  pub planned_ends : (told : Text) → IfSome old.files (λ f. IsPlanOfFiles job f told) → IsSomeReport told → new.reads ≡ old.reads → PlanEnds job old new done told
  planned_ends told h any counts = record {
    cause = map_told old.files (λ f. IsPlanOfFiles job f told) (λ f. MayBePlanned job f) (λ f k. k.may) h;
    kept = unwritten;
    counts = counts;
    tells = done_text job old.files told h any;
  }

  -- how an ending is told, or there was no memory for its line
  abbrev pub Comes : Result Ending Memory → Type 0
  Comes r = MatchResult r (λ e. PlanEnds job old new (answer_of e.status) (string_bytes e.line)) (λ m. IsUnwritten old new)

  pub refused_ends : (s : Status) → IfSome old.files (λ f. PlanCauses job f (answer_of s)) → CountsReading (plan_files job) (RefusesPlan job) old.reads new.reads new.bad (answer_of s)
      → (r : Result Ending Memory) → IfOk r (λ e. (e.status ≡ s) × (string_bytes e.line ≡ line_of [] (answer_of s))) → Comes r
  refused_ends s told counts (Ok e) h =
      subst (λ (x : Status). PlanEnds job old new (answer_of x) (string_bytes e.line)) (sym h.0) (record {
        cause = told;
        kept = unwritten;
        counts = counts_as job old.reads new.reads new.bad (answer_of s) counts;
        tells = text_as job old.reads new.reads new.bad old.files (string_bytes e.line) (answer_of s) counts h.1;
      })
  refused_ends s told counts (Err m) h = unwritten
