-- How a check ends whose files were read, or weren't.
use Rattle.std.proofs.Common.{◌≡◌, ◌∙◌, ◌≤◌, ℕ, [], Result, Ok, Err, IfOk, IfSome, MatchResult, refl, sym, subst}
use Rattle.std.specs.Prelude.{string_bytes}
use Rattle.base_io.specs.declared.memory.Memory.{Memory}
use Rattle.job_files.specs.Answers.{Answer, answer_of, done, line_of, stopped}
use Rattle.job_files.specs.Reads.{CountsReading}
use Rattle.job_files.specs.Stores.{IsUnwritten, Seen}
use Rattle.job_files.specs.Text.{Text}
use Rattle.job_files.specs.declared.ending.Ending.{Ending}
use Rattle.job_files.specs.declared.status.Status.{Status}
use Rattle.check_job.specs.Check.{Check, check_files}
use Rattle.check_job.specs.Checking.{AreCertifiedFiles, CheckCauses, RefusesCheck}
use Rattle.check_job.specs.Ends.{CheckEnds, CountsCheck, certified_line}

module _ (job : Check) (before now : ℕ) (bad : Text) where
  counts_as : (a : Answer) → CountsReading (check_files job) (RefusesCheck job) before now bad a → CountsCheck job before now bad a
  counts_as done h = absurd h
  counts_as a h = h

  line_as : (a : Answer) → CountsReading (check_files job) (RefusesCheck job) before now bad a → line_of [] a ≡ line_of certified_line a
  line_as done h = absurd h
  line_as (stopped stop) h = absurd h
  line_as a h = refl

module _ (job : Check) (old new : Seen) (files : new.files ≡ old.files) (writes : new.writes ≡ old.writes) (later : old.reads ≤ new.reads) where
  pub unwritten : IsUnwritten old new
  unwritten = record { files = files; writes = writes; reads = later }

  -- how an ending is told, or there was no memory for its line
  abbrev pub Comes : Result Ending Memory → Type 0
  Comes r = MatchResult r (λ e. CheckEnds job old new (answer_of e.status) (string_bytes e.line)) (λ m. IsUnwritten old new)

  pub certified_ends : IfSome old.files (λ f. AreCertifiedFiles job f) → new.reads ≡ old.reads → (r : Result Ending Memory)
      → IfOk r (λ e. (answer_of e.status ≡ done) × (string_bytes e.line ≡ certified_line)) → Comes r
  certified_ends told counts (Ok e) h =
      subst (λ (a : Answer). CheckEnds job old new a (string_bytes e.line)) (sym h.0) (record { cause = told; kept = unwritten; counts = counts; tells = h.1 })
  certified_ends told counts (Err m) h = unwritten

  pub refused_ends : (s : Status) → IfSome old.files (λ f. CheckCauses job f (answer_of s)) → CountsReading (check_files job) (RefusesCheck job) old.reads new.reads new.bad (answer_of s)
      → (r : Result Ending Memory) → IfOk r (λ e. (e.status ≡ s) × (string_bytes e.line ≡ line_of [] (answer_of s))) → Comes r
  refused_ends s told counts (Ok e) h =
      subst (λ (x : Status). CheckEnds job old new (answer_of x) (string_bytes e.line)) (sym h.0) (record {
        cause = told;
        kept = unwritten;
        counts = counts_as job old.reads new.reads new.bad (answer_of s) counts;
        tells = h.1 ∙ line_as job old.reads new.reads new.bad (answer_of s) counts;
      })
  refused_ends s told counts (Err m) h = unwritten
