-- A build that was read and made ready ends as it is written.
use Rattle.std.proofs.Common.{◌≡◌, ◌≤◌, ℕ, Option, Some, None, Result, Ok, Err, sym, subst, ◌∙◌, IfSome, MatchResult}
use Rattle.std.specs.Prelude.{string_bytes}
use Rattle.base_io.specs.declared.memory.Memory.{Memory}
use Rattle.base_io.specs.Counts.{Rose}
use Rattle.base_io.specs.Files.{Files, Writes, WritesTold}
use Rattle.job_files.specs.Answers.{Answer, answer_of, done, write_fault}
use Rattle.job_files.specs.Stores.{IsUnwritten, Seen}
use Rattle.job_files.specs.Text.{Text}
use Rattle.job_files.specs.declared.ending.Ending.{Ending}
use Rattle.build_job.specs.Build.{Build}
use Rattle.build_job.specs.Building.{AreFine}
use Rattle.build_job.specs.Ends.{BuildEnds, IsBuiltTold, IsDoneLine, built_line}
use Rattle.build_job.specs.Parts.{IsReady, IsWritten}

fine_told : (o : Option Files) (job : Build) (text line : Text) → IfSome o (λ files. IsReady job files text line) → IfSome o (λ files. AreFine job files)
fine_told None job text line h = tt
fine_told (Some files) job text line h = h.are

fine_named : (o : Option Files) (job : Build) (name text line : Text) → name ≡ job.image → IfSome o (λ files. IsReady job files text line)
    → IfSome o (λ files. (name ≡ job.image) × AreFine job files)
fine_named None job name text line e h = tt
fine_named (Some files) job name text line e h = (e, h.are)

done_line : (o : Option Files) (job : Build) (text line : Text) → IfSome o (λ files. IsReady job files text line) → (code : ℕ) × (bytes : ℕ) × (line ≡ built_line code bytes) → IsDoneLine job o line
done_line None job text line h any = any
done_line (Some files) job text line h any = record { are = h.are; tells = h.spelled.tells }

built_told : (o n : Option Files) (job : Build) (text line : Text) → IfSome o (λ files. IsReady job files text line) → WritesTold job.image text o n → IsBuiltTold job o n
built_told None None job text line h w = tt
built_told (Some old) None job text line h w = w
built_told None (Some new) job text line h w = w
built_told (Some old) (Some new) job text line h w = record { are = h.are; written = subst (λ t. Writes job.image t old new) h.spelled.spelled w }

module _ (job : Build) (old mid new : Seen) (files : mid.files ≡ old.files) (writes : mid.writes ≡ old.writes) (reads : mid.reads ≡ old.reads)
    (text line : Text) (ready : IfSome old.files (λ f. IsReady job f text line)) (any : (code : ℕ) × (bytes : ℕ) × (line ≡ built_line code bytes)) where
  ends : (a : Answer) (l : Text) → IsWritten job.image text line mid new a l → BuildEnds job old new a l
  ends done l h = record {
    cause = fine_told old.files job text line ready;
    leaves = (
      built_told old.files new.files job text line ready (subst (λ o. WritesTold job.image text o new.files) files h.0.files),
      h.0.writes ∙ writes,
      h.0.reads ∙ reads,
    );
    tells = subst (λ t. IsDoneLine job old.files t) (sym h.1) (done_line old.files job text line ready any);
  }
  ends (write_fault name) l h = record {
    cause = fine_named old.files job name text line h.0 ready;
    leaves = (
      h.0,
      record {
        files = h.1.files ∙ files;
        writes = (subst (λ k. k ≤ new.writes) writes h.1.writes.0, subst (λ k. Rose k new.writes) writes h.1.writes.1);
        reads = h.1.reads ∙ reads;
      },
    );
    tells = h.2;
  }
  ends a l h = absurd h

  unwritten : IsUnwritten mid new → IsUnwritten old new
  unwritten h = record { files = h.files ∙ files; writes = h.writes ∙ writes; reads = subst (λ k. k ≤ new.reads) reads h.reads }

  pub written : (r : Result Ending Memory) →
      MatchResult r (λ e. IsWritten job.image text line mid new (answer_of e.status) (string_bytes e.line)) (λ _. IsUnwritten mid new) →
      MatchResult r (λ e. BuildEnds job old new (answer_of e.status) (string_bytes e.line)) (λ _. IsUnwritten old new)
  written (Ok e) h = ends (answer_of e.status) (string_bytes e.line) h
  written (Err m) h = unwritten h
