-- How a build ends, by the store before and after.
use Rattle.std.specs.Prelude.{◌≡◌, ◌==◌, ◌++◌, ℕ, List, [], ◌∷◌, length, Option, Some, None, IfSome, if◌then◌else◌, codes, decimal, ⊤}
use Rattle.base_io.specs.Files.{Files, Writes}
use Rattle.ti_txt.specs.Image.{Block}
use Rattle.ti_txt.specs.Spelling.{text_of}
use Rattle.lowered_graphs.specs.GraphOf.{graph_of}
use Rattle.graph_code.specs.Homes.{data_bytes}
use Rattle.job_files.specs.Answers.{Answer, done, line_of, write_fault}
use Rattle.job_files.specs.Reads.{CountsReading}
use Rattle.job_files.specs.Stores.{IsFailedWrite, IsUnwritten, Seen}
use Rattle.job_files.specs.Text.{Text}
use Rattle.build_job.specs.Build.{Build, build_files}
use Rattle.build_job.specs.Building.{AreFine, BuildCauses, RefusesBuild}

-- ---- What is left

-- The files are a program and a board on which it has an image, and it was built: IMAGE holds the one text of that image, and no other
-- file changed.
pub record IsBuilt (job : Build) (old new : Files) : Type 0 where
  pub are : AreFine job old
  pub written : Writes job.image (text_of are.image) old new

abbrev pub IsBuiltTold : Build → Option Files → Option Files → Type 0
IsBuiltTold job (Some old) (Some new) = IsBuilt job old new
IsBuiltTold job None None = ⊤
IsBuiltTold job (Some old) None = ⊥
IsBuiltTold job None (Some new) = ⊥

-- what an answer leaves of the files and of the counts
abbrev pub LeavesStore : Build → Seen → Seen → Answer → Type 0
LeavesStore job old new done = IsBuiltTold job old.files new.files × (new.writes ≡ old.writes) × (new.reads ≡ old.reads)
LeavesStore job old new (write_fault name) = (name ≡ job.image) × IsFailedWrite old new
LeavesStore job old new a = IsUnwritten old new × CountsReading (build_files job) (RefusesBuild job) old.reads new.reads new.bad a

-- ---- The line

-- the line of a build that was done, by the bytes of its code from 0x8000 on and of its data: it counts as one chain
abbrev pub built_line : ℕ → ℕ → Text
built_line code bytes = codes "built code " ++ (decimal code ++ (codes " data " ++ (decimal bytes ++ codes " chains 1\n")))

-- the bytes that an image has from 0x8000 on
abbrev pub code_size : List Block → ℕ
code_size [] = 0
code_size (b ∷ rest) = if b.start == 0x8000 then length b.bytes else code_size rest

-- the line tells the size of the image's code and of the program's objects
pub record TellsSize (job : Build) (files : Files) (line : Text) : Type 0 where
  pub are : AreFine job files
  pub tells : line ≡ built_line (code_size are.image) (data_bytes (graph_of are.program))

abbrev pub IsDoneLine : Build → Option Files → Text → Type 0
IsDoneLine job (Some files) line = TellsSize job files line
IsDoneLine job None line = (code : ℕ) × (bytes : ℕ) × (line ≡ built_line code bytes)

-- the line that tells an answer of a build of these files
abbrev pub IsBuildLine : Build → Option Files → Answer → Text → Type 0
IsBuildLine job files done line = IsDoneLine job files line
IsBuildLine job files a line = line ≡ line_of [] a

-- ---- The whole

-- how a build ends: why, what it leaves, and the line that tells it
pub record BuildEnds (job : Build) (old new : Seen) (a : Answer) (line : Text) : Type 0 where
  pub cause : IfSome old.files (λ files. BuildCauses job files a)
  pub leaves : LeavesStore job old new a
  pub tells : IsBuildLine job old.files a line
