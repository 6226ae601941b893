-- The job that the words ask for, with its files.
use Rattle.std.specs.Prelude.{◌≤◌, ◌&&◌, IfSome, ℕ, Bool, true, not, List, [], ◌∷◌, length, map, Option, Some, None, option_map, option_and_then, unwrap_or, if◌then◌else◌, nat_le, codes}
use Rattle.std.specs.List.{list_any}
use Rattle.std.specs.Str.{bytes_eq}
use Rattle.job_parts.specs.Words.{Word, Given, given_from, nothing, number}
use Rattle.job_parts.specs.declared.job.Job.{Job}
use Rattle.job_parts.specs.declared.job.Job.TheVariants as job
use Rattle.job_parts.specs.declared.Asked.{Asked}

-- a job and its files
pub data Task : Type 0 where
  build : Word → Word → Word → Word → Task
  check : Word → Word → Word → Task
  run : Word → Word → Word → List Word → Task
  say : Word → Word → Task
  plan : Word → Word → Task
  gen : ℕ → ℕ → Word → Task

abbrev pub differ : List Word → Bool
differ [] = true
differ (w ∷ ws) = not (list_any (λ v. bytes_eq v w) ws) && differ ws

abbrev pub build_of : List Word → Option Task
build_of (program ∷ board ∷ image ∷ certificate ∷ []) =
    if differ (program ∷ board ∷ image ∷ certificate ∷ []) then Some (build program board image certificate) else None
build_of _ = None

abbrev pub check_of : List Word → Option Task
check_of (image ∷ certificate ∷ board ∷ []) = Some (check image certificate board)
check_of _ = None

abbrev pub run_of : List Word → Option Task
run_of (image ∷ board ∷ input ∷ supplies) =
    if nat_le 1 (length supplies) && nat_le (length supplies) 256 then Some (run image board input supplies) else None
run_of _ = None

abbrev pub say_of : List Word → Option Task
say_of (program ∷ input ∷ []) = Some (say program input)
say_of _ = None

abbrev pub plan_of : List Word → Option Task
plan_of (program ∷ board ∷ []) = Some (plan program board)
plan_of _ = None

abbrev pub gen_of : List Word → Option Task
gen_of (seed ∷ size ∷ board ∷ []) =
    option_and_then (λ n. option_map (λ m. gen n m board) (number 1 300 size)) (number 0 65535 seed)
gen_of _ = None

abbrev pub files_of : Word → List Word → Option Task
files_of name files =
    if bytes_eq name (codes "build") then build_of files
    else if bytes_eq name (codes "check") then check_of files
    else if bytes_eq name (codes "run") then run_of files
    else if bytes_eq name (codes "say") then say_of files
    else if bytes_eq name (codes "plan") then plan_of files
    else if bytes_eq name (codes "gen") then gen_of files else None

-- the table of jobs; no file is the word `-`
unfoldable pub task_of : List Word → Option Task
task_of [] = None
task_of (name ∷ files) = if list_any (λ w. bytes_eq w (codes "-")) files then None else files_of name files

pub record Request : Type 0 where
  pub task : Task
  pub budget : Option ℕ
  pub steps : ℕ

abbrev pub request_of : Given → Option Request
request_of g = option_map (λ t. record { task = t; budget = g.budget; steps = unwrap_or g.steps 1000000 }) (task_of g.rest)

-- what the words ask for, or nothing where they have no reading
unfoldable pub asked : List Word → Option Request
asked words = option_and_then request_of (given_from None nothing words)

-- a number that an option gives
abbrev pub IsSetting : Option ℕ → Type 0
IsSetting n = IfSome n (λ m. (1 ≤ m) × (m ≤ 1000000000))

-- the numbers of a request are in their range
pub record IsInRange (r : Request) : Type 0 where
  pub budget : IsSetting r.budget
  pub steps : (1 ≤ r.steps) × (r.steps ≤ 1000000000)

-- ---- the same of the code's types

abbrev pub job_task : Job → Task
job_task (job.Build program board image certificate) = build program.now board.now image.now certificate.now
job_task (job.Check image certificate board) = check image.now certificate.now board.now
job_task (job.Run image board input supplies) = run image.now board.now input.now (map (λ s. s.now) supplies.items)
job_task (job.Say program input) = say program.now input.now
job_task (job.Plan program board) = plan program.now board.now
job_task (job.Gen seed size board) = gen seed size board.now

abbrev pub request : Asked → Request
request a = record { task = job_task a.job; budget = a.budget; steps = a.steps }
