-- A plan as it is asked for, with the files that it reads.
use Rattle.std.specs.Prelude.{ℕ, List, Option}
use Rattle.job_files.specs.Reads.{Wanted, most_board, most_program, two_wanted}
use Rattle.job_files.specs.Text.{Text}

-- a plan: its files, and the budget that takes the place of the board's, if one is asked for
pub record Plan : Type 0 where
  pub program : Text
  pub board : Text
  pub budget : Option ℕ

-- the files that a plan reads, in the order of its words
abbrev pub plan_files : Plan → List Wanted
plan_files job = two_wanted most_program job.program most_board job.board
