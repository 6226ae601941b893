-- A say as it is asked for, with its files.
use Rattle.std.specs.Prelude.{ℕ, List}
use Rattle.job_files.specs.Reads.{Wanted, most_input, most_program, two_wanted}
use Rattle.job_files.specs.Text.{Text}

-- A say: its files, and the most steps.
pub record Say : Type 0 where
  pub program : Text
  pub input : Text
  pub steps : ℕ

-- the files of a say, in the order of its words
abbrev pub say_files : Say → List Wanted
say_files job = two_wanted most_program job.program most_input job.input
