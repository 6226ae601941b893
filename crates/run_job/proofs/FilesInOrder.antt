-- The files of a run that are still to be read.
use Rattle.std.proofs.Common.{List, ◌∷◌, map}
use Rattle.job_files.specs.Reads.{Wanted, most_board, most_input, wanted}
use Rattle.run_job.specs.Run.{Run}

abbrev pub of_supplies : Run → List Wanted
of_supplies job = map (wanted most_input) job.supplies

abbrev pub from_input : Run → List Wanted
from_input job = wanted most_input job.input ∷ of_supplies job

abbrev pub from_board : Run → List Wanted
from_board job = wanted most_board job.board ∷ from_input job
