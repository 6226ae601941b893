-- A run, its texts and what they hold, as the code has them.
use Rattle.std.specs.Prelude.{map}
use Rattle.ti_txt.specs.Bytes.{blocks_of}
use Rattle.run_job.specs.Run.{Run, RunTexts}
use Rattle.run_job.specs.Running.{RunHolds}
use Rattle.run_job.specs.declared.job.RunJob.{RunJob}
use Rattle.run_job.specs.declared.run_contents.Contents.{Contents}
use Rattle.run_job.specs.declared.run_texts.Texts.{Texts}

abbrev pub run_named : RunJob → Run
run_named j = record { image = j.image.now; board = j.board.now; input = j.input.now; supplies = map (λ s. s.now) j.supplies.now; budget = j.budget; steps = j.steps }

abbrev pub texts_seen : Texts → RunTexts
texts_seen t = record { image = t.image.items; board = t.board.items; input = t.input.items; supplies = map (λ v. v.items) t.supplies.items }

abbrev pub held_in : Contents → RunHolds
held_in h = record { image = blocks_of h.image; board = h.board; input = h.input.items; rows = map (λ v. v.items) h.rows.items }
