-- A build as the code has it.
use Rattle.build_job.specs.Build.{Build}
use Rattle.build_job.specs.declared.job.BuildJob.{BuildJob}

abbrev pub build_named : BuildJob → Build
build_named j = record { program = j.program.now; board = j.board.now; image = j.image.now; certificate = j.certificate.now; budget = j.budget }
