-- A say as the code has it.
use Rattle.say_job.specs.Say.{Say}
use Rattle.say_job.specs.declared.job.SayJob.{SayJob}

abbrev pub say_named : SayJob → Say
say_named j = record { program = j.program.now; input = j.input.now; steps = j.steps }
