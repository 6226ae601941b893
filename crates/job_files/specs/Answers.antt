-- How a job may end, and the line that tells it. A status with its texts as lists of bytes.
use Rattle.std.specs.Prelude.{◌≡◌, ◌⊎◌, ℕ, ◌++◌, codes, string_bytes, ⊤}
use Rattle.msp430_machine.specs.declared.answer.Why.{Why}
use Rattle.supplied_run.specs.declared.end.End.{End}
use Rattle.supplied_run.specs.declared.end.End.TheVariants as end
use Rattle.job_files.specs.declared.status.Status.TheVariants as status
use Rattle.job_files.specs.Refusals.{Refusal, refusal_code, refusal_line, refusal_of}
use Rattle.job_files.specs.Text.{Text}
use Rattle.job_files.specs.declared.status.Status.{Status}

-- how a run stops, but by END
pub data Stop : Type 0 where
  trapped : ℕ → Stop
  supply_ended : Stop
  step_limit : Stop
  power_fault : Stop
  machine_fault : ℕ → Why → Stop
  supply_fault : Stop

pub data Answer : Type 0 where
  done : Answer
  usage : Answer
  not_built : Answer
  read_fault : Text → Answer
  too_large : Text → ℕ → Answer
  write_fault : Text → Answer
  no_memory : Answer
  refused : Refusal → Answer
  stopped : Stop → Answer

abbrev pub answer_of : Status → Answer
answer_of status.Done = done
answer_of status.Usage = usage
answer_of status.NotBuilt = not_built
answer_of (status.ReadFault name) = read_fault (string_bytes name)
answer_of (status.TooLarge name seen) = too_large (string_bytes name) seen
answer_of (status.WriteFault name) = write_fault (string_bytes name)
answer_of status.Memory = no_memory
answer_of (status.Refused refusal) = refused (refusal_of refusal)
answer_of (status.Trapped word) = stopped (trapped word)
answer_of status.SupplyEnded = stopped supply_ended
answer_of status.StepLimit = stopped step_limit
answer_of status.PowerFault = stopped power_fault
answer_of (status.MachineFault pc why) = stopped (machine_fault pc why)
answer_of status.SupplyFault = stopped supply_fault

-- what a run comes to that ended so
abbrev pub came_of : End → Answer
came_of (end.Ended w) = done
came_of (end.Trapped n) = stopped (trapped n)
came_of end.PowerFault = stopped power_fault
came_of end.SupplyEnded = stopped supply_ended
came_of end.StepLimit = stopped step_limit
came_of (end.MachineFault pc why) = stopped (machine_fault pc why)
came_of end.SupplyFault = stopped supply_fault

abbrev pub stop_code : Stop → ℕ
stop_code (trapped n) = 14
stop_code supply_ended = 15
stop_code step_limit = 16
stop_code power_fault = 17
stop_code (machine_fault pc why) = 18
stop_code supply_fault = 19

-- the exit status
abbrev pub code_of : Answer → ℕ
code_of done = 0
code_of usage = 2
code_of not_built = 30
code_of (read_fault name) = 3
code_of (too_large name seen) = 20
code_of (write_fault name) = 4
code_of no_memory = 5
code_of (refused refusal) = refusal_code refusal
code_of (stopped stop) = stop_code stop

-- the line of an answer, where a job that was done, and a run or a say that has begun, tell the first text
abbrev pub line_of : Text → Answer → Text
line_of shown done = shown
line_of shown usage = codes "usage: schematic [--budget N] [--steps N] JOB [FILE]...\n"
line_of shown not_built = codes "not built: words\n"
line_of shown (read_fault name) = codes "cannot read " ++ (name ++ codes "\n")
line_of shown (too_large name seen) = codes "too large: " ++ (name ++ codes "\n")
line_of shown (write_fault name) = codes "cannot write " ++ (name ++ codes "\n")
line_of shown no_memory = codes "out of memory\n"
line_of shown (refused refusal) = refusal_line refusal
line_of shown (stopped stop) = shown

-- the status is this answer, unless there is no memory
abbrev pub IsOrNoMemory : Status → Answer → Type 0
IsOrNoMemory s a = (answer_of s ≡ a) ⊎ (answer_of s ≡ no_memory)

-- what is read is refused for this, unless there is no memory
abbrev pub IsRefusedFor : (Refusal → Type 0) → Answer → Type 0
IsRefusedFor P (refused r) = P r
IsRefusedFor P no_memory = ⊤
IsRefusedFor P a = ⊥

-- an answer that words, files and boxes alone decide
abbrev pub IsDecided : Answer → Type 0
IsDecided (read_fault name) = ⊥
IsDecided (write_fault name) = ⊥
IsDecided no_memory = ⊥
IsDecided (stopped supply_fault) = ⊥
IsDecided a = ⊤
