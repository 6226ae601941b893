-- The text of a run: a line for each word, a line that tells its end, and a line of its counts.
use Rattle.std.specs.Prelude.{ℕ, ◌==◌, List, [], ◌∷◌, ◌++◌, codes, decimal, if◌then◌else◌}
use Rattle.base_io.specs.Digits.{hex_word}
use Rattle.msp430_machine.specs.declared.answer.Why.{Why}
use Rattle.msp430_machine.specs.declared.answer.Why.TheVariants.{Fetch, Instruction, Odd, Port, Unmapped, ReadOnly}
use Rattle.power_core.specs.Cores.{Counts}
use Rattle.supplied_run.specs.declared.end.End.{End}
use Rattle.supplied_run.specs.declared.end.End.TheVariants.{Ended, Trapped, PowerFault, SupplyEnded, StepLimit, MachineFault, SupplyFault}

abbrev pub word_line : ℕ → List ℕ
word_line w = codes "out " ++ decimal w ++ codes "\n"

abbrev pub word_lines : List ℕ → List ℕ
word_lines [] = []
word_lines (w ∷ ws) = word_line w ++ word_lines ws

-- traps that have a name, and others by their number
abbrev pub trap_name : ℕ → List ℕ
trap_name n =
    if n == 1 then codes "divide"
    else if n == 2 then codes "index"
    else if n == 3 then codes "shift" else decimal n

abbrev pub why_name : Why → List ℕ
why_name Fetch = codes "fetch"
why_name Instruction = codes "instruction"
why_name Odd = codes "odd"
why_name Port = codes "port"
why_name Unmapped = codes "unmapped"
why_name ReadOnly = codes "read only"

abbrev pub end_line : End → List ℕ
end_line (Ended w) = codes "end " ++ decimal w ++ codes "\n"
end_line (Trapped n) = codes "trap " ++ trap_name n ++ codes "\n"
end_line PowerFault = codes "power fault\n"
end_line SupplyEnded = codes "supply ended\n"
end_line StepLimit = codes "step limit\n"
end_line (MachineFault pc why) = codes "machine fault at " ++ hex_word pc ++ codes ": " ++ why_name why ++ codes "\n"
end_line SupplyFault = codes "supply fault\n"

abbrev pub count_line : Counts → List ℕ
count_line c =
    codes "charges " ++ decimal c.charges ++ codes " instructions " ++ decimal c.instructions ++ codes " spent " ++ decimal c.spent ++ codes "\n"

-- the last two lines
abbrev pub last_lines : End → Counts → List ℕ
last_lines end counts = end_line end ++ count_line counts
