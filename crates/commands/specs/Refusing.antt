-- A job that is refused before it begins, and the line that tells it.
use Rattle.std.specs.Prelude.{◌≡◌, [], Result, MatchResult, string_bytes, ⊤}
use Rattle.base_io.specs.declared.memory.Memory.{Memory}
use Rattle.job_files.specs.Answers.{Answer, answer_of, line_of}
use Rattle.commands.specs.Beginnings.{MatchBeginning}
use Rattle.commands.specs.declared.call.Beginning.{Beginning}

-- it ends with this answer and its line, unless there is no memory for the line
abbrev pub IsRefusal : Answer → Result Beginning Memory → Type 0
IsRefusal a r =
    MatchResult r
    (λ b. MatchBeginning b (λ ending. (answer_of ending.status ≡ a) × (string_bytes ending.line ≡ line_of [] a)) (λ session. ⊥) (λ saying. ⊥))
    (λ m. ⊤)
