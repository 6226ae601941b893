-- The text that the plain meaning of a program shows: its words, how it stands, and how many steps it has begun.
use Rattle.std.specs.Prelude.{◌≡◌, ◌≤◌, ℕ, List, ◌++◌, length, take, Option, Some, None, Result, Ok, Err, codes, decimal}
use Rattle.c_tree.specs.Lines.{Took, lines}
use Rattle.c_tree.specs.Meaning.{meaning, steps}
use Rattle.c_tree.specs.declared.saying.SayFault.{SayFault}
use Rattle.c_tree.specs.declared.saying.SayFault.TheVariants.{Sink, Memory}
use Rattle.c_tree.specs.declared.tree.Program.{Program}
use Rattle.plain_meaning.specs.Behaviour.{Outcome, Going, EndedWith, TrappedWith}
use Rattle.supplied_run.specs.Lines.{end_line}
use Rattle.supplied_run.specs.declared.end.End.{End}
use Rattle.supplied_run.specs.declared.end.End.TheVariants.{Ended, Trapped, StepLimit}

-- how a program stands, as the end of what it was allowed
abbrev pub end_of : Outcome → End
end_of Going = StepLimit
end_of (EndedWith w) = Ended w
end_of (TrappedWith t) = Trapped t

abbrev pub steps_line : ℕ → List ℕ
steps_line n = codes "steps " ++ decimal n ++ codes "\n"

-- the lines of the words that a program puts in at most n steps
abbrev pub words_shown : Program → List ℕ → ℕ → List ℕ
words_shown p input n = lines (meaning p input n).words

-- the whole text
abbrev pub shown : Program → List ℕ → ℕ → List ℕ
shown p input n = words_shown p input n ++ (end_line (end_of (meaning p input n).outcome) ++ steps_line (steps p input n))

-- a front of these bytes was added, where the sink tells its bytes
abbrev pub TookFront : List ℕ → Option (List ℕ) → Option (List ℕ) → Type 0
TookFront bytes (Some old) (Some new) = (n : ℕ) × (n ≤ length bytes) × (new ≡ old ++ take n bytes)
TookFront bytes None None = Unit {0}
TookFront bytes (Some old) None = ⊥
TookFront bytes None (Some new) = ⊥

-- The whole text was put and tells the end; where the sink failed, a front of it; and where there was no memory, a front of the lines of
-- the words.
abbrev pub Shows : Program → List ℕ → ℕ → Result End SayFault → Option (List ℕ) → Option (List ℕ) → Type 0
Shows p input n (Ok end) old new = (end ≡ end_of (meaning p input n).outcome) × Took old new (shown p input n)
Shows p input n (Err Sink) old new = TookFront (shown p input n) old new
Shows p input n (Err Memory) old new = TookFront (words_shown p input n) old new
