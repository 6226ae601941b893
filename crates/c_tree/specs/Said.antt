-- What a saying of a program answers, and what it has put.
use Rattle.std.specs.Prelude.{◌≡◌, ◌≤◌, ℕ, List, ◌++◌, Option, Result, Ok, Err}
use Rattle.base_io.specs.Counts.{Rose}
use Rattle.plain_meaning.specs.Behaviour.{Outcome, Going, EndedWith, TrappedWith}
use Rattle.c_tree.specs.Lines.{Took}
use Rattle.c_tree.specs.declared.saying.SaidEnd.{SaidEnd}
use Rattle.c_tree.specs.declared.saying.SaidEnd.TheVariants as end
use Rattle.c_tree.specs.declared.saying.SayFault.{SayFault}
use Rattle.c_tree.specs.declared.saying.SayFault.TheVariants as fault

-- how the program stands, by the answer
abbrev pub outcome_of_end : SaidEnd → Outcome
outcome_of_end end.Going = Going
outcome_of_end (end.Ended w) = EndedWith w
outcome_of_end (end.Trapped t) = TrappedWith t

-- all the bytes were put; where the call failed, a front of them
abbrev pub Says : {T : Type 0} → List ℕ → Result T SayFault → Option (List ℕ) → Option (List ℕ) → Type 0
Says bytes (Ok _) old new = Took old new bytes
Says bytes (Err _) old new = (front : List ℕ) × (rest : List ℕ) × (bytes ≡ front ++ rest) × Took old new front

-- a fault of the sink is answered only where its count rose, and nothing else raises it
abbrev pub SaysCause : {T : Type 0} → Result T SayFault → ℕ → ℕ → Type 0
SaysCause (Ok _) before now = now ≡ before
SaysCause (Err fault.Sink) before now = (before ≤ now) × Rose before now
SaysCause (Err fault.Memory) before now = now ≡ before
