-- How a call over a sink stands to a part of the plain meaning.
use Rattle.std.specs.Prelude.{◌≡◌, ◌≤◌, ℕ, ◌+◌, List, ◌++◌, Result, Ok, Err}
use Rattle.base_io.specs.Counts.{Rose}
use Rattle.c_tree.specs.Lines.{Seen, Took, lines}
use Rattle.c_tree.specs.Runs.{Event, State, Got, Done, Trapped, Stopped, Part}
use Rattle.c_tree.specs.Nodes.{Within, to_depth}
use Rattle.c_tree.specs.Meaning.{put_words, begun, events}
use Rattle.c_tree.specs.declared.tree.Program.{Program}
use Rattle.c_tree.specs.declared.halt.Halt.{Halt}
use Rattle.c_tree.specs.declared.halt.Halt.TheVariants as halt

-- what was shown by the whole of a part: its lines were put, and its steps taken
pub record Whole (old : State) (a : Seen) (es : List Event) (new : State) (b : Seen) : Type 0 where
  pub words : Took a.taken b.taken (lines (put_words es))
  pub steps : begun es + new.left ≡ old.left
  pub faults : b.faults ≡ a.faults

pub record IsDone {A : Type 0} (got : Got A) (old : State) (a : Seen) (v : A) (new : State) (b : Seen) : Type 0 where
  pub es : List Event
  pub is : got ≡ Done es v new
  pub whole : Whole old a es new b

pub record IsTrapped {A : Type 0} (got : Got A) (old : State) (a : Seen) (t : ℕ) (new : State) (b : Seen) : Type 0 where
  pub es : List Event
  pub is : got ≡ Trapped es t
  pub whole : Whole old a es new b

pub record IsStopped {A : Type 0} (got : Got A) (old : State) (a : Seen) (new : State) (b : Seen) : Type 0 where
  pub es : List Event
  pub is : got ≡ Stopped es
  pub whole : Whole old a es new b

-- what was put is a front of what the whole would put
pub record IsPartly {A : Type 0} (got : Got A) (a b : Seen) : Type 0 where
  pub bytes : List ℕ
  pub rest : List ℕ
  pub is : lines (put_words (events got)) ≡ bytes ++ rest
  pub words : Took a.taken b.taken bytes

-- a call began in `old` with the sink as in `a`, gave its result, and left `new` and `b`
abbrev pub Follows : {A : Type 0} → Got A → State → Seen → Result A Halt → State → Seen → Type 0
Follows got old a (Ok v) new b = IsDone got old a v new b
Follows got old a (Err (halt.Trap t)) new b = IsTrapped got old a t new b
Follows got old a (Err halt.Stopped) new b = IsStopped got old a new b
Follows got old a (Err halt.Sink) new b = IsPartly got a b × ((a.faults ≤ b.faults) × Rose a.faults b.faults)
Follows got old a (Err halt.Memory) new b = IsPartly got a b × (b.faults ≡ a.faults)

-- the same of what nodes do, to each depth that the steps left may need
abbrev pub Does : {A : Type 0} → Program → (Within → Part A) → State → Seen → Result A Halt → State → Seen → Type 0
Does p part old a r new b = (d : ℕ) → old.left ≤ d → Follows (part (to_depth p d) old) old a r new b

-- a call that puts nothing
abbrev pub Quietly : {A : Type 0} → Part A → State → Result A Halt → State → Type 0
Quietly part old r new = (a : Seen) → Follows (part old) old a r new a

-- where the second run has come to, the first comes to as well
abbrev pub Leads : {A : Type 0} → Got A → State → Seen → Got A → State → Seen → Type 0
Leads {A} got s a got' s' a' = (r : Result A Halt) (s'' : State) (a'' : Seen) → Follows got' s' a' r s'' a'' → Follows got s a r s'' a''

-- the same of two parts that put nothing
abbrev pub LeadsQuietly : {A : Type 0} → Part A → State → Part A → State → Type 0
LeadsQuietly p s q s' = (a : Seen) → Leads (p s) s a (q s') s' a
