-- What a run has put, and what it leaves.
use Rattle.std.specs.Prelude.{ℕ, ◌≡◌, ◌≤◌, ◌⊎◌, ◌++◌, List, [], ◌∷◌, drop, Option, Some, None, Result, Ok, Err}
use Rattle.base_io.specs.Counts.{Rose}
use Rattle.base_io.specs.declared.sink.SinkFault.{SinkFault}
use Rattle.board_table.specs.declared.board.Board.{Board}
use Rattle.msp430_machine.specs.declared.answer.Refill.{Refill}
use Rattle.msp430_machine.specs.State.{State}
use Rattle.power_core.specs.Runs.{Trail}
use Rattle.power_core.specs.Cores.{counts_of}
use Rattle.supplied_run.specs.declared.end.End.{End}
use Rattle.supplied_run.specs.declared.end.End.TheVariants.{Ended, Trapped, PowerFault, SupplyEnded, StepLimit, MachineFault, SupplyFault}
use Rattle.supplied_run.specs.Lines.{word_lines, last_lines}
use Rattle.supplied_run.specs.Rows.{Reaches, EndsAs}

-- the whole text of a run that ended so
abbrev pub text_of : Trail → End → List ℕ
text_of t end = word_lines t.put ++ last_lines end (counts_of t)

-- The bytes are a front of the text of a run that stands here: of the lines of its words so far, or, where it ends here, of
-- its whole text.
pub record IsFront (limit : ℕ) (left : List Refill) (t : Trail) (bytes : List ℕ) : Type 0 where
  pub text : List ℕ
  pub so_far : (text ≡ word_lines t.put) ⊎ ((end : End) × EndsAs limit t.state t.instructions left end × (text ≡ text_of t end))
  pub rest : List ℕ
  pub front : text ≡ bytes ++ rest

-- these bytes were added, where the sink tells its bytes
abbrev pub Added : Option (List ℕ) → Option (List ℕ) → (List ℕ → Type 0) → Type 0
Added (Some old) (Some new) P = (bytes : List ℕ) × (new ≡ old ++ bytes) × P bytes
Added None None P = Unit {0}
Added (Some old) None P = ⊥
Added None (Some new) P = ⊥

-- A run that was told to its end has put its whole text; where the sink failed, a front of it.
abbrev pub Puts : ℕ → List Refill → Trail → Result End SinkFault → Option (List ℕ) → Option (List ℕ) → Type 0
Puts limit left t (Ok end) old new = EndsAs limit t.state t.instructions left end × Added old new (λ bytes. bytes ≡ text_of t end)
Puts limit left t (Err fault) old new = Added old new (IsFront limit left t)

-- The run from this first state over these rows: where it has come to, and what it has put. The rows left are all but those of
-- its wakes.
pub record Shows (b : Board) (input : List ℕ) (limit : ℕ) (first : State) (rows left : List Refill) (told : Result End SinkFault) (old new : Option (List ℕ)) : Type 0 where
  pub trail : Trail
  pub reaches : Reaches b input limit first rows left trail
  pub left_are : left ≡ drop trail.wakes rows
  pub puts : Puts limit left trail told old new

-- ---- Boxes

-- how the count of faults of the box in front compares with its count at entry
abbrev pub FrontCounts : Result End SinkFault → ℕ → ℕ → Type 0
FrontCounts (Ok SupplyFault) before now = (before ≤ now) × Rose before now
FrontCounts (Ok (Ended w)) before now = now ≡ before
FrontCounts (Ok (Trapped n)) before now = now ≡ before
FrontCounts (Ok PowerFault) before now = now ≡ before
FrontCounts (Ok SupplyEnded) before now = now ≡ before
FrontCounts (Ok StepLimit) before now = now ≡ before
FrontCounts (Ok (MachineFault pc why)) before now = now ≡ before
FrontCounts (Err fault) before now = before ≤ now

module _ {B : Type 0} (faults : B → ℕ) (Counts : ℕ → ℕ → Type 0) where
  -- a box in front, and those behind it: they are the last of the boxes at entry
  pub record AreLast (before : List B) (front : B) (behind : List B) : Type 0 where
    pub dropped : List B
    pub entry : B
    pub is : before ≡ dropped ++ entry ∷ behind
    pub count : Counts (faults entry) (faults front)

  -- Boxes are dropped from the front alone, and of those left the front one alone may have changed.
  abbrev pub AreLeft : List B → List B → Type 0
  AreLeft before [] = Unit {0}
  AreLeft before (front ∷ behind) = AreLast before front behind
