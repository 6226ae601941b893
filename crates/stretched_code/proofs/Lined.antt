-- Code in stretches, line by line: heads, restores, the setting of R10, operations, the lowering of R10, and saves. Lines are of any type;
-- what is said of each is what a plan has to give, and nothing is said of how plans are made.
use Rattle.std.proofs.Common.{◌≡◌, ◌≢◌, ◌⊎◌, ℕ, ◌+◌, ◌*◌, ◌<◌, ◌≤◌, Bool, true, false, [], ◌∷◌, Some}
use Rattle.std.specs.Prelude.{◌==◌, ◌||◌}
use Rattle.msp430_machine.specs.State.{State}
use Rattle.msp430_machine.specs.Cost.{instruction_cost}
use Rattle.power_core.proofs.Points.{Setting}
use Rattle.resumed_runs.specs.Code.{head}
use Rattle.resumed_runs.specs.Need.{wake_cost, sleep_cost}
use Rattle.resumed_runs.proofs.Paths.{Stand}
use Rattle.laid_code.specs.Flows.{Memory, On, Away, Effect, Flow}
use Rattle.laid_code.specs.Obeying.{AreSmall}
use Rattle.laid_code.proofs.Homes.{Home, IsClear}
use Rattle.laid_code.proofs.Words.{IsRoom, carries}
use Rattle.laid_code.proofs.Copying.{block_code, block_cost}
use Rattle.laid_code.proofs.Rounds.{sets_count, lowers_count, leaves}
use Rattle.laid_code.proofs.Homing.{Stretch, sram_home, fram_home, place_in, HomesApart, AtHead, Restored, Saved}
use Rattle.laid_code.proofs.Laid.{Layout, Here, Performed, effect_at}
use Rattle.stretched_code.proofs.Scopes.{Scope, Fits}

-- How far a stretch has come: at its head; behind the wake, with these objects restored; or at its operations, with these objects saved, of
-- which there are none before its saves begin.
pub data Phase : Type 0 where
  Resting : Phase
  Restoring : (ℕ → Bool) → Phase
  Saving : (ℕ → Bool) → Phase

abbrev pub nothing : ℕ → Bool
nothing o = false

abbrev pub with_one : (ℕ → Bool) → ℕ → ℕ → Bool
with_one done r o = done o || o == r

-- a line, what is still to be spent by operations of its scope, and whether one was done since the wake: 0 or 1
pub record Position (I : Type 0) : Type 0 where
  pub line : I
  pub left : ℕ
  pub busy : ℕ

pub record Lines (I Q : Type 0) : Type 1 where
  -- the word of the code at which a line begins
  pub address : I → ℕ
  -- the operation that is done next
  pub spot : I → Q
  -- of its stretch: the objects in SRAM, those that it writes, and their homes in SRAM
  pub in_sram : I → ℕ → Bool
  pub writes : I → ℕ → Bool
  pub sram : I → ℕ → ℕ
  -- homes in FRAM
  pub fram : ℕ → ℕ
  pub phase : I → Phase
  pub scope : I → Scope Q
  -- what is known of R10
  pub turns : I → ℕ → Type 0
  -- what is to be spent to the end of the stretch by R10, apart from what the operations of the scope spend
  pub rest : I → ℕ → ℕ
  -- 1 where control comes to the line only when an operation was done since the wake
  pub least : I → ℕ
  pub is_there : I → Type 0

module _ (I Q : Type 0) (flow : Flow Q) (words : ℕ → ℕ) (live : Q → ℕ → Type 0) (lines : Lines I Q) where
  abbrev pub stretch_at : I → Stretch
  stretch_at i = record { in_sram = lines.in_sram i; writes = lines.writes i; sram = lines.sram i; fram = lines.fram }

  -- those of the objects that are live
  abbrev pub done_live : Q → (ℕ → Bool) → ℕ → Type 0
  done_live q done o = (done o ≡ true) × live q o

  abbrev pub holds_in : Stretch → Phase → Q → ℕ → Home → Type 0
  holds_in s Resting q o h = AtHead Q flow words live s q o h
  holds_in s (Restoring done) q o h = Restored Q flow words live s (done_live q done) q o h
  holds_in s (Saving done) q o h = Saved Q flow words live s (done_live q done) q o h

  -- before an operation is done since the wake all that is live is held in FRAM too
  abbrev pub holds_at : Position I → ℕ → Home → Type 0
  holds_at x o h = holds_in (stretch_at x.line) (lines.phase x.line) (lines.spot x.line) o h ⊎ ((x.busy ≡ 0) × AtHead Q flow words live (stretch_at x.line) (lines.spot x.line) o h)

  pub record CountsAt (x : Position I) (m : Memory) (n : ℕ) : Type 0 where
    pub there : lines.is_there x.line
    pub fits : Fits Q flow (lines.scope x.line) (lines.spot x.line) m x.left
    pub turns : lines.turns x.line n
    pub busy : lines.least x.line ≤ x.busy

  abbrev pub lined_layout : Layout (Position I) Q
  lined_layout = record {
    address = λ x. lines.address x.line;
    spot = λ x. lines.spot x.line;
    place = λ x o. place_in (stretch_at x.line) o;
    holds = holds_at;
    frames = λ x. [];
    counts = CountsAt;
    budget = λ x m n. x.left + lines.rest x.line n;
    busy = λ x. x.busy;
  }

  -- ---- How lines follow one another

  -- Behind a wake, with these objects restored: more is restored; or operations begin, and all that is live and lives in SRAM is restored.
  pub data Begins (i : I) (done : ℕ → Bool) (to : I) : Type 0 where
    Further : lines.phase to ≡ Restoring done → Begins i done to
    Ready : lines.phase to ≡ Saving nothing → ((o : ℕ) → lines.in_sram i o ≡ true → live (lines.spot i) o → done o ≡ true) → Begins i done to

  -- Among operations, with these objects saved: the stretch goes on; or it ends, and all that is live, lives in SRAM and is written is saved.
  pub data Ends (i : I) (done : ℕ → Bool) (to : I) : Type 0 where
    Onward : stretch_at to ≡ stretch_at i → lines.phase to ≡ Saving done → Ends i done to
    AtEnd : lines.phase to ≡ Resting → ((o : ℕ) → lines.in_sram i o ≡ true → lines.writes i o ≡ true → live (lines.spot to) o → done o ≡ true) → Ends i done to

  module _ (g : Setting) where
    -- a move to a line, behind this cost, where R10 stays
    pub record GoesOn (i : I) (cost : ℕ) (to : I) : Type 0 where
      pub spot : lines.spot to ≡ lines.spot i
      pub scope : (lines.scope to ≡ lines.scope i) ⊎ ((lines.scope to).inside (lines.spot to) ≡ false)
      pub there : lines.is_there to
      pub turns : (n : ℕ) → lines.turns i n → lines.turns to n
      pub pays : (n : ℕ) → lines.turns i n → cost + lines.rest to n ≤ lines.rest i n
      pub least : lines.least to ≤ lines.least i

    -- ---- A head

    pub record IsHead (i : I) : Type 0 where
      pub to : I
      pub stands : Stand g.code (lines.address i) (head (0x8000 + 2 * (lines.address i + 9)))
      pub behind : lines.address to ≡ lines.address i + 11
      pub phase : lines.phase i ≡ Resting
      pub same : stretch_at to ≡ stretch_at i
      pub begins : Begins i nothing to
      pub spot : lines.spot to ≡ lines.spot i
      pub there : lines.is_there to
      pub turns : (n : ℕ) → lines.turns to n
      pub pays : (n : ℕ) → lines.turns i n → sleep_cost g.board ≤ lines.rest i n
      -- what its operations spend at most
      pub work : ℕ
      pub fits : (m : Memory) → Fits Q flow (lines.scope to) (lines.spot to) m work
      pub left : ℕ
      pub within : (n : ℕ) → work + lines.rest to n ≤ left
      pub affords : wake_cost g.board + left ≤ g.whole
      pub busy : 1 ≤ lines.least i
      pub fresh : lines.least to ≡ 0

    -- ---- Moves of an object

    pub data MoveCode (i : I) (from to : Home) (count cost : ℕ) (next : I) : Type 0 where
      Word : count ≡ 1 → Stand g.code (lines.address i) (carries from to 0 ∷ []) → lines.address next ≡ lines.address i + 3 → instruction_cost g.board (carries from to 0) ≤ cost → MoveCode i from to count cost next
      Block : (m : ℕ) → count ≡ m + 1 → Stand g.code (lines.address i) (block_code from to count) → lines.address next ≡ lines.address i + 7 → block_cost g.board from to count ≤ cost → MoveCode i from to count cost next

    pub record Restores (i : I) : Type 0 where
      pub to : I
      pub object : ℕ
      pub done : ℕ → Bool
      pub cost : ℕ
      pub phase : lines.phase i ≡ Restoring done
      pub lives : lines.in_sram i object ≡ true
      pub same : stretch_at to ≡ stretch_at i
      pub begins : Begins i (with_one done object) to
      pub room_sram : IsRoom (sram_home (stretch_at i) object) (words object)
      pub room_fram : IsRoom (fram_home (stretch_at i) object) (words object)
      pub code : MoveCode i (fram_home (stretch_at i) object) (sram_home (stretch_at i) object) (words object) cost to
      pub goes : GoesOn i cost to

    pub record Saves (i : I) : Type 0 where
      pub to : I
      pub object : ℕ
      pub done : ℕ → Bool
      pub cost : ℕ
      pub phase : lines.phase i ≡ Saving done
      pub lives : lines.in_sram i object ≡ true
      pub ends : Ends i (with_one done object) to
      pub room_sram : IsRoom (sram_home (stretch_at i) object) (words object)
      pub room_fram : IsRoom (fram_home (stretch_at i) object) (words object)
      pub code : MoveCode i (sram_home (stretch_at i) object) (fram_home (stretch_at i) object) (words object) cost to
      pub goes : GoesOn i cost to

    -- ---- R10

    pub record Sets (i : I) : Type 0 where
      pub to : I
      pub count : ℕ
      pub low : count < 65536
      pub done : ℕ → Bool
      pub phase : lines.phase i ≡ Restoring done
      pub same : stretch_at to ≡ stretch_at i
      pub begins : Begins i done to
      pub stands : Stand g.code (lines.address i) (sets_count count ∷ [])
      pub behind : lines.address to ≡ lines.address i + 2
      pub spot : lines.spot to ≡ lines.spot i
      pub scope : lines.scope to ≡ lines.scope i
      pub there : lines.is_there to
      pub turns : lines.turns to count
      pub pays : (n : ℕ) → lines.turns i n → instruction_cost g.board (sets_count 0) + lines.rest to count ≤ lines.rest i n
      pub least : lines.least to ≤ lines.least i

    pub record Lowers (i : I) : Type 0 where
      pub again : I
      pub out : I
      pub stands : Stand g.code (lines.address i) (lowers_count ∷ leaves ∷ [])
      pub room : lines.address i + 4 ≤ 0x3FC0
      pub phase : lines.phase i ≡ Saving nothing
      pub behind_again : lines.address again ≡ lines.address i + 2
      pub behind_out : lines.address out ≡ lines.address i + 4
      pub same_again : stretch_at again ≡ stretch_at i
      pub same_out : stretch_at out ≡ stretch_at i
      pub phase_again : lines.phase again ≡ Saving nothing
      pub phase_out : lines.phase out ≡ Saving nothing
      pub spot_again : lines.spot again ≡ lines.spot i
      pub spot_out : lines.spot out ≡ lines.spot i
      pub scope_again : lines.scope again ≡ lines.scope i
      pub scope_out : lines.scope out ≡ lines.scope i
      pub there_again : lines.is_there again
      pub there_out : lines.is_there out
      pub some : (n : ℕ) → lines.turns i n → (1 ≤ n) × (n < 65536)
      pub turns_again : (n : ℕ) → lines.turns i (n + 1) → n ≢ 0 → lines.turns again n
      pub turns_out : lines.turns i 1 → lines.turns out 0
      pub pays_again : (n : ℕ) → lines.turns i (n + 1) → n ≢ 0 → instruction_cost g.board lowers_count + (instruction_cost g.board leaves + lines.rest again n) ≤ lines.rest i (n + 1)
      pub pays_out : lines.turns i 1 → instruction_cost g.board lowers_count + (instruction_cost g.board leaves + lines.rest out 0) ≤ lines.rest i 1
      pub least_again : lines.least again ≤ lines.least i
      pub least_out : lines.least out ≤ lines.least i

    -- ---- An operation

    abbrev pub effect : I → Memory → ℕ → Effect
    effect i m taken = effect_at (Position I) Q flow words lined_layout g (record { line = i; left = 0; busy = 0 }) m taken

    -- what there is to show of the line that an operation leads to, which is done from this place on
    pub record Follows (i : I) (done : ℕ → Bool) (q : Q) (to : I) : Type 0 where
      pub spot : lines.spot to ≡ q
      pub ends : Ends i done to
      -- what is live behind is live before, or written whole
      pub before : (o : ℕ) → live q o → flow.target (lines.spot i) ≢ Some o → live (lines.spot i) o
      pub part : (o : ℕ) → live q o → flow.target (lines.spot i) ≡ Some o → live (lines.spot i) o ⊎ (words o ≡ 1)
      pub there : lines.is_there to
      pub turns : (n : ℕ) → lines.turns i n → lines.turns to n
      pub least : lines.least to ≤ 1

    -- an operation of the scope: what it leads to is of the scope too, or none of any
    pub record Inside (i to : I) : Type 0 where
      pub scope : (lines.scope to ≡ lines.scope i) ⊎ ((lines.scope to).inside (lines.spot to) ≡ false)
      pub pays : (n : ℕ) → lines.turns i n → lines.rest to n ≤ lines.rest i n

    -- an operation of none, behind which a turn or a stretch begins, whose operations spend so much at most
    pub record Bare (i : I) (weight work : ℕ) (to : I) : Type 0 where
      pub fits : (m : Memory) → Fits Q flow (lines.scope to) (lines.spot to) m work
      pub pays : (n : ℕ) → lines.turns i n → weight + (work + lines.rest to n) ≤ lines.rest i n

    abbrev pub Spends : Bool → I → ℕ → ℕ → I → Type 0
    Spends true i weight work to = Inside i to
    Spends false i weight work to = Bare i weight work to

    abbrev pub CanPay : Bool → I → ℕ → Type 0
    CanPay true i weight = ((lines.scope i).inside (lines.spot i) ≡ true) × ((lines.scope i).price (lines.spot i) ≡ weight)
    CanPay false i weight = (n : ℕ) → lines.turns i n → weight ≤ lines.rest i n

    pub record Does (i : I) : Type 0 where
      pub on : I
      pub away : I
      pub weight : ℕ
      pub work_on : ℕ
      pub work_away : ℕ
      pub done : ℕ → Bool
      pub phase : lines.phase i ≡ Saving done
      pub inside : Bool
      pub can_pay : CanPay inside i weight
      -- what is written is written by the stretch, and not saved yet
      pub writes : (o : ℕ) → flow.target (lines.spot i) ≡ Some o → (lines.writes i o ≡ true) × (done o ≡ false)
      pub clear : (o : ℕ) → flow.target (lines.spot i) ≡ Some o → IsClear (place_in (stretch_at i) o) (words o)
      pub leads_on : (m : Memory) (taken : ℕ) → (effect i m taken).turn ≡ On → Follows i done (flow.on (lines.spot i)) on × Spends inside i weight work_on on
      pub leads_away : (m : Memory) (taken : ℕ) → (effect i m taken).turn ≡ Away → Follows i done (flow.away (lines.spot i)) away × Spends inside i weight work_away away
      pub performs : (left busy left_on busy_on left_away busy_away : ℕ) (m : Memory) (s : State) → AreSmall words m
          → Here (Position I) Q flow words lined_layout g (record { line = i; left = left; busy = busy }) m s
          → Performed (Position I) Q flow words lined_layout g (record { line = i; left = left; busy = busy }) (record { line = on; left = left_on; busy = busy_on }) (record { line = away; left = left_away; busy = busy_away }) weight
          (effect i m s.taken) s

    -- ---- Any line

    pub data LineAt (i : I) : Type 0 where
      AHead : IsHead i → LineAt i
      ARestore : Restores i → LineAt i
      ASave : Saves i → LineAt i
      ASet : Sets i → LineAt i
      ALower : Lowers i → LineAt i
      AnOperation : Does i → LineAt i

    -- what there is to show of the code
    pub record LinesStand : Type 0 where
      pub lines_are : (i : I) → lines.is_there i → LineAt i
      -- homes of different objects have no word in common
      pub apart : (i : I) → lines.is_there i → HomesApart words (stretch_at i)
      pub high : (o : ℕ) → 0x2200 ≤ lines.fram o
