-- Where a reader stands in a text, and where the next byte leads it.
use Rattle.std.specs.Prelude.{◌≡◌, ℕ, ◌+◌, ◌-◌, ◌*◌, ◌<◌, ◌≤◌, ◌^◌, ◌==◌, List, length, [], Option, Some, None, Result, Ok, Err, nat_lt, slice_set, slice_index_or, if◌then◌else◌}
use Rattle.std.specs.Option.{option_map}
use Rattle.ti_txt.specs.Grammar.{Put, Puts, digit_of, fault_of, first_fault, given, is_white}
use Rattle.ti_txt.specs.declared.fault.TxtFault.{TxtFault}
use Rattle.ti_txt.specs.declared.fault.TxtFault.TheVariants.{BadByte}
use Rattle.ti_txt.specs.declared.spot.Spot.{Spot}
use Rattle.ti_txt.specs.declared.spot.Spot.TheVariants.{Before, Between, Origin, Half, Whole, Ended}

-- at no word: white space leaves the reader there, and `@` and `q` lead on
abbrev pub from_gap : Spot → ℕ → Option Spot → Option Spot
from_gap gap b other = if is_white b then Some gap else (if b == 64 then Some (Origin 0 0) else (if b == 113 then Some Ended else other))

abbrev pub step_of : Spot → ℕ → Option Spot
step_of Before b = from_gap Before b None
step_of (Between next) b = from_gap (Between next) b (option_map (λ d. Half next d) (digit_of b))
step_of (Origin n a) b = if is_white b then (if n == 0 then None else Some (Between a)) else (if nat_lt n 4 then option_map (λ d. Origin (n + 1) (16 * a + d)) (digit_of b) else None)
step_of (Half next high) b = option_map (λ d. Whole next (16 * high + d)) (digit_of b)
step_of (Whole a v) b = if is_white b then Some (Between (a + 1)) else None
step_of Ended b = if is_white b then Some Ended else None

-- the numbers of a spot fit where a step begins
abbrev pub IsPlaced : Spot → Type 0
IsPlaced Before = Unit {0}
IsPlaced (Between next) = next ≤ 0x10000
IsPlaced (Origin n a) = (n ≤ 4) × (a < 16 ^ n)
IsPlaced (Half next high) = (next ≤ 0x10000) × (high < 16)
IsPlaced (Whole a v) = (a < 0x10000) × (v < 256)
IsPlaced Ended = Unit {0}

-- the same right behind a step, where a byte may stand at an address past the end
abbrev pub IsMoved : Spot → Type 0
IsMoved Before = Unit {0}
IsMoved (Between next) = next ≤ 0x10000
IsMoved (Origin n a) = (n ≤ 4) × (a < 16 ^ n)
IsMoved (Half next high) = (next ≤ 0x10000) × (high < 16)
IsMoved (Whole a v) = (a ≤ 0x10000) × (v < 256)
IsMoved Ended = Unit {0}

-- A cell for each address: the byte that was put there, if one was.
abbrev pub Cells : Type 0
Cells = List (Option ℕ)

abbrev pub cell_of : Cells → ℕ → Option ℕ
cell_of cells address = slice_index_or cells address None

-- the cells hold just these puts
pub record Keeps (cells : Cells) (puts : List Put) : Type 0 where
  pub size : length cells ≡ 0x10000
  pub each : (address : ℕ) → cell_of cells address ≡ given puts address

abbrev pub put_of : ℕ → ℕ → ℕ → Put
put_of at address value = record { at = at; address = address; value = value }

-- a byte goes into its cell, if it has no fault
abbrev pub stored : Cells → Put → Option TxtFault → Result Cells TxtFault
stored cells p None = Ok (slice_set cells p.address (Some p.value))
stored cells p (Some fault) = Err fault

-- the cells behind a step that leads to the spot by the byte at the offset
abbrev pub settled : ℕ → Spot → Cells → Result Cells TxtFault
settled at (Whole a v) cells = stored cells (put_of (at - 1) a v) (fault_of (cell_of cells) (put_of (at - 1) a v))
settled at Before cells = Ok cells
settled at (Between next) cells = Ok cells
settled at (Origin n a) cells = Ok cells
settled at (Half next high) cells = Ok cells
settled at Ended cells = Ok cells

abbrev pub with_spot : Spot → Result Cells TxtFault → Result (Spot × Cells) TxtFault
with_spot spot (Ok cells) = Ok (spot, cells)
with_spot spot (Err fault) = Err fault

-- the spot and the cells behind the byte at the offset, if a step led to one
abbrev pub reached : ℕ → Option Spot → Cells → Result (Spot × Cells) TxtFault
reached at None cells = Err (BadByte at)
reached at (Some spot) cells = with_spot spot (settled at spot cells)

abbrev pub advanced : ℕ → Spot → ℕ → Cells → Result (Spot × Cells) TxtFault
advanced at spot b cells = reached at (step_of spot b) cells

-- What was answered, with the cells that were left, is what was to come; a fault leaves any cells.
abbrev pub GivesCells : {T : Type 0} → Result T TxtFault → Cells → Result Cells TxtFault → Type 0
GivesCells (Ok _) cells wanted = wanted ≡ Ok cells
GivesCells (Err fault) cells wanted = wanted ≡ Err fault

abbrev pub Gives : Result Spot TxtFault → Cells → Result (Spot × Cells) TxtFault → Type 0
Gives (Ok spot) cells wanted = wanted ≡ Ok (spot, cells)
Gives (Err fault) cells wanted = wanted ≡ Err fault

-- The text is in the grammar, no byte is at fault, and the cells hold the bytes that are put.
pub record Loaded (text : List ℕ) (cells : Cells) : Type 0 where
  pub puts : List Put
  pub written : Puts 0 None text puts
  pub good : first_fault [] puts ≡ None
  pub keeps : Keeps cells puts
