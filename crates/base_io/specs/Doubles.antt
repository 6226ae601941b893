-- What the store and the sink in memory hold, as their contracts see it.
use Rattle.std.specs.Prelude.{◌<◌, ◌≤◌, ◌==◌, ℕ, List, [], ◌∷◌, Bool, Option, Some, None, if◌then◌else◌, max}
use Rattle.std.specs.List.{list_any}
use Rattle.std.specs.Option.{option_and_then}
use Rattle.std.specs.Str.{bytes_eq}
use Rattle.base_io.specs.Counts.{one_more}

-- the number is in the list
abbrev pub is_listed : List ℕ → ℕ → Bool
is_listed numbers n = list_any (λ m. m == n) numbers

-- the next call of its kind, after so many, is listed
abbrev pub fails_next : List ℕ → ℕ → Bool
fails_next numbers calls = is_listed numbers (one_more calls)

-- a sink: the bytes that it took, how many it may hold, the numbers of the puts that fail, how many puts and faults
pub record SinkState : Type 0 where
  pub taken : List ℕ
  pub room : ℕ
  pub failing : List ℕ
  pub puts : ℕ
  pub faults : ℕ

-- a name of a store, with its file and its room in bytes, if it has them
pub record Held : Type 0 where
  pub name : List ℕ
  pub file : Option (List ℕ)
  pub room : Option ℕ

-- a store: what it holds, the numbers of the gets and of the puts that fail, how many of each, and what `Store` counts and keeps
pub record StoreState : Type 0 where
  pub held : List Held
  pub failing_gets : List ℕ
  pub failing_puts : List ℕ
  pub gets : ℕ
  pub puts : ℕ
  pub read_faults : ℕ
  pub write_faults : ℕ
  pub bad_name : List ℕ

-- what is held of a name: the first entry that has it
abbrev pub held_at : List Held → List ℕ → Option Held
held_at [] name = None
held_at (h ∷ hs) name = if bytes_eq h.name name then Some h else held_at hs name

-- the file of a name, if it has one
abbrev pub file_at : List Held → List ℕ → Option (List ℕ)
file_at hs name = option_and_then (λ h. h.file) (held_at hs name)

-- the room of a name, if it has one
abbrev pub room_at : List Held → List ℕ → Option ℕ
room_at hs name = option_and_then (λ h. h.room) (held_at hs name)

-- There is a room, and so many bytes are within it.
abbrev pub HasRoom : Option ℕ → ℕ → Type 0
HasRoom None n = ⊥
HasRoom (Some room) n = n ≤ room

-- There is no room, or it is less than so many bytes.
abbrev pub LacksRoom : Option ℕ → ℕ → Type 0
LacksRoom None n = Unit {0}
LacksRoom (Some room) n = room < n

-- the greater of a room, if there is one, and another
abbrev pub room_with : Option ℕ → ℕ → ℕ
room_with None n = n
room_with (Some room) n = max room n

-- The room, if there is one, is at most so many bytes.
abbrev pub room_within : Option ℕ → ℕ → Type 0
room_within None n = Unit {0}
room_within (Some room) n = room ≤ n

-- what is held of a file that a store begins with
abbrev pub given : List ℕ → List ℕ → Held
given name bytes = record { name = name; file = Some bytes; room = None }
