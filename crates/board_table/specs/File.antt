-- What a board file is, and which fault refuses the bytes of another.
use Rattle.std.specs.Prelude.{◌≡◌, ◌⊎◌, ℕ, List, map, Option, Some, None, Result, Ok, Err, IsUtf8, ⊤}
use Rattle.toml.specs.Data.{Members}
use Rattle.toml.specs.Parse.{parse_document}
use Rattle.board_table.specs.Faults.{Fault, not_toml, missing, out_of_range, extra, fault_of}
use Rattle.board_table.specs.Others.{IsLeastOther}
use Rattle.board_table.specs.Reading.{first_fault, numbers_of, readings}
use Rattle.board_table.specs.declared.board.Board.{Board}
use Rattle.board_table.specs.declared.fault.BoardFault.{BoardFault}

-- the bytes are the TOML document of these members
pub record IsDocument (bytes : List ℕ) (ms : Members) : Type 0 where
  pub text : IsUtf8 bytes
  pub parsed : parse_document bytes ≡ Some ms

-- the bytes are no TOML document
abbrev pub IsNotToml : List ℕ → Type 0
IsNotToml bytes = (IsUtf8 bytes → ⊥) ⊎ (parse_document bytes ≡ None)

-- the document has the board's number at each key of a board, and no other key
pub record IsBoardIn (ms : Members) (b : Board) : Type 0 where
  pub numbers : readings ms ≡ map Ok (numbers_of b)
  pub others : IsLeastOther ms None

-- a key of a board is at fault, and is the first; or none is, and the key is the least other
abbrev pub IsFaultIn : Members → Fault → Type 0
IsFaultIn ms not_toml = ⊥
IsFaultIn ms (missing key) = first_fault (readings ms) ≡ Some (missing key)
IsFaultIn ms (out_of_range key) = first_fault (readings ms) ≡ Some (out_of_range key)
IsFaultIn ms (extra key) = (first_fault (readings ms) ≡ None) × IsLeastOther ms (Some key)

-- the bytes are a board file, and this is its board
abbrev pub IsBoardOf : List ℕ → Board → Type 0
IsBoardOf bytes b = (ms : Members) × IsDocument bytes ms × IsBoardIn ms b

-- this fault refuses the bytes
abbrev pub IsRefused : List ℕ → Fault → Type 0
IsRefused bytes not_toml = IsNotToml bytes
IsRefused bytes f = (ms : Members) × IsDocument bytes ms × IsFaultIn ms f

-- a fact of the fault, unless memory ran out
abbrev pub IfFault : (Fault → Type 0) → Option Fault → Type 0
IfFault P None = ⊤
IfFault P (Some f) = P f

-- what a fault says of the bytes, unless memory ran out
abbrev pub Refuses : List ℕ → BoardFault → Type 0
Refuses bytes e = IfFault (IsRefused bytes) (fault_of e)

-- the answer is this fault
abbrev pub IsFault : {A : Type 0} → Result A BoardFault → Fault → Type 0
IsFault (Ok a) f = ⊥
IsFault (Err e) f = fault_of e ≡ Some f

-- what holds unless memory ran out
abbrev pub UnlessMemory : {A : Type 0} → Result A BoardFault → Type 0 → Type 0
UnlessMemory (Ok a) P = P
UnlessMemory (Err e) P = IfFault (λ _. P) (fault_of e)
