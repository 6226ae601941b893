-- What is wrong with a board file.
use Rattle.std.specs.Prelude.{[], Option, Some, None, codes, string_bytes}
use Rattle.board_table.specs.Keys.{Text}
use Rattle.board_table.specs.declared.fault.BoardFault.{BoardFault}
use Rattle.board_table.specs.declared.fault.BoardFault.TheVariants as fault

-- which fault, and the written path of the key that it names
pub data Fault : Type 0 where
  not_toml : Fault
  missing : Text → Fault
  out_of_range : Text → Fault
  extra : Text → Fault

-- the fault of a refusal: none where memory ran out
abbrev pub fault_of : BoardFault → Option Fault
fault_of fault.NotToml = Some not_toml
fault_of (fault.Missing key) = Some (missing (string_bytes key))
fault_of (fault.OutOfRange key) = Some (out_of_range (string_bytes key))
fault_of (fault.Extra key) = Some (extra (string_bytes key))
fault_of fault.Memory = None

-- the word for a fault
abbrev pub word_of : BoardFault → Text
word_of fault.NotToml = codes "NotToml"
word_of (fault.Missing key) = codes "Missing"
word_of (fault.OutOfRange key) = codes "OutOfRange"
word_of (fault.Extra key) = codes "Extra"
word_of fault.Memory = codes "Memory"

-- the written path of the key that the fault names: empty where it names none
abbrev pub key_of : BoardFault → Text
key_of fault.NotToml = []
key_of (fault.Missing key) = string_bytes key
key_of (fault.OutOfRange key) = string_bytes key
key_of (fault.Extra key) = string_bytes key
key_of fault.Memory = []
