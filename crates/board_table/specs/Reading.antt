-- What a document says at the keys of a board.
use Rattle.std.specs.Prelude.{◌&&◌, ◌++◌, ℕ, ℤ, pos, negsuc, List, [], ◌∷◌, map, Option, Some, None, option_and_then, if◌then◌else◌, nat_le, Result, Ok, Err}
use Rattle.toml.specs.Data.{Data, Members, get_member, as_integer, as_table}
use Rattle.board_table.specs.Keys.{Key, at_top, in_table, Text, board_keys, written}
use Rattle.board_table.specs.Faults.{Fault, missing, out_of_range}
use Rattle.board_table.specs.declared.board.Access.{Access}
use Rattle.board_table.specs.declared.board.Board.{Board}
use Rattle.board_table.specs.declared.board.Core.{Core}

-- the number, where it lies in the range
abbrev pub in_range : ℕ → ℕ → ℤ → Option ℕ
in_range least most (pos n) = if nat_le least n && nat_le n most then Some n else None
in_range least most (negsuc n) = None

-- the number that a value is, where it is one of this range
abbrev pub number_in : ℕ → ℕ → Data → Option ℕ
number_in least most d = option_and_then (in_range least most) (as_integer d)

abbrev pub ok_or_out : Text → Option ℕ → Result ℕ Fault
ok_or_out path (Some n) = Ok n
ok_or_out path None = Err (out_of_range path)

-- the number at a path, by what stands there
abbrev pub number_at : ℕ → ℕ → Text → Option Data → Result ℕ Fault
number_at least most path None = Err (missing path)
number_at least most path (Some d) = ok_or_out path (number_in least most d)

-- the written path of a key of a table
abbrev pub path_of : Text → Text → Text
path_of name key = written (name ∷ key ∷ [])

abbrev pub cost_in : ℕ → ℕ → Text → Text → Option Members → Result ℕ Fault
cost_in least most name key None = Err (out_of_range name)
cost_in least most name key (Some ms) = number_at least most (path_of name key) (get_member key ms)

-- the number at a key of a table, by what stands under the table's name: a missing table has no key, and a value that is no table is itself out of range
abbrev pub cost_at : ℕ → ℕ → Text → Text → Option Data → Result ℕ Fault
cost_at least most name key None = Err (missing (path_of name key))
cost_at least most name key (Some d) = cost_in least most name key (as_table d)

-- what a document says at a key: a number, or what is wrong
abbrev pub reading : Members → Key → Result ℕ Fault
reading ms (at_top key least most) = number_at least most key (get_member key ms)
reading ms (in_table name key least most) = cost_at least most name key (get_member name ms)

-- what it says at each key of a board, in their order
abbrev pub readings : Members → List (Result ℕ Fault)
readings ms = map (reading ms) board_keys

-- the first key that is at fault
abbrev pub first_fault : List (Result ℕ Fault) → Option Fault
first_fault [] = None
first_fault (Ok n ∷ rs) = first_fault rs
first_fault (Err f ∷ rs) = Some f

-- the numbers of a board, in the order of the keys
abbrev pub core_numbers : Core → List ℕ
core_numbers c = c.move_ ∷ c.alu ∷ c.one ∷ c.push ∷ c.call ∷ c.jump ∷ []

abbrev pub access_numbers : Access → List ℕ
access_numbers a = a.fetch ∷ a.sram_read ∷ a.sram_write ∷ a.fram_read ∷ a.fram_write ∷ a.port_read ∷ a.port_write ∷ []

abbrev pub numbers_of : Board → List ℕ
numbers_of b = b.budget ∷ core_numbers b.core ++ access_numbers b.access
