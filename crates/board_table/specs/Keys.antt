-- The keys of a board file.
use Rattle.std.specs.Prelude.{Bool, true, false, ◌&&◌, ℕ, List, [], ◌∷◌, ◌++◌, codes}
use Rattle.std.specs.List.{list_any}
use Rattle.std.specs.Str.{bytes_eq}

-- the bytes of a text
abbrev pub Text : Type 0
Text = List ℕ

-- a key of a board: a key of the document or of one of its tables, with the least and the greatest number that may stand there
pub data Key : Type 0 where
  at_top : Text → ℕ → ℕ → Key
  in_table : Text → Text → ℕ → ℕ → Key

abbrev pub core_key : Text → Key
core_key key = in_table (codes "core") key 1 1000000

abbrev pub access_key : Text → Key
access_key key = in_table (codes "access") key 0 1000000

-- the keys of a board, in the order in which they are tested
abbrev pub board_keys : List Key
board_keys =
    at_top (codes "budget") 1 1000000000
    ∷ core_key (codes "move")
    ∷ core_key (codes "alu")
    ∷ core_key (codes "one")
    ∷ core_key (codes "push")
    ∷ core_key (codes "call")
    ∷ core_key (codes "jump")
    ∷ access_key (codes "fetch")
    ∷ access_key (codes "sram_read")
    ∷ access_key (codes "sram_write")
    ∷ access_key (codes "fram_read")
    ∷ access_key (codes "fram_write")
    ∷ access_key (codes "port_read")
    ∷ access_key (codes "port_write")
    ∷ []

-- where a key stands: the names on the way from the document down to it
abbrev pub Path : Type 0
Path = List Text

-- a path as it is written: the names with dots (46) between them
abbrev pub written : Path → Text
written [] = []
written (k ∷ []) = k
written (k ∷ l ∷ ks) = k ++ 46 ∷ written (l ∷ ks)

abbrev pub path_of_key : Key → Path
path_of_key (at_top key least most) = key ∷ []
path_of_key (in_table name key least most) = name ∷ key ∷ []

-- the path is the other one or leads to it
abbrev pub leads_to : Path → Path → Bool
leads_to [] to = true
leads_to (k ∷ ks) [] = false
leads_to (k ∷ ks) (l ∷ ls) = bytes_eq l k && leads_to ks ls

-- the path is that of a key of a board, or of a table that holds one
abbrev pub is_board_path : Path → Bool
is_board_path path = list_any (λ key. leads_to path (path_of_key key)) board_keys
