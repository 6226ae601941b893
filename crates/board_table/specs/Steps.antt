-- How the reader goes about it: what each step of it answers. The definition of a board file needs nothing of this.
use Rattle.std.specs.Prelude.{◌≡◌, ℕ, List, [], ◌∷◌, map, Option, Some, None, option_map, option_and_then, if◌then◌else◌, Result, Ok, Err, codes, Bool, true, ◌&&◌, ⊤}
use Rattle.std.specs.Ordering.{nat_cmp, is_lt}
use Rattle.std.specs.Cmp.Lexicographic.{slice_cmp}
use Rattle.std.specs.List.{list_any}
use Rattle.std.specs.Str.{bytes_eq}
use Rattle.toml.specs.Data.{Data, Members, no_members, member, get_member, as_table, is_before}
use Rattle.board_table.specs.Keys.{Text}
use Rattle.board_table.specs.Faults.{Fault, not_toml, fault_of}
use Rattle.board_table.specs.Reading.{cost_at, first_fault, path_of}
use Rattle.board_table.specs.File.{IfFault, IsFaultIn, IsNotToml}
use Rattle.board_table.specs.declared.fault.BoardFault.{BoardFault}

-- ---- numbers

-- the answer is the number or the fault of one key
abbrev pub Meets : Result ℕ BoardFault → Result ℕ Fault → Type 0
Meets (Ok n) r = r ≡ Ok n
Meets (Err e) r = IfFault (λ f. r ≡ Err f) (fault_of e)

-- the answer has the numbers of some keys, or the fault is the first of theirs
abbrev pub MeetsAll : {A : Type 0} → (A → List ℕ) → Result A BoardFault → List (Result ℕ Fault) → Type 0
MeetsAll numbers (Ok a) rs = rs ≡ map Ok (numbers a)
MeetsAll numbers (Err e) rs = IfFault (λ f. first_fault rs ≡ Some f) (fault_of e)

abbrev pub top_names : List Text
top_names = codes "budget" ∷ codes "core" ∷ codes "access" ∷ []

abbrev pub core_names : List Text
core_names = codes "move" ∷ codes "alu" ∷ codes "one" ∷ codes "push" ∷ codes "call" ∷ codes "jump" ∷ []

abbrev pub access_names : List Text
access_names = codes "fetch" ∷ codes "sram_read" ∷ codes "sram_write" ∷ codes "fram_read" ∷ codes "fram_write" ∷ codes "port_read" ∷ codes "port_write" ∷ []

-- the keys of a table, by what stands under the table's name
abbrev pub core_readings : Option Data → List (Result ℕ Fault)
core_readings d = map (λ key. cost_at 1 1000000 (codes "core") key d) core_names

abbrev pub access_readings : Option Data → List (Result ℕ Fault)
access_readings d = map (λ key. cost_at 0 1000000 (codes "access") key d) access_names

-- ---- other keys

-- the first key that is not among these
abbrev pub first_other : List Text → Members → Option Text
first_other keys no_members = None
first_other keys (member k d ms) = if list_any (λ w. bytes_eq w k) keys then first_other keys ms else Some k

abbrev pub other_in : Text → List Text → Option Members → Option Text
other_in name keys None = None
other_in name keys (Some ms) = option_map (path_of name) (first_other keys ms)

-- the path of the first other key of the table that stands under a name
abbrev pub other_below : Text → List Text → Option Data → Option Text
other_below name keys d = other_in name keys (option_and_then as_table d)

abbrev pub lesser : Option Text → Option Text → Option Text
lesser None b = b
lesser (Some s) None = Some s
lesser (Some s) (Some t) = if is_lt (slice_cmp nat_cmp t s) then Some t else Some s

unfoldable pub least_other : Members → Option Text
least_other ms =
    lesser (lesser (first_other top_names ms) (other_below (codes "core") core_names (get_member (codes "core") ms)))
    (other_below (codes "access") access_names (get_member (codes "access") ms))

-- the keys of the members ascend
abbrev pub ascends : Members → Bool
ascends no_members = true
ascends (member k d ms) = is_before k ms && ascends ms

abbrev pub AscendsIfSome : Option Members → Type 0
AscendsIfSome None = ⊤
AscendsIfSome (Some ms) = ascends ms ≡ true

-- the keys of the table that stands under a name ascend, if it is one
abbrev pub AscendsBelow : Option Data → Type 0
AscendsBelow d = AscendsIfSome (option_and_then as_table d)

pub record IsInOrder (ms : Members) : Type 0 where
  pub top : ascends ms ≡ true
  pub core : AscendsBelow (get_member (codes "core") ms)
  pub access : AscendsBelow (get_member (codes "access") ms)

-- ---- faults

-- the fault is this one, unless memory ran out
abbrev pub Names : BoardFault → Fault → Type 0
Names e f = IfFault (λ g. g ≡ f) (fault_of e)

-- what a fault says of a document
abbrev pub RefusesIn : Members → BoardFault → Type 0
RefusesIn ms e = IfFault (IsFaultIn ms) (fault_of e)

-- what a fault of the reader of TOML says of the bytes
abbrev pub IsUnread : List ℕ → BoardFault → Type 0
IsUnread bytes e = IfFault (λ f. (f ≡ not_toml) × IsNotToml bytes) (fault_of e)
