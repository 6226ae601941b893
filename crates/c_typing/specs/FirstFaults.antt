-- Which of several faults is answered: the one that stands first in the text, and of two at one place the one that `TypeFault` names first.
use Rattle.std.specs.Prelude.{◌≡◌, ℕ, Bool, List, [], ◌∷◌, Option, Some, None, IsTrue, Contains, All, nat_lt, nat_le, ◌==◌, ◌&&◌, ◌||◌, if◌then◌else◌}
use Rattle.base_io.specs.declared.place.Place.{Place}
use Rattle.c_typing.specs.declared.type_fault.TypeFault.{TypeFault}
use Rattle.c_typing.specs.declared.type_fault.TypeFault.TheVariants as fault

-- where a fault stands; want of memory has no place of its own and stands before them all
abbrev pub place_of : TypeFault → Place
place_of (fault.Unknown at) = at
place_of (fault.Redeclared at) = at
place_of (fault.WrongArgs at) = at
place_of (fault.NotConst at) = at
place_of (fault.BadArray at) = at
place_of (fault.BadAssign at) = at
place_of (fault.NoMain at) = at
place_of (fault.Recursion at) = at
place_of (fault.TooMany at) = at
place_of fault.Memory = record { line = 0; column = 0 }

-- which variant it is, in their order
abbrev pub rank_of : TypeFault → ℕ
rank_of fault.Memory = 0
rank_of (fault.Unknown at) = 1
rank_of (fault.Redeclared at) = 2
rank_of (fault.WrongArgs at) = 3
rank_of (fault.NotConst at) = 4
rank_of (fault.BadArray at) = 5
rank_of (fault.BadAssign at) = 6
rank_of (fault.NoMain at) = 7
rank_of (fault.Recursion at) = 8
rank_of (fault.TooMany at) = 9

-- a place and a variant that come no later than others: by line, then by column, then by variant
abbrev pub comes_first : Place → ℕ → Place → ℕ → Bool
comes_first a i b j = nat_lt a.line b.line || ((a.line == b.line) && (nat_lt a.column b.column || ((a.column == b.column) && nat_le i j)))

-- the first fault is the second, or is answered in its stead
abbrev pub precedes : TypeFault → TypeFault → Bool
precedes a b = comes_first (place_of a) (rank_of a) (place_of b) (rank_of b)

-- Of these faults this one is answered, or none where there are none.
abbrev pub IsFirst : List TypeFault → Option TypeFault → Type 0
IsFirst faults None = faults ≡ []
IsFirst faults (Some first) = Contains faults first × All (λ other. IsTrue (precedes first other)) faults

-- of two answers the one that stands first
abbrev pub sooner : Option TypeFault → Option TypeFault → Option TypeFault
sooner None b = b
sooner (Some a) None = Some a
sooner (Some a) (Some b) = if precedes a b then Some a else Some b

-- the fault that is answered of these
abbrev pub first_of : List TypeFault → Option TypeFault
first_of [] = None
first_of (a ∷ others) = sooner (Some a) (first_of others)
