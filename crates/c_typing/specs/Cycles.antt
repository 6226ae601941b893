-- Functions that call one another, and the calls that lie on a cycle.
use Rattle.std.specs.Prelude.{◌≡◌, ℕ, ◌<◌, List, [], ◌∷◌, Option, Some, None, length, All, Contains}
use Rattle.std.specs.List.{HoldsAt}
use Rattle.base_io.specs.declared.place.Place.{Place}
use Rattle.c_typing.specs.declared.call_site.CallSite.{CallSite}

-- a calls b somewhere
abbrev pub Calls : List CallSite → ℕ → ℕ → Type 0
Calls calls a b = (place : Place) × Contains calls (record { caller = a; callee = b; place = place })

-- calls lead from a, through these functions, to b
abbrev pub IsPath : List CallSite → ℕ → List ℕ → ℕ → Type 0
IsPath calls a [] b = a ≡ b
IsPath calls a (next ∷ others) b = Calls calls a next × IsPath calls next others b

-- calls lead from a to b, which may be a itself
abbrev pub Reaches : List CallSite → ℕ → ℕ → Type 0
Reaches calls a b = (through : List ℕ) × IsPath calls a through b

-- a call lies on a cycle: from the function that it calls, calls lead back to its own
abbrev pub IsOnCycle : List CallSite → CallSite → Type 0
IsOnCycle calls call = Reaches calls call.callee call.caller

abbrev pub IsOnNone : List CallSite → CallSite → Type 0
IsOnNone calls call = IsOnCycle calls call → ⊥

-- The first of the calls that lies on a cycle, or none where none does.
abbrev pub IsFirstOnCycle : List CallSite → Option ℕ → Type 0
IsFirstOnCycle calls None = All (IsOnNone calls) calls
IsFirstOnCycle calls (Some i) = (i < length calls) × HoldsAt (IsOnCycle calls) calls i × ((k : ℕ) → k < i → HoldsAt (IsOnNone calls) calls k)

-- caller and callee are among so many functions
abbrev pub AreAmong : ℕ → List CallSite → Type 0
AreAmong functions calls = All (λ call. (call.caller < functions) × (call.callee < functions)) calls
