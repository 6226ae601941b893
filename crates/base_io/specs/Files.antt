-- What a store holds, and what its calls may answer.
use Rattle.std.specs.Prelude.{◌≡◌, ◌≢◌, ◌<◌, ◌≤◌, ℕ, List, length, Option, Some, None, IsSomeAnd, Result, Ok, Err, Vec, if◌then◌else◌}
use Rattle.std.specs.Str.{bytes_eq}
use Rattle.std.specs.declared.alloc.Global.{Global}
use Rattle.base_io.specs.declared.store.GetFault.{GetFault}
use Rattle.base_io.specs.declared.store.GetFault.TheVariants.{Failed, TooLong, Memory}

-- for each name the bytes of its file, or none
abbrev pub Files : Type 0
Files = List ℕ → Option (List ℕ)

-- The name holds the bytes, and every other name holds what it held.
pub record Writes (name bytes : List ℕ) (old new : Files) : Type 0 where
  pub there : new name ≡ Some bytes
  pub others : (other : List ℕ) → other ≢ name → new other ≡ old other

-- the same of a store that may tell its files or not
abbrev pub WritesTold : List ℕ → List ℕ → Option Files → Option Files → Type 0
WritesTold name bytes (Some old) (Some new) = Writes name bytes old new
WritesTold name bytes None None = Unit {0}
WritesTold name bytes (Some old) None = ⊥
WritesTold name bytes None (Some new) = ⊥

-- Two names hold these bytes, and every other name holds what it held.
pub record WritesBoth (name bytes second_name second_bytes : List ℕ) (old new : Files) : Type 0 where
  pub first : new name ≡ Some bytes
  pub second : new second_name ≡ Some second_bytes
  pub others : (other : List ℕ) → other ≢ name → other ≢ second_name → new other ≡ old other

-- the same of a store that may tell its files or not
abbrev pub WritesBothTold : List ℕ → List ℕ → List ℕ → List ℕ → Option Files → Option Files → Type 0
WritesBothTold name bytes second_name second_bytes (Some old) (Some new) = WritesBoth name bytes second_name second_bytes old new
WritesBothTold name bytes second_name second_bytes None None = Unit {0}
WritesBothTold name bytes second_name second_bytes (Some old) None = ⊥
WritesBothTold name bytes second_name second_bytes None (Some new) = ⊥

-- the files once the name holds the bytes
abbrev pub with_file : List ℕ → List ℕ → Files → Files
with_file name bytes files = λ other. if bytes_eq name other then Some bytes else files other

-- what a get with a limit answers of a file, or of none: where it doesn't fail, the bytes or that they are too many
abbrev pub Answers : ℕ → Option (List ℕ) → Result (Vec ℕ Global) GetFault → Type 0
Answers limit file (Ok bytes) = (file ≡ Some bytes.items) × (length bytes.items ≤ limit)
Answers limit file (Err (TooLong seen)) = IsSomeAnd file (λ bytes. limit < length bytes)
Answers limit file (Err Failed) = Unit {0}
Answers limit file (Err Memory) = Unit {0}

-- the number that a get tells of a file that is too long
abbrev pub IfSeen : (ℕ → Type 0) → Result (Vec ℕ Global) GetFault → Type 0
IfSeen P (Ok bytes) = Unit {0}
IfSeen P (Err (TooLong seen)) = P seen
IfSeen P (Err Failed) = Unit {0}
IfSeen P (Err Memory) = Unit {0}

-- what holds where a get answers Failed, and what where it doesn't
abbrev pub MatchFailed : Result (Vec ℕ Global) GetFault → Type 0 → Type 0 → Type 0
MatchFailed (Ok bytes) P Q = Q
MatchFailed (Err (TooLong seen)) P Q = Q
MatchFailed (Err Failed) P Q = P
MatchFailed (Err Memory) P Q = Q

-- what holds where a get tells of the file, its bytes or that they are too many, and what where it answers Failed
abbrev pub MatchAnswer : Result (Vec ℕ Global) GetFault → Type 0 → Type 0 → Type 0
MatchAnswer (Ok bytes) P Q = P
MatchAnswer (Err (TooLong seen)) P Q = P
MatchAnswer (Err Failed) P Q = Q
MatchAnswer (Err Memory) P Q = Unit {0}
