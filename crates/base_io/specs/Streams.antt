-- What reading to a limit and writing to the end do to the bytes of a stream, where those are known.
use Rattle.std.specs.Prelude.{◌≡◌, ◌+◌, ◌≤◌, ℕ, List, length, take, Option, Result, Ok, Err, Vec, Bool, true, false}
use Rattle.std.specs.declared.alloc.Global.{Global}
use Rattle.std.specs.Io.KnownBytes.{Appends, Consumes, IsAtEnd}
use Rattle.base_io.specs.declared.store.GetFault.{GetFault}
use Rattle.base_io.specs.declared.store.GetFault.TheVariants.{Failed, TooLong, Memory}

-- Some bytes were read, at most this many.
abbrev pub Takes : ℕ → Option (List ℕ) → Option (List ℕ) → Type 0
Takes most old new = (bytes : List ℕ) × Consumes old new bytes × (length bytes ≤ most)

-- All that was left was read, within the limit; or one byte more than the limit was, which is told; or at most so many were.
abbrev pub ReadsWithin : ℕ → Option (List ℕ) → Option (List ℕ) → Result (Vec ℕ Global) GetFault → Type 0
ReadsWithin limit old new (Ok bytes) = Consumes old new bytes.items × IsAtEnd new × (length bytes.items ≤ limit)
ReadsWithin limit old new (Err (TooLong seen)) = (seen ≡ limit + 1) × ((bytes : List ℕ) × Consumes old new bytes × (length bytes ≡ seen))
ReadsWithin limit old new (Err Failed) = Takes (limit + 1) old new
ReadsWithin limit old new (Err Memory) = Takes (limit + 1) old new

-- All the bytes were written, or a front of them.
abbrev pub WritesWhole : List ℕ → Bool → Option (List ℕ) → Option (List ℕ) → Type 0
WritesWhole bytes true old new = Appends old new bytes
WritesWhole bytes false old new = (n : ℕ) × (n ≤ length bytes) × Appends old new (take n bytes)
