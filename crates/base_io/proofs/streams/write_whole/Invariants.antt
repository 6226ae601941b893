-- A front of the bytes was written, and the rest is what follows it.
use Rattle.std.proofs.Common.{◌≡◌, ◌≤◌, ℕ, length, take, drop}
use Rattle.std.specs.Io.KnownBytes.{Appends}
use Rattle.base_io.proofs.streams.write_whole.Given as goal

abbrev pub invariant-loop : goal.invariant-loop
invariant-loop g l = (n : ℕ) × (n ≤ length l.initial.rest) × (l.rest ≡ drop n l.initial.rest) × Appends (g.W.Write.contents l.initial.to) (g.W.Write.contents l.to) (take n l.initial.rest)
