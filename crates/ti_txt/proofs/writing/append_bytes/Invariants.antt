use Rattle.std.proofs.Common.{◌≡◌, ℕ, ◌++◌, length, ◌+◌, List}
use Rattle.ti_txt.specs.Spelling.{bytes_text}
use Rattle.ti_txt.proofs.writing.append_bytes.Given as goal

abbrev pub invariant-loop-rest : goal.invariant-loop-rest
invariant-loop-rest l = (done : List ℕ) × (l.to.items ≡ l.fn.to.items ++ done) × (done ++ bytes_text l.number l.rest ≡ bytes_text 0 l.fn.bytes) × (l.number + length l.rest ≡ length l.fn.bytes)

abbrev pub decreases-loop-rest : goal.decreases-loop-rest
decreases-loop-rest l = length l.rest
