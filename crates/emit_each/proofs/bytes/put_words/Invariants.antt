use Rattle.std.proofs.Common.{◌≡◌, ◌++◌, length}
use Rattle.resumed_runs.specs.Bytes.{bytes_of}
use Rattle.emit_each.proofs.bytes.put_words.Given as goal

-- what is there and the words that are left make the whole
abbrev pub invariant-loop-rest : goal.invariant-loop-rest
invariant-loop-rest l = l.to.items ++ bytes_of l.rest ≡ l.initial.to.items ++ bytes_of l.words

abbrev pub decreases-loop-rest : goal.decreases-loop-rest
decreases-loop-rest l = length l.rest
