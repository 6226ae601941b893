use Rattle.std.proofs.Common.{◌≡◌, ℕ, ◌<◌, ◌+◌, ◌*◌, get_or, vec_len}
use Rattle.msp430_machine.proofs.load.words_from.Given as goal

abbrev pub invariant-loop-k : goal.invariant-loop-k
invariant-loop-k l = (vec_len l.words ≡ l.k) × ((j : ℕ) → j < l.k → get_or l.words.items j 0 ≡ get_or l.bytes (l.start + 2 * j) 0 + 256 * get_or l.bytes (l.start + 2 * j + 1) 0)
