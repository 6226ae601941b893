use Rattle.std.proofs.Common.{◌≡◌, ◌<◌, ℕ, false, get_or, length}
use Rattle.graph_code.specs.Heads.{has_head}
use Rattle.emit_each.proofs.heads.heads_of.Given as goal

abbrev pub invariant-loop-number : goal.invariant-loop-number
invariant-loop-number l = (length l.heads.items ≡ l.number) × ((k : ℕ) → k < l.number → get_or l.heads.items k false ≡ has_head l.one_stretch k)
