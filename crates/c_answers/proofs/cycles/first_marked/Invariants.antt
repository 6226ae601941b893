use Rattle.std.proofs.Common.{◌≡◌, ℕ, ◌<◌, false}
use Rattle.std.specs.List.{HoldsAt}
use Rattle.c_answers.specs.Rows.{is_marked}
use Rattle.c_answers.proofs.cycles.first_marked.Given as goal

-- no call so far has the mark
abbrev pub invariant-loop-i : goal.invariant-loop-i
invariant-loop-i l = (k : ℕ) → k < l.i → HoldsAt (λ call. is_marked l.rows call ≡ false) l.calls k
