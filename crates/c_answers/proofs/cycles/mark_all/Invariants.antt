use Rattle.std.proofs.Common.{◌≡◌, ℕ, ◌<◌, ◌≤◌, ◌||◌, length}
use Rattle.c_answers.specs.Rows.{mark}
use Rattle.c_answers.proofs.cycles.mark_all.Given as goal

-- the marks so far are those of both, and the others are as they were
abbrev pub invariant-loop-b : goal.invariant-loop-b
invariant-loop-b l = record {
  size : length l.row ≡ length l.initial.row;
  done : (k : ℕ) → k < l.b → mark l.row k ≡ (mark l.initial.row k || mark l.target k);
  rest : (k : ℕ) → l.b ≤ k → mark l.row k ≡ mark l.initial.row k;
}
