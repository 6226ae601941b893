use Rattle.std.proofs.Common.{◌≡◌, ℕ, ◌<◌, ◌≤◌, length}
use Rattle.c_answers.specs.Rows.{row_at, IsJoined}
use Rattle.c_answers.proofs.cycles.join_rows.Given as goal

-- the rows so far are joined, and the others are as they were
abbrev pub invariant-loop-a : goal.invariant-loop-a
invariant-loop-a l = record {
  height : length l.rows.items ≡ length l.initial.rows.items;
  done : (k : ℕ) → k < l.a → IsJoined l.u l.v l.target (row_at l.initial.rows.items k) (row_at l.rows.items k);
  rest : (k : ℕ) → l.a ≤ k → row_at l.rows.items k ≡ row_at l.initial.rows.items k;
}
