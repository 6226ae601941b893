-- What the tallied reads and writes cost, added up object by object.
use Rattle.std.specs.Prelude.{ℕ, zero, suc, ◌+◌, ◌*◌, List, slice_index}
use Rattle.board_table.specs.declared.board.Board.{Board}
use Rattle.item_weights.specs.Weights.{kept}

abbrev pub uses_sum : Board → List ℕ → List ℕ → ℕ → ℕ
uses_sum b reads writes zero = 0
uses_sum b reads writes (suc o) =
    kept (kept (kept (slice_index reads o * b.access.fram_read) + kept (slice_index writes o * b.access.fram_write)) + uses_sum b reads writes o)
