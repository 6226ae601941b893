-- The board that a job is for, and files that are no boards.
use Rattle.std.specs.Prelude.{◌≡◌, ℕ, List, [], Option, unwrap_or}
use Rattle.board_table.specs.Faults.{not_toml, missing, out_of_range, extra}
use Rattle.board_table.specs.File.{IsBoardOf, IsRefused as IsRefusedBoard}
use Rattle.board_table.specs.declared.board.Board.{Board}
use Rattle.job_files.specs.declared.refusal.BoardRefusal.TheVariants as kind
use Rattle.job_files.specs.Refusals.{Refusal, board_refused}
use Rattle.job_files.specs.Text.{Text}
use Rattle.job_files.specs.declared.refusal.BoardRefusal.{BoardRefusal}

-- The bytes are a board file, and this is its board, but that a budget which is asked for takes the place of its own.
pub record IsBoardWith (wanted : Option ℕ) (bytes : List ℕ) (board : Board) : Type 0 where
  pub own : Board
  pub is_board : IsBoardOf bytes own
  pub budget : board.budget ≡ unwrap_or wanted own.budget
  pub core : board.core ≡ own.core
  pub access : board.access ≡ own.access

-- the bytes are no board, for this reason
abbrev pub IsNoBoard : Text → BoardRefusal → Text → Type 0
IsNoBoard bytes kind.NotToml key = (key ≡ []) × IsRefusedBoard bytes not_toml
IsNoBoard bytes kind.Missing key = IsRefusedBoard bytes (missing key)
IsNoBoard bytes kind.OutOfRange key = IsRefusedBoard bytes (out_of_range key)
IsNoBoard bytes kind.Extra key = IsRefusedBoard bytes (extra key)

-- the bytes are refused as a board
abbrev pub RefusesBoard : Text → Refusal → Type 0
RefusesBoard bytes (board_refused kind key) = IsNoBoard bytes kind key
RefusesBoard bytes r = ⊥
