-- A board file gives one board or one fault.
use Rattle.std.proofs.Common.{◌≡◌, ℕ, Option, sym, ap, ◌∙◌}
use Rattle.std.specs.Prelude.{◌++◌, ◌∷◌, unwrap_or}
use Rattle.board_table.specs.Faults.{Fault, not_toml, missing, out_of_range, extra}
use Rattle.board_table.specs.File.{IsRefused as IsRefusedBoard}
use Rattle.board_table.proofs.Exact.{board_or_fault, one_board, one_fault}
use Rattle.board_table.proofs.SameBoard.{board_same}
use Rattle.job_files.specs.declared.refusal.BoardRefusal.TheVariants as kind
use Rattle.board_table.specs.Reading.{access_numbers, core_numbers}
use Rattle.board_table.specs.declared.board.Access.{Access}
use Rattle.board_table.specs.declared.board.Board.{Board}
use Rattle.board_table.specs.declared.board.Core.{Core}
use Rattle.job_files.specs.Boards.{IsBoardWith, IsNoBoard}
use Rattle.job_files.specs.Reads.{wanted}
use Rattle.job_files.specs.Refusals.{board_refused}
use Rattle.job_files.specs.Text.{Text}
use Rattle.job_files.specs.declared.refusal.BoardRefusal.{BoardRefusal}

-- the fault of a board file by its name and key
abbrev pub named : BoardRefusal → Text → Fault
named kind.NotToml key = not_toml
named kind.Missing key = missing key
named kind.OutOfRange key = out_of_range key
named kind.Extra key = extra key

pub refused_as : (bytes : Text) (k : BoardRefusal) (key : Text) → IsNoBoard bytes k key → IsRefusedBoard bytes (named k key)
refused_as bytes kind.NotToml key h = h.1
refused_as bytes kind.Missing key h = h
refused_as bytes kind.OutOfRange key h = h
refused_as bytes kind.Extra key h = h

not_toml_missing : (k : Text) → not_toml ≡ missing k → ⊥
not_toml_missing k e = cc

not_toml_out : (k : Text) → not_toml ≡ out_of_range k → ⊥
not_toml_out k e = cc

not_toml_extra : (k : Text) → not_toml ≡ extra k → ⊥
not_toml_extra k e = cc

missing_out : (k l : Text) → missing k ≡ out_of_range l → ⊥
missing_out k l e = cc

missing_extra : (k l : Text) → missing k ≡ extra l → ⊥
missing_extra k l e = cc

out_extra : (k l : Text) → out_of_range k ≡ extra l → ⊥
out_extra k l e = cc

missing_same : (k l : Text) → missing k ≡ missing l → k ≡ l
missing_same k l e = cc

out_same : (k l : Text) → out_of_range k ≡ out_of_range l → k ≡ l
out_same k l e = cc

extra_same : (k l : Text) → extra k ≡ extra l → k ≡ l
extra_same k l e = cc

pub refusal_same : (bytes : Text) (a b : BoardRefusal) (k l : Text) → IsNoBoard bytes a k → IsNoBoard bytes b l → named a k ≡ named b l → board_refused a k ≡ board_refused b l
refusal_same bytes kind.NotToml kind.NotToml k l h g e = ap (λ x. board_refused kind.NotToml x) (h.0 ∙ sym g.0)
refusal_same bytes kind.NotToml kind.Missing k l h g e = absurd (not_toml_missing l e)
refusal_same bytes kind.NotToml kind.OutOfRange k l h g e = absurd (not_toml_out l e)
refusal_same bytes kind.NotToml kind.Extra k l h g e = absurd (not_toml_extra l e)
refusal_same bytes kind.Missing kind.NotToml k l h g e = absurd (not_toml_missing k (sym e))
refusal_same bytes kind.Missing kind.Missing k l h g e = ap (λ x. board_refused kind.Missing x) (missing_same k l e)
refusal_same bytes kind.Missing kind.OutOfRange k l h g e = absurd (missing_out k l e)
refusal_same bytes kind.Missing kind.Extra k l h g e = absurd (missing_extra k l e)
refusal_same bytes kind.OutOfRange kind.NotToml k l h g e = absurd (not_toml_out k (sym e))
refusal_same bytes kind.OutOfRange kind.Missing k l h g e = absurd (missing_out l k (sym e))
refusal_same bytes kind.OutOfRange kind.OutOfRange k l h g e = ap (λ x. board_refused kind.OutOfRange x) (out_same k l e)
refusal_same bytes kind.OutOfRange kind.Extra k l h g e = absurd (out_extra k l e)
refusal_same bytes kind.Extra kind.NotToml k l h g e = absurd (not_toml_extra k (sym e))
refusal_same bytes kind.Extra kind.Missing k l h g e = absurd (missing_extra l k (sym e))
refusal_same bytes kind.Extra kind.OutOfRange k l h g e = absurd (out_extra l k (sym e))
refusal_same bytes kind.Extra kind.Extra k l h g e = ap (λ x. board_refused kind.Extra x) (extra_same k l e)

abbrev BoardValues : Type 0
BoardValues = ℕ × Core × Access

same_board : (b c : Board) → b.budget ≡ c.budget → b.core ≡ c.core → b.access ≡ c.access → b ≡ c
same_board b c budget core access =
    let values : BoardValues = (b.budget, b.core, b.access) in
    let others : BoardValues = (c.budget, c.core, c.access) in
    let same : values ≡ others = cc in
    board_same b c (ap (λ (v : BoardValues). v.0 ∷ core_numbers v.1 ++ access_numbers v.2) same)

-- a file and the budget that is wanted give one board
pub one_board_with : (wanted : Option ℕ) (bytes : Text) (b c : Board) → IsBoardWith wanted bytes b → IsBoardWith wanted bytes c → b ≡ c
one_board_with wanted bytes b c h k =
    let own = one_board bytes h.own k.own h.is_board k.is_board in
    same_board b c
    (h.budget ∙ ap (λ (x : Board). unwrap_or wanted x.budget) own ∙ sym k.budget)
    (h.core ∙ ap (λ (x : Board). x.core) own ∙ sym k.core)
    (h.access ∙ ap (λ (x : Board). x.access) own ∙ sym k.access)

-- the bytes are refused as a board in one way
pub no_board_same : (bytes : Text) (a b : BoardRefusal) (k l : Text) → IsNoBoard bytes a k → IsNoBoard bytes b l → board_refused a k ≡ board_refused b l
no_board_same bytes a b k l h g = refusal_same bytes a b k l h g (one_fault bytes (named a k) (named b l) (refused_as bytes a k h) (refused_as bytes b l g))

-- or hold a board
pub board_or : (budget : Option ℕ) (bytes : Text) (board : Board) (k : BoardRefusal) (key : Text) → IsBoardWith budget bytes board → IsNoBoard bytes k key → ⊥
board_or budget bytes board k key h g = board_or_fault bytes h.own (named k key) h.is_board (refused_as bytes k key g)
