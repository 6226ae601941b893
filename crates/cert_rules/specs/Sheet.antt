-- What the rules of the code look at, and the words of the image.
use Rattle.std.specs.Prelude.{ℕ, zero, suc, ◌+◌, ◌%◌, ◌==◌, nat_le, Bool, true, false, ◌&&◌, ◌||◌, List, Option, is_some, unwrap_or}
use Rattle.std.specs.Option.{option_and_then}
use Rattle.board_table.specs.declared.board.Board.{Board}
use Rattle.ti_txt.specs.Image.{Block}
use Rattle.certificate.specs.declared.cert.StretchRow.{StretchRow}
use Rattle.certificate.specs.Rows.{Function, Point}
use Rattle.msp430_isa.specs.declared.instr.Instr.{Instr}
use Rattle.msp430_isa.specs.Decoding.{instruction_at}
use Rattle.msp430_machine.specs.Addresses.{fetch_end}
use Rattle.cert_rules.specs.Words.{word_in}
use Rattle.cert_rules.specs.Tables.{head_at, point_at, is_number}

-- What the rules look at: the image, the board and the rows, the function whose code is swept, and whether it is the first.
pub record Sheet : Type 0 where
  pub blocks : List Block
  pub board : Board
  pub functions : List Function
  pub stretches : List StretchRow
  pub points : List Point
  pub here : Function
  pub is_first : Bool

abbrev pub is_head : Sheet → ℕ → Bool
is_head t a = is_some (head_at t.stretches a)

abbrev pub is_point : Sheet → ℕ → Bool
is_point t a = is_some (point_at t.points a)

abbrev pub word_or_zero : Sheet → ℕ → ℕ
word_or_zero t a = unwrap_or (word_in t.blocks a) 0

abbrev pub instruction_of : Sheet → ℕ → Option Instr
instruction_of t a = option_and_then (λ w. instruction_at w (word_or_zero t (a + 2)) (word_or_zero t (a + 4))) (word_in t.blocks a)

-- so many words are in the image
abbrev pub holds_words : Sheet → ℕ → ℕ → Bool
holds_words t a zero = true
holds_words t a (suc n) = is_some (word_in t.blocks a) && holds_words t (a + 2) n

abbrev pub any_point : Sheet → ℕ → ℕ → Bool
any_point t a zero = false
any_point t a (suc n) = is_point t a || any_point t (a + 1) n

abbrev pub is_word : Sheet → ℕ → ℕ → Bool
is_word t a w = is_number (word_in t.blocks a) w

abbrev pub fits_here : Sheet → ℕ → ℕ → Bool
fits_here t a bytes = a % 2 == 0 && nat_le (a + bytes) t.here.end && nat_le (a + bytes) fetch_end
