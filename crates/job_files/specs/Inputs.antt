-- Texts that aren't in their grammar, by their name and an offset.
use Rattle.std.specs.Prelude.{◌≡◌, ℕ, Some}
use Rattle.job_parts.specs.Input.{bad_piece, pieces_of}
use Rattle.job_files.specs.Refusals.{Refusal, text_refused}
use Rattle.job_files.specs.Text.{Text}

-- the text of this name spells no input: its first piece that is neither empty nor a word begins there
abbrev pub IsBadInput : Text → Text → Text → ℕ → Type 0
IsBadInput name text n at = (n ≡ name) × (bad_piece 0 (pieces_of text) ≡ Some at)

-- one text is refused, for this
abbrev pub RefusesText : (Text → ℕ → Type 0) → Refusal → Type 0
RefusesText P (text_refused name at) = P name at
RefusesText P r = ⊥
