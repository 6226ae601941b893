-- The text of a program's input: words in decimal digits, parted by white space.
use Rattle.std.specs.Prelude.{◌≡◌, ℕ, ◌+◌, ◌==◌, ◌||◌, Bool, true, false, List, [], ◌∷◌, Option, Some, None, length, is_some, if◌then◌else◌}
use Rattle.std.specs.List.{slice_split, filter_map}
use denote.Bor.{Bor}
use Rattle.job_parts.specs.Words.{number}
use Rattle.job_parts.specs.declared.input.InputFault.{InputFault}
use Rattle.job_parts.specs.declared.input.InputFault.TheVariants.{BadWord, Memory}

-- a blank, a tab, a carriage return or a line feed
abbrev pub is_white : ℕ → Bool
is_white b = b == 32 || b == 9 || b == 13 || b == 10

-- what stands between the white bytes of a text, before the first and behind the last of them; a piece may be empty
abbrev pub pieces_of : List ℕ → List (List ℕ)
pieces_of text = slice_split is_white text

-- the number that a piece spells: one decimal digit or more, and at most 65,535; zeros may lead it
abbrev pub word_in : List ℕ → Option ℕ
word_in piece = number 0 65535 piece

abbrev pub is_empty : List ℕ → Bool
is_empty [] = true
is_empty (_ ∷ _) = false

abbrev pub is_fine : List ℕ → Bool
is_fine piece = is_some (word_in piece) || is_empty piece

-- where the first piece begins that is neither empty nor a word, if there is one; the pieces begin at this offset
abbrev pub bad_piece : ℕ → List (List ℕ) → Option ℕ
bad_piece at [] = None
bad_piece at (piece ∷ behind) = if is_fine piece then bad_piece (at + length piece + 1) behind else Some at

abbrev pub words_of : List (List ℕ) → List ℕ
words_of pieces = filter_map word_in pieces

-- Each piece of the text is empty or a word, and these are the words in order.
abbrev pub SpellsInput : List ℕ → List ℕ → Type 0
SpellsInput text words = (bad_piece 0 (pieces_of text) ≡ None) × (words ≡ words_of (pieces_of text))

-- There is a piece that is neither, and the first such begins there; or there was no memory.
abbrev pub SpellsNoInput : List ℕ → InputFault → Type 0
SpellsNoInput text (BadWord at) = bad_piece 0 (pieces_of text) ≡ Some at
SpellsNoInput text Memory = Unit {0}

-- The fault is of the text, and no words are spelled by it.
abbrev pub IsRefused : List ℕ → InputFault → Type 0
IsRefused text (BadWord at) = (words : List ℕ) → ¬ SpellsInput text words
IsRefused text Memory = Unit {0}

-- the pieces behind a piece, where a white byte stands behind it
abbrev pub pieces_behind : Option (Bor (List ℕ)) → List (List ℕ)
pieces_behind None = []
pieces_behind (Some text) = pieces_of text.now
