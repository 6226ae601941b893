use Rattle.std.proofs.Common.{◌≡◌, ◌+◌, ◌++◌, length}
use Rattle.job_parts.specs.Input.{bad_piece, pieces_of, words_of}
use Rattle.job_parts.proofs.input.read_input.Given as goal

-- the pieces before `rest` are empty or words, and these words were read
abbrev pub invariant-loop-words : goal.invariant-loop-words
invariant-loop-words l =
    (l.at + length l.rest ≡ length l.fn.text)
    × (bad_piece l.at (pieces_of l.rest) ≡ bad_piece 0 (pieces_of l.fn.text))
    × (l.words.items ++ words_of (pieces_of l.rest) ≡ words_of (pieces_of l.fn.text))

abbrev pub decreases-loop-words : goal.decreases-loop-words
decreases-loop-words l = length l.rest
