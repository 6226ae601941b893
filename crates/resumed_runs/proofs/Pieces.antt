-- Code in pieces: where each of them stands.
use Rattle.std.proofs.Common.{◌≡◌, ℕ, zero, suc, ◌+◌, List, [], ◌∷◌, ◌++◌, refl, arith}
use Rattle.msp430_isa.specs.declared.instr.Instr.{Instr}
use Rattle.resumed_runs.specs.Code.{size_of}
use Rattle.resumed_runs.proofs.Paths.{Stand, stand_front, stand_back}

-- all instructions, one piece behind another
abbrev pub whole_of : List (List Instr) → List Instr
whole_of [] = []
whole_of (p ∷ ps) = p ++ whole_of ps

abbrev pub piece_at : List (List Instr) → ℕ → List Instr
piece_at [] i = []
piece_at (p ∷ ps) zero = p
piece_at (p ∷ ps) (suc i) = piece_at ps i

-- the word on which a piece begins, where the first begins at k; behind the last one it is the end
abbrev pub place_of : ℕ → List (List Instr) → ℕ → ℕ
place_of k [] i = k
place_of k (p ∷ ps) zero = k
place_of k (p ∷ ps) (suc i) = place_of (k + size_of p) ps i

pub piece_stands : (code : ℕ → ℕ) (k : ℕ) (ps : List (List Instr)) (i : ℕ) → Stand code k (whole_of ps) → Stand code (place_of k ps i) (piece_at ps i)
piece_stands code k [] i h = tt
piece_stands code k (p ∷ ps) zero h = stand_front code k p (whole_of ps) h
piece_stands code k (p ∷ ps) (suc i) h = piece_stands code (k + size_of p) ps i (stand_back code k p (whole_of ps) h)

-- each begins where the one before it ends
pub place_next : (k : ℕ) (ps : List (List Instr)) (i : ℕ) → place_of k ps (suc i) ≡ place_of k ps i + size_of (piece_at ps i)
place_next k [] i = omega arith
place_next k (p ∷ []) zero = refl
place_next k (p ∷ q ∷ ps) zero = refl
place_next k (p ∷ ps) (suc i) = place_next (k + size_of p) ps i
