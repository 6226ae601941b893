-- A text spells one input, or its first bad piece stands at one place.
use Rattle.std.proofs.Common.{◌≡◌, ◌∙◌, ℕ, List, Option, Some, None, sym}
use Rattle.job_parts.specs.Input.{SpellsInput, bad_piece, pieces_of}
use Rattle.job_files.specs.Text.{Text}

pub some_same : {A : Type 0} (x y : A) → (let s : Option A = Some x in s ≡ Some y) → x ≡ y
some_same x y e = cc

pub none_some : {A : Type 0} (x : A) → (let n : Option A = None in n ≡ Some x) → ⊥
none_some x e = cc

pub place_same : (o : Option ℕ) (m n : ℕ) → o ≡ Some m → o ≡ Some n → m ≡ n
place_same o m n e f = some_same m n (sym e ∙ f)

pub input_or : (text : Text) (words : List ℕ) (at : ℕ) → SpellsInput text words → bad_piece 0 (pieces_of text) ≡ Some at → ⊥
input_or text words at h g = none_some at (sym h.0 ∙ g)
