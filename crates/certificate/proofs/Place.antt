-- Where the unfinished line of a text begins.
use Rattle.std.proofs.Common.{◌≡◌, ◌+◌, ◌^◌, ◌≤◌, ◌<◌, ◌++◌, ℕ, List, [], ◌∷◌, Option, Some, None, refl, sym, subst, length, arith, length-append}
use Rattle.std.specs.Prelude.{Result, Ok, Err}
use Rattle.std.specs.List.{join_with_byte}
use Rattle.certificate.specs.declared.state.Stage.{Stage}
use Rattle.certificate.specs.declared.fault.CertText.{CertText}
use Rattle.certificate.specs.declared.fault.CertText.TheVariants as fault
use Rattle.certificate.specs.Line.{Line}
use Rattle.certificate.specs.Fields.{parts_of}
use Rattle.certificate.specs.Reading.{Feeds, HasRoom, Progress, Taken, fed, going, read_line, read_lines, read_text, stopped}
use Rattle.certificate.proofs.Lists.{parts_told}
use Rattle.certificate.proofs.Passing.{passes}
use Rattle.certificate.proofs.Pieces.{some_parts}
use Rattle.certificate.proofs.TwoPieces.{stops}

-- what is unfinished ends where the text does
abbrev pub EndsAt : ℕ → Progress → Type 0
EndsAt n (going s line at) = at + length line ≡ n
EndsAt n (stopped at) = Unit {0}

abbrev AllEndAt : List (List ℕ) → Type 0
AllEndAt parts = (s : Stage) (at : ℕ) → EndsAt (at + length (join_with_byte 10 parts)) (read_lines s at parts).1

by_line : (line next : List ℕ) (rest : List (List ℕ)) (s : Stage) (at : ℕ) → AllEndAt (next ∷ rest) → (o : Option Taken) → read_line s line ≡ o
    → EndsAt (at + length (line ++ 10 ∷ join_with_byte 10 (next ∷ rest))) (read_lines s at (line ∷ next ∷ rest)).1
by_line line next rest s at below None e =
    subst (λ r. EndsAt (at + length (line ++ 10 ∷ join_with_byte 10 (next ∷ rest))) r.1) (sym (stops s at line (next ∷ rest) (omega arith) e)) tt
by_line line next rest s at below (Some t) e =
    let size : at + length line + 1 + length (join_with_byte 10 (next ∷ rest)) ≡ at + length (line ++ 10 ∷ join_with_byte 10 (next ∷ rest)) =
    omega (arith, length-append line (10 ∷ join_with_byte 10 (next ∷ rest))) in
    subst (λ r. EndsAt (at + length (line ++ 10 ∷ join_with_byte 10 (next ∷ rest))) r.1) (sym (passes s at line (line ∷ next ∷ rest) (next ∷ rest) t (omega arith) refl e))
    (subst (λ n. EndsAt n (read_lines t.1 (at + length line + 1) (next ∷ rest)).1) size (below t.1 (at + length line + 1)))

all_end : (parts : List (List ℕ)) → 1 ≤ length parts → AllEndAt parts
all_end [] some s at = absurd (omega arith)
all_end (line ∷ []) some s at = refl
all_end (line ∷ next ∷ rest) some s at = by_line line next rest s at (all_end (next ∷ rest) (omega arith)) (read_line s line) refl

text_ends : (s : Stage) (at : ℕ) (text : List ℕ) → EndsAt (at + length text) (read_text s at text).1
text_ends s at text = subst (λ t. EndsAt (at + length t) (read_text s at text).1) (parts_told 10 text) (all_end (parts_of 10 text) (some_parts 10 text) s at)

room_by : (p : Progress) (n more : ℕ) → EndsAt n p → n + more < 2 ^ 64 → HasRoom p more
room_by (going s line at) n more e l = subst (λ k. k + more < 2 ^ 64) (sym e) l
room_by (stopped at) n more e l = tt

room_fed : (p : Progress) (piece : List ℕ) (more : ℕ) → HasRoom p (length piece + more) → HasRoom (fed p piece).1 more
room_fed (going s line at) piece more l =
    room_by (read_text s at (line ++ piece)).1 (at + length (line ++ piece)) more (text_ends s at (line ++ piece)) (omega (arith, length-append line piece))
room_fed (stopped at) piece more l = tt

less_room : (p : Progress) (some more : ℕ) → HasRoom p (some + more) → HasRoom p more
less_room (going s line at) some more l = omega arith
less_room (stopped at) some more l = tt

-- what is left of the room behind a piece
pub room_left : {R : Type 0} (rows : R → List Line) (r : Result R CertText) (old new : Progress) (piece : List ℕ) (more : ℕ) → Feeds rows r old new (fed old piece)
    → HasRoom old (length piece + more) → HasRoom new more
room_left rows (Ok given) old new piece more f h = subst (λ p. HasRoom p more) f.1 (room_fed old piece more h)
room_left rows (Err (fault.BadLine at)) old new piece more f h = subst (λ p. HasRoom p more) (sym f.1) tt
room_left rows (Err fault.Memory) old new piece more f h = subst (λ p. HasRoom p more) (sym f.0) (less_room old (length piece) more h)
