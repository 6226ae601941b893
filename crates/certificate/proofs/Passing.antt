-- Lines that are passed over, and the first bad one.
use Rattle.std.proofs.Common.{◌≡◌, ◌+◌, ◌==◌, ◌≤◌, ◌++◌, ℕ, List, [], ◌∷◌, Option, Some, None, refl, length, arith, append_assoc}
use Rattle.std.specs.Prelude.{option_to_list}
use Rattle.std.proofs.lemmas.List.Splits.{length-slice_split}
use Rattle.certificate.specs.declared.state.Stage.{Stage}
use Rattle.certificate.specs.Fields.{parts_of}
use Rattle.certificate.specs.Line.{Line}
use Rattle.certificate.specs.Reading.{Progress, Taken, behind_rows, read_line, read_lines, read_text, stopped}

some_part : (mark : ℕ) (text : List ℕ) → 1 ≤ length (parts_of mark text)
some_part mark text = omega (arith, length-slice_split (λ b. b == mark) text)

bad_there : (s : Stage) (at : ℕ) (line : List ℕ) (all more : List (List ℕ)) → 1 ≤ length more → all ≡ line ∷ more → read_line s line ≡ None → (read_lines s at all).1 ≡ stopped at
bad_there s at line all [] l e none = absurd (omega (arith, l))
bad_there s at line all (next ∷ rest) l e none = rw (e, none) refl

pub passes : (s : Stage) (at : ℕ) (line : List ℕ) (all more : List (List ℕ)) (t : Taken) → 1 ≤ length more → all ≡ line ∷ more → read_line s line ≡ Some t
    → read_lines s at all ≡ behind_rows (option_to_list t.0) (read_lines t.1 (at + length line + 1) more)
passes s at line all [] t l e some = absurd (omega (arith, l))
passes s at line all (next ∷ rest) t l e some = rw (e, some) refl

pub bad_line : (s : Stage) (at : ℕ) (text line behind : List ℕ) → parts_of 10 text ≡ line ∷ parts_of 10 behind → read_line s line ≡ None → (read_text s at text).1 ≡ stopped at
bad_line s at text line behind e none = bad_there s at line (parts_of 10 text) (parts_of 10 behind) (some_part 10 behind) e none

pub line_passed : (s : Stage) (at : ℕ) (text line behind : List ℕ) (t : Taken) → parts_of 10 text ≡ line ∷ parts_of 10 behind → read_line s line ≡ Some t
    → read_text s at text ≡ behind_rows (option_to_list t.0) (read_text t.1 (at + length line + 1) behind)
line_passed s at text line behind t e some = passes s at line (parts_of 10 text) (parts_of 10 behind) t (some_part 10 behind) e some

-- where a line gave its row, the rows so far and those behind them stay the same
abbrev pub Goes : List Line → List Line → (List Line × Progress) → (List Line × Progress) → Type 0
Goes old now all more = (now ++ more.0 ≡ old ++ all.0) × (more.1 ≡ all.1)

abbrev pub Gave : Stage → List Line → List Line → Option Taken → Type 0
Gave next old now None = ⊥
Gave next old now (Some t) = (t.1 ≡ next) × (now ≡ old ++ option_to_list t.0)

goes_by : (s next : Stage) (at : ℕ) (text line behind : List ℕ) (old now : List Line) (o : Option Taken) → parts_of 10 text ≡ line ∷ parts_of 10 behind
    → read_line s line ≡ o → Gave next old now o → Goes old now (read_text s at text) (read_text next (at + (length line + 1)) behind)
goes_by s next at text line behind old now None e is g = absurd g
goes_by s next at text line behind old now (Some t) e is g =
    let place : at + length line + 1 ≡ at + (length line + 1) = omega arith in
    let passed = line_passed s at text line behind t e is in
    rw (passed, place, g.0, g.1) (append_assoc old (option_to_list t.0) (read_text next (at + (length line + 1)) behind).0, refl)

pub goes : (s next : Stage) (at : ℕ) (text line behind : List ℕ) (old now : List Line) → parts_of 10 text ≡ line ∷ parts_of 10 behind
    → Gave next old now (read_line s line) → Goes old now (read_text s at text) (read_text next (at + (length line + 1)) behind)
goes s next at text line behind old now e g = goes_by s next at text line behind old now (read_line s line) e refl g
