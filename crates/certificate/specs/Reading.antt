-- Which row may follow which, and what is read of a text so far.
use Rattle.std.specs.Prelude.{ℕ, ◌+◌, ◌<◌, ◌^◌, ◌≡◌, List, [], ◌∷◌, ◌++◌, length, Option, Some, None, Result, Ok, Err, option_map, option_and_then, option_to_list, if◌then◌else◌, nat_le, codes}
use Rattle.std.specs.Str.{bytes_eq}
use Rattle.certificate.specs.declared.state.Row.{Row}
use Rattle.certificate.specs.declared.state.Row.TheVariants.{Budget, Function, Stretch, Point, End}
use Rattle.certificate.specs.declared.state.Stage.{Stage}
use Rattle.certificate.specs.declared.state.Stage.TheVariants as stage
use Rattle.certificate.specs.declared.fault.Refusal.{Refusal}
use Rattle.certificate.specs.declared.fault.Refusal.TheVariants.{Bad, Memory}
use Rattle.certificate.specs.declared.fault.CertText.{CertText}
use Rattle.certificate.specs.declared.fault.CertText.TheVariants as fault
use Rattle.certificate.specs.Line.{Line, budget, function, stretch, point, end}
use Rattle.certificate.specs.Spelling.{first_line}
use Rattle.certificate.specs.Rows.{function_of, point_of}
use Rattle.certificate.specs.Fields.{number_of, parts_of}
use Rattle.certificate.specs.Lines.{field, rest, stretch_in, function_in, point_in}

abbrev pub line_of_row : Row → Line
line_of_row (Budget b) = budget b
line_of_row (Function f) = function (function_of f)
line_of_row (Stretch s) = stretch s
line_of_row (Point p) = point (point_of p)
line_of_row End = end

-- the row that a line spells
abbrev pub read_row : List ℕ → Option Line
read_row line =
    if bytes_eq line (codes "end") then Some end
    else (if bytes_eq (field line) (codes "P") then option_map point (point_in (rest line))
    else (if bytes_eq (field line) (codes "S") then option_map stretch (stretch_in (rest line))
    else (if bytes_eq (field line) (codes "F") then option_map function (function_in (rest line))
    else (if bytes_eq (field line) (codes "budget") then option_map budget (number_of (rest line))
    else None))))

abbrev pub functions_behind : Stage → ℕ → Option Stage
functions_behind stage.First start = Some (stage.Functions (start + 1))
functions_behind (stage.Functions low) start = if nat_le low start then Some (stage.Functions (start + 1)) else None
functions_behind _ start = None

abbrev pub stretches_behind : Stage → ℕ → Option Stage
stretches_behind (stage.Functions low) head = Some (stage.Stretches (head + 1))
stretches_behind (stage.Stretches low) head = if nat_le low head then Some (stage.Stretches (head + 1)) else None
stretches_behind _ head = None

abbrev pub points_behind : Stage → ℕ → Option Stage
points_behind (stage.Functions low) address = Some (stage.Points (address + 1))
points_behind (stage.Stretches low) address = Some (stage.Points (address + 1))
points_behind (stage.Points low) address = if nat_le low address then Some (stage.Points (address + 1)) else None
points_behind _ address = None

abbrev pub budget_behind : Stage → Option Stage
budget_behind stage.Budget = Some stage.First
budget_behind _ = None

abbrev pub end_behind : Stage → Option Stage
end_behind (stage.Functions low) = Some stage.Ended
end_behind (stage.Stretches low) = Some stage.Ended
end_behind (stage.Points low) = Some stage.Ended
end_behind _ = None

-- what may come behind a row, if it may come
abbrev pub stage_behind : Stage → Line → Option Stage
stage_behind s (budget b) = budget_behind s
stage_behind s (function f) = functions_behind s f.start
stage_behind s (stretch row) = stretches_behind s row.head
stage_behind s (point p) = points_behind s p.address
stage_behind s end = end_behind s

-- the row of a line, if it has one, and what may come next
abbrev pub Taken : Type 0
Taken = Option Line × Stage

abbrev pub header : List ℕ → Option Taken
header line = if bytes_eq line first_line then Some (None, stage.Budget) else None

abbrev pub row_line : Stage → List ℕ → Option Taken
row_line s line = option_and_then (λ row. option_map (λ next. (Some row, next)) (stage_behind s row)) (read_row line)

abbrev pub read_line : Stage → List ℕ → Option Taken
read_line stage.Header line = header line
read_line s line = row_line s line

abbrev pub read_of : (Option Row × Stage) → Taken
read_of p = (option_map line_of_row p.0, p.1)

-- ---- Texts in pieces

-- What is read so far: what may come next, the unfinished line and where it begins; or where the first bad line begins.
pub data Progress : Type 0 where
  going : Stage → List ℕ → ℕ → Progress
  stopped : ℕ → Progress

-- rows, and then what is read behind them
abbrev pub behind_rows : List Line → (List Line × Progress) → (List Line × Progress)
behind_rows rows r = (rows ++ r.0, r.1)

-- where the first bad line begins
abbrev pub stopped_at : ℕ → (List Line × Progress)
stopped_at at = ([], stopped at)

abbrev pub or_stopped : ℕ → Option (List Line × Progress) → (List Line × Progress)
or_stopped at None = stopped_at at
or_stopped at (Some r) = r

-- The rows of finished lines that begin at this offset, and what is read with the unfinished line behind them.
abbrev pub read_lines : Stage → ℕ → List (List ℕ) → (List Line × Progress)
read_lines s at [] = ([], going s [] at)
read_lines s at (line ∷ more) = elim more [
  | [] ↦ ([], going s line at)
  | ◌∷◌ next rest ↦ or_stopped at (option_map (λ t. behind_rows (option_to_list t.0) (read_lines t.1 (at + length line + 1) more)) (read_line s line))
]

-- the rows of a text, and what is read of it
abbrev pub read_text : Stage → ℕ → List ℕ → (List Line × Progress)
read_text s at text = read_lines s at (parts_of 10 text)

-- The row of the line was added, if it has one; there may have been no memory.
abbrev pub TakesLine : Result Stage Refusal → List Line → List Line → Option Taken → Type 0
TakesLine (Ok next) old new None = ⊥
TakesLine (Ok next) old new (Some t) = (t.1 ≡ next) × (new ≡ old ++ option_to_list t.0)
TakesLine (Err Bad) old new wanted = wanted ≡ None
TakesLine (Err Memory) old new wanted = Unit {0}

-- The rows were added and this is left; or the first bad line begins there; or there was no memory.
abbrev pub GivesRows : {L : Type 0} → (L → Progress) → Result L CertText → List Line → List Line → (List Line × Progress) → Type 0
GivesRows progress (Ok left) old new wanted = (new ≡ old ++ wanted.0) × (wanted.1 ≡ progress left)
GivesRows progress (Err (fault.BadLine at)) old new wanted = wanted.1 ≡ stopped at
GivesRows progress (Err fault.Memory) old new wanted = Unit {0}

abbrev pub GivesAll : {L : Type 0} → (L → List Line) → (L → Progress) → Result L CertText → (List Line × Progress) → Type 0
GivesAll rows progress (Ok left) wanted = (rows left ≡ wanted.0) × (wanted.1 ≡ progress left)
GivesAll rows progress (Err (fault.BadLine at)) wanted = wanted.1 ≡ stopped at
GivesAll rows progress (Err fault.Memory) wanted = Unit {0}

abbrev pub progress_of : Option ℕ → Stage → List ℕ → ℕ → Progress
progress_of None s line at = going s line at
progress_of (Some bad) s line at = stopped bad

abbrev pub nothing_read : Progress
nothing_read = going stage.Header [] 0

-- the rows of a piece, and what is read with it
abbrev pub fed : Progress → List ℕ → (List Line × Progress)
fed (going s line at) piece = read_text s at (line ++ piece)
fed (stopped at) piece = stopped_at at

-- all that was fed, with so much more, has a length
abbrev pub HasRoom : Progress → ℕ → Type 0
HasRoom (going s line at) more = at + length line + more < 2 ^ 64
HasRoom (stopped at) more = Unit {0}

abbrev pub IsGoing : Progress → Type 0
IsGoing (going s line at) = Unit {0}
IsGoing (stopped at) = ⊥

-- The rows of the piece were given; or the first bad line begins there, now and ever; or there was no memory, and
-- nothing has changed; a reader that has met a bad line takes no memory.
abbrev pub Feeds : {R : Type 0} → (R → List Line) → Result R CertText → Progress → Progress → (List Line × Progress) → Type 0
Feeds rows (Ok given) old new wanted = (rows given ≡ wanted.0) × (wanted.1 ≡ new) × IsGoing new
Feeds rows (Err (fault.BadLine at)) old new wanted = (wanted.1 ≡ stopped at) × (new ≡ stopped at)
Feeds rows (Err fault.Memory) old new wanted = (new ≡ old) × IsGoing old

-- where a text that ends here has its first bad line, if it is no whole certificate
abbrev pub fault_at_end : Progress → Option ℕ
fault_at_end (going stage.Ended [] at) = None
fault_at_end (going s line at) = Some at
fault_at_end (stopped at) = Some at

abbrev pub Ends : Result (Unit {0}) CertText → Progress → Type 0
Ends (Ok _) p = fault_at_end p ≡ None
Ends (Err (fault.BadLine at)) p = fault_at_end p ≡ Some at
Ends (Err fault.Memory) p = ⊥
