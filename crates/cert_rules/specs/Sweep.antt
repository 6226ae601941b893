-- The sweep of a function's code, and all rules together.
use Rattle.std.specs.Prelude.{ℕ, ◌≡◌, ◌+◌, ◌<◌, ◌≤◌, Bool, true, false, List, [], ◌∷◌, Option, Some, None}
use Rattle.std.specs.Option.{option_or}
use Rattle.board_table.specs.declared.board.Board.{Board}
use Rattle.ti_txt.specs.Image.{Block}
use Rattle.certificate.specs.Rows.{Function, Flat, Point, Certificate}
use Rattle.cert_rules.specs.Words.{head_bytes}
use Rattle.cert_rules.specs.Faults.{Fault, first_fault, first_of}
use Rattle.cert_rules.specs.Known.{Known, bare, known_at}
use Rattle.cert_rules.specs.Tables.{tables_fault, point_fault, point_at}
use Rattle.cert_rules.specs.Sheet.{Sheet, is_head}
use Rattle.cert_rules.specs.Overhead.{wake_cost}
use Rattle.cert_rules.specs.Standing.{standing, bytes_of}
use Rattle.cert_rules.specs.Shapes.{turns_at, turns_fault}
use Rattle.cert_rules.specs.Outcomes.{falls_only}
use Rattle.cert_rules.specs.Going.{going_fault, point_implied}
use Rattle.cert_rules.specs.Steps.{step_fault, step_leaves}

-- a head leads on with what waking costs, and nothing else known
abbrev pub behind_head : Sheet → ℕ → Known
behind_head t a = bare a (wake_cost t.board)

abbrev pub head_step_fault : Sheet → ℕ → Option Fault
head_step_fault t a = option_or
    (turns_fault (a + 18) 0 (turns_at t (a + head_bytes)))
    (going_fault t a (a + 18) (a + head_bytes) (falls_only (behind_head t a)))

-- at a point it is known what the point says
abbrev pub or_point : Option Point → Option Known → Option Known
or_point None incoming = incoming
or_point (Some p) incoming = Some (known_at p)

abbrev pub known_here : Sheet → ℕ → Option Known → Option Known
known_here t a incoming = or_point (point_at t.points a) incoming

-- From an address on, with what comes to it, the sweep of the function's code ends with this fault, or with none.
pub data Swept (t : Sheet) : ℕ → Option Known → Option Fault → Type 0 where
  end : (a : ℕ) (incoming : Option Known) → t.here.end ≤ a → Swept t a incoming None
  head_fails : (a : ℕ) (incoming : Option Known) (fault : Fault) → a < t.here.end → is_head t a ≡ true → head_step_fault t a ≡ Some fault → Swept t a incoming (Some fault)
  head : (a : ℕ) (incoming : Option Known) (verdict : Option Fault) → a < t.here.end → is_head t a ≡ true → head_step_fault t a ≡ None
      → Swept t (a + head_bytes) (Some (behind_head t a)) verdict → Swept t a incoming verdict
  fails : (a : ℕ) (incoming : Option Known) (fault : Fault) → a < t.here.end → is_head t a ≡ false → step_fault t a (known_here t a incoming) ≡ Some fault → Swept t a incoming (Some fault)
  step : (a : ℕ) (incoming : Option Known) (verdict : Option Fault) → a < t.here.end → is_head t a ≡ false → step_fault t a (known_here t a incoming) ≡ None
      → Swept t (a + bytes_of (standing t a)) (step_leaves t a (known_here t a incoming)) verdict → Swept t a incoming verdict

-- A flat function begins with nothing spent and nothing known, and its first point is tested against that.
abbrev pub entry : Function → Option Flat → Option Known
entry f None = None
entry f (Some flat) = Some (bare f.start 0)

abbrev pub entry_fault : Sheet → Option Known → Option Fault
entry_fault t None = None
entry_fault t (Some κ) = point_implied t.here.start κ (point_at t.points t.here.start)

pub record SweptFrom (t : Sheet) (verdict : Option Fault) : Type 0 where
  pub rest : Option Fault
  pub swept : Swept t t.here.start (entry t.here t.here.flat) rest
  pub is : verdict ≡ option_or (entry_fault t (entry t.here t.here.flat)) rest

abbrev pub sheet : List Block → Certificate → Board → Bool → Function → Sheet
sheet blocks c b is_first f = record {
  blocks = blocks;
  board = b;
  functions = c.functions;
  stretches = c.stretches;
  points = c.points;
  here = f;
  is_first = is_first;
}

-- the functions one after another, up to the first fault
pub data AllSwept (blocks : List Block) (c : Certificate) (b : Board) : Bool → List Function → Option Fault → Type 0 where
  done : (first : Bool) → AllSwept blocks c b first [] None
  fault : (first : Bool) (f : Function) (functions : List Function) (x : Fault) → SweptFrom (sheet blocks c b first f) (Some x) → AllSwept blocks c b first (f ∷ functions) (Some x)
  next : (first : Bool) (f : Function) (functions : List Function) (verdict : Option Fault) → SweptFrom (sheet blocks c b first f) None
      → AllSwept blocks c b false functions verdict → AllSwept blocks c b first (f ∷ functions) verdict

-- The first fault of all rules, or none: tables, then the places of points, then the sweep.
pub record Verdict (blocks : List Block) (c : Certificate) (b : Board) (verdict : Option Fault) : Type 0 where
  pub sweep : Option Fault
  pub swept : AllSwept blocks c b true c.functions sweep
  pub is : verdict ≡ first_fault (tables_fault blocks c.budget c.functions c.stretches b ∷ first_of (point_fault c.functions c.stretches) c.points ∷ sweep ∷ [])

-- Every rule holds.
abbrev pub Certified : List Block → Certificate → Board → Type 0
Certified blocks c b = Verdict blocks c b None
