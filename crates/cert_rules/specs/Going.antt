-- What may be spent, and where the code may go.
use Rattle.std.specs.Prelude.{ℕ, nat_lt, Bool, ◌&&◌, ◌||◌, List, [], ◌∷◌, ◌++◌, Option, Some, None, is_none, ℤ, pos, ◌+ℤ◌, if◌then◌else◌}
use Rattle.std.specs.Int.{int_max}
use Rattle.std.specs.Int.Signed.{le_z}
use Rattle.std.specs.Option.{option_or}
use Rattle.certificate.specs.declared.cert.StretchRow.{StretchRow}
use Rattle.certificate.specs.Rows.{Flat, Point}
use Rattle.cert_rules.specs.declared.Rule.TheVariants.{Limit, Edge}
use Rattle.cert_rules.specs.Faults.{Fault, unless, first_fault}
use Rattle.cert_rules.specs.Spending.{greatest_bound}
use Rattle.cert_rules.specs.Known.{Known, range_of}
use Rattle.cert_rules.specs.Points.{implied_fault}
use Rattle.cert_rules.specs.Tables.{head_at, point_at, contains, is_split}
use Rattle.cert_rules.specs.Sheet.{Sheet, is_head, is_point}
use Rattle.cert_rules.specs.Overhead.{sleep_cost}
use Rattle.cert_rules.specs.Outcomes.{Outcome, Goes, Ends, Leaves, Enters}

abbrev pub greatest_spent : Known → ℤ
greatest_spent κ = greatest_bound (range_of κ) κ.spent

-- what is spent on an edge, with the sleep of a head that it leads to
abbrev pub spent_to : Sheet → ℕ → Known → ℤ
spent_to t target κ = greatest_spent κ +ℤ pos (if is_head t target then sleep_cost t.board else 0)

abbrev pub spent_by_edge : Sheet → ℕ → Option Known → List ℤ
spent_by_edge t target None = []
spent_by_edge t target (Some κ) = spent_to t target κ ∷ []

abbrev pub spent_by : Sheet → ℕ → Outcome → List ℤ
spent_by t next (Goes falls jumps target) = spent_by_edge t next falls ++ spent_by_edge t target jumps
spent_by t next (Ends κ) = greatest_spent κ ∷ []
spent_by t next (Leaves κ) = (greatest_spent κ +ℤ pos (if is_split t.here then sleep_cost t.board else 0)) ∷ []
spent_by t next (Enters κ) = (greatest_spent κ +ℤ pos (sleep_cost t.board)) ∷ []

abbrev pub most : ℤ → List ℤ → ℤ
most z [] = z
most z (y ∷ ys) = most (int_max z y) ys

abbrev pub over_fault : ℕ → ℕ → List ℤ → Option Fault
over_fault a limit [] = None
over_fault a limit (z ∷ zs) = unless (le_z (most z zs) (pos limit)) Limit a (most z zs) (pos limit)

abbrev pub row_cost : Option StretchRow → ℕ
row_cost None = 0
row_cost (Some s) = s.cost

abbrev pub limit_by : Sheet → ℕ → Option Flat → ℕ
limit_by t stretch None = row_cost (head_at t.stretches stretch)
limit_by t stretch (Some f) = f.cost

-- the cost of the stretch, or of the flat function
abbrev pub limit_of : Sheet → ℕ → ℕ
limit_of t stretch = limit_by t stretch t.here.flat

abbrev pub may_go_to : Sheet → ℕ → Bool
may_go_to t target = (is_point t target || is_head t target) && contains t.here target

abbrev pub edge_fault : Sheet → ℕ → ℕ → Outcome → Option Fault
edge_fault t a next (Goes falls jumps target) = option_or
    (unless (is_none falls || nat_lt next t.here.end) Edge a (pos next) (pos a))
    (unless (is_none jumps || may_go_to t target) Edge a (pos target) (pos a))
edge_fault t a next (Ends κ) = None
edge_fault t a next (Leaves κ) = None
edge_fault t a next (Enters κ) = unless (is_head t next && contains t.here next) Edge a (pos next) (pos a)

abbrev pub point_implied : ℕ → Known → Option Point → Option Fault
point_implied a κ None = None
point_implied a κ (Some p) = implied_fault a κ p

abbrev pub edge_implied : Sheet → ℕ → ℕ → Option Known → Option Fault
edge_implied t a target None = None
edge_implied t a target (Some κ) = point_implied a κ (point_at t.points target)

abbrev pub points_fault : Sheet → ℕ → ℕ → Outcome → Option Fault
points_fault t a next (Goes falls jumps target) = option_or (edge_implied t a next falls) (edge_implied t a target jumps)
points_fault t a next o = None

-- the last three rules, of an instruction at a that ends at next, in this stretch
abbrev pub going_fault : Sheet → ℕ → ℕ → ℕ → Outcome → Option Fault
going_fault t stretch a next o = first_fault (
    over_fault a (limit_of t stretch) (spent_by t next o)
    ∷ edge_fault t a next o
    ∷ points_fault t a next o
    ∷ [])

abbrev pub falls_with : Outcome → Option Known
falls_with (Goes falls jumps target) = falls
falls_with o = None
