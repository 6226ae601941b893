-- The rows of operations one behind another, one operation at a time.
use Rattle.std.specs.Prelude.{ℕ, ◌+◌, ◌≤◌, ◌||◌, ◌++◌, if◌then◌else◌, Bool, true, false, List, [], ◌∷◌, slice_index_or}
use Rattle.board_table.specs.declared.board.Board.{Board}
use Rattle.certificate.specs.declared.cert.StretchRow.{StretchRow}
use Rattle.certificate.specs.Rows.{Point}
use Rattle.flow_graph.specs.declared.graph.Op.{Op}
use Rattle.flow_graph.specs.declared.nodes.Node.{Node}
use Rattle.cert_rules.specs.Overhead.{sleep_cost, wake_cost}
use Rattle.op_cost.specs.Templates.{Homes, code_of, length_in, template, weight_of}
use Rattle.emit_templates.specs.Placed.{HasHomes}
use Rattle.cert_templates.specs.Frames.{Position, bare_point, bytes_of_code, cost_to_head, goes_through, head_bytes_of, inner_by, inner_on, points_from, stretch_rows, walked}
use Rattle.emit_certs.specs.declared.standing.Standing.{Standing}

-- ---- Operations

-- in the order of their numbers, each of which jumps to address 0: no row depends on where a jump goes
abbrev pub still : (ℕ → Bool) → List Node → List Position
still heads [] = []
still heads (x ∷ xs) = record { op = x.op; target = 0; has_head = heads x.op.number } ∷ still heads xs

-- each object of each operation has its address, and each array has at most 65,535 elements
abbrev pub HaveHomes : List ℕ → List Node → Type 0
HaveHomes places [] = Unit {0}
HaveHomes places (x ∷ xs) = (HasHomes places x.op × (length_in x.op.array ≤ 65535)) × HaveHomes places xs

-- whether the operation of this number has a head
abbrev pub head_in : List Bool → ℕ → Bool
head_in heads n = slice_index_or heads n false

-- ---- An operation

-- behind its head, where it has one
abbrev pub entered : Board → Bool → Standing → Standing
entered b has s = record {
  at = s.at + head_bytes_of has;
  stretch = if has then s.at else s.stretch;
  spent = if has then wake_cost b else s.spent;
  falls = true;
  begun = has || s.begun;
}

-- and behind its template
abbrev pub passed : Board → Homes → Op → Standing → Standing
passed b homes op s = record {
  at = s.at + bytes_of_code (code_of (template homes 0 op));
  stretch = s.stretch;
  spent = s.spent + weight_of b (template homes 0 op);
  falls = goes_through op.kind;
  begun = s.begun;
}

-- the point where nothing falls in, and those of its template
abbrev pub bare_by : Bool → Standing → List Point
bare_by has s = if has || s.falls then [] else bare_point s.stretch s.spent s.at ∷ []

abbrev pub own_by : Board → Homes → Op → Standing → List Point
own_by b homes op s = walked s.stretch s.spent s.at (code_of (template homes 0 op)) (inner_on (inner_by op.kind b (length_in op.array) (template homes 0 op)))

-- the row of the stretch that stands open, if one has begun
abbrev pub row_costing : Standing → ℕ → List StretchRow
row_costing s cost = if s.begun then record { head = s.stretch; chain = 1; turns = 0; cost = cost } ∷ [] else []

-- the row of the stretch that a head ends
abbrev pub row_by : Board → Bool → Standing → List StretchRow
row_by b has s = if has then row_costing s (s.spent + sleep_cost b) else []

-- ---- All from one on

abbrev pub points_of_all : Board → Homes → Standing → List Position → List Point
points_of_all b homes s ps = points_from b homes s.stretch s.spent s.at s.falls ps

abbrev pub rows_of_all : Board → Homes → Standing → List Position → List StretchRow
rows_of_all b homes s ps = row_costing s (s.spent + sleep_cost b + cost_to_head b homes ps) ++ stretch_rows b homes s.at ps
