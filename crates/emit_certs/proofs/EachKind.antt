-- What is computed of the template of each kind of operation.
use Rattle.std.proofs.Common.{◌≡◌, ℕ, ◌≤◌, Bool, true, None, List, map, refl}
use Rattle.std.specs.Prelude.{◌&&◌, nat_le, length}
use Rattle.std.specs.List.{list_all}
use Rattle.board_table.specs.declared.board.Board.{Board}
use Rattle.flow_graph.specs.declared.graph.Op.{Op}
use Rattle.flow_graph.specs.declared.graph.OpKind.{OpKind}
use Rattle.flow_graph.specs.declared.graph.OpKind.TheVariants as kind
use Rattle.op_cost.specs.Templates.{Counted, Homes, code_of, template, weight_of}
use Rattle.cert_templates.specs.Frames.{bytes_of_code, inner_by, inner_on, inner_point, template_as, walked}
use Rattle.emit_certs.specs.Timed.{timed_from}

-- ---- How often each instruction counts

timed_by : (k : OpKind) (homes : Homes) (target : ℕ) (op : Op) → timed_from k 0 (code_of (template_as k homes target op)) ≡ template_as k homes target op
timed_by kind.Mul homes target op = refl
timed_by k homes target op = refl

pub timed_is : (homes : Homes) (target : ℕ) (op : Op) → timed_from op.kind 0 (code_of (template homes target op)) ≡ template homes target op
timed_is homes target op = timed_by op.kind homes target op

-- ---- The points inside

walked_by : (k : OpKind) (b : Board) (n st spent a : ℕ) (homes : Homes) (target : ℕ) (op : Op)
    → map (inner_point st spent a (code_of (template_as k homes target op))) (inner_by k b n (template_as k homes target op))
    ≡ walked st spent a (code_of (template_as k homes target op)) (inner_on (inner_by k b n (template_as k homes target op)))
walked_by kind.Mul b n st spent a homes target op = refl
walked_by k b n st spent a homes target op = refl

pub walked_is : (b : Board) (n st spent a : ℕ) (homes : Homes) (target : ℕ) (op : Op)
    → map (inner_point st spent a (code_of (template homes target op))) (inner_by op.kind b n (template homes target op))
    ≡ walked st spent a (code_of (template homes target op)) (inner_on (inner_by op.kind b n (template homes target op)))
walked_is b n st spent a homes target op = walked_by op.kind b n st spent a homes target op

-- ---- Their length, and how often instructions count

abbrev pub is_small : List Counted → Bool
is_small code = nat_le 1 (length code) && (nat_le (length code) 96 && list_all (λ c. nat_le c.times 16) code)

small_by : (k : OpKind) (homes : Homes) (target : ℕ) (op : Op) → is_small (template_as k homes target op) ≡ true
small_by kind.Mul homes target op = refl
small_by k homes target op = refl

pub small_is : (homes : Homes) (target : ℕ) (op : Op) → is_small (template homes target op) ≡ true
small_is homes target op = small_by op.kind homes target op

-- ---- No point is on the first instruction

bare_by : (k : OpKind) (b : Board) (n : ℕ) (code : List Counted) → inner_on (inner_by k b n code) 0 ≡ None
bare_by kind.Mul b n code = refl
bare_by k b n code = refl

pub first_bare : (b : Board) (n : ℕ) (homes : Homes) (target : ℕ) (op : Op) → inner_on (inner_by op.kind b n (template homes target op)) 0 ≡ None
first_bare b n homes target op = bare_by op.kind b n (template homes target op)

-- ---- Nothing that is told of a template depends on where it jumps

aimed_bytes_by : (k : OpKind) (homes : Homes) (target other : ℕ) (op : Op) → bytes_of_code (code_of (template_as k homes target op)) ≡ bytes_of_code (code_of (template_as k homes other op))
aimed_bytes_by kind.Test homes target other op = refl
aimed_bytes_by k homes target other op = refl

pub aimed_bytes : (homes : Homes) (target other : ℕ) (op : Op) → bytes_of_code (code_of (template homes target op)) ≡ bytes_of_code (code_of (template homes other op))
aimed_bytes homes target other op = aimed_bytes_by op.kind homes target other op

aimed_weight_by : (k : OpKind) (b : Board) (homes : Homes) (target other : ℕ) (op : Op) → weight_of b (template_as k homes target op) ≡ weight_of b (template_as k homes other op)
aimed_weight_by kind.Test b homes target other op = refl
aimed_weight_by k b homes target other op = refl

pub aimed_weight : (b : Board) (homes : Homes) (target other : ℕ) (op : Op) → weight_of b (template homes target op) ≡ weight_of b (template homes other op)
aimed_weight b homes target other op = aimed_weight_by op.kind b homes target other op

aimed_points_by : (k : OpKind) (b : Board) (n : ℕ) (homes : Homes) (target other : ℕ) (op : Op) (st spent a : ℕ)
    → walked st spent a (code_of (template_as k homes target op)) (inner_on (inner_by k b n (template_as k homes target op)))
    ≡ walked st spent a (code_of (template_as k homes other op)) (inner_on (inner_by k b n (template_as k homes other op)))
aimed_points_by kind.Test b n homes target other op st spent a = refl
aimed_points_by k b n homes target other op st spent a = refl

pub aimed_points : (b : Board) (n : ℕ) (homes : Homes) (target other : ℕ) (op : Op) (st spent a : ℕ)
    → walked st spent a (code_of (template homes target op)) (inner_on (inner_by op.kind b n (template homes target op)))
    ≡ walked st spent a (code_of (template homes other op)) (inner_on (inner_by op.kind b n (template homes other op)))
aimed_points b n homes target other op st spent a = aimed_points_by op.kind b n homes target other op st spent a
