-- What the templates of operations are asked for and what they leave, and where points stand inside of them.
use Rattle.std.specs.Prelude.{ℕ, zero, suc, ◌≡◌, ◌+◌, ◌*◌, ◌-◌, ◌≤◌, ◌%◌, ◌==◌, ◌&&◌, ◌||◌, not, nat_le, ◌++◌, take, drop, Bool, true, false, List, [], ◌∷◌, Option, Some, None, pos, if◌then◌else◌}
use Rattle.board_table.specs.declared.board.Board.{Board}
use Rattle.certificate.specs.declared.cert.Slot.{Slot}
use Rattle.certificate.specs.declared.cert.Slot.TheVariants.{Reg, Word}
use Rattle.certificate.specs.declared.cert.Term.{Term}
use Rattle.certificate.specs.declared.cert.Fact.{Fact}
use Rattle.certificate.specs.Rows.{Point, Certificate}
use Rattle.certificate.specs.declared.cert.StretchRow.{StretchRow}
use Rattle.msp430_isa.specs.declared.instr.Instr.{Instr}
use Rattle.msp430_isa.specs.Encoding.{length_of}
use Rattle.flow_graph.specs.declared.graph.Operand.{Operand}
use Rattle.flow_graph.specs.declared.graph.Operand.TheVariants.{Const, Object}
use Rattle.flow_graph.specs.declared.graph.Op.{Op}
use Rattle.flow_graph.specs.declared.graph.OpKind.{OpKind}
use Rattle.flow_graph.specs.declared.graph.OpKind.TheVariants as kind
use Rattle.op_cost.specs.Templates.{Counted, Homes, code_of, weight_of, length_in, template}
use Rattle.cert_rules.specs.Slots.{same_slot, is_sram}
use Rattle.cert_rules.specs.Overhead.{cost_sum, wake_cost, sleep_cost}
use Rattle.cert_rules.specs.Words.{head_bytes}
use Rattle.std.specs.Option.{option_map}
use Rattle.cert_rules.specs.Known.{Known, freshened, bare}
use Rattle.cert_rules.specs.Going.{limit_of}
use Rattle.cert_rules.specs.Places.{one_address, may_read, may_move_to}
use Rattle.cert_rules.specs.Sheet.{Sheet}
use Rattle.cert_rules.specs.Shapes.{turns_at}
use Rattle.cert_rules.specs.Outcomes.{is_end}
use Rattle.cert_pieces.specs.Pieces.{Named, Affords, Falls, Lands, Begins, Here, AllStand, AllKept, leaves, behind, address_in, AllStandWith}

-- ---- What a template may write: its registers, and the word of its destination

abbrev pub is_scratch : Slot → Bool
is_scratch (Reg r) = nat_le 11 r && nat_le r 15
is_scratch (Word a) = false

abbrev pub lost_in : ℕ → Slot → Bool
lost_in d x = same_slot x (Word d) || is_scratch x

-- what a template that writes a word leaves
abbrev pub leaves_word : ℕ → ℕ → Known → Known
leaves_word d c s = freshened d d (leaves (lost_in d) c s)

-- ---- What a template is asked for

-- a constant is a word; an object may be read, and is fresh where it is in SRAM
abbrev pub OperandFits : Homes → (ℕ → Bool) → Operand → Type 0
OperandFits homes fresh (Const v) = v ≤ 65535
OperandFits homes fresh (Object o) = (homes o % 2 ≡ 0) × (may_read (one_address (homes o)) ≡ true) × ((is_sram (homes o) && not (fresh (homes o))) ≡ false)

-- a word may be written, no term is of it or of a template's register, and a flat function names it
pub record WordFits (t : Sheet) (d : ℕ) (s : Known) : Type 0 where
  pub even : d % 2 ≡ 0
  pub may : may_move_to (one_address d) ≡ true
  pub goes_on : is_end d ≡ false
  pub named : Named t.here.flat d
  pub kept : AllKept (lost_in d) s.spent.terms

-- Code without points, but maybe on its first instruction, leads from a state that has what is asked to one that has what is told, wherever it stands.
abbrev pub PlainCodeFalls : Sheet → List Counted → Known → Known → Type 0
PlainCodeFalls t code s out = (a more : ℕ) → AllStand t a (code_of code) → Affords t (weight_of t.board code + more) s → Falls t out (behind a (code_of code)) → Here t a s

-- the template of an operation as one of a kind
abbrev pub template_as : OpKind → Homes → ℕ → Op → List Counted
template_as k homes target op = template homes target (record op { kind = k })

-- ---- Points inside templates

-- the number of the instruction that it is on; what has been spent there of the template; and the registers that are set
pub record Inner : Type 0 where
  pub index : ℕ
  pub spent : ℕ
  pub terms : List Term
  pub facts : List Fact

abbrev pub bytes_of_code : List Instr → ℕ
bytes_of_code [] = 0
bytes_of_code (i ∷ is) = 2 * length_of i + bytes_of_code is

abbrev pub ranging : ℕ → ℕ → ℕ → Fact
ranging r least greatest = record { of = Reg r; least = least; greatest = greatest; even = false }

abbrev pub any_fact : ℕ → Fact
any_fact r = ranging r 0 65535

-- before the instruction with this number, all before it counted whole
abbrev pub plain_at : Board → List Counted → ℕ → List Fact → Inner
plain_at b code n facts = record { index = n; spent = weight_of b (take n code); terms = []; facts = facts }

-- The loop inside of a template: its first instruction, how many it has, its turns, and the register that counts those that are left.
pub record Loop : Type 0 where
  pub first : ℕ
  pub instructions : ℕ
  pub turns : ℕ
  pub counter : ℕ

abbrev pub turn_cost : Board → List Counted → Loop → ℕ
turn_cost b code loop = cost_sum b (code_of (take loop.instructions (drop loop.first code)))

-- in a loop, before the instruction with this number: each turn that is left takes its cost off
abbrev pub loop_at : Board → List Counted → Loop → ℕ → List Fact → Inner
loop_at b code loop n facts = record {
  index = n;
  spent = weight_of b (take loop.first code) + loop.turns * turn_cost b code loop + cost_sum b (code_of (take (n - loop.first) (drop loop.first code)));
  terms = record { minus = true; factor = turn_cost b code loop; of = Reg loop.counter } ∷ [];
  facts = facts;
}

abbrev pub four : List Fact
four = ranging 12 1 16 ∷ any_fact 13 ∷ any_fact 14 ∷ any_fact 15 ∷ []

abbrev pub operands : List Fact
operands = any_fact 14 ∷ any_fact 15 ∷ []

-- the loop of a division from this instruction on, whose registers these and R11 may be
abbrev pub division_at : Board → List Counted → ℕ → List Fact → List Inner
division_at b code n more =
    let loop : Loop = record { first = n; instructions = 9; turns = 16; counter = 12 } in
    loop_at b code loop n (more ++ four) ∷ loop_at b code loop (n + 5) (more ++ four) ∷ loop_at b code loop (n + 7) (more ++ four)
    ∷ plain_at b code (n + 9) (more ++ any_fact 13 ∷ any_fact 15 ∷ []) ∷ []

-- a test of R14 that traps before this instruction
abbrev pub trapping_at : Board → List Counted → ℕ → List Fact → List Inner
trapping_at b code n facts = plain_at b code n [] ∷ plain_at b code (n + 1) facts ∷ []

abbrev pub signed_at : Board → List Counted → ℕ → ℕ → List Inner
signed_at b code n r =
    plain_at b code n (any_fact 11 ∷ operands) ∷ plain_at b code (n + 4) (any_fact 11 ∷ operands)
    ∷ (division_at b code (n + 6) (any_fact 11 ∷ []) ++ plain_at b code (n + 19) (any_fact r ∷ []) ∷ [])

abbrev pub shift_at : Board → List Counted → ℕ → List Inner
shift_at b code shifts =
    let loop : Loop = record { first = 7; instructions = shifts + 2; turns = 15; counter = 14 } in
    trapping_at b code 4 (ranging 14 0 15 ∷ any_fact 15 ∷ []) ++ loop_at b code loop 7 (ranging 14 1 15 ∷ any_fact 15 ∷ []) ∷ plain_at b code (shifts + 9) (any_fact 15 ∷ []) ∷ []

abbrev pub compared_at : Board → List Counted → List Inner
compared_at b code = plain_at b code 6 (any_fact 13 ∷ []) ∷ []

-- the points inside the template of a kind, whose array has so many elements
abbrev pub inner_by : OpKind → Board → ℕ → List Counted → List Inner
inner_by kind.Mul b length code =
    let loop : Loop = record { first = 4; instructions = 7; turns = 16; counter = 12 } in
    loop_at b code loop 4 four ∷ loop_at b code loop 7 four ∷ plain_at b code 11 (any_fact 13 ∷ []) ∷ []
inner_by kind.DivU b length code = trapping_at b code 4 operands ++ division_at b code 7 []
inner_by kind.RemU b length code = trapping_at b code 4 operands ++ division_at b code 7 []
inner_by kind.DivS b length code = trapping_at b code 4 operands ++ signed_at b code 11 15
inner_by kind.RemS b length code = trapping_at b code 4 operands ++ signed_at b code 10 13
inner_by kind.Shl b length code = shift_at b code 1
inner_by kind.ShrS b length code = shift_at b code 1
inner_by kind.ShrU b length code = shift_at b code 2
inner_by kind.Eq b length code = compared_at b code
inner_by kind.Ne b length code = compared_at b code
inner_by kind.LtS b length code = compared_at b code
inner_by kind.LtU b length code = compared_at b code
inner_by kind.LeS b length code = compared_at b code
inner_by kind.LeU b length code = compared_at b code
inner_by kind.Load b length code = trapping_at b code 3 (ranging 14 0 (length - 1) ∷ [])
inner_by kind.Store b length code = trapping_at b code 4 (ranging 14 0 (length - 1) ∷ any_fact 15 ∷ [])
inner_by kind.Test b length code = plain_at b code 3 [] ∷ []
inner_by kind.Below b length code = plain_at b code 2 [] ∷ []
inner_by _ b length code = []

-- the point on an instruction of a template, where it has one
abbrev pub inner_on : List Inner → ℕ → Option Inner
inner_on [] k = None
inner_on (q ∷ inner) k = if q.index == k then Some q else inner_on inner k

-- a point in a stretch that has spent so much
abbrev pub placed : ℕ → ℕ → ℕ → Inner → Point
placed stretch spent a q = record {
  address = a;
  stretch = stretch;
  spent = record { base = pos (spent + q.spent); terms = q.terms };
  facts = q.facts;
  fresh = [];
}

-- the one on the instruction of its number, where instructions stand from an address on
abbrev pub inner_point : ℕ → ℕ → ℕ → List Instr → Inner → Point
inner_point stretch spent a is q = placed stretch spent (address_in a is q.index) q

-- the points on instructions, of which the first may have another
abbrev pub points_on : Option Point → (ℕ → Option Point) → ℕ → Option Point
points_on first points zero = first
points_on first points (suc k) = points (suc k)

abbrev pub bare_inner : ℕ → ℕ → ℕ → List Counted → List Inner → ℕ → Option Point
bare_inner stretch spent a code inner k = option_map (λ q. placed stretch spent (address_in a (code_of code) k) q) (inner_on inner k)

-- Code with these points inside of it, of a stretch that has spent so much before it and of which nothing else is known, leads to its end,
-- where no more is known than what it has cost.
abbrev pub CodeGoes : Sheet → List Counted → List Inner → ℕ → ℕ → Type 0
CodeGoes t code inner stretch spent =
    (a : ℕ) (first : Option Point) → AllStandWith t a (code_of code) (points_on first (bare_inner stretch spent a code inner)) → spent + weight_of t.board code ≤ limit_of t stretch
    → Falls t (bare stretch (spent + weight_of t.board code)) (behind a (code_of code)) → Here t a (bare stretch spent)

-- A jump comes to an address with any cost up to this one.
abbrev pub LandsWithin : Sheet → ℕ → ℕ → ℕ → Type 0
LandsWithin t stretch most a = (spent : ℕ) → spent ≤ most → Lands t (bare stretch spent) a

-- Something begins behind code, or the function ends there.
pub record Ceases (t : Sheet) (a : ℕ) : Type 0 where
  pub turns : turns_at t a ≡ None
  pub begins : Begins t a

-- code that ends the program
abbrev pub CodeEnds : Sheet → List Counted → ℕ → ℕ → Type 0
CodeEnds t code stretch spent =
    (a : ℕ) (first : Option Point) → AllStandWith t a (code_of code) (points_on first (λ k. None)) → spent + weight_of t.board code ≤ limit_of t stretch → Ceases t (behind a (code_of code)) → Here t a (bare stretch spent)

-- code that goes to a target
abbrev pub CodeLeaps : Sheet → List Counted → ℕ → ℕ → ℕ → Type 0
CodeLeaps t code target stretch spent =
    (a : ℕ) (first : Option Point) → AllStandWith t a (code_of code) (points_on first (λ k. None)) → spent + weight_of t.board code ≤ limit_of t stretch → LandsWithin t stretch (spent + weight_of t.board code) target
    → Ceases t (behind a (code_of code)) → Here t a (bare stretch spent)

-- code that goes behind itself, or to a target
abbrev pub CodeTests : Sheet → List Counted → List Inner → ℕ → ℕ → ℕ → Type 0
CodeTests t code inner target stretch spent =
    (a : ℕ) (first : Option Point) → AllStandWith t a (code_of code) (points_on first (bare_inner stretch spent a code inner)) → spent + weight_of t.board code ≤ limit_of t stretch
    → LandsWithin t stretch (spent + weight_of t.board code) (behind a (code_of code)) → LandsWithin t stretch (spent + weight_of t.board code) target
    → Ceases t (behind a (code_of code)) → Here t a (bare stretch spent)

-- ---- The rows of a function, whose operations stand one behind another, each behind a head where it has one

pub record Position : Type 0 where
  pub op : Op
  pub target : ℕ
  pub has_head : Bool

abbrev pub code_at : Homes → Position → List Counted
code_at homes p = template homes p.target p.op

abbrev pub head_bytes_of : Bool → ℕ
head_bytes_of true = head_bytes
head_bytes_of false = 0

-- how many bytes a position has, and what its code costs
abbrev pub bytes_at : Homes → Position → ℕ
bytes_at homes p = head_bytes_of p.has_head + bytes_of_code (code_of (code_at homes p))

abbrev pub bytes_of_all : Homes → List Position → ℕ
bytes_of_all homes [] = 0
bytes_of_all homes (p ∷ ps) = bytes_at homes p + bytes_of_all homes ps

abbrev pub cost_to_head : Board → Homes → List Position → ℕ
cost_to_head b homes [] = 0
cost_to_head b homes (p ∷ ps) = if p.has_head then 0 else weight_of b (code_at homes p) + cost_to_head b homes ps

-- a head's stretch costs a wake, a sleep, and the code up to the next head
abbrev pub stretch_rows : Board → Homes → ℕ → List Position → List StretchRow
stretch_rows b homes a [] = []
stretch_rows b homes a (p ∷ ps) =
    let rest = stretch_rows b homes (a + bytes_at homes p) ps in
    if p.has_head then record { head = a; chain = 1; turns = 0; cost = wake_cost b + sleep_cost b + (weight_of b (code_at homes p) + cost_to_head b homes ps) } ∷ rest else rest

-- code falls out of an operation's template at its end, and from nowhere else
abbrev pub goes_through : OpKind → Bool
goes_through kind.Go = false
goes_through kind.Test = false
goes_through kind.Below = false
goes_through kind.Finish = false
goes_through kind.Ret = false
goes_through _ = true

-- where instructions stand from an address on, a point on each that has one
abbrev pub if_point : ℕ → ℕ → ℕ → Option Inner → List Point
if_point stretch spent a None = []
if_point stretch spent a (Some q) = placed stretch spent a q ∷ []

abbrev pub walked : ℕ → ℕ → ℕ → List Instr → (ℕ → Option Inner) → List Point
walked stretch spent a [] inner = []
walked stretch spent a (i ∷ is) inner = if_point stretch spent a (inner 0) ++ walked stretch spent (a + 2 * length_of i) is (λ k. inner (suc k))

abbrev pub bare_point : ℕ → ℕ → ℕ → Point
bare_point stretch spent a = record { address = a; stretch = stretch; spent = record { base = pos spent; terms = [] }; facts = []; fresh = [] }

-- from an address on, in this stretch, which has spent so much where code falls in, or may have spent it where none does
abbrev pub points_from : Board → Homes → ℕ → ℕ → ℕ → Bool → List Position → List Point
points_from b homes stretch spent a falls [] = []
points_from b homes stretch spent a falls (p ∷ ps) =
    let code = code_at homes p in
    let here = if p.has_head then a else stretch in
    let so_far = if p.has_head then wake_cost b else spent in
    let at = a + head_bytes_of p.has_head in
    let own = walked here so_far at (code_of code) (inner_on (inner_by p.op.kind b (length_in p.op.array) code)) in
    let rest = points_from b homes here (so_far + weight_of b code) (a + bytes_at homes p) (goes_through p.op.kind) ps in
    (if p.has_head || falls then [] else bare_point stretch spent a ∷ []) ++ (own ++ rest)

-- how the template of an operation goes on, of which nothing is known but what has been spent; none calls or returns
abbrev pub CodePasses : OpKind → Sheet → List Counted → List Inner → ℕ → ℕ → ℕ → Type 0
CodePasses kind.Go t code inner target stretch spent = CodeLeaps t code target stretch spent
CodePasses kind.Test t code inner target stretch spent = CodeTests t code inner target stretch spent
CodePasses kind.Below t code inner target stretch spent = CodeTests t code inner target stretch spent
CodePasses kind.Finish t code inner target stretch spent = CodeEnds t code stretch spent
CodePasses kind.Call t code inner target stretch spent = ⊥
CodePasses kind.Ret t code inner target stretch spent = ⊥
CodePasses _ t code inner target stretch spent = CodeGoes t code inner stretch spent

-- the certificate of a program of one function
abbrev pub certificate_of : Board → Homes → List Position → Certificate
certificate_of b homes ps = record {
  budget = b.budget;
  functions = record { start = 0x8012; end = 0x8012 + bytes_of_all homes ps; height = 1; flat = None } ∷ [];
  stretches = stretch_rows b homes 0x8012 ps;
  points = points_from b homes 0x8012 0 0x8012 false ps;
}
