-- How the items of a body are placed, as a list of marks: a unit joins the chain that is open, or opens one; the chain that is open closes; or
-- a loop is a chain by itself.
use Rattle.std.specs.Prelude.{ℕ, ◌+◌, ◌*◌, Bool, true, false, Option, Some, None, List, [], ◌∷◌, ◌++◌, map, nat_le, if◌then◌else◌, ◌||◌, ◌&&◌}
use Rattle.flow_graph.specs.declared.graph.Op.{Op}
use Rattle.flow_graph.specs.declared.graph.OpKind.{OpKind}
use Rattle.flow_graph.specs.declared.graph.OpKind.TheVariants as kind
use Rattle.flow_graph.specs.declared.graph.LeaveTo.TheVariants.{Continue}
use Rattle.flow_graph.specs.declared.graph.Item.{Item, out-Item}
use Rattle.flow_graph.specs.declared.graph.Item.TheVariants as item
use Rattle.flow_graph.specs.declared.graph.Item.TheFolds.{fold-Item}
use Rattle.flow_graph.specs.declared.graph.Item.TheOpen.{Item-F}
use Rattle.flow_graph.specs.declared.nodes.Node.{Node}
use Rattle.flow_graph.specs.declared.nodes.Around.{Around}
use Rattle.flow_graph.specs.Nodes.{at_behind, call_node, first_of, in_loop, laid_items, leave_to, node, test_node}
use Rattle.chain_units.specs.Known.{Known, Weighs, weight_in_fram}
use Rattle.chain_units.specs.declared.weighing.Behind.TheVariants.{BeforeEither}
use Rattle.chain_units.specs.Wanted.{wanted}
use Rattle.chain_units.specs.Costs.{Weighed, one_turn_fits, touched_in_all, weighed}

-- An item of a chain: flat items with the number of the operation that is executed next; or an operation that ends the chain, with where it goes.
pub data ChainUnit : Type 0 where
  Flat : List Item → ℕ → ChainUnit
  End : Node → ChainUnit

pub data Mark : Type 0 where
  Joins : ChainUnit → Mark
  Closes : Mark
  Alone : Item → ℕ → Mark

-- ---- flat items

abbrev pub fits_in_fram : Known → Option Weighs → Bool
fits_in_fram k None = false
fits_in_fram k (Some w) = nat_le (weight_in_fram k.board w + k.overhead) k.board.budget

-- the items have a weight, and fit with all objects in FRAM
abbrev pub are_flat : Known → List Item → Bool
are_flat k items = fits_in_fram k (k.weights items)

abbrev pub ends : Node → List Mark
ends x = Joins (End x) ∷ Closes ∷ []

-- ---- conditional loops

-- MOV of a long constant to a register or to PC
abbrev pub long_move : Known → ℕ
long_move k = k.board.core.move_ + 2 * k.board.access.fetch

-- What a loop costs that checkpoints every so many turns, by what its parts weigh and which objects its flat functions touch. Once: the head,
-- MOV #k,R10, and MOV to the head. Each turn: its operations but the last Go, and SUB #1,R10, JEQ, and MOV to where a turn begins. What it writes is
-- wanted where a turn begins and behind the loop.
abbrev pub turning_of : Known → List ℕ → ℕ → ℕ → Weighs → Weighed
turning_of k touched top behind w =
    weighed k (k.overhead + 2 * long_move k) (((k.board.core.alu + k.board.core.jump) + 2 * k.board.access.fetch) + long_move k) touched (k.before top) (wanted k (BeforeEither top behind)) w

abbrev pub loop_weighed : Known → List Item → ℕ → ℕ → Weighs → Weighed
loop_weighed k parts top behind w = turning_of k (touched_in_all k parts) top behind w

-- a turn of a loop without its last Go
abbrev pub turn_of : List Item → Op → List Item → List Item → List Item
turn_of pre test post step = pre ++ item.One test ∷ (post ++ step)

abbrev pub turn_fits : Known → List Item → ℕ → ℕ → Option Weighs → Bool
turn_fits k parts top behind None = false
turn_fits k parts top behind (Some w) = one_turn_fits (loop_weighed k parts top behind w) 1024 k.board.budget

-- the loop has a weight for a turn, and one turn fits
abbrev pub is_conditional : Known → List Item → ℕ → ℕ → Bool
is_conditional k parts top behind = turn_fits k parts top behind (k.weights parts)

-- ---- whether a `continue` goes to the step of the loop that holds the items

abbrev pub any : List Bool → Bool
any [] = false
any (b ∷ bs) = b || any bs

abbrev pub continues_by : Item-F Bool → Bool
continues_by (Item-F.Branch test a b) = any a || any b
continues_by (Item-F.Switch items) = any items
continues_by (Item-F.Leave op Continue) = true
continues_by _ = false

unfoldable pub continues : Item → Bool
continues x = fold-Item Bool continues_by x

abbrev pub some_continues : List Item → Bool
some_continues [] = false
some_continues (x ∷ xs) = continues x || some_continues xs

-- ---- placing

-- an item, and its marks between the operations around it
pub record Placed : Type 0 where
  pub item : Item
  pub marks : Around → List Mark

abbrev pub items_of : List Placed → List Item
items_of xs = map (λ (x : Placed). x.item) xs

abbrev pub counted_by : Item-F Item → Bool
counted_by (Item-F.Loop pre test post step back (Some c)) = true
counted_by _ = false

-- a loop of known count, which stands behind the Copy that sets its variable
abbrev pub is_counted : Item → Bool
is_counted x = counted_by (out-Item x)

abbrev pub first_is_counted : List Item → Bool
first_is_counted [] = false
first_is_counted (x ∷ xs) = is_counted x

-- items one behind the other; a loop of known count and the Copy before it are one unit where they are flat together
abbrev pub marks_of : Known → List Placed → Around → List Mark
marks_of k [] c = []
marks_of k (x ∷ []) c = x.marks c
marks_of k (x ∷ (y ∷ ys)) c =
    if is_counted y.item && are_flat k (x.item ∷ y.item ∷ [])
    then Joins (Flat (x.item ∷ y.item ∷ []) (first_of (laid_items (items_of ys)) c.behind)) ∷ marks_of k ys c
    else x.marks (at_behind c (first_of (laid_items (items_of (y ∷ ys))) c.behind)) ++ marks_of k (y ∷ ys) c

-- an operation by itself
abbrev pub one_marks : Op → OpKind → ℕ → List Mark
one_marks op kind.Go n = ends (node op n)
one_marks op kind.Ret n = ends (node op n)
one_marks op kind.Finish n = ends (node op n)
one_marks op _ n = Joins (Flat (item.One op ∷ []) n) ∷ []

-- a branch that isn't flat: the test ends a chain, and each arm is placed by itself
abbrev pub branch_marks : Known → Op → List Placed → List Placed → Around → List Mark
branch_marks k test a b c =
    ends (test_node test (first_of (laid_items (items_of a)) c.behind) (first_of (laid_items (items_of b)) c.behind))
    ++ (marks_of k a c ++ Closes ∷ (marks_of k b c ++ Closes ∷ []))

-- a loop that isn't conditional: each part in turn; the test and the Go each end a chain, and so does what stands before a step that a `continue` goes to
abbrev pub split_marks : Known → List Placed → Op → List Placed → List Placed → Op → Around → List Mark
split_marks k pre test post step back c =
    let laid_step = laid_items (items_of step) in
    let top = first_of (laid_items (items_of pre)) test.number in
    let next = first_of laid_step back.number in
    marks_of k pre (in_loop laid_step back c test.number)
    ++ (ends (test_node test (first_of (laid_items (items_of post)) next) c.behind)
    ++ (marks_of k post (in_loop laid_step back c next)
    ++ ((if (some_continues (items_of pre) || some_continues (items_of post)) || some_continues (items_of step) then Closes ∷ [] else [])
    ++ (marks_of k step (in_loop laid_step back c back.number)
    ++ ends (node back top)))))

abbrev pub loop_marks : Known → Item → List Placed → Op → List Placed → List Placed → Op → Around → List Mark
loop_marks k whole pre test post step back c =
    Closes ∷ (
    if is_conditional k (turn_of (items_of pre) test (items_of post) (items_of step)) (first_of (laid_items (items_of pre)) test.number) c.behind
    then Alone whole c.behind ∷ []
    else split_marks k pre test post step back c
    )

abbrev pub flat_or : Known → Item → ℕ → List Mark → List Mark
flat_or k x n marks = if are_flat k (x ∷ []) then Joins (Flat (x ∷ []) n) ∷ [] else marks

abbrev pub placed_by : Known → Item-F Placed → Placed
placed_by k (Item-F.One op) = record { item = item.One op; marks = λ c. one_marks op op.kind c.behind }
placed_by k (Item-F.Branch test a b) =
    let whole = item.Branch test (items_of a) (items_of b) in
    record { item = whole; marks = λ c. flat_or k whole c.behind (branch_marks k test a b c) }
placed_by k (Item-F.Loop pre test post step back count) =
    let whole = item.Loop (items_of pre) test (items_of post) (items_of step) back count in
    record { item = whole; marks = λ c. loop_marks k whole pre test post step back c }
placed_by k (Item-F.Switch items) =
    let whole = item.Switch (items_of items) in
    record { item = whole; marks = λ c. flat_or k whole c.behind (marks_of k items (record c { break_to = c.behind }) ++ Closes ∷ []) }
placed_by k (Item-F.CallTo op f) = record {
  item = item.CallTo op f;
  marks = λ c. if k.is_flat f then Joins (Flat (item.CallTo op f ∷ []) c.behind) ∷ [] else ends (call_node op f c.behind);
}
placed_by k (Item-F.Leave op to) = record { item = item.Leave op to; marks = λ c. ends (node op (leave_to to c)) }

unfoldable pub placed : Known → Item → Placed
placed k x = fold-Item Placed (placed_by k) x

abbrev pub placed_items : Known → List Item → List Placed
placed_items k [] = []
placed_items k (x ∷ xs) = placed k x ∷ placed_items k xs
