-- What holds of every graph that lowering answers.
use Rattle.std.specs.Prelude.{◌≡◌, ◌≢◌, ℕ, ◌+◌, ◌-◌, ◌<◌, ◌≤◌, ◌^◌, ◌++◌, ◌==◌, ◌||◌, ◌&&◌, Bool, true, false, Option, Some, None, List, [], ◌∷◌, length, slice_get, slice_index_or, sum_by, All, IsTrue, Contains, ⊤, ◌⊎◌}
use Rattle.flow_graph.specs.declared.graph.Operand.{Operand}
use Rattle.flow_graph.specs.declared.graph.Operand.TheVariants.{Const, Object}
use Rattle.flow_graph.specs.declared.graph.OpKind.{OpKind}
use Rattle.flow_graph.specs.declared.graph.OpKind.TheVariants as kind
use Rattle.flow_graph.specs.declared.graph.ArrayUse.{ArrayUse}
use Rattle.flow_graph.specs.declared.graph.Op.{Op}
use Rattle.flow_graph.specs.declared.graph.LeaveTo.{LeaveTo}
use Rattle.flow_graph.specs.declared.graph.LeaveTo.TheVariants.{Break, Continue, Back}
use Rattle.flow_graph.specs.declared.graph.Item.{Item}
use Rattle.flow_graph.specs.declared.graph.Item.TheFolds.{fold-Item}
use Rattle.flow_graph.specs.declared.graph.Item.TheOpen.{Item-F}
use Rattle.flow_graph.specs.declared.graph.Object as declared
use Rattle.flow_graph.specs.declared.graph.Func.{Func}
use Rattle.flow_graph.specs.declared.graph.Graph.{Graph}
use Rattle.flow_graph.specs.declared.nodes.Node.{Node}
use Rattle.flow_graph.specs.Nodes.{graph_nodes}

-- ---- operations

-- what an operation of a kind has
pub record Parts : Type 0 where
  pub dest : Bool
  pub a : Bool
  pub b : Bool
  pub array : Bool

abbrev pub parts : Bool → Bool → Bool → Bool → Parts
parts dest a b array = record { dest = dest; a = a; b = b; array = array }

abbrev pub parts_of : OpKind → Parts
parts_of kind.Copy = parts true true false false
parts_of kind.Neg = parts true true false false
parts_of kind.Inv = parts true true false false
parts_of kind.ToU8 = parts true true false false
parts_of kind.ToS8 = parts true true false false
parts_of kind.Load = parts true true false true
parts_of kind.Store = parts false true true true
parts_of kind.Input = parts true false false false
parts_of kind.Output = parts false true false false
parts_of kind.Finish = parts false true false false
parts_of kind.Test = parts false true false false
parts_of kind.Below = parts false true true false
parts_of kind.Step = parts true true false false
parts_of kind.Go = parts false false false false
parts_of kind.Call = parts false false false false
parts_of kind.Ret = parts false false false false
parts_of _ = parts true true true false

abbrev pub HasWords : ℕ → Option declared.Object → Type 0
HasWords n None = ⊥
HasWords n (Some x) = x.words ≡ n

-- an object of one word
abbrev pub IsScalar : Graph → ℕ → Type 0
IsScalar g o = HasWords 1 (slice_get g.objects o)

abbrev pub OperandFits : Graph → (used : Bool) → Operand → Type 0
OperandFits g true (Const w) = w < 2 ^ 16
OperandFits g true (Object o) = IsScalar g o
OperandFits g false a = a ≡ Const 0

abbrev pub DestFits : Graph → (used : Bool) → Option ℕ → Type 0
DestFits g true (Some o) = IsScalar g o
DestFits g true None = ⊥
DestFits g false dest = dest ≡ None

-- an object of as many words as the array is long, one at least
abbrev pub ArrayFits : Graph → (used : Bool) → Option ArrayUse → Type 0
ArrayFits g true (Some use') = HasWords use'.length (slice_get g.objects use'.object) × (1 ≤ use'.length)
ArrayFits g true None = ⊥
ArrayFits g false array = array ≡ None

-- a step counts its own variable up, and a below compares a variable with a constant
abbrev pub IsStep : Op → Type 0
IsStep op = (i : ℕ) × (op.a ≡ Object i) × (op.dest ≡ Some i)

abbrev pub IsBelow : Op → Type 0
IsBelow op = (i : ℕ) × (n : ℕ) × (op.a ≡ Object i) × (op.b ≡ Const n)

abbrev pub CountFits : OpKind → Op → Type 0
CountFits kind.Step op = IsStep op
CountFits kind.Below op = IsBelow op
CountFits _ op = ⊤

pub record OpFits (g : Graph) (op : Op) : Type 0 where
  pub dest : DestFits g (parts_of op.kind).dest op.dest
  pub a : OperandFits g (parts_of op.kind).a op.a
  pub b : OperandFits g (parts_of op.kind).b op.b
  pub array : ArrayFits g (parts_of op.kind).array op.array
  pub count : CountFits op.kind op

-- ---- what operations read and write

abbrev pub object_of : Operand → List ℕ
object_of (Const w) = []
object_of (Object o) = o ∷ []

abbrev pub dest_of : Option ℕ → List ℕ
dest_of None = []
dest_of (Some o) = o ∷ []

abbrev pub array_of : Option ArrayUse → List ℕ
array_of None = []
array_of (Some use') = use'.object ∷ []

-- the scalars that an operation names
abbrev pub scalars : Op → List ℕ
scalars op = dest_of op.dest ++ (object_of op.a ++ object_of op.b)

abbrev pub stored : OpKind → Op → List ℕ
stored kind.Store op = array_of op.array
stored _ op = []

-- the objects that an operation writes
abbrev pub written : Op → List ℕ
written op = dest_of op.dest ++ stored op.kind op

-- ---- items

-- where an item stands: in `main`; whether a `break` or a `continue` may stand there, and a return that is no last one
pub record Where : Type 0 where
  pub in_main : Bool
  pub breaks : Bool
  pub continues : Bool
  pub returns : Bool

abbrev pub is_kind : OpKind → OpKind → Bool
is_kind kind.Go kind.Go = true
is_kind kind.Ret kind.Ret = true
is_kind kind.Finish kind.Finish = true
is_kind kind.Test kind.Test = true
is_kind kind.Below kind.Below = true
is_kind kind.Step kind.Step = true
is_kind kind.Call kind.Call = true
is_kind kind.Copy kind.Copy = true
is_kind _ _ = false

abbrev pub return_kind : Bool → OpKind
return_kind true = kind.Finish
return_kind false = kind.Ret

-- an item of its own is none of these
abbrev pub stands_alone : OpKind → Bool
stands_alone kind.Go = false
stands_alone kind.Ret = false
stands_alone kind.Finish = false
stands_alone kind.Test = false
stands_alone kind.Below = false
stands_alone kind.Step = false
stands_alone kind.Call = false
stands_alone _ = true

-- how a list ends: as it comes; a `yes` with a Go; a body with its return
pub data Ending : Type 0 where
  Open : Ending
  MayGo : Ending
  Returns : Ending

-- what is known of an item: whether it fits where it stands, by how the list ends where it is the last; the operation that it is, if it is one alone;
-- and what it is as the loop behind a Copy
pub record Fitting : Type 0 where
  pub fits : Where → Ending → Option Op → Bool
  pub alone : Option Op

abbrev pub ends_list : Where → Ending → OpKind → Bool
ends_list w Open k = stands_alone k
ends_list w MayGo k = stands_alone k || is_kind k kind.Go
ends_list w Returns k = is_kind k (return_kind w.in_main)

-- only a `return` ends a body
abbrev pub not_returning : Ending → Bool
not_returning Returns = false
not_returning _ = true

-- the items of a list; each is told the operation just before it, and only the last may end the list
abbrev pub list_fits : Where → Ending → Option Op → List Fitting → Bool
list_fits w e before [] = not_returning e
list_fits w e before (x ∷ []) = x.fits w e before
list_fits w e before (x ∷ y ∷ rest) = x.fits w Open before && list_fits w e x.alone (y ∷ rest)

abbrev pub is_go_alone : Option Op → Bool
is_go_alone None = false
is_go_alone (Some op) = is_kind op.kind kind.Go

abbrev pub ends_in_go : List Fitting → Bool
ends_in_go [] = false
ends_in_go (x ∷ []) = is_go_alone x.alone
ends_in_go (x ∷ y ∷ rest) = ends_in_go (y ∷ rest)

abbrev pub has_none : {A : Type 0} → List A → Bool
has_none [] = true
has_none (x ∷ xs) = false

-- the variable and the bound of a below, the variable of a step, and the variable and constant of a copy
abbrev pub same_object : Operand → ℕ → Bool
same_object (Object o) i = o == i
same_object (Const w) i = false

abbrev pub same_dest : Option ℕ → ℕ → Bool
same_dest None i = false
same_dest (Some o) i = o == i

abbrev pub is_from : Option Op → ℕ → ℕ → ℕ → Bool
is_from None i bound c = false
is_from (Some copy) i bound c = is_kind copy.kind kind.Copy && (same_dest copy.dest i && counts copy.a)
  where
    counts : Operand → Bool
    counts (Const a) = c == bound - a
    counts (Object o) = false

abbrev pub is_step : Option Op → ℕ → Bool
is_step None i = false
is_step (Some op) i = is_kind op.kind kind.Step && same_dest op.dest i

abbrev pub counts_up : List Fitting → ℕ → Bool
counts_up [] i = false
counts_up (x ∷ []) i = is_step x.alone i
counts_up (x ∷ y ∷ rest) i = false

-- by the operands of the test
abbrev pub counted_by : List Fitting → Option Op → ℕ → Operand → Operand → Bool
counted_by step before c (Object i) (Const b) = is_from before i b c && counts_up step i
counted_by step before c _ _ = false

abbrev pub counted_fits : Op → List Fitting → List Fitting → Option Op → ℕ → Bool
counted_fits test pre step before c = is_kind test.kind kind.Below && (has_none pre && counted_by step before c test.a test.b)

-- inside of a loop that has a count nothing leaves it, goes to its step or returns
abbrev pub in_loop : Where → Option ℕ → Where
in_loop w None = record { in_main = w.in_main; breaks = true; continues = true; returns = w.returns }
in_loop w (Some c) = record { in_main = w.in_main; breaks = false; continues = false; returns = false }

abbrev pub in_switch : Where → Where
in_switch w = record { in_main = w.in_main; breaks = true; continues = w.continues; returns = w.returns }

abbrev pub loop_fits : Where → Option Op → List Fitting → Op → List Fitting → List Fitting → Op → Option ℕ → Bool
loop_fits w before pre test post step back None =
    is_kind back.kind kind.Go && (is_kind test.kind kind.Test
    && (list_fits (in_loop w None) Open None pre && (list_fits (in_loop w None) Open None post && list_fits (in_loop w None) Open None step)))
loop_fits w before pre test post step back (Some c) =
    is_kind back.kind kind.Go && (counted_fits test pre step before c && list_fits (in_loop w (Some c)) Open None post)

abbrev pub branch_fits : Where → Op → List Fitting → List Fitting → Bool
branch_fits w test a b = is_kind test.kind kind.Test && ((has_none b || ends_in_go a) && (list_fits w MayGo None a && list_fits w Open None b))

abbrev pub leave_fits : Where → Op → LeaveTo → Bool
leave_fits w op Break = w.breaks && is_kind op.kind kind.Go
leave_fits w op Continue = w.continues && is_kind op.kind kind.Go
leave_fits w op Back = w.returns && is_kind op.kind (return_kind w.in_main)

abbrev pub fitting_by : Item-F Fitting → Fitting
fitting_by (Item-F.One op) = record { fits = λ w e before. ends_list w e op.kind; alone = Some op }
fitting_by (Item-F.Branch test a b) = record { fits = λ w e before. not_returning e && branch_fits w test a b; alone = None }
fitting_by (Item-F.Loop pre test post step back count) = record { fits = λ w e before. not_returning e && loop_fits w before pre test post step back count; alone = None }
fitting_by (Item-F.Switch items) = record { fits = λ w e before. not_returning e && list_fits (in_switch w) Open None items; alone = None }
fitting_by (Item-F.CallTo op f) = record { fits = λ w e before. not_returning e && is_kind op.kind kind.Call; alone = None }
fitting_by (Item-F.Leave op to) = record { fits = λ w e before. not_returning e && leave_fits w op to; alone = None }

unfoldable pub fitting : Item → Fitting
fitting x = fold-Item Fitting fitting_by x

abbrev pub fittings : List Item → List Fitting
fittings [] = []
fittings (x ∷ xs) = fitting x ∷ fittings xs

-- the items of a function's body stand where they may
abbrev pub body_fits : (in_main : Bool) → List Item → Bool
body_fits in_main items = list_fits (record { in_main = in_main; breaks = false; continues = false; returns = true }) Returns None (fittings items)

abbrev pub bodies_fit : ℕ → ℕ → List Func → Bool
bodies_fit main n [] = true
bodies_fit main n (f ∷ fs) = body_fits (n == main) f.body && bodies_fit main (n + 1) fs

-- ---- calls

-- the body of a loop that has a count: the variable that it counts, the functions that it calls, and the objects that it writes itself
pub record Turn : Type 0 where
  pub variable : ℕ
  pub calls : List ℕ
  pub writes : List ℕ

-- the functions that a part calls, the objects that it writes itself, and the loops in it that have a count
pub record Doing : Type 0 where
  pub calls : List ℕ
  pub writes : List ℕ
  pub turns : List Turn

abbrev pub nothing : Doing
nothing = record { calls = []; writes = []; turns = [] }

abbrev pub doing_both : Doing → Doing → Doing
doing_both a b = record { calls = a.calls ++ b.calls; writes = a.writes ++ b.writes; turns = a.turns ++ b.turns }

abbrev pub doing_op : Op → Doing
doing_op op = record { calls = []; writes = written op; turns = [] }

abbrev pub doing_all : List Doing → Doing
doing_all [] = nothing
doing_all (x ∷ xs) = doing_both x (doing_all xs)

abbrev pub turn_of : Operand → Doing → List Turn
turn_of (Object i) post = record { variable = i; calls = post.calls; writes = post.writes } ∷ []
turn_of (Const w) post = []

abbrev pub turns_of : Option ℕ → Op → Doing → List Turn
turns_of None test post = []
turns_of (Some c) test post = turn_of test.a post

abbrev pub with_turns : List Turn → Doing → Doing
with_turns ts d = record { calls = d.calls; writes = d.writes; turns = ts ++ d.turns }

abbrev pub doing_by : Item-F Doing → Doing
doing_by (Item-F.One op) = doing_op op
doing_by (Item-F.Branch test a b) = doing_both (doing_all a) (doing_all b)
doing_by (Item-F.Loop pre test post step back count) =
    with_turns (turns_of count test (doing_all post)) (doing_both (doing_all pre) (doing_both (doing_all post) (doing_all step)))
doing_by (Item-F.Switch items) = doing_all items
doing_by (Item-F.CallTo op f) = record { calls = f ∷ []; writes = []; turns = [] }
doing_by (Item-F.Leave op to) = doing_op op

unfoldable pub doing : Item → Doing
doing x = fold-Item Doing doing_by x

abbrev pub doings : List Item → Doing
doings [] = nothing
doings (x ∷ xs) = doing_both (doing x) (doings xs)

abbrev pub doing_in : Option Func → Doing
doing_in None = nothing
doing_in (Some f) = doings f.body

abbrev pub height_of : List ℕ → ℕ → ℕ
height_of heights f = slice_index_or heights f 0

-- the function h is called from f, or from one that is
pub data Reaches (g : Graph) : ℕ → ℕ → Type 0 where
  calls_it : (f h : ℕ) → Contains (doing_in (slice_get g.functions f)).calls h → Reaches g f h
  on_from : (f m h : ℕ) → Reaches g f m → Reaches g m h → Reaches g f h

-- neither the body of a loop that has a count nor a function that is called from it writes the variable
pub record Spares (g : Graph) (t : Turn) : Type 0 where
  pub itself : Contains t.writes t.variable → ⊥
  pub called : (f : ℕ) → Contains t.calls f → Contains (doing_in (slice_get g.functions f)).writes t.variable → ⊥
  pub reached : (f h : ℕ) → Contains t.calls f → Reaches g f h → Contains (doing_in (slice_get g.functions h)).writes t.variable → ⊥

-- ---- a graph

abbrev pub numbers : List Node → List ℕ
numbers [] = []
numbers (x ∷ xs) = x.op.number ∷ numbers xs

abbrev pub IsApart : ℕ → List ℕ → Type 0
IsApart n [] = ⊤
IsApart n (m ∷ ms) = (n ≢ m) × IsApart n ms

-- the n-th operation has the number n
abbrev pub IsNumbered : ℕ → List Node → Type 0
IsNumbered n [] = ⊤
IsNumbered n (x ∷ xs) = (x.op.number ≡ n) × IsNumbered (n + 1) xs

-- no two of the numbers are equal, which follows (proofs/NodeLemmas)
abbrev pub Differ : List ℕ → Type 0
Differ [] = ⊤
Differ (n ∷ ns) = IsApart n ns × Differ ns

-- fewer than 2 ^ 16 words, and each of those that it begins with below 2 ^ 16; it begins with all of them, or with any
pub record ObjectFits (x : declared.Object) : Type 0 where
  pub size : x.words < 2 ^ 16
  pub words : All (λ w. w < 2 ^ 16) x.first
  pub all : (x.first ≡ []) ⊎ (length x.first ≡ x.words)

-- no object is used as a scalar and as an array
abbrev pub IsOneKind : List Node → Type 0
IsOneKind xs = (m n : ℕ) (a b : Node) (o : ℕ) → slice_get xs m ≡ Some a → slice_get xs n ≡ Some b → Contains (scalars a.op) o → Contains (array_of b.op.array) o → ⊥

abbrev pub CallsFit : Graph → List ℕ → Type 0
CallsFit g heights = (f h : ℕ) → Contains (doing_in (slice_get g.functions f)).calls h → (h < length g.functions) × (height_of heights h < height_of heights f)

pub record IsGraph (g : Graph) : Type 0 where
  pub main : g.main < length g.functions
  pub operations : (n : ℕ) (x : Node) → slice_get (graph_nodes g) n ≡ Some x → OpFits g x.op
  pub few : length (graph_nodes g) ≤ 4096
  pub numbered : IsNumbered 0 (graph_nodes g)
  pub objects : (o : ℕ) (x : declared.Object) → slice_get g.objects o ≡ Some x → ObjectFits x
  pub one_kind : IsOneKind (graph_nodes g)
  pub small : sum_by (λ x. x.words) g.objects < 2 ^ 31
  pub bodies : IsTrue (bodies_fit g.main 0 g.functions)
  pub turns : (f n : ℕ) (t : Turn) → slice_get (doing_in (slice_get g.functions f)).turns n ≡ Some t → Spares g t
  pub heights : List ℕ
  pub calls : CallsFit g heights
