-- Parts of a lowering: the items that each gives, in order, and how the numbers of operations and temporaries go on.
use Rattle.std.specs.Prelude.{ℕ, ◌+◌, Option, Some, None, List, [], ◌∷◌, ◌++◌}
use Rattle.base_io.specs.declared.place.Place.{Place}
use Rattle.flow_graph.specs.declared.graph.Operand.{Operand}
use Rattle.flow_graph.specs.declared.graph.Operand.TheVariants.{Const, Object}
use Rattle.flow_graph.specs.declared.graph.OpKind.{OpKind}
use Rattle.flow_graph.specs.declared.graph.OpKind.TheVariants as kind
use Rattle.flow_graph.specs.declared.graph.ArrayUse.{ArrayUse}
use Rattle.flow_graph.specs.declared.graph.Op.{Op}
use Rattle.flow_graph.specs.declared.graph.LeaveTo.{LeaveTo}
use Rattle.flow_graph.specs.declared.graph.Item.{Item}
use Rattle.flow_graph.specs.declared.graph.Item.TheVariants as item

-- the numbers of the next operation and of the next temporary
pub record Counts : Type 0 where
  pub op : ℕ
  pub temp : ℕ

-- what a part gives: its items, an answer, and the numbers behind it
pub record Made (A : Type 0) : Type 0 where
  pub items : List Item
  pub value : A
  pub counts : Counts

-- a part of a lowering
abbrev pub Emit : Type 0 → Type 0
Emit A = Counts → Made A

abbrev pub behind_items : {A : Type 0} → List Item → Made A → Made A
behind_items items m = record { items = items ++ m.items; value = m.value; counts = m.counts }

abbrev pub made_on : {A B : Type 0} → Made A → (A → Emit B) → Made B
made_on m f = behind_items m.items (f m.value m.counts)

-- one part and then another, which may look at the answer of the first
infixl 10 ◌>>=◌
abbrev pub ◌>>=◌ : {A B : Type 0} → Emit A → (A → Emit B) → Emit B
(p >>= f) c = made_on (p c) f

infixl 10 ◌>>◌
abbrev pub ◌>>◌ : {A B : Type 0} → Emit A → Emit B → Emit B
(p >> q) c = made_on (p c) (λ _. q)

abbrev pub pure : {A : Type 0} → A → Emit A
pure a c = record { items = []; value = a; counts = c }

abbrev pub nothing : Emit (Unit {0})
nothing = pure tt

abbrev pub give : Item → Emit (Unit {0})
give x c = record { items = x ∷ []; value = tt; counts = c }

-- the items of a part and its answer; they stand within an item that is given later
pub record Inner (A : Type 0) : Type 0 where
  pub items : List Item
  pub value : A

abbrev pub inner_of : {A : Type 0} → Made A → Made (Inner A)
inner_of m = record { items = []; value = record { items = m.items; value = m.value }; counts = m.counts }

abbrev pub inside : {A : Type 0} → Emit A → Emit (Inner A)
inside p c = inner_of (p c)

-- ---- operations

abbrev pub zero_operand : Operand
zero_operand = Const 0

-- what is written, read and named by an operation of this kind from this place in the text
abbrev pub op_of : OpKind → Option ℕ → Operand → Operand → Option ArrayUse → Place → ℕ → Op
op_of k dest a b array at n = record { number = n; kind = k; dest = dest; a = a; b = b; array = array; place = at }

-- an operation takes the next number
abbrev pub numbered : (ℕ → Op) → Emit Op
numbered f c = record { items = []; value = f c.op; counts = record { op = c.op + 1; temp = c.temp } }

abbrev pub one : (ℕ → Op) → Emit (Unit {0})
one f = numbered f >>= (λ op. give (item.One op))

-- a temporary takes the next number of an object
abbrev pub temporary : Emit ℕ
temporary c = record { items = []; value = c.temp; counts = record { op = c.op; temp = c.temp + 1 } }

-- an operation that writes a new temporary
abbrev pub made_op : (ℕ → ℕ → Op) → Emit Operand
made_op f = temporary >>= (λ t. one (f t) >> pure (Object t))

abbrev pub make : OpKind → Operand → Operand → Option ArrayUse → Place → Emit Operand
make k a b array at = made_op (λ t. op_of k (Some t) a b array at)

abbrev pub make_of : OpKind → Operand → Operand → Place → Emit Operand
make_of k a b at = make k a b None at

abbrev pub copy_into : ℕ → Operand → Place → Emit (Unit {0})
copy_into o a at = one (op_of kind.Copy (Some o) a zero_operand None at)

abbrev pub store_into : ArrayUse → Operand → Operand → Place → Emit (Unit {0})
store_into array a i at = one (op_of kind.Store None a i (Some array) at)

abbrev pub plain : OpKind → Operand → Place → ℕ → Op
plain k a at = op_of k None a zero_operand None at

abbrev pub test_of : Operand → Place → ℕ → Op
test_of a at = plain kind.Test a at

abbrev pub go : Place → ℕ → Op
go at = plain kind.Go zero_operand at

abbrev pub leave : LeaveTo → (ℕ → Op) → Emit (Unit {0})
leave to f = numbered f >>= (λ op. give (item.Leave op to))
