-- Which objects are live at an operation: on some path from it the object is needed before it is written. A path goes into both arms of a branch, and
-- both round and out of a loop, whatever its count; from a call to the function's first operation, and from a return to what lies behind each call of
-- its function, whichever call it came by.
use Rattle.std.specs.Prelude.{ℕ, ◌≡◌, ◌⊎◌, ◌==◌, ◌||◌, Bool, true, false, Option, Some, None, List, [], ◌∷◌}
use Rattle.flow_graph.specs.declared.graph.Operand.{Operand}
use Rattle.flow_graph.specs.declared.graph.Operand.TheVariants.{Const, Object}
use Rattle.flow_graph.specs.declared.graph.ArrayUse.{ArrayUse}
use Rattle.flow_graph.specs.declared.graph.Op.{Op}
use Rattle.flow_graph.specs.declared.graph.Graph.{Graph}
use Rattle.flow_graph.specs.declared.nodes.Next.{Next}
use Rattle.flow_graph.specs.declared.nodes.Next.TheVariants.{To, Either, Into, Returns, Ends}
use Rattle.flow_graph.specs.Nodes.{entry}
use Rattle.flow_graph.specs.Owned.{IsAt, IsBehindCall, operations}
use Rattle.flow_graph.specs.declared.owned.Owned.{Owned}

-- ---- what an operation needs and writes

abbrev pub is_object : Operand → ℕ → Bool
is_object (Const w) o = false
is_object (Object p) o = p == o

abbrev pub is_array : Option ArrayUse → ℕ → Bool
is_array None o = false
is_array (Some array) o = array.object == o

abbrev pub is_dest : Option ℕ → ℕ → Bool
is_dest None o = false
is_dest (Some p) o = p == o

-- an object that it reads; and its array also where it writes an element, since the others stay
abbrev pub needs : Op → ℕ → Bool
needs op o = is_object op.a o || is_object op.b o || is_array op.array o

-- the scalar that it writes
abbrev pub writes : Op → ℕ → Bool
writes op o = is_dest op.dest o

-- ---- paths

-- from an operation of function f control may go to operation j
abbrev pub Follows : Graph → ℕ → Next → ℕ → Type 0
Follows g f (To n) j = j ≡ n
Follows g f (Either n m) j = (j ≡ n) ⊎ (j ≡ m)
Follows g f (Into c n) j = j ≡ entry g c
Follows g f Returns j = IsBehindCall (operations g) f j
Follows g f Ends j = ⊥

pub record Leads (g : Graph) (i j : ℕ) : Type 0 where
  pub op : Owned
  pub is_op : IsAt (operations g) i op
  pub follows : Follows g op.function op.node.next j

pub record NeedsAt (g : Graph) (i o : ℕ) : Type 0 where
  pub op : Owned
  pub is_op : IsAt (operations g) i op
  pub needed : needs op.node.op o ≡ true

pub record KeepsAt (g : Graph) (i o : ℕ) : Type 0 where
  pub op : Owned
  pub is_op : IsAt (operations g) i op
  pub kept : writes op.node.op o ≡ false

-- from operation i through these to one that needs the object, where none before it writes it
abbrev pub IsLivePath : Graph → ℕ → ℕ → List ℕ → Type 0
IsLivePath g o i [] = NeedsAt g i o
IsLivePath g o i (j ∷ path) = KeepsAt g i o × Leads g i j × IsLivePath g o j path

pub record IsLiveBefore (g : Graph) (i o : ℕ) : Type 0 where
  pub path : List ℕ
  pub lives : IsLivePath g o i path

pub record IsLiveAfter (g : Graph) (i o : ℕ) : Type 0 where
  pub behind : ℕ
  pub leads : Leads g i behind
  pub live : IsLiveBefore g behind o
