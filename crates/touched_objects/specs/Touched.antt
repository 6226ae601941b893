-- Which objects a function touches: one of its operations, or of those of a function that is called from it, reads or writes them.
use Rattle.std.specs.Prelude.{ℕ, ◌≡◌, ◌<◌, ◌++◌, ◌==◌, ◌||◌, ◌&&◌, Bool, true, false, Option, None, Some, List, [], ◌∷◌, length}
use Rattle.std.specs.List.{Contains}
use Rattle.graph_paths.specs.declared.arcs.Arc.{Arc}
use Rattle.graph_paths.specs.Arcs.{arc}
use Rattle.flow_graph.specs.declared.graph.Operand.{Operand}
use Rattle.flow_graph.specs.declared.graph.Operand.TheVariants.{Const, Object}
use Rattle.flow_graph.specs.declared.graph.ArrayUse.{ArrayUse}
use Rattle.flow_graph.specs.declared.graph.Op.{Op}
use Rattle.flow_graph.specs.declared.graph.Graph.{Graph}
use Rattle.flow_graph.specs.declared.nodes.Next.{Next}
use Rattle.flow_graph.specs.declared.nodes.Next.TheVariants.{Into}
use Rattle.flow_graph.specs.declared.owned.Owned.{Owned}
use Rattle.flow_graph.specs.Owned.{operations}

abbrev pub is_object : Operand → ℕ → Bool
is_object (Const w) o = false
is_object (Object p) o = p == o

abbrev pub is_array : Option ArrayUse → ℕ → Bool
is_array None o = false
is_array (Some array) o = array.object == o

abbrev pub is_dest : Option ℕ → ℕ → Bool
is_dest None o = false
is_dest (Some p) o = p == o

-- an operation reads or writes an object
abbrev pub names : Op → ℕ → Bool
names op o = is_object op.a o || is_object op.b o || is_array op.array o || is_dest op.dest o

-- one of these operations that is the function's reads or writes the object
abbrev pub named_by : List Owned → ℕ → ℕ → Bool
named_by [] f o = false
named_by (x ∷ xs) f o = (x.function == f && names x.node.op o) || named_by xs f o

-- the calls among these operations, each from its function to the one that is called
abbrev pub call_of : ℕ → Next → List Arc
call_of f (Into c n) = arc f c ∷ []
call_of f _ = []

abbrev pub calls_of : List Owned → List Arc
calls_of [] = []
calls_of (x ∷ xs) = call_of x.function x.node.next ++ calls_of xs

-- through calls of these functions, of which there are so many, to one that reads or writes the object itself
abbrev pub TouchesBy : List Owned → ℕ → ℕ → ℕ → List ℕ → Type 0
TouchesBy ops count o f [] = named_by ops f o ≡ true
TouchesBy ops count o f (c ∷ path) = Contains (calls_of ops) (arc f c) × (c < count) × TouchesBy ops count o c path

pub record TouchesAmong (ops : List Owned) (count f o : ℕ) : Type 0 where
  pub path : List ℕ
  pub touches : TouchesBy ops count o f path

abbrev pub Touches : Graph → ℕ → ℕ → Type 0
Touches g f o = TouchesAmong (operations g) (length g.functions) f o
