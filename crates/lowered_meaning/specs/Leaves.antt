-- How a statement is left in the graph.
use Rattle.std.specs.Prelude.{◌≡◌, ℕ, suc, ◌+◌, ◌≤◌, Bool, true, false, Option, Some, None, ◌⊎◌}
use Rattle.c_values.specs.declared.ops.Ty.{Ty}
use Rattle.c_tree.specs.declared.leaving.Leaving.{Leaving}
use Rattle.c_tree.specs.declared.leaving.Leaving.TheVariants.{Next, Broke, Continued, Returned}
use Rattle.c_tree.specs.Runs.{State, Part}
use Rattle.flow_graph.specs.declared.graph.OpKind.TheVariants as kind
use Rattle.flow_graph.specs.declared.graph.Graph.{Graph}
use Rattle.flow_graph.specs.Operations.{word_at, operand_word}
use Rattle.flow_graph.specs.declared.nodes.Next.TheVariants.{Returns}
use Rattle.flow_graph.specs.declared.nodes.Node.{Node}
use Rattle.flow_graph.specs.declared.nodes.Around.{Around}
use Rattle.flow_graph.specs.Nodes.{graph_nodes, node_in, first_of, laid_items}
use Rattle.flow_graph.specs.Flow.{Spot}
use Rattle.lowered_graphs.specs.Making.{Counts, Emit}
use Rattle.lowered_graphs.specs.Exprs.{result_home}
use Rattle.lowered_graphs.specs.declared.positions.Position.{Position}
use Rattle.lowered_graphs.specs.declared.positions.Position.TheVariants.{LastOfGroup}
use Rattle.lowered_meaning.specs.Runs.{Runs}
use Rattle.lowered_meaning.specs.Tracks.{Stand}
use Rattle.lowered_meaning.specs.Keeps.{Ground, Kept, KeptStore, SameShape, Ready, Agrees}

-- a function that is executed, whether it is `main`, and the type of its result
pub record Callee : Type 0 where
  pub ground : Ground
  pub is_main : Bool
  pub result : Option Ty

-- the value is in the function's result object; a function without a result gives 0
abbrev pub HasResult : Callee → Option Ty → ℕ → Spot → Type 0
HasResult f None v z = v ≡ 0
HasResult f (Some ty) v z = word_at z.objects (result_home f.ground.setting f.ground.function) 0 ≡ v

-- The operation that is executed next ends the function with the value: in `main` a Finish of it, elsewhere a Ret.
abbrev pub EndsWith : Callee → Bool → ℕ → Node → Spot → Type 0
EndsWith f true v x z = (x.op.kind ≡ kind.Finish) × (operand_word z.objects x.op.a ≡ v)
EndsWith f false v x z = (x.op.kind ≡ kind.Ret) × (x.op.dest ≡ None) × (x.next ≡ Returns) × HasResult f f.result v z

pub record Returning (g : Graph) (f : Callee) (v : ℕ) (z : Spot) : Type 0 where
  pub node : Node
  pub next : node_in (graph_nodes g) z.at ≡ Some node
  pub ends : EndsWith f f.is_main v node z

-- a `break` that ends a group goes on behind it, to the Go that leaves the `switch`
abbrev pub BrokeAt : Position → Around → Spot → Type 0
BrokeAt LastOfGroup k z = (z.at ≡ k.break_to) ⊎ (z.at ≡ k.behind)
BrokeAt _ k z = z.at ≡ k.break_to

-- where the graph stands when a statement was left so
abbrev pub LeftAt : Graph → Callee → Position → Around → Leaving → Spot → Type 0
LeftAt g f last k Next z = z.at ≡ k.behind
LeftAt g f last k Broke z = BrokeAt last k z
LeftAt g f last k Continued z = z.at ≡ k.continue_to
LeftAt g f last k (Returned v) z = Returning g f v z

-- What holds at a spot of a function since another one of it: the same calls go on, variables in scope agree with their objects, and what belongs to
-- functions that are not below this one is as it was.
pub record Since (w : Ground) (scope : ℕ → Type 0) (s : Spot) (old : State) (d : State) (z : Spot) : Type 0 where
  pub calls : z.calls ≡ s.calls
  pub agrees : Agrees w scope d z
  pub ready : Ready w z.objects
  pub kept : Kept w true 0 s.objects z.objects
  pub shape : SameShape s.objects z.objects
  pub store : KeptStore w true 0 old d

pub record StmtDone (g : Graph) (f : Callee) (scope : ℕ → Type 0) (last : Position) (k : Around) (s : Spot) (old : State) (l : Leaving) (d : State) (z : Spot) : Type 0 where
  pub left : LeftAt g f last k l z
  pub since : Since f.ground scope s old d z

-- A statement of n nodes is executed wherever it stands: it hands on what is paid for, and leaves an operation over, which a return needs.
abbrev pub StmtTracks : Graph → Callee → (ℕ → Type 0) → (most n : ℕ) → Position → Part Leaving → Emit (Unit {0}) → Type 0
StmtTracks g f scope most n last p emit = (c : Counts) → f.ground.base ≤ c.temp → (emit c).counts.temp ≤ f.ground.top
    → (k : Around) (s : Spot) (d : State) (a o : ℕ) → Agrees f.ground scope d s → Ready f.ground s.objects
    → Stand g k (emit c).items → s.at ≡ first_of (laid_items (emit c).items) k.behind
    → Runs g most (a + n) a o (suc o) (p d) s (StmtDone g f scope last k s d)

-- An action or a declaration of n nodes. Behind it other variables may be in scope.
abbrev pub ActTracks : Graph → Ground → (scope scope' : ℕ → Type 0) → (most n : ℕ) → Part (Unit {0}) → Emit (Unit {0}) → Type 0
ActTracks g w scope scope' most n p emit = (c : Counts) → w.base ≤ c.temp → (emit c).counts.temp ≤ w.top
    → (k : Around) (s : Spot) (d : State) (a o : ℕ) → Agrees w scope d s → Ready w s.objects
    → Stand g k (emit c).items → s.at ≡ first_of (laid_items (emit c).items) k.behind
    → Runs g most (a + n) a o o (p d) s (λ v e z. (z.at ≡ k.behind) × Since w scope' s d e z)

-- an item of a block: behind it, where it goes on, other variables may be in scope
pub record ItemDone (g : Graph) (f : Callee) (scope scope' : ℕ → Type 0) (last : Position) (k : Around) (s : Spot) (old : State) (l : Leaving) (d : State) (z : Spot) : Type 0 where
  pub left : LeftAt g f last k l z
  pub since : Since f.ground scope s old d z
  pub next : l ≡ Next → Since f.ground scope' s old d z

abbrev pub ItemTracks : Graph → Callee → (scope scope' : ℕ → Type 0) → (most n : ℕ) → Position → Part Leaving → Emit (Unit {0}) → Type 0
ItemTracks g f scope scope' most n last p emit = (c : Counts) → f.ground.base ≤ c.temp → (emit c).counts.temp ≤ f.ground.top
    → (k : Around) (s : Spot) (d : State) (a o : ℕ) → Agrees f.ground scope d s → Ready f.ground s.objects
    → Stand g k (emit c).items → s.at ≡ first_of (laid_items (emit c).items) k.behind
    → Runs g most (a + n) a o (suc o) (p d) s (ItemDone g f scope scope' last k s d)

abbrev pub Upwards : Emit (Unit {0}) → Type 0
Upwards emit = (c : Counts) → c.temp ≤ (emit c).counts.temp
