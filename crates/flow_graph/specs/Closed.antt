-- Where control goes in a graph that obeys the rules, and where a run of it may stand. All of it follows from the rules.
use Rattle.std.specs.Prelude.{ℕ, ◌≡◌, ◌≢◌, ◌⊎◌, ⊤, Bool, true, false, Some, List, [], ◌∷◌, length, slice_get, Contains}
use Rattle.flow_graph.specs.declared.graph.OpKind.{OpKind}
use Rattle.flow_graph.specs.declared.graph.OpKind.TheVariants as kind
use Rattle.flow_graph.specs.declared.graph.Object.{Object}
use Rattle.flow_graph.specs.declared.graph.Graph.{Graph}
use Rattle.flow_graph.specs.declared.nodes.Next.{Next}
use Rattle.flow_graph.specs.declared.nodes.Next.TheVariants.{To, Either, Into, Returns, Ends}
use Rattle.flow_graph.specs.declared.owned.Owned.{Owned}
use Rattle.flow_graph.specs.Nodes.{entry}
use Rattle.flow_graph.specs.Operations.{Words, words_of}
use Rattle.flow_graph.specs.Flow.{Spot}
use Rattle.flow_graph.specs.Owned.{IsAt, IsBehindCall, IsIn, operations}
use Rattle.flow_graph.specs.Rules.{OpFits, doing_in}

-- each operation's number is its place
abbrev pub ArePlaces : Graph → Type 0
ArePlaces g = (i : ℕ) (x : Owned) → IsAt (operations g) i x → x.node.op.number ≡ i

-- in the same function: what is executed next, or behind the call
abbrev pub Stays : Next → ℕ → Type 0
Stays (To n) j = j ≡ n
Stays (Either n m) j = (j ≡ n) ⊎ (j ≡ m)
Stays (Into f n) j = j ≡ n
Stays Returns j = ⊥
Stays Ends j = ⊥

-- a kind of which each operation has one that is executed next
abbrev pub goes_on : OpKind → Bool
goes_on kind.Finish = false
goes_on kind.Test = false
goes_on kind.Below = false
goes_on kind.Call = false
goes_on kind.Ret = false
goes_on _ = true

abbrev pub is_test : OpKind → Bool
is_test kind.Test = true
is_test kind.Below = true
is_test _ = false

-- the kind of an operation tells how it is followed
abbrev pub IsNextOf : OpKind → Next → Type 0
IsNextOf k (To n) = goes_on k ≡ true
IsNextOf k (Either n m) = is_test k ≡ true
IsNextOf k (Into f n) = k ≡ kind.Call
IsNextOf k Returns = k ≡ kind.Ret
IsNextOf k Ends = k ≡ kind.Finish

-- what stands behind an operation that goes on, is passed or calls is what follows it: a Go alone jumps, and a test that isn't passed
abbrev pub IsOnward : OpKind → ℕ → ℕ → Type 0
IsOnward kind.Go m n = ⊤
IsOnward k m n = m ≡ n

abbrev pub FallsTo : OpKind → Next → ℕ → Type 0
FallsTo k (To m) n = IsOnward k m n
FallsTo k (Either m failed) n = m ≡ n
FallsTo k (Into f m) n = m ≡ n
FallsTo k Returns n = ⊤
FallsTo k Ends n = ⊤

-- Control stays in its function but for calls, each to the first operation of a function that this one calls, and returns, which `main` has none of.
pub record IsClosed (g : Graph) : Type 0 where
  pub places : ArePlaces g
  pub begins : IsIn g (entry g g.main) g.main
  pub stays : (i : ℕ) (x : Owned) → IsAt (operations g) i x → (j : ℕ) → Stays x.node.next j → IsIn g j x.function
  pub enters : (i : ℕ) (x : Owned) (f n : ℕ) → IsAt (operations g) i x → x.node.next ≡ Into f n → IsIn g (entry g f) f
  pub calls : (i : ℕ) (x : Owned) (f n : ℕ) → IsAt (operations g) i x → x.node.next ≡ Into f n → Contains (doing_in (slice_get g.functions x.function)).calls f
  pub returns : (i : ℕ) (x : Owned) → IsAt (operations g) i x → x.node.next ≡ Returns → x.function ≢ g.main
  pub kinds : (i : ℕ) (x : Owned) → IsAt (operations g) i x → IsNextOf x.node.op.kind x.node.next
  pub fits : (i : ℕ) (x : Owned) → IsAt (operations g) i x → OpFits g x.node.op

-- Each number of the calls that go on lies behind a call of the function that is being executed, and the next in the function of that call; the
-- outermost function is `main`.
abbrev pub AreCalls : Graph → ℕ → List ℕ → Type 0
AreCalls g f [] = f ≡ g.main
AreCalls g f (n ∷ ns) = IsBehindCall (operations g) f n × ((h : ℕ) × IsIn g n h × AreCalls g h ns)

-- as many objects as the graph has, each with its number of words
pub record AreSized (g : Graph) (objects : Words) : Type 0 where
  pub count : length objects ≡ length g.objects
  pub sizes : (o : ℕ) (x : Object) → slice_get g.objects o ≡ Some x → length (words_of objects o) ≡ x.words

-- where a run may stand
pub record Stands (g : Graph) (s : Spot) : Type 0 where
  pub function : ℕ
  pub here : IsIn g s.at function
  pub calls : AreCalls g function s.calls
  pub sized : AreSized g s.objects
