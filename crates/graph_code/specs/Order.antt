-- The operations of a graph of one function, in code that has them in the order of their numbers.
use Rattle.std.specs.Prelude.{ℕ, ◌≡◌, ◌+◌, ◌<◌, length}
use Rattle.flow_graph.specs.declared.graph.Graph.{Graph}
use Rattle.flow_graph.specs.Owned.{operations}
use Rattle.flow_graph.specs.Rules.{IsGraph}
use Rattle.laid_code.specs.Flows.{Memory, On, Away}
use Rattle.graph_flow.specs.GraphFlow.{Place, begin, flow_of}

-- `main` alone
abbrev pub IsAlone : Graph → Type 0
IsAlone g = length g.functions ≡ 1

-- an operation of the code is executed next
abbrev pub IsThere : Graph → Place → Type 0
IsThere g q = q.at < length (operations g)

-- Where an operation goes on, it is to the one behind it; where it jumps, it is to another of the code.
pub record StandsInOrder (g : Graph) (q : Place) (m : Memory) (w : ℕ) : Type 0 where
  pub on : ((flow_of g).effect q m w).turn ≡ On → IsThere g ((flow_of g).on q) × (((flow_of g).on q).at ≡ q.at + 1)
  pub away : ((flow_of g).effect q m w).turn ≡ Away → IsThere g ((flow_of g).away q)

abbrev pub OperationsStandInOrder : Type 0
OperationsStandInOrder = (g : Graph) → IsGraph g → IsAlone g → (q : Place) (m : Memory) (w : ℕ) → IsThere g q → StandsInOrder g q m w

-- the first is executed first
abbrev pub RunsBeginFirst : Type 0
RunsBeginFirst = (g : Graph) → IsGraph g → IsAlone g → ((begin g).at ≡ 0) × IsThere g (begin g)
