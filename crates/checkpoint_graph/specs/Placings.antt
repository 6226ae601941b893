-- What a plan of a graph promises: every chain has its cheapest plan, where every operation fits one charge.
use Rattle.std.specs.Prelude.{ℕ, ◌≡◌, ◌<◌, List, length}
use Rattle.base_io.specs.declared.Place.{Place}
use Rattle.board_table.specs.declared.board.Board.{Board}
use Rattle.flow_graph.specs.declared.graph.Graph.{Graph}
use Rattle.flow_graph.specs.declared.graph.OpKind.{OpKind}
use Rattle.flow_graph.specs.declared.owned.Owned.{Owned}
use Rattle.flow_graph.specs.Owned.{IsAt}
use Rattle.item_weights.specs.Flat.{AreFlats}
use Rattle.live_objects.specs.declared.liveness.Liveness.{Liveness}
use Rattle.op_cost.specs.Weights.{Fits, need}
use Rattle.board_weights.specs.OnBoard.{rule_on}
use Rattle.call_summary.specs.declared.telling.Summary.{Summary}
use Rattle.call_summary.specs.Costs.{ArePaid}
use Rattle.call_summary.specs.Summaries.{TellTouched, costs_in}
use Rattle.chain_units.specs.declared.plan.Chain.{Chain}
use Rattle.chain_units.specs.declared.telling.ExplainedChain.{ExplainedChain}
use Rattle.chain_units.specs.Chains.{chains}
use Rattle.chain_units.specs.Planned.{ArePlans}
use Rattle.chain_units.specs.Explained.{AreExplained}
use Rattle.checkpoint_graph.specs.Knowing.{known}
use Rattle.checkpoint_graph.specs.declared.placing.PlanFault.{PlanFault}
use Rattle.checkpoint_graph.specs.declared.placing.PlanFault.TheVariants.{BudgetTooSmall, Memory}

-- the summaries are those of the graph's functions on the board
pub record AreSummariesOf (g : Graph) (b : Board) (summaries : List Summary) : Type 0 where
  pub flats : AreFlats (rule_on b (length g.objects)) g (costs_in summaries)
  pub touched : TellTouched g summaries
  pub paid : ArePaid b (costs_in summaries)

-- one charge pays for each of the operations
abbrev pub AllFit : Board → List Owned → Type 0
AllFit b ops = (number : ℕ) (x : Owned) → IsAt ops number x → Fits b x.node.op

-- the first operation by number that no charge pays for
pub record IsTooSmall (b : Board) (ops : List Owned) (op : OpKind) (place : Place) (need_told budget : ℕ) : Type 0 where
  pub number : ℕ
  pub first : Owned
  pub is_there : IsAt ops number first
  pub kind_is : op ≡ first.node.op.kind
  pub place_is : place ≡ first.node.op.place
  pub need_is : need_told ≡ need b first.node.op
  pub budget_is : budget ≡ b.budget
  pub above : budget < need_told
  pub others : (n : ℕ) (x : Owned) → n < number → IsAt ops n x → Fits b x.node.op

-- a fault is want of memory, or tells that operation
abbrev pub IsFaultOf : Board → List Owned → PlanFault → Type 0
IsFaultOf b ops (BudgetTooSmall op place need_told budget) = IsTooSmall b ops op place need_told budget
IsFaultOf b ops Memory = Unit {0}

-- the chains in the order of their numbers, from 1, each with its cheapest plan
abbrev pub ArePlansOf : Graph → Liveness → List Summary → Board → List Chain → Type 0
ArePlansOf g live summaries b placed = ArePlans (known g live summaries b) 1 (chains (known g live summaries b)) placed

-- the chains, each explained by its plan, as far as there are plans
abbrev pub AreExplainedOf : Graph → Liveness → List Summary → Board → List Chain → List ExplainedChain → Type 0
AreExplainedOf g live summaries b placed explained = AreExplained (known g live summaries b) (chains (known g live summaries b)) placed explained
