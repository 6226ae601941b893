-- What flat functions cost on a board.
use Rattle.std.specs.Prelude.{ℕ, ◌≡◌, ◌+◌, ◌≤◌, Option, Some, List, [], length, slice_get}
use Rattle.board_table.specs.declared.board.Board.{Board}
use Rattle.op_cost.specs.Weights.{overhead}
use Rattle.board_weights.specs.OnBoard.{call_cost, own, prices}
use Rattle.flow_graph.specs.declared.graph.Graph.{Graph}
use Rattle.flow_graph.specs.Nodes.{entry}
use Rattle.flow_graph.specs.Flow.{Spot}
use Rattle.flow_graph.specs.Closed.{AreSized}
use Rattle.weighed_runs.specs.Spending.{Force, spent_in_body}

-- these objects are in SRAM among the items, and none is in the functions that are called
abbrev pub force_on : Board → List ℕ → ℕ → Force
force_on b sram objects = record { own = own b; here = prices b sram; called = prices b []; objects = objects }

-- one charge pays for the call of a function, for its body, for a wake and for a sleep
abbrev pub ArePaid : Board → List (Option ℕ) → Type 0
ArePaid b costs = (f cost : ℕ) → slice_get costs f ≡ Some (Some cost) → call_cost b + cost + overhead b ≤ b.budget

-- A run from the entry of each function with a cost costs no more, with every object in FRAM, until it goes back: whatever the words of the objects and of the
-- input, and whoever called it. `m` is the number of operations looked at.
abbrev pub RunsCostNoMore : Board → Graph → List (Option ℕ) → Type 0
RunsCostNoMore b g costs = (f cost : ℕ) (s : Spot) (m : ℕ) → slice_get costs f ≡ Some (Some cost) → AreSized g s.objects → s.at ≡ entry g f
    → spent_in_body (force_on b [] (length g.objects)) g m s ≤ cost
