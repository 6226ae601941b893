-- Whether a graph has room: for its objects, and for the calls that nest in it.
use Rattle.std.specs.Prelude.{ℕ, ◌≡◌, ◌≤◌, ◌<◌}
use Rattle.flow_graph.specs.declared.graph.Graph.{Graph}
use Rattle.flow_graph.specs.Owned.{operations}
use Rattle.call_depth.specs.Depth.{IsDeepest}
use Rattle.graph_code.specs.Homes.{data_bytes, most_data}
use Rattle.job_files.specs.Refusals.{Refusal, calls_too_deep, data_too_large}

-- so many calls may nest below `main`; their returns lie in the call stack, from 0x7F00 to 0x7FFF
abbrev pub most_calls : ℕ
most_calls = 64

-- so many calls nest below `main`
abbrev pub Nest : Graph → ℕ → Type 0
Nest g depth = IsDeepest (operations g) g.main depth

-- its calls have room
abbrev pub HasRoomForCalls : Graph → Type 0
HasRoomForCalls g = (depth : ℕ) × Nest g depth × (depth ≤ most_calls)

abbrev pub LacksRoomForCalls : Graph → Refusal → Type 0
LacksRoomForCalls g (calls_too_deep need room) = Nest g need × (most_calls < need) × (room ≡ most_calls)
LacksRoomForCalls g r = ⊥

-- its objects have room, and its calls
pub record HasRoom (g : Graph) : Type 0 where
  pub data_fits : data_bytes g ≤ most_data
  pub calls_fit : HasRoomForCalls g

-- its objects have no room; where they have, its calls have none
abbrev pub LacksRoom : Graph → Refusal → Type 0
LacksRoom g (data_too_large need room) = (most_data < data_bytes g) × (need ≡ data_bytes g) × (room ≡ most_data)
LacksRoom g (calls_too_deep need room) = (data_bytes g ≤ most_data) × LacksRoomForCalls g (calls_too_deep need room)
LacksRoom g r = ⊥
