-- Why a graph has no image on a board.
use Rattle.std.specs.Prelude.{◌≡◌, ◌*◌, ◌<◌, ◌≤◌}
use Rattle.board_table.specs.declared.board.Board.{Board}
use Rattle.flow_graph.specs.declared.graph.Graph.{Graph}
use Rattle.flow_graph.specs.declared.graph.Op.{Op}
use Rattle.flow_graph.specs.Nodes.{graph_nodes}
use Rattle.graph_code.specs.Homes.{data_bytes, most_data}
use Rattle.op_cost.specs.Weights.{need as need_of}
use Rattle.each_image.specs.Each.{each_heads}
use Rattle.each_image.specs.Image.{code_words}
use Rattle.emit_each.specs.Emitting.{AllFit, IsFirstMisfit, most_code}
use Rattle.job_files.specs.Refusals.{Refusal, budget_too_small, code_too_large, data_too_large}

-- Its objects have no room; where they have, one charge doesn't pay for an operation, of which the first is told; where one pays for each,
-- its code has no room.
abbrev pub RefusesGraph : Board → Graph → Refusal → Type 0
RefusesGraph b g (data_too_large need room) = (most_data < data_bytes g) × (need ≡ data_bytes g) × (room ≡ most_data)
RefusesGraph b g (budget_too_small op place need budget) =
    (data_bytes g ≤ most_data) × ((x : Op) × IsFirstMisfit b (graph_nodes g) x × (op ≡ x.kind) × (place ≡ x.place) × (need ≡ need_of b x)) × (budget ≡ b.budget)
RefusesGraph b g (code_too_large need room) =
    (data_bytes g ≤ most_data) × AllFit b (graph_nodes g) × (most_code < code_words (each_heads b g) g) × (need ≡ 2 * code_words (each_heads b g) g) × (room ≡ 2 * most_code)
RefusesGraph b g r = ⊥
