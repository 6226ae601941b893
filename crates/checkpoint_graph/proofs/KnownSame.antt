-- What the code holds of a graph is what is known of it.
use Rattle.std.specs.Prelude.{length, nat_lt, slice_index_or, ◌&&◌}
use Rattle.std.proofs.Common.{◌≡◌, ◌∙◌, ℕ, Bool, false, List, ap}
use Rattle.std.specs.Prelude.{Option}
use Rattle.board_table.specs.declared.board.Board.{Board}
use Rattle.flow_graph.specs.declared.graph.Graph.{Graph}
use Rattle.flow_graph.specs.declared.owned.Owned.{Owned}
use Rattle.flow_graph.specs.Owned.{operations}
use Rattle.live_objects.specs.declared.liveness.Liveness.{Liveness}
use Rattle.call_summary.specs.declared.telling.Summary.{Summary}
use Rattle.call_summary.specs.Summaries.{costs_in}
use Rattle.checkpoint_graph.specs.Knowing.{is_array, known, known_by, some_names}

pub known_is : (g : Graph) (live : Liveness) (summaries : List Summary) (b : Board) (costs : List (Option ℕ)) (arrays : List Bool) (objects : ℕ) (ops : List Owned) → costs ≡ costs_in summaries
    → ((o : ℕ) → slice_index_or arrays o false ≡ (nat_lt o objects && some_names ops o)) → ops ≡ operations g → objects ≡ length g.objects
    → known_by g live summaries b costs (λ o. slice_index_or arrays o false) objects ≡ known g live summaries b
known_is g live summaries b costs arrays objects ops same_costs flags same_ops count = λ i. known_by g live summaries b (same_costs i) (λ o. same_flag o i) (count i)
  where
    same_flag : (o : ℕ) → slice_index_or arrays o false ≡ is_array g o
    same_flag o =
        flags o ∙ (ap (λ (n : ℕ). nat_lt o n && some_names ops o) count ∙ ap (λ (xs : List Owned). nat_lt o (length g.objects) && some_names xs o) same_ops)
