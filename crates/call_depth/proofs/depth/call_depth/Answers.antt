use Rattle.std.proofs.Common.{◌∙◌, List, length, sym, subst}
use Rattle.flow_graph.specs.declared.graph.Func.{Func}
use Rattle.flow_graph.specs.declared.owned.Owned.{Owned}
use Rattle.flow_graph.specs.Owned.{operations}
use Rattle.call_depth.specs.Levels.{AreWithin}
use Rattle.call_depth.proofs.Ranks.{within}
use Rattle.call_depth.proofs.depth.call_depth.Goals as goal

pub depth_below-requires-clause-within : goal.depth_below-requires-clause-within
depth_below-requires-clause-within c =
    subst (λ (ops : List Owned). AreWithin ops (length c.as_slice.result.now) c.args.g.now.main) (sym (c.as_slice-2.ensures.value ∙ c.in_ok-operations.ensures))
    (subst (λ (fs : List Func). AreWithin (operations c.args.g.now) (length fs) c.args.g.now.main) (sym c.as_slice.ensures) (within c.args.g.now c.requires.rules))
