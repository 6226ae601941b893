use Rattle.chain_units.specs.Marks.{marks_of, placed_items}
use Rattle.flow_graph.specs.Nodes.{around_body}
use Rattle.std.proofs.Common.{[]}
use Rattle.chain_units.specs.Chains.{cut}
use Rattle.chain_units.specs.Placements.{AreRuns}
use Rattle.chain_units.proofs.Fitting.{all_fit}
use Rattle.chain_units.proofs.KeepingUp.{behind_end, behind_none}
use Rattle.chain_units.proofs.placing.placed_runs.Goals as goal

pub returns-clause-runs : goal.returns-clause-runs
returns-clause-runs g c =
    let k = g.K.Knowledge.known c.args.k.now in
    behind_end k (marks_of k (placed_items k c.args.body.now) around_body) c.place_items.new.placer c.close.new.placer
    (c.in_ok-place_items.ensures [] (behind_none k c.begin-placer.result c.begin-placer.ensures.runs c.begin-placer.ensures.pieces)) c.in_ok-close.ensures

pub returns-clause-fit : goal.returns-clause-fit
returns-clause-fit g c =
    let k = g.K.Knowledge.known c.args.k.now in
    let runs : AreRuns k (cut [] (marks_of k (placed_items k c.args.body.now) around_body)) c.close.new.placer.runs.items =
    behind_end k (marks_of k (placed_items k c.args.body.now) around_body) c.place_items.new.placer c.close.new.placer
    (c.in_ok-place_items.ensures [] (behind_none k c.begin-placer.result c.begin-placer.ensures.runs c.begin-placer.ensures.pieces)) c.in_ok-close.ensures in
    all_fit k c.args.body.now c.close.new.placer.runs.items c.requires runs
