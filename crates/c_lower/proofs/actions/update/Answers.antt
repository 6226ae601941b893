use Rattle.lowered_graphs.specs.Exprs.{setting_of}
use Rattle.c_lower.proofs.UpdateLemmas.{updated}
use Rattle.c_lower.proofs.actions.update.Goals as goal

pub returns : goal.returns
returns c = updated (setting_of c.args.p.now c.args.homes.now) c.args.target.now c.args.place c.args.op c.args.ty c.type_of.result c.args.by.now c.calls_in-late.result
    c.in_ok-index.index c.in_ok-w.w c.in_ok-x.x c.in_ok-y.y c.finish_update.result c.args.to.now c.index_of.new.to c.load_from.new.to c.make_conversion.new.to c.right_side.new.to c.finish_update.new.to
    (c.calls_in-late.ensures (setting_of c.args.p.now c.args.homes.now)) c.type_of.ensures c.in_ok-index.ensures c.in_ok-w.ensures c.in_ok-x.ensures c.in_ok-y.ensures c.finish_update.ensures
