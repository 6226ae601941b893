use Rattle.emit_each.proofs.Keeping.{kept_held}
use Rattle.emit_each.proofs.each.emit_each.Goals as goal

pub returns-clause-held : goal.returns-clause-held
returns-clause-held c = kept_held c.args.b.now c.args.g.now c.requires.rules c.requires.alone c.emit_fitting.result c.emit_fitting.ensures.emitted
