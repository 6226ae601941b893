use Rattle.std.proofs.Common.{ap, ◌∙◌}
use Rattle.cert_rules.specs.Tables.{point_at}
use Rattle.cert_sweep.specs.Views.{points_in}
use Rattle.cert_sweep.proofs.Halves.{point_row}
use Rattle.cert_sweep.proofs.lookups.point_at.Goals as goal

pub returns : goal.returns
returns c = point_row c.row_at.result c.args.points.now c.from.result c.row_at.ensures ∙ ap (point_at (points_in c.args.points.now)) c.from.ensures
