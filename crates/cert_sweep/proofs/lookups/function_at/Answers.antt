use Rattle.std.proofs.Common.{ap, ◌∙◌}
use Rattle.cert_rules.specs.Tables.{function_at}
use Rattle.cert_state.specs.Shown.{functions_in}
use Rattle.cert_sweep.proofs.Halves.{function_row}
use Rattle.cert_sweep.proofs.lookups.function_at.Goals as goal

pub returns : goal.returns
returns c = function_row c.row_at.result c.args.functions.now c.from.result c.row_at.ensures ∙ ap (function_at (functions_in c.args.functions.now)) c.from.ensures
