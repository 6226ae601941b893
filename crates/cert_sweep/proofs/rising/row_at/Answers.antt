use Rattle.std.proofs.Common.{◌≡◌, Some, sym, ◌∙◌}
use Rattle.cert_sweep.proofs.Halves.{row_is, row_off, row_on}
use Rattle.cert_sweep.proofs.rising.row_at.Goals as goal

pub returns-in-None : goal.returns-in-None
returns-in-None g c = row_is g.T.Numbered.number c.args.rows.now c.args.n _ c.in-None.ensures c.requires

pub returns-then-number-n : goal.returns-then-number-n
returns-then-number-n g c =
    row_on g.T.Numbered.number c.in-Some.first.now c.args.n (sym c.number.ensures ∙ c.if-number-n.true) ∙ row_is g.T.Numbered.number c.args.rows.now c.args.n (Some c.in-Some.first.now) c.in-Some.ensures c.requires

pub returns-else-number-n : goal.returns-else-number-n
returns-else-number-n g c =
    row_off g.T.Numbered.number c.in-Some.first.now c.args.n (λ e. c.if-number-n.false (c.number.ensures ∙ e)) ∙ row_is g.T.Numbered.number c.args.rows.now c.args.n (Some c.in-Some.first.now) c.in-Some.ensures c.requires
