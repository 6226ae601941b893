use Rattle.std.proofs.Common.{◌≡◌, ◌<◌, length, subst, arith}
use Rattle.cert_sweep.specs.Rising.{Rises}
use Rattle.cert_sweep.proofs.Halves.{front, back, in_high, in_low}
use Rattle.cert_sweep.proofs.rising.half.Goals as goal

pub returns-then-number-n-clause-first : goal.returns-then-number-n-clause-first
returns-then-number-n-clause-first g c =
    in_high g.T.Numbered.number c.args.rows.now c.split_at.result.0.now c.split_at.result.1.now c.last-item.result c.args.n c.split_at.ensures.by_index.0 (omega (arith, c.in-len1-up.len_at_least)) c.last-item.is (omega (arith, c.number.ensures, c.if-number-n.true)) c.requires.rises

pub returns-then-number-n-clause-rises : goal.returns-then-number-n-clause-rises
returns-then-number-n-clause-rises g c = back g.T.Numbered.number 0 c.split_at.result.0.now c.split_at.result.1.now (subst (Rises g.T.Numbered.number 0) c.split_at.ensures.by_index.0 c.requires.rises)

pub returns-else-number-n-clause-first : goal.returns-else-number-n-clause-first
returns-else-number-n-clause-first g c =
    in_low g.T.Numbered.number c.args.rows.now c.split_at.result.0.now c.split_at.result.1.now c.last-item.result c.args.n c.split_at.ensures.by_index.0 (omega (arith, c.in-len1-up.len_at_least)) c.last-item.is (omega (arith, c.number.ensures, c.if-number-n.false))

pub returns-else-number-n-clause-rises : goal.returns-else-number-n-clause-rises
returns-else-number-n-clause-rises g c = front g.T.Numbered.number 0 c.split_at.result.0.now c.split_at.result.1.now (subst (Rises g.T.Numbered.number 0) c.split_at.ensures.by_index.0 c.requires.rises)
