use Rattle.std.proofs.Common.{◌≡◌, ◌++◌, map, subst}
use Rattle.certificate.specs.Rows.{point_of}
use Rattle.cert_templates.specs.Frames.{operands, signed_at, trapping_at}
use Rattle.emit_certs.specs.Timed.{code_in}
use Rattle.emit_certs.specs.Framed.{point_in}
use Rattle.emit_certs.proofs.Appending.{two_parts}
use Rattle.emit_certs.proofs.inner.put_signed.Goals as goal

pub returns : goal.returns
returns c =
    two_parts c.put_positive.result (map point_of c.args.to.now.items) _ _
    (map (point_in c.args.frame.now) (trapping_at c.args.frame.now.board.now (code_in c.args.frame.now.code.now) 4 operands))
    (map (point_in c.args.frame.now) (signed_at c.args.frame.now.board.now (code_in c.args.frame.now.code.now) c.args.at c.args.register))
    (subst (λ fs. map point_of c.put_trapping.new.to.items ≡ map point_of c.args.to.now.items
    ++ map (point_in c.args.frame.now) (trapping_at c.args.frame.now.board.now (code_in c.args.frame.now.code.now) 4 fs)) c.operands.ensures c.in_ok-put_trapping.ensures)
    c.put_positive.ensures
