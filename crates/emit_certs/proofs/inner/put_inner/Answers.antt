use Rattle.std.proofs.Common.{◌≡◌, ◌++◌, map, subst, sym}
use Rattle.std.specs.Prelude.{OnOk}
use Rattle.certificate.specs.Rows.{point_of}
use Rattle.cert_templates.specs.Frames.{inner_by}
use Rattle.emit_certs.specs.Timed.{code_in}
use Rattle.emit_certs.specs.Framed.{point_in}
use Rattle.emit_certs.proofs.inner.put_inner.Goals as goal

pub returns-in-DivS : goal.returns-in-DivS
returns-in-DivS c =
    subst (λ k. OnOk c.put_signed.result (map point_of c.put_signed.new.to.items ≡ map point_of c.args.to.now.items
    ++ map (point_in c.args.frame.now) (inner_by k c.args.frame.now.board.now c.args.length (code_in c.args.frame.now.code.now)))) (sym c.in-DivS.is) c.put_signed.ensures

pub returns-in-RemS : goal.returns-in-RemS
returns-in-RemS c =
    subst (λ k. OnOk c.put_signed-in-RemS.result (map point_of c.put_signed-in-RemS.new.to.items ≡ map point_of c.args.to.now.items
    ++ map (point_in c.args.frame.now) (inner_by k c.args.frame.now.board.now c.args.length (code_in c.args.frame.now.code.now)))) (sym c.in-RemS.is) c.put_signed-in-RemS.ensures
