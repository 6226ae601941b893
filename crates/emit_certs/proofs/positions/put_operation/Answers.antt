use Rattle.std.proofs.Common.{◌≡◌, ◌++◌, map, ap, ◌∙◌}
use Rattle.certificate.specs.Rows.{point_of}
use Rattle.op_cost.specs.Templates.{Counted, code_of, length_in, template}
use Rattle.emit_templates.specs.Placed.{home_in}
use Rattle.cert_templates.specs.Frames.{inner_by, inner_point}
use Rattle.emit_certs.specs.Timed.{code_in}
use Rattle.emit_certs.proofs.EachKind.{walked_is}
use Rattle.emit_certs.proofs.positions.put_operation.Goals as goal

pub returns-clause-points : goal.returns-clause-points
returns-clause-points c =
    let code : code_in c.deref.result.now ≡ template (home_in c.args.places.now.of.items) 0 c.args.op.now = ap (λ ts. code_in ts) c.deref.ensures.value ∙ c.in_ok-code.ensures.code in
    let s = c.args.s in
    c.in_ok-put_inner.ensures
    ∙ ap (λ cs. map point_of c.args.to.now.items ++ map (inner_point s.stretch s.spent s.at (code_of cs)) (inner_by c.args.op.now.kind c.args.b.now c.length_in.result cs)) code
    ∙ ap (λ n. map point_of c.args.to.now.items ++ map (inner_point s.stretch s.spent s.at (code_of (template (home_in c.args.places.now.of.items) 0 c.args.op.now))) (inner_by c.args.op.now.kind c.args.b.now n (template (home_in c.args.places.now.of.items) 0 c.args.op.now))) c.length_in.ensures
    ∙ ap (λ ps. map point_of c.args.to.now.items ++ ps) (walked_is c.args.b.now (length_in c.args.op.now.array) s.stretch s.spent s.at (home_in c.args.places.now.of.items) 0 c.args.op.now)
