use Rattle.std.proofs.Common.{◌∙◌, ◌++◌, ap, map}
use Rattle.certificate.specs.Line.{function, point, stretch}
use Rattle.certificate.specs.Rows.{function_of, point_of}
use Rattle.certificate.specs.Spelling.{rows_text}
use Rattle.certificate.proofs.Written.{whole_text}
use Rattle.certificate.proofs.writing.append.Goals as goal

pub returns : goal.returns
returns c =
    whole_text c.args.c.now.budget (map function (map function_of c.args.c.now.functions.items)) (map stretch c.args.c.now.stretches.items) (map point (map point_of c.args.c.now.points.items)) c.put.result _ _ _ _ _ _
    c.in_ok-append_budget.ensures
    (c.in_ok-append_functions.ensures ∙ ap (λ l. c.append_budget.new.to.items ++ rows_text (map function (map function_of l))) c.deref.ensures.value)
    (c.in_ok-append_stretches.ensures ∙ ap (λ l. c.append_functions.new.to.items ++ rows_text (map stretch l)) c.deref-2.ensures.value)
    (c.in_ok-append_points.ensures ∙ ap (λ l. c.append_stretches.new.to.items ++ rows_text (map point (map point_of l))) c.deref-3.ensures.value)
    c.put.ensures
