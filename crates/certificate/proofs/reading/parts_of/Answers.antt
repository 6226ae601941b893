use Rattle.std.proofs.Common.{◌≡◌, ◌∙◌, sym, ap, map, map-id}
use Rattle.std.proofs.lemmas.List.{map_push}
use Rattle.std.proofs.lemmas.Iterator.Adapters.{YieldsList-from_vec}
use Rattle.std.proofs.lemmas.Iterator.Consumers.{YieldsList-end}
use Rattle.certificate.specs.Appending.{with_row}
use Rattle.certificate.specs.Reading.{line_of_row}
use Rattle.certificate.proofs.Gathered.{gathered, gathered_more, gathered_rows, ok_made}
use Rattle.certificate.proofs.reading.parts_of.Goals as goal

pub loop-row-preserved : goal.loop-row-preserved
loop-row-preserved c =
    ok_made c.put_row.result _ _ (sym c.is_err.ensures.value ∙ c.if-is_err.false) c.put_row.ensures
    ∙ ap (λ k. with_row k (line_of_row c.in-Some.row)) c.loop-row.invariant
    ∙ sym (gathered_more 0 (map line_of_row c.loop-row.yielded) (line_of_row c.in-Some.row))
    ∙ ap (gathered 0) (sym (map_push line_of_row c.loop-row.yielded c.in-Some.row))

pub returns : goal.returns
returns c = λ w e.
    let given = c.into_iter-row-iterator.ensures.into_iter_gives in
    let all = YieldsList-end (YieldsList-from_vec c.args.rows.items given.0 (given.1 ∙ c.args.rows.ok.0)) c.loop-row.yielded c.loop-row.row-iterator c.loop-row.yielded_by c.next.result c.next.new.self c.in-None.is c.next.ensures.steps in
    let same : c.loop-row.yielded ≡ c.args.rows.items = sym (map-id c.loop-row.yielded) ∙ all.0 in
    c.loop-row.invariant ∙ ap (λ l. gathered 0 (map line_of_row l)) same ∙ ap (gathered 0) e ∙ gathered_rows 0 w
