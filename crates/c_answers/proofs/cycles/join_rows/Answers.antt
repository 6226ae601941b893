use Rattle.std.proofs.Common.{◌≡◌, ◌<◌, [], ◌∙◌, subst, arith, length, get_or}
use Rattle.std.proofs.lemmas.List.{length-set, get_or_default}
use Rattle.c_answers.specs.Rows.{IsJoined}
use Rattle.c_answers.proofs.Reached.{joined_more, others_stay}
use Rattle.c_answers.proofs.cycles.join_rows.Goals as goal

pub loop-a-preserved : goal.loop-a-preserved
loop-a-preserved c =
    let rows = c.loop-a.rows.items in
    let was = c.args.rows.now.items in
    let within : c.loop-a.a < length rows = omega (arith, c.len-a-end.ensures, c.loop-a.invariant.height) in
    let row = c.index_mut.ensures.value ∙ get_or_default rows c.loop-a.a c.index_mut.result.now [] within in
    let joined = subst (λ old. IsJoined c.args.u c.args.v c.args.target.now old c.join_row.new.row) row c.join_row.ensures in
    record {
      height = length-set rows c.loop-a.a c.join_row.new.row ∙ c.loop-a.invariant.height;
      done = joined_more c.args.u c.args.v c.args.target.now was rows c.loop-a.a c.join_row.new.row within c.loop-a.invariant.done c.loop-a.invariant.rest joined;
      rest = others_stay was rows c.loop-a.a c.join_row.new.row c.loop-a.invariant.rest;
    }
