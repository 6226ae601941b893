use Rattle.std.proofs.Common.{◌≡◌, ◌<◌, ◌∙◌, length, rules}
use Rattle.std.specs.List.{position_or_len}
use Rattle.supply_trace.specs.Rows.{is_feed}
use Rattle.supply_trace.proofs.Reading.{cut_at, last_line, line_before}
use Rattle.supply_trace.proofs.text.cut.Goals as goal

pub returns-then-end-text-clause-lines : goal.returns-then-end-text-clause-lines
returns-then-end-text-clause-lines c =
    let all : position_or_len is_feed c.args.text.now ≡ length c.args.text.now = search rules in
    last_line c.args.text.now all

pub returns-else-end-text-clause-lines : goal.returns-else-end-text-clause-lines
returns-else-end-text-clause-lines c =
    let less : position_or_len is_feed c.args.text.now < length c.args.text.now = search rules in
    line_before c.args.text.now less ∙ cut_at c.args.text.now c.before-end.result c.before-end.ensures.count
