use Rattle.std.proofs.Common.{◌≡◌, ◌<◌, ◌∙◌, length, rules}
use Rattle.std.specs.List.{position_or_len}
use Rattle.job_parts.specs.Input.{is_white}
use Rattle.job_parts.proofs.Pieces.{cut_at, last_piece, piece_before}
use Rattle.job_parts.proofs.input.cut.Goals as goal

pub returns-then-end-text-clause-pieces : goal.returns-then-end-text-clause-pieces
returns-then-end-text-clause-pieces c =
    let all : position_or_len is_white c.args.text.now ≡ length c.args.text.now = search rules in
    last_piece c.args.text.now all

pub returns-else-end-text-clause-pieces : goal.returns-else-end-text-clause-pieces
returns-else-end-text-clause-pieces c =
    let less : position_or_len is_white c.args.text.now < length c.args.text.now = search rules in
    piece_before c.args.text.now less ∙ cut_at c.args.text.now c.before_white-end.result c.before_white-end.ensures.count
