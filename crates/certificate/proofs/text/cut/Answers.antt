use Rattle.std.proofs.Common.{◌≡◌, ◌<◌, ◌==◌, ◌∙◌, length, rules}
use Rattle.std.specs.List.{position_or_len}
use Rattle.certificate.proofs.Cutting.{cut_at, last_part, part_before}
use Rattle.certificate.proofs.Feeds.{whole_lacks}
use Rattle.certificate.proofs.text.cut.Goals as goal

pub returns-then-end-text-clause-parts : goal.returns-then-end-text-clause-parts
returns-then-end-text-clause-parts c =
    let all : position_or_len (λ b. b == c.args.mark) c.args.text.now ≡ length c.args.text.now = search rules in
    last_part c.args.mark c.args.text.now all

pub returns-else-end-text-clause-parts : goal.returns-else-end-text-clause-parts
returns-else-end-text-clause-parts c =
    let less : position_or_len (λ b. b == c.args.mark) c.args.text.now < length c.args.text.now = search rules in
    part_before c.args.mark c.args.text.now less ∙ cut_at c.args.mark c.args.text.now c.before-end.result c.before-end.ensures.count

pub returns-then-end-text-clause-lacks : goal.returns-then-end-text-clause-lacks
returns-then-end-text-clause-lacks c =
    let all : position_or_len (λ b. b == c.args.mark) c.args.text.now ≡ length c.args.text.now = search rules in
    whole_lacks c.args.mark c.args.text.now all
