use Rattle.std.proofs.Common.{◌-◌, ◌∙◌, ap}
use Rattle.c_parse.specs.Endings.{ends_through}
use Rattle.c_parse.specs.Turning.{first_of_item}
use Rattle.c_parse.proofs.Jumping.{ends_deeper, ends_too_deep, ends_or_not, ends_not}
use Rattle.c_parse.proofs.endings.+ends_through.Goals as goal

pub returns-then-blocks-gt0 : goal.returns-then-blocks-gt0
returns-then-blocks-gt0 t c =
    ends_deeper c.args.blocks c.args.items.now c.last-item.result c.in-Some.first.now c.in-Some-block_parts.parts.now c.ends_through.result c.if-blocks-gt0.true c.in-len1-up.len_at_least
    (c.in-Some.ensures ∙ ap first_of_item c.last-item.is) c.in-Some-block_parts.ensures.0 c.in-Some-block_parts.ensures.1 (c.ends_through.ensures ∙ ap (λ x. ends_through (c.args.blocks - 1) x) c.but_last.ensures)

pub returns-else-blocks-gt0 : goal.returns-else-blocks-gt0
returns-else-blocks-gt0 t c =
    ends_too_deep c.args.blocks c.args.items.now c.last-item.result c.in-Some.first.now c.in-Some-block_parts.parts.now c.if-blocks-gt0.false c.in-len1-up.len_at_least
    (c.in-Some.ensures ∙ ap first_of_item c.last-item.is) c.in-Some-block_parts.ensures.0 c.in-Some-block_parts.ensures.1

pub returns-in-None-block_parts : goal.returns-in-None-block_parts
returns-in-None-block_parts t c =
    ends_or_not c.args.blocks c.args.items.now c.last-item.result c.in-Some.first.now c.is_jump.result c.in-len1-up.len_at_least
    (c.in-Some.ensures ∙ ap first_of_item c.last-item.is) c.in-None-block_parts.ensures c.is_jump.ensures

pub returns-in-None : goal.returns-in-None
returns-in-None t c = ends_not c.args.blocks c.args.items.now c.last-item.result c.in-len1-up.len_at_least (c.in-None.ensures ∙ ap first_of_item c.last-item.is)
