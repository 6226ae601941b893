use Rattle.std.proofs.Common.{◌∙◌, sym, ap}
use Rattle.c_parse.specs.Endings.{is_name}
use Rattle.c_parse.specs.declared.raw.Raw.{out-Raw}
use Rattle.c_parse.proofs.Jumping.{last_name}
use Rattle.c_parse.proofs.endings.last_is_name.Goals as goal

pub returns-in-len1-up : goal.returns-in-len1-up
returns-in-len1-up c = c.is_name.ensures ∙ ap (λ x. is_name (out-Raw x)) c.last-item.is ∙ sym (last_name c.args.parts.now c.last-item.result c.in-len1-up.len_at_least)
