use Rattle.c_parse.proofs.Jumping.{all_but_last}
use Rattle.c_parse.proofs.endings.but_last.Goals as goal

pub returns-in-len1-up : goal.returns-in-len1-up
returns-in-len1-up c = all_but_last c.args.parts.now c.in-len1-up.len_at_least
