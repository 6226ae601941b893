use Rattle.c_lex.proofs.Placing.{tokens_in}
use Rattle.c_lex.proofs.laws.longest_tokens.Goals as goal

pub returns : goal.returns
returns c = tokens_in
