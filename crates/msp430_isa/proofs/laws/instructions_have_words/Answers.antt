use Rattle.msp430_isa.proofs.Spelling.{has_words}
use Rattle.msp430_isa.proofs.laws.instructions_have_words.Goals as goal

pub returns : goal.returns
returns c = has_words
