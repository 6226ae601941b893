use Rattle.msp430_isa.proofs.Spelling.{spelt}
use Rattle.msp430_isa.proofs.laws.instructions_are_spelt_by_their_words.Goals as goal

pub returns : goal.returns
returns c = spelt
