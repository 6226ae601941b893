use Rattle.msp430_isa.proofs.Spelling.{unambiguous}
use Rattle.msp430_isa.proofs.laws.words_spell_one_instruction.Goals as goal

pub returns : goal.returns
returns c = unambiguous
