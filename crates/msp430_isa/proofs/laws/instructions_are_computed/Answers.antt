use Rattle.msp430_isa.proofs.Spelling.{computed}
use Rattle.msp430_isa.proofs.laws.instructions_are_computed.Goals as goal

pub returns : goal.returns
returns c = computed
