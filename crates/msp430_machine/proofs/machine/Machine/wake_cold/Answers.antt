use Rattle.std.proofs.Common.{refl}
use Rattle.msp430_machine.proofs.machine.Machine.wake_cold.Goals as goal

pub returns-clause-exactly : goal.returns-clause-exactly
returns-clause-exactly c = rw (c.code_word-start.ensures, c.forget.ensures.items, ← c.self.view_is) refl
