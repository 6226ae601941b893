use Rattle.std.proofs.Common.{◌∙◌, ap, get_or}
use Rattle.msp430_machine.proofs.Loading.{zero_at}
use Rattle.msp430_machine.proofs.load.zero_bytes.Goals as goal

pub returns-in-Ok-clause-zero : goal.returns-in-Ok-clause-zero
returns-in-Ok-clause-zero c = λ a. ap (λ l. get_or l a 0) (c.in-Ok.ensures.items_if_clones_equal (λ y same. same)) ∙ zero_at 65536 a
