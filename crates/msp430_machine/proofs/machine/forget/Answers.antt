use Rattle.std.proofs.Common.{◌∙◌, ap, replicate}
use Rattle.msp430_machine.proofs.machine.forget.Goals as goal

pub returns-clause-items : goal.returns-clause-items
returns-clause-items c = c.fill.ensures.items (λ y same. same) ∙ ap (λ n. replicate n c.args.junk) c.requires
