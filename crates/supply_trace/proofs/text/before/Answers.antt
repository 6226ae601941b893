use Rattle.supply_trace.proofs.Reading.{not_found}
use Rattle.supply_trace.proofs.text.before.Goals as goal

pub returns-in-None-clause-count : goal.returns-in-None-clause-count
returns-in-None-clause-count c = not_found _ _ c.in-None.ensures.at
