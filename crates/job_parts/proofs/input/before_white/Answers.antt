use Rattle.job_parts.proofs.Pieces.{not_found}
use Rattle.job_parts.proofs.input.before_white.Goals as goal

pub returns-in-None-clause-count : goal.returns-in-None-clause-count
returns-in-None-clause-count c = not_found _ _ c.in-None.ensures.at
