use Rattle.job_parts.proofs.Pieces.{no_text}
use Rattle.job_parts.proofs.input.word_in.Goals as goal

pub returns-in-Err : goal.returns-in-Err
returns-in-Err c = no_text c.args.piece.now c.in-Err.ensures.cases.0
