use Rattle.program_texts.proofs.Readings.{no_program, one_reading, only_fault}
use Rattle.program_texts.proofs.front.program_of.Goals as goal

pub returns-in-Ok-clause-only : goal.returns-in-Ok-clause-only
returns-in-Ok-clause-only c = λ other t. (one_reading c.args.text.now).program c.in-Ok.lowered.program other c.in-Ok.ensures.found t

pub returns-in-Err-clause-first : goal.returns-in-Err-clause-first
returns-in-Err-clause-first c = λ n other m h. only_fault c.args.text.now c.in-Err.fault n c.in-Err.ensures.fault other m h

pub returns-in-Err-clause-none : goal.returns-in-Err-clause-none
returns-in-Err-clause-none c = λ n p t. no_program c.args.text.now c.in-Err.fault n c.in-Err.ensures.fault p t
