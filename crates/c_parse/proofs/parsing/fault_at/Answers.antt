use Rattle.c_parse.proofs.Fronts.{outside_flat, unexpected_flat}
use Rattle.c_parse.proofs.parsing.fault_at.Goals as goal

pub returns-in-Ok-true-clause-flat : goal.returns-in-Ok-true-clause-flat
returns-in-Ok-true-clause-flat c = λ le. outside_flat _ _ _ _ _ c.word_class-class.ensures c.in-Ok-true.ensures c.in-Ok-true.field-0-test

pub returns-in-Ok-false-clause-flat : goal.returns-in-Ok-false-clause-flat
returns-in-Ok-false-clause-flat c = λ le. unexpected_flat _ _ _ _ _ c.word_class-class.ensures c.in-Ok-false.ensures c.in-Ok-false.field-0-test
