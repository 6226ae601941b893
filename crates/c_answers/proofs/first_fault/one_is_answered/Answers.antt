use Rattle.c_answers.proofs.Firsts.{first_is, first_only, first_of-append}
use Rattle.c_answers.proofs.first_fault.one_is_answered.Goals as goal

pub returns : goal.returns
returns c = record { first = first_is; only = first_only; both = first_of-append }
