use Rattle.c_lex.proofs.Passing.{same_cut, same_fault, cut_or_fault}
use Rattle.c_lex.proofs.Ways.{cut_or_faulty}
use Rattle.c_lex.proofs.laws.one_cut.Goals as goal

pub returns-clause-tokens : goal.returns-clause-tokens
returns-clause-tokens c = same_cut

pub returns-clause-fault : goal.returns-clause-fault
returns-clause-fault c = same_fault

pub returns-clause-either : goal.returns-clause-either
returns-clause-either c = cut_or_fault

pub returns-clause-some : goal.returns-clause-some
returns-clause-some c = cut_or_faulty
