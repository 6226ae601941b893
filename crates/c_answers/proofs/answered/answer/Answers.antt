use Rattle.std.proofs.Common.{◌≡◌, sym, inl}
use Rattle.c_answers.proofs.answered.answer.Goals as goal

pub returns-in-Some-clause-refuses : goal.returns-in-Some-clause-refuses
returns-in-Some-clause-refuses c = λ _. inl (cc)
