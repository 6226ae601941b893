use Rattle.std.proofs.Common.{sym}
use Rattle.std.proofs.lemmas.List.{length-map}
use Rattle.std.proofs.lemmas.Result.{err_from_is_err_and}
use Rattle.commands.proofs.Begins.{gives_up, usage_begins}
use Rattle.commands.proofs.Dispatch.{words_come}
use Rattle.commands.proofs.Words.{asked_fits}
use Rattle.commands.proofs.call.words_begun.Goals as goal

pub returns-in_err-asked : goal.returns-in_err-asked
returns-in_err-asked g c = let p = err_from_is_err_and c.from_residual.result c.from_residual.ensures.1 in rw p.1 (gives_up _ _ _)

pub job_begun-requires : goal.job_begun-requires
job_begun-requires g c = record {
  range = rw c.in-Some.is at c.in_ok-asked.ensures.ranges;
  boxes = asked_fits _ _ _ (rw length-map c.requires.boxes) (sym (rw c.in-Some.is at c.in_ok-asked.ensures.reads));
}

pub returns-in-Some : goal.returns-in-Some
returns-in-Some g c = words_come _ _ _ _ _ _ (sym (rw c.in-Some.is at c.in_ok-asked.ensures.reads)) _ c.job_begun.ensures

pub returns-in-None : goal.returns-in-None
returns-in-None g c = usage_begins _ _ _ (sym (rw c.in-None.is at c.in_ok-asked.ensures.reads)) _ c.refused.ensures
