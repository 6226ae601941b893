use Rattle.std.proofs.Common.{map, subst}
use Rattle.std.proofs.lemmas.Result.{on_ok_weaker}
use Rattle.ti_txt.specs.Bytes.{blocks_of}
use Rattle.ti_txt.specs.Image.{block_of}
use Rattle.ti_txt.specs.Spelling.{AllFit}
use Rattle.ti_txt.proofs.Again.{holds_again}
use Rattle.ti_txt.proofs.writing.write.Goals as goal

pub returns-else-is_err-clause-again : goal.returns-else-is_err-clause-again
returns-else-is_err-clause-again c =
    on_ok_weaker c.append-outcome.result
    (λ fit. holds_again (blocks_of c.args.img.now) c.args.img.now.ordered (subst (λ segments. AllFit (map block_of segments)) c.deref.ensures.value fit))
    c.append-outcome.ensures.fit
