-- A check, its texts and what they hold, as the code has them, and how a refusal by the rules is told.
use Rattle.ti_txt.specs.Bytes.{blocks_of}
use Rattle.certificate.specs.Whole.{certificate_of}
use Rattle.cert_check.specs.declared.refused.Refused.{Refused}
use Rattle.cert_check.specs.declared.refused.Refused.TheVariants.{Rule as Breaks, Memory}
use Rattle.job_files.specs.Answers.{Answer, no_memory, refused}
use Rattle.job_files.specs.Refusals.{certificate_refused}
use Rattle.check_job.specs.Check.{Check, CheckTexts}
use Rattle.check_job.specs.Checking.{CheckHolds}
use Rattle.check_job.specs.declared.check_contents.Contents.{Contents}
use Rattle.check_job.specs.declared.check_texts.Texts.{Texts}
use Rattle.check_job.specs.declared.job.CheckJob.{CheckJob}

abbrev pub check_named : CheckJob → Check
check_named j = record { image = j.image.now; certificate = j.certificate.now; board = j.board.now; budget = j.budget }

abbrev pub texts_seen : Texts → CheckTexts
texts_seen t = record { image = t.image.items; certificate = t.certificate.items; board = t.board.items }

abbrev pub held_in : Contents → CheckHolds
held_in h = record { image = blocks_of h.image; certificate = certificate_of h.certificate; board = h.board }

abbrev pub answer_of_rules : Refused → Answer
answer_of_rules (Breaks rule address left right) = refused (certificate_refused rule address left right)
answer_of_rules Memory = no_memory
