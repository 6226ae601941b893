use Rattle.std.proofs.Common.{◌≡◌, rules, subst}
use Rattle.std.specs.Prelude.{Err}
use Rattle.ti_txt.specs.Bytes.{blocks_of}
use Rattle.ti_txt.specs.Grammar.{Holds}
use Rattle.certificate.specs.Texts.{Holds as HoldsCertificate}
use Rattle.certificate.specs.Whole.{certificate_of}
use Rattle.job_files.specs.Answers.{answer_of}
use Rattle.job_files.specs.Boards.{IsBoardWith}
use Rattle.check_job.specs.InCode.{check_named, texts_seen}
use Rattle.check_job.proofs.RefusedTexts.{board_refuses, certificate_refuses, image_refuses}
use Rattle.check_job.proofs.check_contents.contents_of.Goals as goal

pub returns-in_err-image : goal.returns-in_err-image
returns-in_err-image c =
    let job = check_named c.args.job.now in
    let t = texts_seen c.args.texts.now in
    let e : c.from_residual.result ≡ Err c.in_err-image.field-0.0 = search rules in
    rw e (image_refuses job t c.deref.result.now (answer_of c.in_err-image.field-0.0) c.deref.ensures.value c.in_err-image.ensures)

pub returns-in_err-certificate : goal.returns-in_err-certificate
returns-in_err-certificate c =
    let job = check_named c.args.job.now in
    let t = texts_seen c.args.texts.now in
    let e : c.from_residual-in_err-certificate.result ≡ Err c.in_err-certificate.field-0.0 = search rules in
    rw e (certificate_refuses job t c.deref.result.now c.deref-2.result.now (answer_of c.in_err-certificate.field-0.0) c.deref.ensures.value c.deref-2.ensures.value (blocks_of c.in_ok-image.image) c.in_ok-image.ensures c.in_err-certificate.ensures)

pub returns-in_err-board : goal.returns-in_err-board
returns-in_err-board c =
    let job = check_named c.args.job.now in
    let t = texts_seen c.args.texts.now in
    let e : c.from_residual-in_err-board.result ≡ Err c.in_err-board.field-0.0 = search rules in
    rw e
    (board_refuses job t c.deref.result.now c.deref-2.result.now c.deref-3.result.now (answer_of c.in_err-board.field-0.0) c.deref.ensures.value c.deref-2.ensures.value c.deref-3.ensures.value
    (blocks_of c.in_ok-image.image) (certificate_of c.in_ok-certificate.certificate) c.in_ok-image.ensures c.in_ok-certificate.ensures c.in_err-board.ensures)

pub returns : goal.returns
returns c = record {
  image = subst (λ x. Holds x (blocks_of c.in_ok-image.image)) c.deref.ensures.value c.in_ok-image.ensures;
  certificate = subst (λ x. HoldsCertificate x (certificate_of c.in_ok-certificate.certificate)) c.deref-2.ensures.value c.in_ok-certificate.ensures;
  board = subst (λ x. IsBoardWith c.args.job.now.budget x c.in_ok-board.board) c.deref-3.ensures.value c.in_ok-board.ensures;
}
