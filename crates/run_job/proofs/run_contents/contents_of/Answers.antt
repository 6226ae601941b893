use Rattle.std.proofs.Common.{◌≡◌, ap, map, rules, subst}
use Rattle.std.specs.Prelude.{Err}
use Rattle.job_parts.specs.Input.{SpellsInput}
use Rattle.ti_txt.specs.Bytes.{blocks_of}
use Rattle.ti_txt.specs.Grammar.{Holds}
use Rattle.job_files.specs.Answers.{answer_of}
use Rattle.job_files.specs.Boards.{IsBoardWith}
use Rattle.run_job.specs.InCode.{run_named, texts_seen}
use Rattle.run_job.specs.Running.{SpellEach}
use Rattle.run_job.proofs.RefusedTexts.{board_refuses, image_refuses, input_refuses, rows_refuse}
use Rattle.run_job.proofs.run_contents.contents_of.Goals as goal

pub returns-in_err-image : goal.returns-in_err-image
returns-in_err-image c =
    let job = run_named c.args.job.now in
    let t = texts_seen c.args.texts.now in
    let e : c.from_residual.result ≡ Err c.in_err-image.field-0.0 = search rules in
    rw e (image_refuses job t c.deref.result.now (answer_of c.in_err-image.field-0.0) c.deref.ensures.value c.in_err-image.ensures)

pub returns-in_err-board : goal.returns-in_err-board
returns-in_err-board c =
    let job = run_named c.args.job.now in
    let t = texts_seen c.args.texts.now in
    let e : c.from_residual-in_err-board.result ≡ Err c.in_err-board.field-0.0 = search rules in
    rw e (board_refuses job t c.deref.result.now c.deref-2.result.now (answer_of c.in_err-board.field-0.0) c.deref.ensures.value c.deref-2.ensures.value (blocks_of c.in_ok-image.image) c.in_ok-image.ensures c.in_err-board.ensures)

pub returns-in_err-input : goal.returns-in_err-input
returns-in_err-input c =
    let job = run_named c.args.job.now in
    let t = texts_seen c.args.texts.now in
    let e : c.from_residual-in_err-input.result ≡ Err c.in_err-input.field-0.0 = search rules in
    rw e
    (input_refuses job t c.deref.result.now c.deref-2.result.now c.deref-3.result.now job.budget (answer_of c.in_err-input.field-0.0) c.deref.ensures.value c.deref-2.ensures.value c.deref-3.ensures.value
    (blocks_of c.in_ok-image.image) c.in_ok-board.board c.in_ok-image.ensures c.in_ok-board.ensures c.in_err-input.ensures)

pub returns-in_err-rows : goal.returns-in_err-rows
returns-in_err-rows c =
    let job = run_named c.args.job.now in
    let t = texts_seen c.args.texts.now in
    let e : c.from_residual-in_err-rows.result ≡ Err c.in_err-rows.field-0.0 = search rules in
    rw e
    (rows_refuse job t c.deref.result.now c.deref-2.result.now c.deref-3.result.now (map (λ v. v.items) c.deref-4.result.now) job.budget (answer_of c.in_err-rows.field-0.0) c.deref.ensures.value c.deref-2.ensures.value c.deref-3.ensures.value
    (ap (map (λ v. v.items)) c.deref-4.ensures.value)
    (blocks_of c.in_ok-image.image) c.in_ok-board.board c.in_ok-input.input.items c.in_ok-image.ensures c.in_ok-board.ensures c.in_ok-input.ensures c.in_err-rows.ensures)

pub returns : goal.returns
returns c = record {
  image = subst (λ x. Holds x (blocks_of c.in_ok-image.image)) c.deref.ensures.value c.in_ok-image.ensures;
  board = subst (λ x. IsBoardWith c.args.job.now.budget x c.in_ok-board.board) c.deref-2.ensures.value c.in_ok-board.ensures;
  input = subst (λ x. SpellsInput x c.in_ok-input.input.items) c.deref-3.ensures.value c.in_ok-input.ensures;
  rows = subst (λ x. SpellEach (map (λ v. v.items) x) (map (λ v. v.items) c.in_ok-rows.rows.items)) c.deref-4.ensures.value c.in_ok-rows.ensures;
}
