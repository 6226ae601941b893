use Rattle.std.proofs.Common.{◌≡◌, ◌∙◌, ◌∷◌, [], map, refl, rules}
use Rattle.std.specs.Prelude.{Err}
use Rattle.job_files.specs.Answers.{answer_of}
use Rattle.job_files.specs.Reads.{most_board, most_image, most_input, wanted}
use Rattle.job_files.proofs.Gathering.{gathered_none}
use Rattle.job_files.proofs.InOrder.{after, all_had, not_counted, not_had, rest_not_counted, rest_not_had}
use Rattle.run_job.specs.InCode.{run_named}
use Rattle.run_job.specs.Run.{run_files}
use Rattle.run_job.proofs.FilesInOrder.{from_board, from_input, of_supplies}
use Rattle.run_job.proofs.run_texts.texts_of.Goals as goal

pub returns-in_err-image-clause-told : goal.returns-in_err-image-clause-told
returns-in_err-image-clause-told g c =
    let o = g.S.Store.files c.args.store.now in
    let job = run_named c.args.job.now in
    let e : c.from_residual.result ≡ Err c.in_err-image.field-0.0 = search rules in
    rw e (not_had o (run_files job) o (from_board job) (wanted most_image job.image) [] (answer_of c.in_err-image.field-0.0) refl (gathered_none o (run_files job)) c.in_err-image.ensures.told)

pub returns-in_err-image-clause-counts : goal.returns-in_err-image-clause-counts
returns-in_err-image-clause-counts g c =
    let o = g.S.Store.files c.args.store.now in
    let job = run_named c.args.job.now in
    let e : c.from_residual.result ≡ Err c.in_err-image.field-0.0 = search rules in
    rw e (not_counted o (run_files job) (from_board job) (wanted most_image job.image) [] _ _ _ _ (answer_of c.in_err-image.field-0.0) refl (gathered_none o (run_files job)) c.in_err-image.ensures.counts)

pub returns-in_err-board-clause-told : goal.returns-in_err-board-clause-told
returns-in_err-board-clause-told g c =
    let o = g.S.Store.files c.args.store.now in
    let job = run_named c.args.job.now in
    let one = after o (run_files job) o (from_board job) (wanted most_image job.image) c.in_ok-image.image.items [] refl (gathered_none o (run_files job)) c.in_ok-image.ensures.told in
    let e : c.from_residual-in_err-board.result ≡ Err c.in_err-board.field-0.0 = search rules in
    rw e (not_had o (run_files job) _ (from_input job) (wanted most_board job.board) (c.in_ok-image.image.items ∷ []) (answer_of c.in_err-board.field-0.0) c.in_ok-image.ensures.files one c.in_err-board.ensures.told)

pub returns-in_err-board-clause-counts : goal.returns-in_err-board-clause-counts
returns-in_err-board-clause-counts g c =
    let o = g.S.Store.files c.args.store.now in
    let job = run_named c.args.job.now in
    let one = after o (run_files job) o (from_board job) (wanted most_image job.image) c.in_ok-image.image.items [] refl (gathered_none o (run_files job)) c.in_ok-image.ensures.told in
    let e : c.from_residual-in_err-board.result ≡ Err c.in_err-board.field-0.0 = search rules in
    rw e (not_counted o (run_files job) (from_input job) (wanted most_board job.board) (c.in_ok-image.image.items ∷ []) _ _ _ _ (answer_of c.in_err-board.field-0.0) c.in_ok-image.ensures.counts one c.in_err-board.ensures.counts)

pub returns-in_err-input-clause-told : goal.returns-in_err-input-clause-told
returns-in_err-input-clause-told g c =
    let o = g.S.Store.files c.args.store.now in
    let job = run_named c.args.job.now in
    let one = after o (run_files job) o (from_board job) (wanted most_image job.image) c.in_ok-image.image.items [] refl (gathered_none o (run_files job)) c.in_ok-image.ensures.told in
    let two = after o (run_files job) _ (from_input job) (wanted most_board job.board) c.in_ok-board.board.items (c.in_ok-image.image.items ∷ []) c.in_ok-image.ensures.files one c.in_ok-board.ensures.told in
    let e : c.from_residual-in_err-input.result ≡ Err c.in_err-input.field-0.0 = search rules in
    rw e (not_had o (run_files job) _ (of_supplies job) (wanted most_input job.input) (c.in_ok-image.image.items ∷ c.in_ok-board.board.items ∷ []) (answer_of c.in_err-input.field-0.0) (c.in_ok-board.ensures.files ∙ c.in_ok-image.ensures.files) two c.in_err-input.ensures.told)

pub returns-in_err-input-clause-counts : goal.returns-in_err-input-clause-counts
returns-in_err-input-clause-counts g c =
    let o = g.S.Store.files c.args.store.now in
    let job = run_named c.args.job.now in
    let one = after o (run_files job) o (from_board job) (wanted most_image job.image) c.in_ok-image.image.items [] refl (gathered_none o (run_files job)) c.in_ok-image.ensures.told in
    let two = after o (run_files job) _ (from_input job) (wanted most_board job.board) c.in_ok-board.board.items (c.in_ok-image.image.items ∷ []) c.in_ok-image.ensures.files one c.in_ok-board.ensures.told in
    let e : c.from_residual-in_err-input.result ≡ Err c.in_err-input.field-0.0 = search rules in
    rw e (not_counted o (run_files job) (of_supplies job) (wanted most_input job.input) (c.in_ok-image.image.items ∷ c.in_ok-board.board.items ∷ []) _ _ _ _ (answer_of c.in_err-input.field-0.0) (c.in_ok-board.ensures.counts ∙ c.in_ok-image.ensures.counts) two c.in_err-input.ensures.counts)

pub returns-in_err-supplies-clause-told : goal.returns-in_err-supplies-clause-told
returns-in_err-supplies-clause-told g c =
    let o = g.S.Store.files c.args.store.now in
    let job = run_named c.args.job.now in
    let one = after o (run_files job) o (from_board job) (wanted most_image job.image) c.in_ok-image.image.items [] refl (gathered_none o (run_files job)) c.in_ok-image.ensures.told in
    let two = after o (run_files job) _ (from_input job) (wanted most_board job.board) c.in_ok-board.board.items (c.in_ok-image.image.items ∷ []) c.in_ok-image.ensures.files one c.in_ok-board.ensures.told in
    let three = after o (run_files job) _ (of_supplies job) (wanted most_input job.input) c.in_ok-input.input.items (c.in_ok-image.image.items ∷ c.in_ok-board.board.items ∷ []) (c.in_ok-board.ensures.files ∙ c.in_ok-image.ensures.files) two c.in_ok-input.ensures.told in
    let e : c.from_residual-in_err-supplies.result ≡ Err c.in_err-supplies.field-0.0 = search rules in
    rw e (rest_not_had o (run_files job) _ (of_supplies job) (c.in_ok-image.image.items ∷ c.in_ok-board.board.items ∷ c.in_ok-input.input.items ∷ []) (answer_of c.in_err-supplies.field-0.0) (c.in_ok-input.ensures.files ∙ c.in_ok-board.ensures.files ∙ c.in_ok-image.ensures.files) three c.in_err-supplies.ensures.told)

pub returns-in_err-supplies-clause-counts : goal.returns-in_err-supplies-clause-counts
returns-in_err-supplies-clause-counts g c =
    let o = g.S.Store.files c.args.store.now in
    let job = run_named c.args.job.now in
    let one = after o (run_files job) o (from_board job) (wanted most_image job.image) c.in_ok-image.image.items [] refl (gathered_none o (run_files job)) c.in_ok-image.ensures.told in
    let two = after o (run_files job) _ (from_input job) (wanted most_board job.board) c.in_ok-board.board.items (c.in_ok-image.image.items ∷ []) c.in_ok-image.ensures.files one c.in_ok-board.ensures.told in
    let three = after o (run_files job) _ (of_supplies job) (wanted most_input job.input) c.in_ok-input.input.items (c.in_ok-image.image.items ∷ c.in_ok-board.board.items ∷ []) (c.in_ok-board.ensures.files ∙ c.in_ok-image.ensures.files) two c.in_ok-input.ensures.told in
    let e : c.from_residual-in_err-supplies.result ≡ Err c.in_err-supplies.field-0.0 = search rules in
    rw e (rest_not_counted o (run_files job) (of_supplies job) (c.in_ok-image.image.items ∷ c.in_ok-board.board.items ∷ c.in_ok-input.input.items ∷ []) _ _ _ _ (answer_of c.in_err-supplies.field-0.0) (c.in_ok-input.ensures.counts ∙ c.in_ok-board.ensures.counts ∙ c.in_ok-image.ensures.counts) three c.in_err-supplies.ensures.counts)

pub returns-clause-told : goal.returns-clause-told
returns-clause-told g c =
    let o = g.S.Store.files c.args.store.now in
    let job = run_named c.args.job.now in
    let one = after o (run_files job) o (from_board job) (wanted most_image job.image) c.in_ok-image.image.items [] refl (gathered_none o (run_files job)) c.in_ok-image.ensures.told in
    let two = after o (run_files job) _ (from_input job) (wanted most_board job.board) c.in_ok-board.board.items (c.in_ok-image.image.items ∷ []) c.in_ok-image.ensures.files one c.in_ok-board.ensures.told in
    let three = after o (run_files job) _ (of_supplies job) (wanted most_input job.input) c.in_ok-input.input.items (c.in_ok-image.image.items ∷ c.in_ok-board.board.items ∷ []) (c.in_ok-board.ensures.files ∙ c.in_ok-image.ensures.files) two c.in_ok-input.ensures.told in
    all_had o (run_files job) _ (of_supplies job) (c.in_ok-image.image.items ∷ c.in_ok-board.board.items ∷ c.in_ok-input.input.items ∷ []) (map (λ v. v.items) c.in_ok-supplies.supplies.items) (c.in_ok-input.ensures.files ∙ c.in_ok-board.ensures.files ∙ c.in_ok-image.ensures.files) three c.in_ok-supplies.ensures.told
