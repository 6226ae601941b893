use Rattle.std.proofs.Common.{◌≡◌, ◌∙◌, ◌∷◌, [], refl, rules}
use Rattle.std.specs.Prelude.{Err}
use Rattle.job_files.specs.Answers.{answer_of}
use Rattle.job_files.specs.Reads.{most_board, most_certificate, most_image, wanted}
use Rattle.job_files.proofs.Gathering.{gathered, gathered_none}
use Rattle.job_files.proofs.InOrder.{after, not_counted, not_had}
use Rattle.check_job.specs.Check.{check_files}
use Rattle.check_job.specs.InCode.{check_named}
use Rattle.check_job.proofs.check_texts.texts_of.Goals as goal

pub returns-in_err-image-clause-told : goal.returns-in_err-image-clause-told
returns-in_err-image-clause-told g c =
    let o = g.S.Store.files c.args.store.now in
    let job = check_named c.args.job.now in
    let behind = wanted most_certificate job.certificate ∷ wanted most_board job.board ∷ [] in
    let e : c.from_residual.result ≡ Err c.in_err-image.field-0.0 = search rules in
    rw e (not_had o (check_files job) o behind (wanted most_image job.image) [] (answer_of c.in_err-image.field-0.0) refl (gathered_none o (check_files job)) c.in_err-image.ensures.told)

pub returns-in_err-image-clause-counts : goal.returns-in_err-image-clause-counts
returns-in_err-image-clause-counts g c =
    let o = g.S.Store.files c.args.store.now in
    let job = check_named c.args.job.now in
    let behind = wanted most_certificate job.certificate ∷ wanted most_board job.board ∷ [] in
    let e : c.from_residual.result ≡ Err c.in_err-image.field-0.0 = search rules in
    rw e (not_counted o (check_files job) behind (wanted most_image job.image) [] _ _ _ _ (answer_of c.in_err-image.field-0.0) refl (gathered_none o (check_files job)) c.in_err-image.ensures.counts)

pub returns-in_err-certificate-clause-told : goal.returns-in_err-certificate-clause-told
returns-in_err-certificate-clause-told g c =
    let o = g.S.Store.files c.args.store.now in
    let job = check_named c.args.job.now in
    let last = wanted most_board job.board ∷ [] in
    let one = after o (check_files job) o (wanted most_certificate job.certificate ∷ last) (wanted most_image job.image) c.in_ok-image.image.items [] refl (gathered_none o (check_files job)) c.in_ok-image.ensures.told in
    let e : c.from_residual-in_err-certificate.result ≡ Err c.in_err-certificate.field-0.0 = search rules in
    rw e (not_had o (check_files job) _ last (wanted most_certificate job.certificate) (c.in_ok-image.image.items ∷ []) (answer_of c.in_err-certificate.field-0.0) c.in_ok-image.ensures.files one c.in_err-certificate.ensures.told)

pub returns-in_err-certificate-clause-counts : goal.returns-in_err-certificate-clause-counts
returns-in_err-certificate-clause-counts g c =
    let o = g.S.Store.files c.args.store.now in
    let job = check_named c.args.job.now in
    let last = wanted most_board job.board ∷ [] in
    let one = after o (check_files job) o (wanted most_certificate job.certificate ∷ last) (wanted most_image job.image) c.in_ok-image.image.items [] refl (gathered_none o (check_files job)) c.in_ok-image.ensures.told in
    let e : c.from_residual-in_err-certificate.result ≡ Err c.in_err-certificate.field-0.0 = search rules in
    rw e (not_counted o (check_files job) last (wanted most_certificate job.certificate) (c.in_ok-image.image.items ∷ []) _ _ _ _ (answer_of c.in_err-certificate.field-0.0) c.in_ok-image.ensures.counts one c.in_err-certificate.ensures.counts)

pub returns-in_err-board-clause-told : goal.returns-in_err-board-clause-told
returns-in_err-board-clause-told g c =
    let o = g.S.Store.files c.args.store.now in
    let job = check_named c.args.job.now in
    let last = wanted most_board job.board ∷ [] in
    let one = after o (check_files job) o (wanted most_certificate job.certificate ∷ last) (wanted most_image job.image) c.in_ok-image.image.items [] refl (gathered_none o (check_files job)) c.in_ok-image.ensures.told in
    let two = after o (check_files job) _ last (wanted most_certificate job.certificate) c.in_ok-certificate.certificate.items (c.in_ok-image.image.items ∷ []) c.in_ok-image.ensures.files one c.in_ok-certificate.ensures.told in
    let e : c.from_residual-in_err-board.result ≡ Err c.in_err-board.field-0.0 = search rules in
    rw e (not_had o (check_files job) _ [] (wanted most_board job.board) (c.in_ok-image.image.items ∷ c.in_ok-certificate.certificate.items ∷ []) (answer_of c.in_err-board.field-0.0) (c.in_ok-certificate.ensures.files ∙ c.in_ok-image.ensures.files) two c.in_err-board.ensures.told)

pub returns-in_err-board-clause-counts : goal.returns-in_err-board-clause-counts
returns-in_err-board-clause-counts g c =
    let o = g.S.Store.files c.args.store.now in
    let job = check_named c.args.job.now in
    let last = wanted most_board job.board ∷ [] in
    let one = after o (check_files job) o (wanted most_certificate job.certificate ∷ last) (wanted most_image job.image) c.in_ok-image.image.items [] refl (gathered_none o (check_files job)) c.in_ok-image.ensures.told in
    let two = after o (check_files job) _ last (wanted most_certificate job.certificate) c.in_ok-certificate.certificate.items (c.in_ok-image.image.items ∷ []) c.in_ok-image.ensures.files one c.in_ok-certificate.ensures.told in
    let e : c.from_residual-in_err-board.result ≡ Err c.in_err-board.field-0.0 = search rules in
    rw e (not_counted o (check_files job) [] (wanted most_board job.board) (c.in_ok-image.image.items ∷ c.in_ok-certificate.certificate.items ∷ []) _ _ _ _ (answer_of c.in_err-board.field-0.0) (c.in_ok-certificate.ensures.counts ∙ c.in_ok-image.ensures.counts) two c.in_err-board.ensures.counts)

pub returns-clause-told : goal.returns-clause-told
returns-clause-told g c =
    let o = g.S.Store.files c.args.store.now in
    let job = check_named c.args.job.now in
    let last = wanted most_board job.board ∷ [] in
    let one = after o (check_files job) o (wanted most_certificate job.certificate ∷ last) (wanted most_image job.image) c.in_ok-image.image.items [] refl (gathered_none o (check_files job)) c.in_ok-image.ensures.told in
    let two = after o (check_files job) _ last (wanted most_certificate job.certificate) c.in_ok-certificate.certificate.items (c.in_ok-image.image.items ∷ []) c.in_ok-image.ensures.files one c.in_ok-certificate.ensures.told in
    let three = after o (check_files job) _ [] (wanted most_board job.board) c.in_ok-board.board.items (c.in_ok-image.image.items ∷ c.in_ok-certificate.certificate.items ∷ []) (c.in_ok-certificate.ensures.files ∙ c.in_ok-image.ensures.files) two c.in_ok-board.ensures.told in
    gathered o (check_files job) _ three
