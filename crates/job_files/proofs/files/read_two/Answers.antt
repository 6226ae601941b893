use Rattle.std.proofs.Common.{◌≡◌, ◌∷◌, [], refl, rules}
use Rattle.std.specs.Prelude.{Err}
use Rattle.job_files.specs.Answers.{answer_of}
use Rattle.job_files.specs.Reads.{two_wanted, wanted}
use Rattle.job_files.proofs.Gathering.{gathered, gathered_none}
use Rattle.job_files.proofs.InOrder.{after, not_counted, not_had}
use Rattle.job_files.proofs.files.read_two.Goals as goal

pub returns-in_err-first-clause-told : goal.returns-in_err-first-clause-told
returns-in_err-first-clause-told g c =
    let o = g.S.Store.files c.args.store.now in
    let ws = two_wanted c.args.most c.args.name.now c.args.other_most c.args.other.now in
    let behind = wanted c.args.other_most c.args.other.now ∷ [] in
    let e : c.from_residual.result ≡ Err c.in_err-first.field-0.0 = search rules in
    rw e (not_had o ws o behind (wanted c.args.most c.args.name.now) [] (answer_of c.in_err-first.field-0.0) refl (gathered_none o ws) c.in_err-first.ensures.told)

pub returns-in_err-first-clause-counts : goal.returns-in_err-first-clause-counts
returns-in_err-first-clause-counts g c =
    let o = g.S.Store.files c.args.store.now in
    let ws = two_wanted c.args.most c.args.name.now c.args.other_most c.args.other.now in
    let behind = wanted c.args.other_most c.args.other.now ∷ [] in
    let e : c.from_residual.result ≡ Err c.in_err-first.field-0.0 = search rules in
    rw e (not_counted o ws behind (wanted c.args.most c.args.name.now) [] _ _ _ _ (answer_of c.in_err-first.field-0.0) refl (gathered_none o ws) c.in_err-first.ensures.counts)

pub returns-in_err-second-clause-told : goal.returns-in_err-second-clause-told
returns-in_err-second-clause-told g c =
    let o = g.S.Store.files c.args.store.now in
    let ws = two_wanted c.args.most c.args.name.now c.args.other_most c.args.other.now in
    let behind = wanted c.args.other_most c.args.other.now ∷ [] in
    let one = after o ws o behind (wanted c.args.most c.args.name.now) c.in_ok-first.first.items [] refl (gathered_none o ws) c.in_ok-first.ensures.told in
    let e : c.from_residual-in_err-second.result ≡ Err c.in_err-second.field-0.0 = search rules in
    rw e (not_had o ws _ [] (wanted c.args.other_most c.args.other.now) (c.in_ok-first.first.items ∷ []) (answer_of c.in_err-second.field-0.0) c.in_ok-first.ensures.files one c.in_err-second.ensures.told)

pub returns-in_err-second-clause-counts : goal.returns-in_err-second-clause-counts
returns-in_err-second-clause-counts g c =
    let o = g.S.Store.files c.args.store.now in
    let ws = two_wanted c.args.most c.args.name.now c.args.other_most c.args.other.now in
    let behind = wanted c.args.other_most c.args.other.now ∷ [] in
    let one = after o ws o behind (wanted c.args.most c.args.name.now) c.in_ok-first.first.items [] refl (gathered_none o ws) c.in_ok-first.ensures.told in
    let e : c.from_residual-in_err-second.result ≡ Err c.in_err-second.field-0.0 = search rules in
    rw e (not_counted o ws [] (wanted c.args.other_most c.args.other.now) (c.in_ok-first.first.items ∷ []) _ _ _ _ (answer_of c.in_err-second.field-0.0) c.in_ok-first.ensures.counts one c.in_err-second.ensures.counts)

pub returns-clause-told : goal.returns-clause-told
returns-clause-told g c =
    let o = g.S.Store.files c.args.store.now in
    let ws = two_wanted c.args.most c.args.name.now c.args.other_most c.args.other.now in
    let behind = wanted c.args.other_most c.args.other.now ∷ [] in
    let one = after o ws o behind (wanted c.args.most c.args.name.now) c.in_ok-first.first.items [] refl (gathered_none o ws) c.in_ok-first.ensures.told in
    let two = after o ws _ [] (wanted c.args.other_most c.args.other.now) c.in_ok-second.second.items (c.in_ok-first.first.items ∷ []) c.in_ok-first.ensures.files one c.in_ok-second.ensures.told in
    gathered o ws _ two
