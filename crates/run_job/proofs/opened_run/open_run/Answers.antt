use Rattle.std.proofs.Common.{arith}
use Rattle.std.proofs.lemmas.List.{length-map}
use Rattle.std.proofs.lemmas.Result.{err_from_is_err_and}
use Rattle.run_job.specs.InCode.{held_in, run_named, texts_seen}
use Rattle.run_job.proofs.Boxes.{spell_number}
use Rattle.run_job.proofs.Opening.{may_run, refuses_text}
use Rattle.run_job.proofs.opened_run.open_run.Goals as goal

pub returns-in_err-contents : goal.returns-in_err-contents
returns-in_err-contents g c =
    let p = err_from_is_err_and c.from_residual-in_err-contents.result c.from_residual-in_err-contents.ensures.1 in
    rw (p.1, p.2) (refuses_text (run_named c.args.job.now) _ _ _ (texts_seen c.in_ok-texts.texts) _ c.texts_of.ensures.files c.texts_of.ensures.writes c.in_ok-texts.ensures.counts
    c.in_ok-texts.ensures.told c.in_err-contents.ensures)

pub loaded-requires : goal.loaded-requires
loaded-requires g c =
    let t = texts_seen c.in_ok-texts.texts in
    let held = held_in c.in_ok-contents.contents in
    let rows = spell_number t.supplies held.rows c.in_ok-contents.ensures.rows in
    let left = length-map c.in_ok-contents.contents.rows.items (λ v. v.items) in
    let right = length-map c.in_ok-texts.texts.supplies.items (λ v. v.items) in
    let names = length-map c.args.job.now.supplies.now (λ n. n.now) in
    let number = c.in_ok-texts.ensures.number in
    let enough = c.requires.boxes.has_box in
    omega (arith, rows, left, right, names, number, enough)

pub returns-in-Ok : goal.returns-in-Ok
returns-in-Ok g c =
    let right = length-map c.in_ok-texts.texts.supplies.items (λ v. v.items) in
    let names = length-map c.args.job.now.supplies.now (λ n. n.now) in
    let number = c.in_ok-texts.ensures.number in
    may_run (run_named c.args.job.now) _ _ _ _ (texts_seen c.in_ok-texts.texts) (held_in c.in_ok-contents.contents) c.in-Ok.opened c.texts_of.ensures.files c.texts_of.ensures.writes c.in_ok-texts.ensures.counts
    c.in_ok-texts.ensures.told (omega (arith, right, names, number)) c.in_ok-texts.ensures.short c.in_ok-contents.ensures
    c.in-Ok.ensures c.args.job.now.steps_range c.requires.boxes.few
