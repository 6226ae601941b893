use Rattle.std.proofs.Common.{◌≡◌, ◌∙◌, map, rules}
use Rattle.std.specs.Prelude.{Err}
use Rattle.job_files.specs.Answers.{answer_of}
use Rattle.run_job.specs.Opening.{supplies_wanted}
use Rattle.run_job.proofs.SupplyNames.{names_all, names_counts, names_lost, names_more, one_more_number, texts_short}
use Rattle.run_job.proofs.run_texts.supply_texts.Goals as goal

pub returns-in_err-text-clause-told : goal.returns-in_err-text-clause-told
returns-in_err-text-clause-told g c =
    let e : c.from_residual.result ≡ Err c.in_err-text.field-0.0 = search rules in
    rw e
    (names_lost (λ n. n.now) (g.S.Store.files c.args.store.now) (supplies_wanted (map (λ n. n.now) c.args.names.now)) _ c.loop-rest.rest.now _ (map (λ v. v.items) c.loop-rest.texts.items)
    (answer_of c.in_err-text.field-0.0) c.loop-rest.invariant.files c.in-len1-up.len_at_least c.loop-rest.invariant.gathered c.in_err-text.ensures.told)

pub returns-in_err-text-clause-counts : goal.returns-in_err-text-clause-counts
returns-in_err-text-clause-counts g c =
    let e : c.from_residual.result ≡ Err c.in_err-text.field-0.0 = search rules in
    rw e
    (names_counts (λ n. n.now) (g.S.Store.files c.args.store.now) (supplies_wanted (map (λ n. n.now) c.args.names.now)) c.loop-rest.rest.now _ (map (λ v. v.items) c.loop-rest.texts.items) _ _ _ _
    (answer_of c.in_err-text.field-0.0) c.loop-rest.invariant.reads c.in-len1-up.len_at_least c.loop-rest.invariant.gathered c.in_err-text.ensures.counts)

pub loop-rest-preserved : goal.loop-rest-preserved
loop-rest-preserved g c = record {
  gathered =
      names_more (λ n. n.now) (g.S.Store.files c.args.store.now) (supplies_wanted (map (λ n. n.now) c.args.names.now)) (λ v. v.items) _ c.loop-rest.rest.now _
      c.loop-rest.texts.items c.add.new.all.items c.in_ok-text.text c.loop-rest.invariant.files c.in-len1-up.len_at_least c.in_ok-add.ensures.added c.loop-rest.invariant.gathered c.in_ok-text.ensures.told;
  short = texts_short (λ v. v.items) c.loop-rest.texts.items c.add.new.all.items c.in_ok-text.text c.in_ok-add.ensures.added c.loop-rest.invariant.short c.in_ok-text.ensures.within;
  number = one_more_number c.loop-rest.rest.now c.loop-rest.texts.items c.add.new.all.items c.in_ok-text.text _ c.in_ok-add.ensures.added c.in-len1-up.len_at_least c.loop-rest.invariant.number;
  files = c.in_ok-text.ensures.files ∙ c.loop-rest.invariant.files;
  writes = c.in_ok-text.ensures.writes ∙ c.loop-rest.invariant.writes;
  reads = c.in_ok-text.ensures.counts ∙ c.loop-rest.invariant.reads;
}

pub returns-clause-told : goal.returns-clause-told
returns-clause-told g c =
    names_all (λ n. n.now) (g.S.Store.files c.args.store.now) (supplies_wanted (map (λ n. n.now) c.args.names.now)) c.loop-rest.rest.now (map (λ v. v.items) c.loop-rest.texts.items)
    c.in_default.len_below c.loop-rest.invariant.gathered
