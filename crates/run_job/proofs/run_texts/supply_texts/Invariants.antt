use Rattle.std.proofs.Common.{◌≡◌, ◌+◌, length, map}
use Rattle.job_files.proofs.Gathering.{IsGathered, gathered}
use Rattle.run_job.specs.Opening.{AreShort, supplies_wanted}
use Rattle.run_job.proofs.run_texts.supply_texts.Given as goal

-- the texts so far are those of the first names
abbrev pub invariant-loop-rest : goal.invariant-loop-rest
invariant-loop-rest g l = record {
  gathered : IsGathered (g.S.Store.files l.fn.store) (supplies_wanted (map (λ n. n.now) l.fn.names)) (supplies_wanted (map (λ n. n.now) l.rest)) (map (λ v. v.items) l.texts.items);
  short : AreShort (map (λ v. v.items) l.texts.items);
  number : length l.texts.items + length l.rest ≡ length l.fn.names;
  files : g.S.Store.files l.store ≡ g.S.Store.files l.fn.store;
  writes : g.S.Store.write_faults l.store ≡ g.S.Store.write_faults l.fn.store;
  reads : g.S.Store.read_faults l.store ≡ g.S.Store.read_faults l.fn.store;
}

abbrev pub decreases-loop-rest : goal.decreases-loop-rest
decreases-loop-rest g l = length l.rest
