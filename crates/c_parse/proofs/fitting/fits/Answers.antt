use Rattle.std.proofs.Common.{◌<◌, ◌+◌, length, drop, sym, arith}
use Rattle.std.proofs.lemmas.Bool.{ltb-false}
use Rattle.c_parse.specs.Profile.{spelt}
use Rattle.c_parse.proofs.Fronts.{behind_start, behind_on, behind_stops, next_sample, samples_done, all_spelt}
use Rattle.c_parse.proofs.Stepping.{passed, halted}
use Rattle.c_parse.proofs.fitting.fits.Goals as goal

pub samples-init : goal.samples-init
samples-init c = record { read = behind_start _ _ _ _ c.in_ok-machine.ensures; within = omega arith }

pub samples-preserved : goal.samples-preserved
samples-preserved c =
    let within : c.samples.at < length c.args.samples.now = c.in-Some.ensures.lookup.3.0 in
    record {
      read = behind_on _ _ _ _ _ _ _ (next_sample (λ s. spelt s.0 s.1.now) _ c.args.samples.now c.samples.at c.in-Some.sample.now _ _ within c.in-Some.ensures.lookup.1 c.samples.invariant.read)
          (passed _ _ _ _ _ _ c.in-Ok-None.ensures c.in-Ok-None.field-0-is);
      within = omega arith;
    }

pub returns-in-Ok-Some : goal.returns-in-Ok-Some
returns-in-Ok-Some c =
    let within : c.samples.at < length c.args.samples.now = c.in-Some.ensures.lookup.3.0 in
    behind_stops _ _ _ _ _ (all_spelt (λ s. s.0) (λ s. s.1.now) (drop (c.samples.at + 1) c.args.samples.now))
    (next_sample (λ s. spelt s.0 s.1.now) _ c.args.samples.now c.samples.at c.in-Some.sample.now _ _ within c.in-Some.ensures.lookup.1 c.samples.invariant.read)
    (halted _ _ _ _ _ _ _ c.in-Ok-Some.ensures c.in-Ok-Some.field-0-is).0

pub returns : goal.returns
returns c = samples_done (λ s. spelt s.0 s.1.now) _ c.args.samples.now c.samples.at _ _ (ltb-false c.samples.at (length c.args.samples.now) (sym c.in_default.ensures.lookup.0)) c.samples.invariant.read
