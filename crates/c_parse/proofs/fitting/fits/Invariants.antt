use Rattle.std.proofs.Common.{◌≤◌, ◌-◌, ◌++◌, length, map, drop, reverse}
use Rattle.c_parse.specs.Profile.{spelt}
use Rattle.c_parse.specs.Words.{words_of}
use Rattle.c_parse.proofs.Fronts.{Behind}
use Rattle.c_parse.proofs.fitting.fits.Given as goal

abbrev pub invariant-samples : goal.invariant-samples
invariant-samples l = record {
  read : Behind (words_of l.text l.before ++ map (λ s. spelt s.0 s.1.now) l.samples) (map (λ s. spelt s.0 s.1.now) (drop l.at l.samples)) (reverse l.machine.waits.stack.items) (reverse l.machine.builds.items);
  within : l.at ≤ length l.samples;
}

abbrev pub decreases-samples : goal.decreases-samples
decreases-samples l = length l.samples - l.at
