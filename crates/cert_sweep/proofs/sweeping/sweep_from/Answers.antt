use Rattle.std.proofs.Common.{None, arith}
use Rattle.std.specs.Option.{option_map}
use Rattle.cert_rules.specs.Sweep.{end}
use Rattle.cert_state.specs.Views.{known_of}
use Rattle.cert_sweep.proofs.sweeping.sweep_from.Goals as goal

pub returns : goal.returns
returns c = c.loop-a.invariant.goes None (end c.loop-a.a (option_map known_of c.loop-a.incoming) (omega arith))
