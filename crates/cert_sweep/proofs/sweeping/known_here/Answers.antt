use Rattle.std.proofs.Common.{sym}
use Rattle.cert_sweep.proofs.sweeping.known_here.Goals as goal

pub known_at-requires : goal.known_at-requires
known_at-requires c = c.requires.points c.from.result _ (sym c.in-Some.ensures)
