use Rattle.std.proofs.Common.{subst, sym}
use Rattle.cert_state.specs.Views.{AllKept}
use Rattle.cert_state.proofs.Stores.{kept_of}
use Rattle.cert_state.proofs.state.known_at.Goals as goal

pub values_at-requires : goal.values_at-requires
values_at-requires c = subst AllKept (sym c.as_slice-2.ensures.value) (kept_of 0 c.args.p.now.facts.items c.requires.facts)
