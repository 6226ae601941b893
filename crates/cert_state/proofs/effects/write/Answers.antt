use Rattle.cert_state.specs.Spots.{slot_at}
use Rattle.cert_state.specs.Views.{known_of, place_of, ranged}
use Rattle.cert_state.proofs.Chains.{wrote}
use Rattle.cert_state.proofs.effects.write.Goals as goal

pub returns : goal.returns
returns c =
    wrote (known_of c.args.s.now) (known_of c.spend_after.new.s) (known_of c.give.new.self) c.args.op (place_of c.args.src) (slot_at c.args.w) (ranged c.range_after-range.result)
    c.in_ok-spend_after.ensures c.in_ok-give.ensures c.range_after-range.ensures
