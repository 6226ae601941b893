use Rattle.cert_state.specs.Views.{known_of, ranged, reach_of}
use Rattle.cert_sweep.specs.Views.{copy_shown}
use Rattle.cert_sweep.proofs.Chains.{copied_by}
use Rattle.cert_sweep.proofs.copies.copied.Goals as goal

pub returns : goal.returns
returns c =
    copied_by c.args.b.now (copy_shown c.args.c) (known_of c.args.s.now) (known_of c.pay.new.self) (known_of c.settle.new.self) (known_of c.give.new.self) (known_of c.forget.new.self) (known_of c.freshen.new.self)
    c.copy_cost.result (ranged c.just.result) (reach_of c.reach_from-to.result) c.copy_cost.ensures c.reach_from-to.ensures c.just.ensures
    c.in_ok-pay.ensures c.in_ok-settle.ensures c.in_ok-give.ensures c.in_ok-forget.ensures c.in_ok-freshen.ensures
