use Rattle.chain_units.proofs.Closing.{on_ok}
use Rattle.chain_units.proofs.Loops.{where_met}
use Rattle.chain_units.proofs.placing.close_where.Goals as goal

pub returns-then-holds : goal.returns-then-holds
returns-then-holds c = on_ok c.close.result (λ closed k. where_met k c.args.placer.now c.close.new.placer closed c.args.holds c.if-holds.true) c.close.ensures
