use Rattle.std.proofs.Common.{length, ap, ◌∙◌}
use Rattle.board_weights.specs.OnBoard.{rule_on}
use Rattle.call_summary.proofs.Listing.{so_many_costs}
use Rattle.call_summary.proofs.telling.summaries.Goals as goal

pub with_costs-requires-clause-so_many : goal.with_costs-requires-clause-so_many
with_costs-requires-clause-so_many c = ap length c.as_slice-2.ensures.value ∙ so_many_costs (rule_on c.args.b.now (length c.args.g.now.objects)) c.args.g.now c.in_ok-costs.costs.items c.in_ok-costs.ensures.flats
