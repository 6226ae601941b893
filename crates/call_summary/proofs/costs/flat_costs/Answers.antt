use Rattle.call_summary.proofs.Paying.{are_numbers, are_paid, made_flat, runs_cost_no_more}
use Rattle.call_summary.proofs.costs.flat_costs.Goals as goal

pub returns-clause-flats : goal.returns-clause-flats
returns-clause-flats c = made_flat c.args.b.now c.args.g.now c.in_ok-made.made.items c.requires.rules c.in_ok-made.ensures

pub returns-clause-paid : goal.returns-clause-paid
returns-clause-paid c = are_paid c.args.b.now c.args.g.now c.in_ok-made.made.items (made_flat c.args.b.now c.args.g.now c.in_ok-made.made.items c.requires.rules c.in_ok-made.ensures)

pub returns-clause-numbers : goal.returns-clause-numbers
returns-clause-numbers c = are_numbers c.args.b.now c.args.g.now c.in_ok-made.made.items (made_flat c.args.b.now c.args.g.now c.in_ok-made.made.items c.requires.rules c.in_ok-made.ensures)

pub returns-clause-runs : goal.returns-clause-runs
returns-clause-runs c = runs_cost_no_more c.args.b.now c.args.g.now c.in_ok-made.made.items c.requires.rules (made_flat c.args.b.now c.args.g.now c.in_ok-made.made.items c.requires.rules c.in_ok-made.ensures)
