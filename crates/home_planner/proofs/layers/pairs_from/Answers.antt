use Rattle.std.proofs.Common.{◌^◌, rules}
use Rattle.home_planner.proofs.Extending.{costs_from, frontier_from}
use Rattle.home_planner.proofs.layers.pairs_from.Goals as goal

pub extended-requires-clause-small : goal.extended-requires-clause-small
extended-requires-clause-small c =
    costs_from c.args.gains.now c.args.at c.args.room (2 ^ 63) (record { object = 0; words = 0; fram = 0; sram = 0 }) c.args.pairs.now c.requires.at c.requires.behind c.requires.costs

pub returns : goal.returns
returns c = search (rules, frontier_from c.args.gains.now c.args.at c.args.room (record { object = 0; words = 0; fram = 0; sram = 0 }) c.args.pairs.now)
