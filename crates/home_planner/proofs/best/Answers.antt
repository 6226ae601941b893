use Rattle.std.proofs.lemmas.List.Sorted.{IsNonDecreasingBy-from_sort}
use Rattle.home_planner.proofs.Bridge.{best_ascends, best_cost, best_least, best_of_gains, best_words}
use Rattle.home_planner.proofs.best.Goals as goal

pub returns-clause-fits : goal.returns-clause-fits
returns-clause-fits c =
    best_words c.args.gains.now c.args.room c.in_ok-homes.field-0.cost c.in_ok-homes.field-0.homes.items c.sort_homes.new.homes.items c.requires.differ c.in_ok-homes.ensures c.sort_homes.ensures.permutation

pub returns-clause-cost : goal.returns-clause-cost
returns-clause-cost c =
    best_cost c.args.gains.now c.args.room c.in_ok-homes.field-0.cost c.in_ok-homes.field-0.homes.items c.sort_homes.new.homes.items c.requires.differ c.in_ok-homes.ensures c.sort_homes.ensures.permutation

pub returns-clause-least : goal.returns-clause-least
returns-clause-least c = best_least c.args.gains.now c.args.room c.in_ok-homes.field-0.cost c.in_ok-homes.field-0.homes.items c.in_ok-homes.ensures

pub returns-clause-of_gains : goal.returns-clause-of_gains
returns-clause-of_gains c =
    best_of_gains c.args.gains.now c.args.room c.in_ok-homes.field-0.cost c.in_ok-homes.field-0.homes.items c.sort_homes.new.homes.items c.in_ok-homes.ensures c.sort_homes.ensures.permutation

pub returns-clause-ascending : goal.returns-clause-ascending
returns-clause-ascending c =
    best_ascends c.args.gains.now c.args.room c.in_ok-homes.field-0.cost c.in_ok-homes.field-0.homes.items c.sort_homes.new.homes.items c.requires.differ c.in_ok-homes.ensures c.sort_homes.ensures.permutation
    (IsNonDecreasingBy-from_sort (λ x. x) c.sort_homes.new.homes.items c.sort_homes.ensures.sorted)
