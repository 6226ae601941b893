use Rattle.std.proofs.Common.{◌+◌, ℕ, subst, arith}
use Rattle.home_planner.specs.declared.Gain.{Gain}
use Rattle.home_planner.specs.Choices.{IsLowestChoice}
use Rattle.home_planner.proofs.Lowest.{costs_at, lowest_at, lowest_end}
use Rattle.home_planner.proofs.lesser.sum_of_lesser.Goals as goal

none : Gain
none = record { object = 0; words = 0; fram = 0; sram = 0 }

pub overflow_add-cost : goal.overflow_add-cost
unfolding none
overflow_add-cost c = omega (arith, c.requires, c.loop-left.invariant.costs, costs_at c.loop-left.left.now none c.lesser-least.result c.in-len1-up.len_at_least c.lesser-least.ensures)

pub loop-left-preserved : goal.loop-left-preserved
unfolding none
loop-left-preserved c =
    let left = c.loop-left.left.now in
    let least = c.lesser-least.result in
    record {
      lowest = λ cost below.
          subst (λ (n : ℕ). IsLowestChoice c.args.gains.now c.args.room n) (omega arith)
          (c.loop-left.invariant.lowest (least.cost + cost) (lowest_at left none least c.loop-left.free cost c.in-len1-up.len_at_least c.lesser-least.ensures c.if-least-free.false below));
      costs = omega (arith, c.loop-left.invariant.costs, costs_at left none least c.in-len1-up.len_at_least c.lesser-least.ensures);
    }

pub returns : goal.returns
returns c = lowest_end c.args.gains.now c.loop-left.left.now c.args.room c.loop-left.free c.loop-left.cost c.in_default.len_below c.loop-left.invariant.lowest
