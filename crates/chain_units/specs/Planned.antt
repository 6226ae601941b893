-- What a plan of a graph promises: for each chain a plan of least cost, or the greatest number of turns.
use Rattle.std.specs.Prelude.{◌≡◌, ◌<◌, ◌≤◌, ◌+◌, ℕ, true, false, List, [], ◌∷◌, ◌++◌, length, take, drop}
use Rattle.std.specs.List.Sorted.{IsStrictlyIncreasing}
use Rattle.flow_graph.specs.declared.graph.Item.{Item, out-Item}
use Rattle.flow_graph.specs.declared.graph.Item.TheVariants as item
use Rattle.flow_graph.specs.declared.graph.Item.TheOpen.{Item-F}
use Rattle.flow_graph.specs.Nodes.{first_of, laid_items}
use Rattle.home_planner.specs.Sets.{is_in}
use Rattle.loop_checkpoints.specs.Loops as loops
use Rattle.chain_plans.specs.declared.Stretch.{Stretch}
use Rattle.chain_plans.specs.Plans.{IsBestPlan}
use Rattle.chain_plans.specs.Plans as plans
use Rattle.chain_units.specs.declared.plan.Chain.{Chain}
use Rattle.chain_units.specs.Known.{Known, Weighs, both, nothing, or_nothing}
use Rattle.chain_units.specs.declared.weighing.Behind.{Behind}
use Rattle.chain_units.specs.declared.weighing.Behind.TheVariants.{Before, After}
use Rattle.chain_units.specs.Wanted.{wanted}
use Rattle.chain_units.specs.Costs.{Weighed, one_turn_fits, touched_in_all, turns_cost, weighed, words_taken}
use Rattle.chain_units.specs.Marks.{End, Flat, ChainUnit, loop_weighed, turn_of}
use Rattle.chain_units.specs.Chains.{PlacedChain, Of, Plain, Turning}

-- ---- stretches of a plain chain

-- the items of a unit; one that ends the chain is its operation alone, whatever follows a call
abbrev pub unit_items : ChainUnit → List Item
unit_items (Flat xs n) = xs
unit_items (End x) = item.One x.op ∷ []

abbrev pub all_items : List ChainUnit → List Item
all_items [] = []
all_items (u ∷ us) = unit_items u ++ all_items us

abbrev pub unit_first : ChainUnit → ℕ
unit_first (Flat xs n) = first_of (laid_items xs) n
unit_first (End x) = x.op.number

-- the operation executed first, 0 where there is none
abbrev pub units_first : List ChainUnit → ℕ
units_first [] = 0
units_first (u ∷ us) = unit_first u

-- whose values are wanted behind a unit: those that are live before the operation that is executed next
abbrev pub unit_behind : ChainUnit → Behind
unit_behind (Flat xs n) = Before n
unit_behind (End x) = After x.op.number

abbrev pub units_behind : List ChainUnit → Behind
units_behind [] = Before 0
units_behind (u ∷ []) = unit_behind u
units_behind (u ∷ (v ∷ us)) = units_behind (v ∷ us)

-- the weights of units, one added to another
abbrev pub units_sum : Known → Weighs → List ChainUnit → Weighs
units_sum k w [] = w
units_sum k w (u ∷ us) = units_sum k (both w (or_nothing (k.weights (unit_items u)))) us

-- units between two heads: the head, the restores, the units and the saves
abbrev pub units_weighed : Known → List ChainUnit → Weighed
units_weighed k us =
    weighed k k.overhead 0 (touched_in_all k (all_items us)) (k.before (units_first us)) (wanted k (units_behind us)) (units_sum k nothing us)

abbrev pub stretch_weighed : Known → List ChainUnit → ℕ → ℕ → Weighed
stretch_weighed k us first items = units_weighed k (take items (drop first us))

abbrev pub chain_costs : Known → List ChainUnit → plans.Costs
chain_costs k us = record {
  objects = λ first items. loops.objects (stretch_weighed k us first items).objects;
  words = λ first items homes. words_taken (stretch_weighed k us first items) homes;
  cost = λ first items homes. turns_cost (stretch_weighed k us first items) 1 homes;
}

-- ---- conditional loops

abbrev pub turning_by : Known → Item-F Item → ℕ → Weighed
turning_by k (Item-F.Loop pre test post step back count) behind =
    let parts = turn_of pre test post step in
    loop_weighed k parts (first_of (laid_items pre) test.number) behind (or_nothing (k.weights parts))
turning_by k _ behind = record { fixed = 0; base = 0; objects = [] }

abbrev pub turning_weighed : Known → Item → ℕ → Weighed
turning_weighed k x behind = turning_by k (out-Item x) behind

-- The greatest number of turns that fit, with the least cost at it and a set of objects that costs so much.
pub record IsGreatest (w : Weighed) (room budget turns : ℕ) (homes : List ℕ) (cost : ℕ) : Type 0 where
  pub some : 1 ≤ turns
  pub most : turns ≤ 65535
  pub in_room : words_taken w homes ≤ room
  pub costs : turns_cost w turns homes ≡ cost
  pub in_budget : cost ≤ budget
  pub no_less : (others : List ℕ) → words_taken w others ≤ room → cost ≤ turns_cost w turns others
  pub none_above : (more : ℕ) (others : List ℕ) → turns < more → more ≤ 65535 → words_taken w others ≤ room → budget < turns_cost w more others
  pub of_loop : (object : ℕ) → is_in homes object ≡ true → is_in (loops.objects w.objects) object ≡ true
  pub ascending : IsStrictlyIncreasing homes

-- no set of objects lets one turn fit
abbrev pub NoTurnFits : Weighed → ℕ → ℕ → Type 0
NoTurnFits w room budget = (homes : List ℕ) → words_taken w homes ≤ room → budget < turns_cost w 1 homes

abbrev pub SomeTurnFits : Weighed → ℕ → ℕ → Type 0
SomeTurnFits w room budget = (homes : List ℕ) × (words_taken w homes ≤ room) × (turns_cost w 1 homes ≤ budget)

-- the test of a loop says whether some set of objects lets one turn fit
abbrev pub TestsOneTurn : Type 0
TestsOneTurn = (w : Weighed) (room budget : ℕ) → loops.Differ w.objects → (one_turn_fits w room budget ≡ true → SomeTurnFits w room budget) × (one_turn_fits w room budget ≡ false → NoTurnFits w room budget)

-- ---- a plan of a graph

pub record IsPlainPlan (k : Known) (us : List ChainUnit) (c : Chain) : Type 0 where
  pub first_op : c.first_op ≡ units_first us
  pub items : c.items ≡ length us
  pub turns : c.turns ≡ 0
  pub stretches : IsBestPlan (chain_costs k us) 1024 k.board.budget (length us) c.stretches.items

pub record IsTurningPlan (k : Known) (x : Item) (behind : ℕ) (c : Chain) : Type 0 where
  pub first_op : c.first_op ≡ first_of (laid_items (x ∷ [])) behind
  pub items : c.items ≡ 1
  pub stretch : Stretch
  pub one : c.stretches.items ≡ stretch ∷ []
  pub first_item : stretch.first_item ≡ 0
  pub stretch_items : stretch.items ≡ 1
  pub greatest : IsGreatest (turning_weighed k x behind) 1024 k.board.budget c.turns stretch.homes.items stretch.cost

abbrev pub IsPlanOf : Known → PlacedChain → Chain → Type 0
IsPlanOf k (Plain us) c = IsPlainPlan k us c
IsPlanOf k (Turning x behind) c = IsTurningPlan k x behind c

-- each chain has its number, its function and its plan
abbrev pub ArePlans : Known → ℕ → List Of → List Chain → Type 0
ArePlans k number [] [] = Unit {0}
ArePlans k number (o ∷ os) (c ∷ cs) = (c.number ≡ number) × (c.function ≡ o.function) × IsPlanOf k o.chain c × ArePlans k (number + 1) os cs
ArePlans k number _ _ = ⊥

-- behind the plans of some chains stand those of more
abbrev pub AddsPlans : Known → List Of → List Chain → List Chain → Type 0
AddsPlans k os old new = (before : List Of) → ArePlans k 1 before old → ArePlans k 1 (before ++ os) new
