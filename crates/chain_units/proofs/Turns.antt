-- What the planner of loops promises of a weight, it promises of the loop that has it.
use Rattle.std.specs.Prelude.{Result, Ok, Err, IfOk, ◌↔◌}
use Rattle.std.proofs.Common.{◌≡◌, ◌<◌, ◌≤◌, ◌+◌, ◌*◌, ℕ, true, List, sym, ap, ◌∙◌, subst, arith}
use Rattle.std.specs.List.Sorted.{IsStrictlyIncreasing}
use Rattle.base_io.specs.declared.memory.Memory.{Memory}
use Rattle.home_planner.specs.Sets.{is_in}
use Rattle.loop_checkpoints.specs.declared.LoopObject.{LoopObject}
use Rattle.loop_checkpoints.specs.declared.LoopPlan.{LoopPlan}
use Rattle.loop_checkpoints.specs.declared.LoopPlan.TheVariants.{Every, Split}
use Rattle.loop_checkpoints.specs.declared.LoopWeight.{LoopWeight}
use Rattle.loop_checkpoints.specs.Loops as loops
use Rattle.loop_checkpoints.specs.Plans.{IsSplit, WhereEvery}
use Rattle.chain_units.specs.Costs.{Weighed, turns_cost, words_taken}
use Rattle.chain_units.specs.Planned.{IsGreatest, NoTurnFits}
use Rattle.chain_units.specs.Wanted.{IsWeightOf}

module _ (w : LoopWeight) (e : Weighed) (is : IsWeightOf w e) where
  same_words : (homes : List ℕ) → loops.words_of w.objects.items homes ≡ words_taken e homes
  same_words homes = ap (λ (os : List LoopObject). loops.words_of os homes) is.objects

  same_cost : (turns : ℕ) (homes : List ℕ) → loops.cost_of w turns homes ≡ turns_cost e turns homes
  same_cost turns homes =
      ap (λ (n : ℕ). (n + turns * w.base) + loops.objects_cost turns w.objects.items homes) is.fixed
      ∙ (ap (λ (n : ℕ). (e.fixed + turns * n) + loops.objects_cost turns w.objects.items homes) is.base ∙ ap (λ (os : List LoopObject). (e.fixed + turns * e.base) + loops.objects_cost turns os homes) is.objects)

  none_fits : (room budget : ℕ) → loops.NoneFits w room budget 1 → NoTurnFits e room budget
  none_fits room budget none homes words = omega (arith, none homes (omega (arith, same_words homes)), same_cost 1 homes)

  none_fits_back : (room budget : ℕ) → NoTurnFits e room budget → loops.NoneFits w room budget 1
  none_fits_back room budget none homes words = omega (arith, none homes (omega (arith, same_words homes)), same_cost 1 homes)

  pub split_is : (r : Result LoopPlan Memory) (room budget budget' : ℕ) → budget ≡ budget' → IfOk r (λ plan. IsSplit plan ↔ loops.NoneFits w room budget 1) → IfOk r (λ plan. IsSplit plan ↔ NoTurnFits e room budget')
  split_is (Err x) room budget budget' b split = tt
  split_is (Ok plan) room budget budget' b split =
      subst (λ (n : ℕ). IsSplit plan ↔ NoTurnFits e room n) b (λ h. none_fits room budget (split.0 h), λ h. split.1 (none_fits_back room budget h))

  -- the clauses of a plan with a checkpoint every so many turns
  pub record EveryClause (room budget turns : ℕ) (homes : List ℕ) (cost : ℕ) : Type 0 where
    pub range : (1 ≤ turns) × (turns ≤ 65535)
    pub greatest : (more : ℕ) → turns < more → more ≤ 65535 → loops.NoneFits w room budget more
    pub fits : loops.words_of w.objects.items homes ≤ room
    pub cost_is : loops.cost_of w turns homes ≡ cost
    pub within : cost ≤ budget
    pub least : loops.NoneBelow w room turns cost
    pub of_loop : (object : ℕ) → is_in homes object ≡ true → is_in (loops.objects w.objects.items) object ≡ true
    pub ascending : IsStrictlyIncreasing homes

  greatest_is : (room budget turns : ℕ) (homes : List ℕ) (cost : ℕ) → EveryClause room budget turns homes cost → IsGreatest e room budget turns homes cost
  greatest_is room budget turns homes cost v = record {
    some = v.range.0;
    most = v.range.1;
    in_room = omega (arith, v.fits, same_words homes);
    costs = sym (same_cost turns homes) ∙ v.cost_is;
    in_budget = v.within;
    no_less = λ others words. omega (arith, v.least others (omega (arith, words, same_words others)), same_cost turns others);
    none_above = λ more others lt most words. omega (arith, v.greatest more lt most others (omega (arith, words, same_words others)), same_cost more others);
    of_loop = λ object in_homes. subst (λ (os : List LoopObject). is_in (loops.objects os) object ≡ true) is.objects (v.of_loop object in_homes);
    ascending = v.ascending;
  }

  every_of : (plan : LoopPlan) (room budget : ℕ) → WhereEvery plan (λ turns homes cost. (1 ≤ turns) × (turns ≤ 65535))
      → WhereEvery plan (λ turns homes cost. (more : ℕ) → turns < more → more ≤ 65535 → loops.NoneFits w room budget more) → WhereEvery plan (λ turns homes cost. loops.words_of w.objects.items homes ≤ room)
      → WhereEvery plan (λ turns homes cost. loops.cost_of w turns homes ≡ cost) → WhereEvery plan (λ turns homes cost. cost ≤ budget) → WhereEvery plan (λ turns homes cost. loops.NoneBelow w room turns cost)
      → WhereEvery plan (λ turns homes cost. (object : ℕ) → is_in homes object ≡ true → is_in (loops.objects w.objects.items) object ≡ true) → WhereEvery plan (λ turns homes cost. IsStrictlyIncreasing homes)
      → WhereEvery plan (IsGreatest e room budget)
  every_of (Every turns homes cost) room budget a b c d f g h i =
      greatest_is room budget turns homes.items cost (record { range = a; greatest = b; fits = c; cost_is = d; within = f; least = g; of_loop = h; ascending = i })
  every_of Split room budget a b c d f g h i = tt

  pub every_is : (r : Result LoopPlan Memory) (room budget budget' : ℕ) → budget ≡ budget' → IfOk r (λ plan. WhereEvery plan (λ turns homes cost. (1 ≤ turns) × (turns ≤ 65535)))
      → IfOk r (λ plan. WhereEvery plan (λ turns homes cost. (more : ℕ) → turns < more → more ≤ 65535 → loops.NoneFits w room budget more)) → IfOk r (λ plan. WhereEvery plan (λ turns homes cost. loops.words_of w.objects.items homes ≤ room))
      → IfOk r (λ plan. WhereEvery plan (λ turns homes cost. loops.cost_of w turns homes ≡ cost)) → IfOk r (λ plan. WhereEvery plan (λ turns homes cost. cost ≤ budget)) → IfOk r (λ plan. WhereEvery plan (λ turns homes cost. loops.NoneBelow w room turns cost))
      → IfOk r (λ plan. WhereEvery plan (λ turns homes cost. (object : ℕ) → is_in homes object ≡ true → is_in (loops.objects w.objects.items) object ≡ true)) → IfOk r (λ plan. WhereEvery plan (λ turns homes cost. IsStrictlyIncreasing homes))
      → IfOk r (λ plan. WhereEvery plan (IsGreatest e room budget'))
  every_is (Err x) room budget budget' same a b c d f g h i = tt
  every_is (Ok plan) room budget budget' same a b c d f g h i = subst (λ (n : ℕ). WhereEvery plan (IsGreatest e room n)) same (every_of plan room budget a b c d f g h i)
