-- The least cost of one turn is least over all sets in the room.
use Rattle.std.specs.Prelude.{if◌then◌else◌, map, min, nat_le}
use Rattle.std.specs.List.{IsDistinct}
use Rattle.std.proofs.Common.{◌≡◌, ◌==◌, ◌<◌, ◌≤◌, ◌+◌, ◌-◌, ◌*◌, ℕ, Bool, true, false, List, [], ◌∷◌, refl, sym, ap, subst, arith}
use Rattle.home_planner.specs.declared.Gain.{Gain}
use Rattle.home_planner.specs.Choices.{IsLeastChoice}
use Rattle.home_planner.specs.Sets as sets
use Rattle.home_planner.proofs.Bridge.{least_of_choices}
use Rattle.home_planner.proofs.EverySet.{least_both, least_out}
use Rattle.loop_checkpoints.specs.declared.LoopObject.{LoopObject}
use Rattle.loop_checkpoints.specs.Loops as loops
use Rattle.chain_units.specs.Costs.{Weighed, least_in, one_turn_fits}
use Rattle.chain_units.specs.Planned.{NoTurnFits, SomeTurnFits, TestsOneTurn}

-- the object in one turn, as the planner of homes takes it
abbrev gain_in : LoopObject → Gain
gain_in o = record { object = o.object; words = o.words; fram = o.fram; sram = o.sram + o.moves }

abbrev gains_in : List LoopObject → List Gain
gains_in os = map gain_in os

least_by : (t : Bool) (o : LoopObject) (os : List LoopObject) (room c d : ℕ) → nat_le o.words room ≡ t → IsLeastChoice (gains_in os) room c → IsLeastChoice (gains_in os) (room - o.words) d
    → IsLeastChoice (gains_in (o ∷ os)) room (if t then min (o.fram + c) ((o.sram + o.moves) + d) else o.fram + c)
least_by true o os room c d test least least' = let le : o.words ≤ room = grind (arith, test) in least_both (gain_in o) (gains_in os) room c d le least least'
least_by false o os room c d test least least' = let lt : room < o.words = grind (arith, test) in least_out (gain_in o) (gains_in os) room c lt least

least_choice : (os : List LoopObject) (room : ℕ) → IsLeastChoice (gains_in os) room (least_in os room)
least_choice [] room = (([], omega arith, refl), λ choice le. omega arith)
least_choice (o ∷ os) room = least_by (nat_le o.words room) o os room (least_in os room) (least_in os (room - o.words)) refl (least_choice os room) (least_choice os (room - o.words))

-- ---- sets of a loop's objects are sets of gains

same_objects : (os : List LoopObject) → sets.objects (gains_in os) ≡ loops.objects os
same_objects [] = refl
same_objects (o ∷ os) = ap (λ (xs : List ℕ). o.object ∷ xs) (same_objects os)

same_words : (os : List LoopObject) (homes : List ℕ) → sets.words_of (gains_in os) homes ≡ loops.words_of os homes
same_words [] homes = refl
same_words (o ∷ os) homes = ap (λ (n : ℕ). (if sets.is_in homes o.object then o.words else 0) + n) (same_words os homes)

one_cost : (t : Bool) (fram sram moves : ℕ) → (if t then sram + moves else fram) ≡ (if t then 1 * sram + moves else 1 * fram)
one_cost true fram sram moves = omega arith
one_cost false fram sram moves = omega arith

same_cost : (os : List LoopObject) (homes : List ℕ) → sets.cost_of (gains_in os) homes ≡ loops.objects_cost 1 os homes
same_cost [] homes = refl
same_cost (o ∷ os) homes = omega (arith, one_cost (sets.is_in homes o.object) o.fram o.sram o.moves, same_cost os homes)

least_set : (os : List LoopObject) (room : ℕ) → loops.Differ os → sets.IsLeast (gains_in os) room (least_in os room)
least_set os room differ =
    least_of_choices (gains_in os) room (least_in os room) (subst (λ (xs : List ℕ). IsDistinct (λ a b. a == b) xs) (sym (same_objects os)) differ) (least_choice os room)

-- ---- the test

some_fits : (w : Weighed) (room budget : ℕ) → loops.Differ w.objects → one_turn_fits w room budget ≡ true → SomeTurnFits w room budget
some_fits w room budget differ test =
    let (homes, words, cost) = (least_set w.objects room differ).0 in
    let le : (w.fixed + w.base) + least_in w.objects room ≤ budget = grind (arith, test) in
    (homes, omega (arith, words, same_words w.objects homes), omega (arith, le, cost, same_cost w.objects homes))

none_fits : (w : Weighed) (room budget : ℕ) → loops.Differ w.objects → one_turn_fits w room budget ≡ false → NoTurnFits w room budget
none_fits w room budget differ test homes words =
    let lt : budget < (w.fixed + w.base) + least_in w.objects room = grind (arith, test) in
    let low = (least_set w.objects room differ).1 homes (omega (arith, words, same_words w.objects homes)) in
    omega (arith, lt, low, same_cost w.objects homes)

pub tests_one_turn : TestsOneTurn
tests_one_turn w room budget differ = (some_fits w room budget differ, none_fits w room budget differ)
