-- Which functions are flat: any but `main` whose body has a weight, so that it holds no loop of unknown count, no leave and no call of a function that
-- isn't flat, and which fits one charge together with its call.
use Rattle.std.specs.Prelude.{ℕ, zero, suc, ◌≡◌, ◌+◌, ◌==◌, nat_le, Option, Some, None, List, [], ◌∷◌, length, slice_get, if◌then◌else◌}
use Rattle.flow_graph.specs.declared.graph.Func.{Func}
use Rattle.flow_graph.specs.declared.graph.Graph.{Graph}
use Rattle.flow_graph.specs.Rules.{CallsFit}
use Rattle.item_weights.specs.Weights.{Own, Weight, items_weight}

-- what an operation weighs, and the number of a function whose body has this weight: what it costs with every object in FRAM, if it fits one charge
pub record Rule : Type 0 where
  pub own : Own
  pub number : Weight → Option ℕ

-- The number of a weight on a board: a charge has room for the call, the body and what it costs besides.
abbrev pub if_fits : (Weight → ℕ) → ℕ → ℕ → ℕ → Weight → Option ℕ
if_fits fram_cost call_cost overhead budget w = if nat_le (call_cost + fram_cost w + overhead) budget then Some (fram_cost w) else None

-- of a body that may have no weight
abbrev pub number_of : Rule → Option Weight → Option ℕ
number_of rule None = None
number_of rule (Some w) = rule.number w

-- the number of one function, given those of the functions that it calls
abbrev pub flat_by : Rule → ℕ → List (Option ℕ) → ℕ → Func → Option ℕ
flat_by rule main flats f func = if f == main then None else number_of rule (items_weight rule.own flats func.body)

abbrev pub flats_by : Rule → ℕ → List (Option ℕ) → ℕ → List Func → List (Option ℕ)
flats_by rule main flats f [] = []
flats_by rule main flats f (func ∷ funcs) = flat_by rule main flats f func ∷ flats_by rule main flats (f + 1) funcs

-- the numbers of all, given numbers
abbrev pub next_flats : Rule → Graph → List (Option ℕ) → List (Option ℕ)
next_flats rule g flats = flats_by rule g.main flats 0 g.functions

abbrev pub no_numbers : List Func → List (Option ℕ)
no_numbers [] = []
no_numbers (func ∷ funcs) = None ∷ no_numbers funcs

-- where calls are nested so deep at most
unfoldable pub flats_to : Rule → Graph → ℕ → List (Option ℕ)
flats_to rule g zero = no_numbers g.functions
flats_to rule g (suc depth) = next_flats rule g (flats_to rule g depth)

-- Calls have no cycle, so that they are nested less deep than there are functions.
abbrev pub flats : Rule → Graph → List (Option ℕ)
flats rule g = flats_to rule g (length g.functions)

-- each function that has a number among the first has it among the others
abbrev pub Keep : List (Option ℕ) → List (Option ℕ) → Type 0
Keep flats more = (f n : ℕ) → slice_get flats f ≡ Some (Some n) → slice_get more f ≡ Some (Some n)

-- the law that makes it the rule: each function's number is what the rule says of the others' numbers
abbrev pub AreFlats : Rule → Graph → List (Option ℕ) → Type 0
AreFlats rule g numbers = numbers ≡ next_flats rule g numbers

-- it holds wherever calls have no cycle
abbrev pub FlatsAreFlats : Type 0
FlatsAreFlats = (rule : Rule) (g : Graph) (heights : List ℕ) → CallsFit g heights → AreFlats rule g (flats rule g)
