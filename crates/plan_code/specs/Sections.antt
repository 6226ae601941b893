-- The sections of the code of a graph with a plan: each is a stretch between two heads, or a flat function. They stand in the order of the code:
-- those of `main`, and then those of each other function in the order of the text.
use Rattle.std.specs.Prelude.{ℕ, ◌+◌, ◌==◌, if◌then◌else◌, Bool, true, false, Option, Some, None, List, [], ◌∷◌, ◌++◌, length, map, take, drop, slice_get}
use Rattle.flow_graph.specs.declared.graph.Item.{Item}
use Rattle.flow_graph.specs.declared.graph.Func.{Func}
use Rattle.flow_graph.specs.Nodes.{around_body, body_nodes, entry, first_of, laid_items}
use Rattle.chain_plans.specs.declared.Stretch.{Stretch}
use Rattle.chain_units.specs.declared.plan.Chain.{Chain}
use Rattle.chain_units.specs.Known.{Known}
use Rattle.chain_units.specs.Marks.{ChainUnit, End, Flat, marks_of, placed_items}
use Rattle.chain_units.specs.Chains.{PlacedChain, Plain, Turning, cut}
use Rattle.chain_units.specs.Planned.{units_first}

-- A flat function, which has no head; a stretch of a plain chain, and whether its last operation ends the chain, before which it saves then; or a
-- conditional loop, and its turns between two heads.
pub data Shape : Type 0 where
  Callee : Shape
  Straight : (ends : Bool) → Shape
  Rounds : (turns : ℕ) → Shape

-- Where a section begins: with the operation of this number. In it these objects live in SRAM. The number of its chain and its cost by the plan are
-- 0 for a flat function.
pub record Opening : Type 0 where
  pub first : ℕ
  pub shape : Shape
  pub homes : List ℕ
  pub chain : ℕ
  pub cost : ℕ

-- and the number behind its last operation
pub record Section : Type 0 where
  pub opening : Opening
  pub behind : ℕ

-- ---- The stretches of a chain

abbrev pub unit_ends : ChainUnit → Bool
unit_ends (Flat xs n) = false
unit_ends (End x) = true

-- the last unit ends the chain
abbrev pub units_end : List ChainUnit → Bool
units_end [] = false
units_end (u ∷ []) = unit_ends u
units_end (u ∷ (v ∷ us)) = units_end (v ∷ us)

-- the units of a stretch
abbrev pub units_in : List ChainUnit → Stretch → List ChainUnit
units_in us s = take s.items (drop s.first_item us)

abbrev pub straight_opening : ℕ → List ChainUnit → Stretch → Opening
straight_opening chain us s = record {
  first = units_first (units_in us s);
  shape = Straight (units_end (units_in us s));
  homes = s.homes.items;
  chain = chain;
  cost = s.cost;
}

abbrev pub rounds_opening : ℕ → ℕ → ℕ → Stretch → Opening
rounds_opening chain turns first s = record { first = first; shape = Rounds turns; homes = s.homes.items; chain = chain; cost = s.cost }

abbrev pub chain_openings : PlacedChain → Chain → List Opening
chain_openings (Plain us) c = map (straight_opening c.number us) c.stretches.items
chain_openings (Turning x n) c = map (rounds_opening c.number c.turns (first_of (laid_items (x ∷ [])) n)) c.stretches.items

-- each chain with its plan
abbrev pub chains_openings : List PlacedChain → List Chain → List Opening
chains_openings [] cs = []
chains_openings (p ∷ ps) [] = []
chains_openings (p ∷ ps) (c ∷ cs) = chain_openings p c ++ chains_openings ps cs

-- ---- The sections of a function

-- the plans of a function's chains
abbrev pub plans_in : ℕ → List Chain → List Chain
plans_in f [] = []
plans_in f (c ∷ cs) = if c.function == f then c ∷ plans_in f cs else plans_in f cs

-- the chains of a body
abbrev pub chains_in : Known → List Item → List PlacedChain
chains_in k body = cut [] (marks_of k (placed_items k body) around_body)

abbrev pub callee_opening : ℕ → Opening
callee_opening first = record { first = first; shape = Callee; homes = []; chain = 0; cost = 0 }

-- each section ends where the next begins, and the last at the end
abbrev pub sections_to : ℕ → List Opening → List Section
sections_to end [] = []
sections_to end (o ∷ []) = record { opening = o; behind = end } ∷ []
sections_to end (o ∷ (p ∷ os)) = record { opening = o; behind = p.first } ∷ sections_to end (p ∷ os)

-- the number behind the last operation of a function
abbrev pub end_of : Known → ℕ → Func → ℕ
end_of k f func = entry k.graph f + length (body_nodes func)

abbrev pub split_sections : Known → List Chain → ℕ → Func → List Section
split_sections k plans f func = sections_to (end_of k f func) (chains_openings (chains_in k func.body) (plans_in f plans))

abbrev pub callee_sections : Known → ℕ → Func → List Section
callee_sections k f func = sections_to (end_of k f func) (callee_opening (entry k.graph f) ∷ [])

-- ---- The sections of a graph

abbrev pub main_sections : Known → List Chain → Option Func → List Section
main_sections k plans None = []
main_sections k plans (Some func) = split_sections k plans k.graph.main func

abbrev pub other_section : Known → List Chain → ℕ → Func → List Section
other_section k plans f func = if f == k.graph.main then [] else (if k.is_flat f then callee_sections k f func else split_sections k plans f func)

-- those of all of these functions but `main`, from a number on
abbrev pub other_sections : Known → List Chain → ℕ → List Func → List Section
other_sections k plans f [] = []
other_sections k plans f (func ∷ more) = other_section k plans f func ++ other_sections k plans (f + 1) more

abbrev pub sections : Known → List Chain → List Section
sections k plans = main_sections k plans (slice_get k.graph.functions k.graph.main) ++ other_sections k plans 0 k.graph.functions
