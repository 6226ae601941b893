-- The report of a plan: the lines of functions and of chains.
use Rattle.std.specs.Prelude.{ℕ, ◌≡◌, ◌+◌, ◌-◌, ◌==◌, ◌++◌, Option, Some, None, List, [], ◌∷◌, length, slice_get, sum_by, codes, decimal, encode_utf8_all, IsAscii, if◌then◌else◌}
use Rattle.flow_graph.specs.declared.graph.Func.{Func}
use Rattle.flow_graph.specs.declared.graph.Graph.{Graph}
use Rattle.call_summary.specs.declared.telling.Summary.{Summary}
use Rattle.call_summary.specs.declared.telling.Summary.TheVariants.{Flat, Split}
use Rattle.chain_units.specs.declared.plan.Chain.{Chain}

abbrev pub Text : Type 0
Text = List ℕ

-- ---- chains

-- what a chain costs: the sum of its stretches
abbrev pub chain_cost : Chain → ℕ
chain_cost c = sum_by (λ s. s.cost) c.stretches.items

-- a plain chain: its number, its items, the sites between its stretches, and what it costs
abbrev pub plain_line : Chain → Text
plain_line c =
    codes "chain " ++ (decimal c.number ++ (codes " items " ++ (decimal c.items ++ (codes " sites " ++ (decimal (length c.stretches.items - 1) ++ (codes " cost " ++ (decimal (chain_cost c) ++ codes "\n")))))))

-- a conditional loop: its number, the turns between two checkpoints, and what so many turns cost
abbrev pub loop_line : Chain → Text
loop_line c = codes "loop " ++ (decimal c.number ++ (codes " turns " ++ (decimal c.turns ++ (codes " cost " ++ (decimal (chain_cost c) ++ codes "\n")))))

-- a plain chain has no turns
abbrev pub chain_line : Chain → Text
chain_line c = if c.turns == 0 then plain_line c else loop_line c

-- the line of a chain of this function
abbrev pub line_if : ℕ → Chain → Text
line_if f c = if c.function == f then chain_line c else []

-- the lines of a function's chains, in the order of their numbers
abbrev pub chains_text : ℕ → List Chain → Text
chains_text f [] = []
chains_text f (c ∷ cs) = line_if f c ++ chains_text f cs

-- ---- functions

-- The bytes of a name as characters. Those of identifiers are ASCII.
abbrev pub name_text : Text → Text
name_text name = encode_utf8_all name

-- a name of ASCII stands as it is
abbrev pub NamesStand : Type 0
NamesStand = (name : Text) → IsAscii name → name_text name ≡ name

abbrev pub flat_line : ℕ → Text
flat_line cost = codes " flat " ++ (decimal cost ++ codes "\n")

abbrev pub split_line : Text
split_line = codes " split\n"

-- what is told of a function behind its name: what it costs where it is flat, or its chains
abbrev pub summary_text : List Chain → ℕ → Option Summary → Text
summary_text chains f (Some (Flat cost touched)) = flat_line cost
summary_text chains f (Some Split) = split_line ++ chains_text f chains
summary_text chains f None = split_line ++ chains_text f chains

abbrev pub function_text : List Summary → List Chain → ℕ → Func → Text
function_text summaries chains f func = codes "function " ++ (name_text func.name ++ summary_text chains f (slice_get summaries f))

-- ---- a graph

abbrev pub main_text : List Summary → List Chain → ℕ → Option Func → Text
main_text summaries chains main None = []
main_text summaries chains main (Some func) = function_text summaries chains main func

-- a function but `main`
abbrev pub other_text : List Summary → List Chain → ℕ → ℕ → Func → Text
other_text summaries chains main f func = if f == main then [] else function_text summaries chains f func

-- those of all of these, from a number on
abbrev pub others_text : List Summary → List Chain → ℕ → ℕ → List Func → Text
others_text summaries chains main f [] = []
others_text summaries chains main f (func ∷ more) = other_text summaries chains main f func ++ others_text summaries chains main (f + 1) more

-- `main` first, and then the other functions in the order of the text
abbrev pub report : Graph → List Summary → List Chain → Text
report g summaries chains = main_text summaries chains g.main (slice_get g.functions g.main) ++ others_text summaries chains g.main 0 g.functions
