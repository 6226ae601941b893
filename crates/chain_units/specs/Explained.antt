-- What is told of a plan beside it: with what each stretch begins, what it costs, and which objects are restored and saved in it.
use Rattle.std.specs.Prelude.{◌≡◌, ◌+◌, ◌*◌, ◌==◌, ◌&&◌, ◌||◌, ℕ, Bool, List, [], ◌∷◌, ◌++◌, drop, filter, if◌then◌else◌, map, nat_lt, take}
use Rattle.flow_graph.specs.declared.graph.Item.{Item, out-Item}
use Rattle.flow_graph.specs.declared.graph.Item.TheOpen.{Item-F}
use Rattle.flow_graph.specs.Nodes.{first_of, laid_items}
use Rattle.item_weights.specs.declared.uses.Use.{Use}
use Rattle.chain_plans.specs.declared.Stretch.{Stretch}
use Rattle.chain_units.specs.declared.explaining.Explained.{Explained}
use Rattle.chain_units.specs.declared.telling.ExplainedChain.{ExplainedChain}
use Rattle.chain_units.specs.declared.plan.Chain.{Chain}
use Rattle.chain_units.specs.declared.weighing.Behind.{Behind}
use Rattle.chain_units.specs.declared.weighing.Behind.TheVariants.{BeforeEither}
use Rattle.chain_units.specs.Known.{Known, Weighs, nothing, or_nothing}
use Rattle.chain_units.specs.Costs.{touched_in_all, weighed}
use Rattle.chain_units.specs.Wanted.{IsWeightOf, wanted}
use Rattle.chain_units.specs.Marks.{ChainUnit, long_move, turn_of}
use Rattle.chain_units.specs.Chains.{Of, PlacedChain, Plain, Turning}
use Rattle.chain_units.specs.Planned.{all_items, unit_first, units_behind, units_first, units_sum}

-- how often an object is written
abbrev pub writes_in : List Use → ℕ → ℕ
writes_in [] object = 0
writes_in (u ∷ us) object = if u.object == object then u.writes else writes_in us object

-- an object kept in SRAM is restored where it is an array, or where it is live before the first operation
abbrev pub is_restored : Known → ℕ → ℕ → Bool
is_restored k first object = k.is_array object || k.before first object

-- it is saved where it is written and its value is wanted behind
abbrev pub is_saved : Known → Behind → List Use → ℕ → Bool
is_saved k behind uses object = nat_lt 0 (writes_in uses object) && wanted k behind object

-- Code between two heads, explained: by what is spent once and more each turn, the operations that its items begin with, the objects that its flat
-- functions touch, the operation executed first, what is wanted behind, its weights, and the objects kept in SRAM.
pub record IsExplained (k : Known) (once each_turn : ℕ) (firsts touched : List ℕ) (first : ℕ) (behind : Behind) (w : Weighs) (homes : List ℕ) (e : Explained) : Type 0 where
  pub firsts_are : e.firsts.items ≡ firsts
  pub weight : IsWeightOf e.weight (weighed k once each_turn touched (k.before first) (wanted k behind) w)
  pub restored : e.restored.items ≡ filter (is_restored k first) homes
  pub saved : e.saved.items ≡ filter (is_saved k behind w.uses) homes

abbrev pub AreUnitsExplained : Known → List ChainUnit → List ℕ → Explained → Type 0
AreUnitsExplained k us homes e = IsExplained k k.overhead 0 (map unit_first us) (touched_in_all k (all_items us)) (units_first us) (units_behind us) (units_sum k nothing us) homes e

-- a stretch of a plain chain
abbrev pub IsStretchExplained : Known → List ChainUnit → Stretch → Explained → Type 0
IsStretchExplained k us stretch e = AreUnitsExplained k (take stretch.items (drop stretch.first_item us)) stretch.homes.items e

-- the turns of a conditional loop, by the items of a turn
abbrev pub AreTurnsExplained : Known → List Item → ℕ → ℕ → Stretch → Explained → Type 0
AreTurnsExplained k parts top next stretch e =
    IsExplained k (k.overhead + 2 * long_move k) (((k.board.core.alu + k.board.core.jump) + 2 * k.board.access.fetch) + long_move k) (top ∷ []) (touched_in_all k parts) top (BeforeEither top next) (or_nothing (k.weights parts)) stretch.homes.items e

abbrev pub IsTurnExplained : Known → Item-F Item → ℕ → Stretch → Explained → Type 0
IsTurnExplained k (Item-F.Loop pre test post step back count) next stretch e = AreTurnsExplained k (turn_of pre test post step) (first_of (laid_items pre) test.number) next stretch e
IsTurnExplained k _ next stretch e = ⊥

abbrev pub IsOneExplained : Known → PlacedChain → Stretch → Explained → Type 0
IsOneExplained k (Plain us) stretch e = IsStretchExplained k us stretch e
IsOneExplained k (Turning x next) stretch e = IsTurnExplained k (out-Item x) next stretch e

-- one for each
abbrev pub AreEach : (Stretch → Explained → Type 0) → List Stretch → List Explained → Type 0
AreEach Q [] [] = Unit {0}
AreEach Q (s ∷ ss) (e ∷ es) = Q s e × AreEach Q ss es
AreEach Q _ _ = ⊥

-- a chain with its plan
pub record IsChainExplained (k : Known) (o : PlacedChain) (c : Chain) (e : ExplainedChain) : Type 0 where
  pub number : e.number ≡ c.number
  pub stretches : AreEach (IsOneExplained k o) c.stretches.items e.stretches.items

-- the first chains, as far as there are plans of them
abbrev pub AreExplained : Known → List Of → List Chain → List ExplainedChain → Type 0
AreExplained k [] cs es = es ≡ []
AreExplained k (o ∷ os) [] es = es ≡ []
AreExplained k (o ∷ os) (c ∷ cs) [] = ⊥
AreExplained k (o ∷ os) (c ∷ cs) (e ∷ es) = IsChainExplained k o.chain c e × AreExplained k os cs es

-- behind those of some chains stand those of more
abbrev pub AddsExplained : Known → List Of → List Chain → List ExplainedChain → List ExplainedChain → Type 0
AddsExplained k os cs old new = (before : List Of) → AreExplained k before cs old → AreExplained k (before ++ os) cs new
