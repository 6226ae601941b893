-- The effect of an operation is what the graph says of it.
use Rattle.std.specs.Prelude.{ℕ, ◌≡◌, Bool, true, false, Option, None, Some, List, [], ◌∷◌}
use Rattle.flow_graph.specs.declared.graph.ArrayUse.{ArrayUse}
use Rattle.flow_graph.specs.declared.graph.Op.{Op}
use Rattle.flow_graph.specs.declared.graph.OpKind.{OpKind}
use Rattle.flow_graph.specs.declared.graph.OpKind.TheVariants as kind
use Rattle.flow_graph.specs.Operations.{Words, word_at, with_word}
use Rattle.flow_graph.specs.Flow as flow
use Rattle.emit_templates.specs.Effects.{Change, Turn, Ends, Traps, Effect, effect_by}

abbrev pub with_change : Option Change → Words → Words
with_change None objects = objects
with_change (Some c) objects = with_word objects c.object c.index c.value

abbrev pub words_put : Option ℕ → List ℕ
words_put None = []
words_put (Some w) = w ∷ []

abbrev pub input_behind : Bool → List ℕ → List ℕ
input_behind true words = flow.behind_word words
input_behind false words = words

-- what the graph comes to by an effect, but for what is executed next
abbrev pub went : Effect → flow.Spot → flow.Did
went e s = flow.Went (words_put e.puts) (record s { objects = with_change e.change s.objects; input = input_behind e.takes s.input })

abbrev pub did_by : Turn → Effect → flow.Spot → flow.Did
did_by (Ends w) e s = flow.Ended w
did_by (Traps t) e s = flow.Trapped t
did_by _ e s = went e s

abbrev pub did : Effect → flow.Spot → flow.Did
did e s = did_by e.turn e s

abbrev pub element : Words → Option ArrayUse → ℕ → ℕ
element objects None i = 0
element objects (Some array) i = word_at objects array.object i

abbrev pub HasArray : Option ArrayUse → Type 0
HasArray array = (used : ArrayUse) × (array ≡ Some used)

-- as the rules of graphs have it: an operation that only leads somewhere writes no object, and a load and a store name an array
abbrev pub IsFormed : OpKind → Op → Type 0
IsFormed kind.Load op = HasArray op.array
IsFormed kind.Store op = HasArray op.array
IsFormed kind.Test op = op.dest ≡ None
IsFormed kind.Below op = op.dest ≡ None
IsFormed kind.Go op = op.dest ≡ None
IsFormed kind.Call op = op.dest ≡ None
IsFormed kind.Ret op = op.dest ≡ None
IsFormed _ op = Unit {0}

abbrev pub EffectsAreTheGraphs : Type 0
EffectsAreTheGraphs = (op : Op) (a b : ℕ) (s : flow.Spot) → IsFormed op.kind op
    → flow.effect op a b s ≡ did (effect_by op.kind op a b (element s.objects op.array a) (flow.next_word s.input)) s
