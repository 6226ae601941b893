-- Kind by kind, what the graph says of an operation.
use Rattle.std.proofs.Common.{◌≡◌, ℕ, Bool, true, false, Option, None, Some, [], refl, sym, subst}
use Rattle.std.specs.Prelude.{nat_lt, if◌then◌else◌}
use Rattle.c_values.specs.Values.{Worked, Gives, Traps as MeetsTrap, is_set}
use Rattle.flow_graph.specs.declared.graph.ArrayUse.{ArrayUse}
use Rattle.flow_graph.specs.declared.graph.Op.{Op}
use Rattle.flow_graph.specs.declared.graph.OpKind.{OpKind}
use Rattle.flow_graph.specs.declared.graph.OpKind.TheVariants as kind
use Rattle.flow_graph.specs.Operations.{word_at, with_word, gives}
use Rattle.flow_graph.specs.Flow as flow
use Rattle.emit_templates.specs.Effects.{On, Away, Effect, leads, first_word, worked, at_element, load, store, effect_by}
use Rattle.emit_templates.specs.GraphEffects.{did, element, HasArray, IsFormed, EffectsAreTheGraphs}

worked_is : (dest : Option ℕ) (x : Worked) (s : flow.Spot) → flow.write_worked dest x s ≡ did (worked dest x) s
worked_is None (Gives w) s = refl
worked_is (Some o) (Gives w) s = refl
worked_is dest (MeetsTrap t) s = refl

abbrev loaded : Option ℕ → ℕ → Effect
loaded dest w = record { change = first_word dest w; puts = None; takes = false; turn = On }

loaded_is : (dest : Option ℕ) (w : ℕ) (s : flow.Spot) (c : Bool) → flow.at_element c (flow.Went [] (flow.written dest w s)) ≡ did (at_element c (loaded dest w)) s
loaded_is None w s true = refl
loaded_is (Some o) w s true = refl
loaded_is dest w s false = refl

load_is : (array : Option ArrayUse) (dest : Option ℕ) (i : ℕ) (s : flow.Spot) → HasArray array → flow.load array dest i s ≡ did (load array dest i (element s.objects array i)) s
load_is array dest i s h =
    subst (λ a. flow.load a dest i s ≡ did (load a dest i (element s.objects a i)) s) (sym h.1) (loaded_is dest (word_at s.objects h.0.object i) s (nat_lt i h.0.length))

sent_is : (o i w : ℕ) (s : flow.Spot) (c : Bool)
    → flow.at_element c (flow.Went [] (record s { objects = with_word s.objects o i w })) ≡ did (at_element c (record { change = Some (record { object = o; index = i; value = w }); puts = None; takes = false; turn = On })) s
sent_is o i w s true = refl
sent_is o i w s false = refl

store_is : (array : Option ArrayUse) (w i : ℕ) (s : flow.Spot) → HasArray array → flow.store array w i s ≡ did (store array w i) s
store_is array w i s h = subst (λ a. flow.store a w i s ≡ did (store a w i) s) (sym h.1) (sent_is h.0.object i w s (nat_lt i h.0.length))

input_is : (dest : Option ℕ) (s : flow.Spot) → flow.take_word dest s ≡ did (record { change = first_word dest (flow.next_word s.input); puts = None; takes = true; turn = On }) s
input_is None s = refl
input_is (Some o) s = refl

nothing_is : (dest : Option ℕ) (w : ℕ) (s : flow.Spot) → dest ≡ None → flow.write_worked dest (Gives w) s ≡ flow.Went [] s
nothing_is dest w s none = subst (λ d. flow.write_worked d (Gives w) s ≡ flow.Went [] s) (sym none) refl

test_is : (dest : Option ℕ) (w : ℕ) (s : flow.Spot) (c : Bool) → dest ≡ None → flow.write_worked dest (Gives w) s ≡ did (leads (if c then On else Away)) s
test_is dest w s true none = nothing_is dest w s none
test_is dest w s false none = nothing_is dest w s none

by_kind : (k : OpKind) (op : Op) (a b : ℕ) (s : flow.Spot) → IsFormed k op → flow.effect_by k op a b s ≡ did (effect_by k op a b (element s.objects op.array a) (flow.next_word s.input)) s
by_kind kind.Copy op a b s h = worked_is op.dest (gives kind.Copy a b) s
by_kind kind.Neg op a b s h = worked_is op.dest (gives kind.Neg a b) s
by_kind kind.Inv op a b s h = worked_is op.dest (gives kind.Inv a b) s
by_kind kind.ToU8 op a b s h = worked_is op.dest (gives kind.ToU8 a b) s
by_kind kind.ToS8 op a b s h = worked_is op.dest (gives kind.ToS8 a b) s
by_kind kind.Add op a b s h = worked_is op.dest (gives kind.Add a b) s
by_kind kind.Sub op a b s h = worked_is op.dest (gives kind.Sub a b) s
by_kind kind.BitAnd op a b s h = worked_is op.dest (gives kind.BitAnd a b) s
by_kind kind.BitOr op a b s h = worked_is op.dest (gives kind.BitOr a b) s
by_kind kind.BitXor op a b s h = worked_is op.dest (gives kind.BitXor a b) s
by_kind kind.Mul op a b s h = worked_is op.dest (gives kind.Mul a b) s
by_kind kind.DivS op a b s h = worked_is op.dest (gives kind.DivS a b) s
by_kind kind.DivU op a b s h = worked_is op.dest (gives kind.DivU a b) s
by_kind kind.RemS op a b s h = worked_is op.dest (gives kind.RemS a b) s
by_kind kind.RemU op a b s h = worked_is op.dest (gives kind.RemU a b) s
by_kind kind.Shl op a b s h = worked_is op.dest (gives kind.Shl a b) s
by_kind kind.ShrS op a b s h = worked_is op.dest (gives kind.ShrS a b) s
by_kind kind.ShrU op a b s h = worked_is op.dest (gives kind.ShrU a b) s
by_kind kind.Eq op a b s h = worked_is op.dest (gives kind.Eq a b) s
by_kind kind.Ne op a b s h = worked_is op.dest (gives kind.Ne a b) s
by_kind kind.LtS op a b s h = worked_is op.dest (gives kind.LtS a b) s
by_kind kind.LtU op a b s h = worked_is op.dest (gives kind.LtU a b) s
by_kind kind.LeS op a b s h = worked_is op.dest (gives kind.LeS a b) s
by_kind kind.LeU op a b s h = worked_is op.dest (gives kind.LeU a b) s
by_kind kind.Step op a b s h = worked_is op.dest (gives kind.Step a b) s
by_kind kind.Load op a b s h = load_is op.array op.dest a s h
by_kind kind.Store op a b s h = store_is op.array a b s h
by_kind kind.Input op a b s h = input_is op.dest s
by_kind kind.Output op a b s h = refl
by_kind kind.Finish op a b s h = refl
by_kind kind.Test op a b s h = test_is op.dest a s (is_set a) h
by_kind kind.Below op a b s h = test_is op.dest a s (nat_lt a b) h
by_kind kind.Go op a b s h = nothing_is op.dest a s h
by_kind kind.Call op a b s h = nothing_is op.dest a s h
by_kind kind.Ret op a b s h = nothing_is op.dest a s h

pub effects_are_the_graphs : EffectsAreTheGraphs
effects_are_the_graphs op a b s h = by_kind op.kind op a b s h
