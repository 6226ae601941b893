-- The effect that the code of an operation has on a device is that of the operation in the graph's flow.
use Rattle.std.proofs.Common.{◌≡◌, ◌≢◌, ℕ, ◌<◌, ◌%◌, ◌^◌, Bool, true, false, Option, Some, None, refl, sym, ap, ◌∙◌}
use Rattle.std.specs.Prelude.{⊤, nat_lt, if◌then◌else◌}
use Rattle.c_values.specs.Values.{Worked, Gives, Traps as MeetsTrap}
use Rattle.flow_graph.specs.declared.graph.ArrayUse.{ArrayUse}
use Rattle.flow_graph.specs.declared.graph.Op.{Op}
use Rattle.flow_graph.specs.declared.graph.OpKind.{OpKind}
use Rattle.flow_graph.specs.declared.graph.OpKind.TheVariants as kind
use Rattle.flow_graph.specs.declared.nodes.Next.{Next}
use Rattle.flow_graph.specs.declared.nodes.Next.TheVariants as next
use Rattle.flow_graph.specs.Operations.{gives, passes}
use Rattle.flow_graph.specs.Closed.{IsNextOf, goes_on, is_test}
use Rattle.laid_code.specs.Flows.{Memory, Change, Turn, On, Away, Ends, Traps, Effect}
use Rattle.graph_flow.specs.GraphFlow.{changes, worked, load, store, at_element, effect_by, to_turn, turn_by}
use Rattle.graph_flow.proofs.Meeting.{is_below}
use Rattle.emit_templates.specs.Effects as device
use Rattle.emit_templates.specs.GraphEffects.{HasArray, IsFormed}

-- ---- Effects of a device as those of a flow

abbrev pub change_of : Option device.Change → Option Change
change_of None = None
change_of (Some c) = Some (record { object = c.object; index = c.index; value = c.value })

abbrev pub turn_of : device.Turn → Turn
turn_of device.On = On
turn_of device.Away = Away
turn_of device.Calls = On
turn_of device.Returns = On
turn_of (device.Ends w) = Ends w
turn_of (device.Traps t) = Traps t

abbrev pub effect_of : device.Effect → Effect
effect_of e = record { change = change_of e.change; puts = e.puts; takes = e.takes; turn = turn_of e.turn }

-- neither a call nor a return
abbrev pub IsHere : device.Turn → Type 0
IsHere device.Calls = ⊥
IsHere device.Returns = ⊥
IsHere _ = ⊤

pub record Same (e : device.Effect) (f : Effect) : Type 0 where
  pub same : effect_of e ≡ f
  pub here : IsHere e.turn

-- ---- An operation that goes on

no_test : (k : OpKind) → goes_on k ≡ true → is_test k ≡ true → ⊥
no_test kind.Test g t = let bad : false ≡ true = g in absurd (cc)
no_test kind.Below g t = let bad : false ≡ true = g in absurd (cc)
no_test k g t = let bad : false ≡ true = t in absurd (cc)

onward : (k : OpKind) (y : Next) (passed : Bool) → goes_on k ≡ true → IsNextOf k y → turn_by k y passed ≡ to_turn k
onward k (next.To n) passed g by = refl
onward k (next.Either n m) passed g by = absurd (no_test k g by)
onward k (next.Into f n) passed g by = let bad : false ≡ true = sym (ap goes_on by) ∙ g in absurd (cc)
onward k next.Returns passed g by = let bad : false ≡ true = sym (ap goes_on by) ∙ g in absurd (cc)
onward k next.Ends passed g by = let bad : false ≡ true = sym (ap goes_on by) ∙ g in absurd (cc)

first_same : (dest : Option ℕ) (w : ℕ) → change_of (device.first_word dest w) ≡ changes dest w
first_same None w = refl
first_same (Some o) w = refl

abbrev changing : Option Change → Bool → Turn → Effect
changing c takes turn = record { change = c; puts = None; takes = takes; turn = turn }

written_same : (dest : Option ℕ) (v w : ℕ) (takes : Bool) (turn : Turn) → v ≡ w → turn ≡ On
    → Same (record { change = device.first_word dest v; puts = None; takes = takes; turn = device.On }) (record { change = changes dest w; puts = None; takes = takes; turn = turn })
written_same dest v w takes turn is on = record {
  same = ap (λ c. changing c takes On) (first_same dest v ∙ ap (λ x. changes dest x) is) ∙ ap (λ t. changing (changes dest w) takes t) (sym on);
  here = tt;
}

worked_same : (dest : Option ℕ) (x : Worked) (turn : Turn) → turn ≡ On → Same (device.worked dest x) (worked dest x turn)
worked_same dest (Gives w) turn on = written_same dest w w false turn refl on
worked_same dest (MeetsTrap t) turn on = record { same = refl; here = tt }

-- ---- Elements of arrays

load_same : (array : Option ArrayUse) (dest : Option ℕ) (i element : ℕ) (m : Memory) (turn : Turn) → HasArray array
    → ((u : ArrayUse) → array ≡ Some u → i < u.length → element ≡ m u.object i) → turn ≡ On → Same (device.load array dest i element) (load array dest i m turn)
load_same None dest i element m turn has is on = let bad : None ≡ Some has.0 = has.1 in absurd (cc)
load_same (Some u) dest i element m turn has is on = by_test (nat_lt i u.length) refl
  where
    by_test : (c : Bool) → nat_lt i u.length ≡ c
        → Same (device.at_element c (record { change = device.first_word dest element; puts = None; takes = false; turn = device.On }))
        (at_element c (record { change = changes dest (m u.object i); puts = None; takes = false; turn = turn }))
    by_test true below = written_same dest element (m u.object i) false turn (is u refl (is_below i u.length below)) on
    by_test false below = record { same = refl; here = tt }

store_same : (array : Option ArrayUse) (w i : ℕ) (turn : Turn) → HasArray array → turn ≡ On → Same (device.store array w i) (store array w i turn)
store_same None w i turn has on = let bad : None ≡ Some has.0 = has.1 in absurd (cc)
store_same (Some u) w i turn has on = by_test (nat_lt i u.length)
  where
    by_test : (c : Bool)
        → Same (device.at_element c (record { change = Some (record { object = u.object; index = i; value = w }); puts = None; takes = false; turn = device.On }))
        (at_element c (record { change = Some (record { object = u.object; index = i; value = w }); puts = None; takes = false; turn = turn }))
    by_test true = record { same = ap (λ t. changing (Some (record { object = u.object; index = i; value = w })) false t) (sym on); here = tt }
    by_test false = record { same = refl; here = tt }

-- ---- Tests and jumps

choice_same : (dest : Option ℕ) (a : ℕ) (c : Bool) → dest ≡ None → Same (device.leads (if c then device.On else device.Away)) (worked dest (Gives a) (if c then On else Away))
choice_same None a true e = record { same = refl; here = tt }
choice_same None a false e = record { same = refl; here = tt }
choice_same (Some o) a c e = absurd (cc)

test_same : (dest : Option ℕ) (a : ℕ) (y : Next) (c : Bool) → dest ≡ None → IsNextOf kind.Test y
    → Same (device.leads (if c then device.On else device.Away)) (worked dest (Gives a) (turn_by kind.Test y c))
test_same dest a (next.To n) c e by = let bad : false ≡ true = by in absurd (cc)
test_same dest a (next.Either n m) c e by = choice_same dest a c e
test_same dest a (next.Into f n) c e by = let bad : kind.Test ≡ kind.Call = by in absurd (cc)
test_same dest a next.Returns c e by = let bad : kind.Test ≡ kind.Ret = by in absurd (cc)
test_same dest a next.Ends c e by = let bad : kind.Test ≡ kind.Finish = by in absurd (cc)

below_same : (dest : Option ℕ) (a : ℕ) (y : Next) (c : Bool) → dest ≡ None → IsNextOf kind.Below y
    → Same (device.leads (if c then device.On else device.Away)) (worked dest (Gives a) (turn_by kind.Below y c))
below_same dest a (next.To n) c e by = let bad : false ≡ true = by in absurd (cc)
below_same dest a (next.Either n m) c e by = choice_same dest a c e
below_same dest a (next.Into f n) c e by = let bad : kind.Below ≡ kind.Call = by in absurd (cc)
below_same dest a next.Returns c e by = let bad : kind.Below ≡ kind.Ret = by in absurd (cc)
below_same dest a next.Ends c e by = let bad : kind.Below ≡ kind.Finish = by in absurd (cc)

go_same : (dest : Option ℕ) (a : ℕ) (turn : Turn) → dest ≡ None → turn ≡ Away → Same (device.leads device.Away) (worked dest (Gives a) turn)
go_same None a turn e away = record { same = ap (λ t. changing None false t) (sym away); here = tt }
go_same (Some o) a turn e away = absurd (cc)

-- ---- All kinds but calls and returns

pub effects_same : (k : OpKind) (op : Op) (a b element v w : ℕ) (m : Memory) (y : Next) → k ≢ kind.Call → k ≢ kind.Ret → IsFormed k op → IsNextOf k y
    → ((u : ArrayUse) → op.array ≡ Some u → a < u.length → element ≡ m u.object a) → v ≡ w % 2 ^ 16
    → Same (device.effect_by k op a b element v) (effect_by k op a b m w (turn_by k y (passes k a b)))
effects_same kind.Load op a b element v w m y call ret formed by is taken = load_same op.array op.dest a element m (turn_by kind.Load y (passes kind.Load a b)) formed is (onward kind.Load y (passes kind.Load a b) refl by)
effects_same kind.Store op a b element v w m y call ret formed by is taken = store_same op.array a b (turn_by kind.Store y (passes kind.Store a b)) formed (onward kind.Store y (passes kind.Store a b) refl by)
effects_same kind.Input op a b element v w m y call ret formed by is taken = written_same op.dest v (w % 2 ^ 16) true (turn_by kind.Input y (passes kind.Input a b)) taken (onward kind.Input y (passes kind.Input a b) refl by)
effects_same kind.Output op a b element v w m y call ret formed by is taken = record {
  same = ap (λ t. record { change = None; puts = Some a; takes = false; turn = t }) (sym (onward kind.Output y (passes kind.Output a b) refl by));
  here = tt;
}
effects_same kind.Finish op a b element v w m y call ret formed by is taken = record { same = refl; here = tt }
effects_same kind.Test op a b element v w m y call ret formed by is taken = test_same op.dest a y (passes kind.Test a b) formed by
effects_same kind.Below op a b element v w m y call ret formed by is taken = below_same op.dest a y (passes kind.Below a b) formed by
effects_same kind.Go op a b element v w m y call ret formed by is taken = go_same op.dest a (turn_by kind.Go y (passes kind.Go a b)) formed (onward kind.Go y (passes kind.Go a b) refl by)
effects_same kind.Call op a b element v w m y call ret formed by is taken = absurd (call refl)
effects_same kind.Ret op a b element v w m y call ret formed by is taken = absurd (ret refl)
effects_same k op a b element v w m y call ret formed by is taken = worked_same op.dest (gives k a b) (turn_by k y (passes k a b)) (onward k y (passes k a b) refl by)
