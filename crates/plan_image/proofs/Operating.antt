-- Each operation of a graph of one function is performed by its template, wherever a machine stands at it and what it reads is held at its homes.
use Rattle.std.proofs.Common.{◌≡◌, ℕ, suc, zero, ◌+◌, ◌*◌, ◌%◌, ◌^◌, ◌<◌, ◌≤◌, Bool, true, false, Option, Some, None, List, [], ◌∷◌, refl, sym, ap, ◌∙◌, subst, arith}
use Rattle.std.specs.Prelude.{All}
use Rattle.std.proofs.lemmas.List.Elements.{All-head, All-tail}
use Rattle.msp430_machine.specs.State.{Awake, State, input_word}
use Rattle.msp430_machine.specs.Memory.{written}
use Rattle.msp430_machine.specs.Cost.{cost}
use Rattle.flow_graph.specs.declared.graph.ArrayUse.{ArrayUse}
use Rattle.flow_graph.specs.declared.graph.Op.{Op}
use Rattle.flow_graph.specs.declared.graph.Operand.TheVariants.{Object}
use Rattle.flow_graph.specs.declared.graph.Graph.{Graph}
use Rattle.flow_graph.specs.declared.nodes.Node.{Node}
use Rattle.flow_graph.specs.Rules.{IsGraph, parts_of}
use Rattle.power_core.proofs.Points.{Setting}
use Rattle.resumed_runs.proofs.Paths.{Stand, Path, Working}
use Rattle.laid_code.specs.Flows.{Memory, Change, On, Away, Effect, taken_by}
use Rattle.laid_code.specs.Obeying.{AreSmall}
use Rattle.laid_code.proofs.Words.{address}
use Rattle.laid_code.proofs.Laid.{Layout, Changed, Here, Performed, Turned, effect_at}
use Rattle.laid_code.proofs.Backwards.{wrote}
use Rattle.graph_flow.specs.GraphFlow.{Place, flow_of, operand, sizes}
use Rattle.graph_flow.specs.GraphFlow as graph
use Rattle.graph_flow.proofs.Obeying.{graphs_obey}
use Rattle.op_cost.specs.Templates.{Homes, code_of, template}
use Rattle.op_cost.specs.Weights.{SamePlace, placed, weight}
use Rattle.emit_templates.specs.Effects as device
use Rattle.emit_templates.specs.Layer as layer
use Rattle.emit_templates.specs.Layer.{Now, TurnedBy, after, changed, effect_in, words_of_code}
use Rattle.emit_templates.specs.Placed.{GoesTo, element_at, operand_at}
use Rattle.emit_templates.proofs.Performing.{operation_performs}
use Rattle.each_image.proofs.OperationEffects.{IsHere, Same, change_of, effect_of, effects_same, turn_of}
use Rattle.each_image.proofs.Reading.{formed}
use Rattle.each_image.proofs.Standing.{Stood}
use Rattle.each_image.proofs.TemplatePaths.{code_stands, now_works, path_of}
use Rattle.plan_image.proofs.Homed.{AreHomes, IsHeld, element_is, further, operand_is, ready, weight_is}

taken_same : (n : ℕ) (takes : Bool) → layer.taken_by n takes ≡ taken_by n takes
taken_same n true = refl
taken_same n false = refl

pub input_small : (input : List ℕ) → All (λ w. w < 65536) input → (k : ℕ) → input_word input k < 65536
input_small [] h k = omega arith
input_small (w ∷ ws) h zero = All-head (λ w. w < 65536) w ws h
input_small (w ∷ ws) h (suc k) = input_small ws (All-tail (λ w. w < 65536) w ws h) k

module _ (g : Graph) (X : Type 0) (L : Layout X Place) (st : Setting) (homes : Homes) (x on away : X) (are : AreHomes g (L.place x) homes) where
  -- ---- Behind an operation

  record Went (change : Option device.Change) (takes : Bool) (to : ℕ) (s u : State) : Type 0 where
    awake : u.phase ≡ Awake
    pc : u.reg 0 ≡ 0x8000 + 2 * to
    has_code : u.code ≡ s.code
    same_sp : u.reg 1 ≡ s.reg 1
    same_count : u.reg 10 ≡ s.reg 10
    has_taken : u.taken ≡ taken_by s.taken takes
    changed_so : Changed X Place (flow_of g) (sizes g) L st x (change_of change) s u

  went : (change : Option device.Change) (takes : Bool) (to : ℕ) (s u : State) → ((c : Change) → change_of change ≡ Some c → c.index < sizes g c.object)
      → Now (changed homes change s) (layer.taken_by s.taken takes) to u → Went change takes to s u
  went None takes to s u within now = record {
    awake = now.awake;
    pc = now.pc;
    has_code = now.has_code;
    same_sp = now.kept 1 (omega arith) (omega arith);
    same_count = now.kept 10 (omega arith) (omega arith);
    has_taken = now.has_taken ∙ taken_same s.taken takes;
    changed_so = (now.has_sram, now.has_fram);
  }
  went (Some c) takes to s u within now =
      let e : homes c.object + 2 * c.index ≡ address (L.place x c.object) c.index = ap (λ a. a + 2 * c.index) (are.is c.object) ∙ further (L.place x c.object) c.index in
      let here = subst (λ a. Now (written false s a c.value) (layer.taken_by s.taken takes) to u) e now in
      let w = wrote (L.place x c.object) (sizes g c.object) c.index c.value to (layer.taken_by s.taken takes) s u (are.room c.object)
      (within (record { object = c.object; index = c.index; value = c.value }) refl)
      (record { awake = here.awake; pc = here.pc; has_code = here.has_code; has_sram = here.has_sram; has_fram = here.has_fram; has_taken = here.has_taken; kept = here.kept }) in
      record {
        awake = w.awake;
        pc = w.pc;
        has_code = w.has_code;
        same_sp = w.same_sp;
        same_count = w.same_count;
        has_taken = w.has_taken ∙ taken_same s.taken takes;
        changed_so = w.changes;
      }

  turned : (e : device.Effect) (t : device.Turn) (behind kt : ℕ) (s u : State) → IsHere t
      → ((c : Change) → change_of e.change ≡ Some c → c.index < sizes g c.object) → (turn_of t ≡ On → L.address on ≡ behind) → (turn_of t ≡ Away → L.address away ≡ kt)
      → TurnedBy t e homes s behind kt u → Turned X Place (flow_of g) (sizes g) L st x on away (effect_of e) (turn_of t) s u × (u.code ≡ s.code)
  turned e device.On behind kt s u here within ons aways now =
      let w = went e.change e.takes behind s u within now in
      (record { awake = w.awake; pc = w.pc ∙ ap (λ k. 0x8000 + 2 * k) (sym (ons refl)); same_sp = w.same_sp; same_count = w.same_count; has_taken = w.has_taken; changed = w.changed_so }, w.has_code)
  turned e device.Away behind kt s u here within ons aways now =
      let w = went e.change e.takes kt s u within now in
      (record { awake = w.awake; pc = w.pc ∙ ap (λ k. 0x8000 + 2 * k) (sym (aways refl)); same_sp = w.same_sp; same_count = w.same_count; has_taken = w.has_taken; changed = w.changed_so }, w.has_code)
  turned e device.Calls behind kt s u here within ons aways now = absurd here
  turned e device.Returns behind kt s u here within ons aways now = absurd here
  turned e (device.Ends w) behind kt s u here within ons aways now = (now.phase, now.has_code)
  turned e (device.Traps t) behind kt s u here within ons aways now = (now.phase, now.has_code)

  -- ---- The operation

  module _ (rules : IsGraph g) (small : All (λ w. w < 65536) st.input) (m : Memory) (s : State) (words : AreSmall (sizes g) m) (here : Here X Place (flow_of g) (sizes g) L st x m s)
      (o : Stood g (L.spot x).at) where
    abbrev op : Op
    op = o.node.op

    abbrev Held : ℕ → Type 0
    Held p = IsHeld g (L.place x) homes are m s words p

    module _ (target kt : ℕ) (goes : GoesTo target kt) (stands : Stand st.code (L.address x) (code_of (template homes target o.node.op)))
        (held_a : (p : ℕ) → o.node.op.a ≡ Object p → Held p) (held_b : (p : ℕ) → o.node.op.b ≡ Object p → Held p) (held_array : (u : ArrayUse) → o.node.op.array ≡ Some u → Held u.object)
        (sram : List ℕ) (same_place : (p : ℕ) → 1 ≤ sizes g p → SamePlace (homes p) (placed sram p)) where
      abbrev taking : ℕ
      taking = input_word st.input s.taken

      abbrev does : device.Effect
      does = effect_in st.input homes s o.node.op

      abbrev means : Effect
      means = effect_at X Place (flow_of g) (sizes g) L st x m s.taken

      abbrev told : Effect
      told = graph.effect_at (Some o.node) m (input_word st.input s.taken)

      meant : told ≡ means
      meant = ap (λ (y : Option Node). graph.effect_at y m taking) (sym o.found)

      a_is : operand_at homes s o.node.op.a ≡ operand m o.node.op.a
      a_is = operand_is g (L.place x) homes are m s words (parts_of o.node.op.kind).a o.node.op.a o.fits.a held_a

      b_is : operand_at homes s o.node.op.b ≡ operand m o.node.op.b
      b_is = operand_is g (L.place x) homes are m s words (parts_of o.node.op.kind).b o.node.op.b o.fits.b held_b

      abbrev element : ℕ
      element = element_at homes s o.node.op.array (operand_at homes s o.node.op.a)

      element_same : (u : ArrayUse) → o.node.op.array ≡ Some u → operand m o.node.op.a < u.length → element ≡ m u.object (operand m o.node.op.a)
      element_same u e low = ap (λ i. element_at homes s o.node.op.array i) a_is
          ∙ element_is g (L.place x) homes are m s words (parts_of o.node.op.kind).array o.node.op.array (operand m o.node.op.a) o.fits.array u e (held_array u e) low

      taking_same : taking ≡ taking % 2 ^ 16
      taking_same = let low = input_small st.input small s.taken in omega (arith, low)

      same : Same does told
      same =
          let h = effects_same o.node.op.kind o.node.op (operand m o.node.op.a) (operand m o.node.op.b) element taking taking m o.node.next o.no_call o.no_return
          (formed g o.node.op.kind o.node.op o.fits.dest o.fits.array) o.by element_same taking_same in
          subst (λ y. Same (device.effect_by o.node.op.kind o.node.op y (operand_at homes s o.node.op.b) element taking) told) (sym a_is)
          (subst (λ y. Same (device.effect_by o.node.op.kind o.node.op (operand m o.node.op.a) y element taking) told) (sym b_is) h)

      does_it : effect_of does ≡ means
      does_it = same.same ∙ meant

      within : (c : Change) → change_of does.change ≡ Some c → c.index < sizes g c.object
      within c e = ((graphs_obey g st.input rules).within (L.spot x) m s.taken c (sym (ap (λ (y : Effect). y.change) does_it) ∙ e)).1

      abbrev size : ℕ
      size = words_of_code (code_of (template homes target o.node.op))

      module _ (on_at : (means.turn) ≡ On → L.address on ≡ L.address x + size) (away_at : (means.turn) ≡ Away → L.address away ≡ kt) where
        abbrev Laid : Effect → ℕ → Type 0
        Laid e most = Performed X Place (flow_of g) (sizes g) L st x on away most e s

        done : Laid (effect_of does) (weight st.board sram o.node.op)
        done =
            let p = operation_performs homes target o.node.op st.board st.input (L.address x) kt [] s
            (ready g (L.place x) homes are m s words o.node.op.kind o.node.op target kt o.no_call o.no_return o.fits.dest o.fits.a o.fits.b o.fits.array o.fits.count goes held_a held_b)
            (code_stands s.code (L.address x) (code_of (template homes target o.node.op)) (subst (λ f. Stand f (L.address x) (code_of (template homes target o.node.op))) (sym here.working.has_code) stands))
            (record { awake = here.working.awake; pc = here.pc; has_code = refl; has_sram = refl; has_fram = refl; has_taken = refl; kept = λ r low high. refl }) in
            let turn_is = ap (λ (y : Effect). y.turn) does_it in
            let end = turned does does.turn (L.address x + size) kt s (after st.board st.input p.last p.mid) same.here within (λ e. on_at (sym turn_is ∙ e)) (λ e. away_at (sym turn_is ∙ e)) p.behind in
            record {
              mid = p.mid;
              after = after st.board st.input p.last p.mid;
              first = p.spent;
              last = cost st.board p.mid p.last;
              instruction = p.last;
              path = subst (λ f. Path st.board st.input f p.mid p.spent s) here.working.has_code (path_of st.board st.input s p.mid p.spent s here.working.closed p.path);
              working = subst (λ f. Working f p.mid) here.working.has_code (now_works s p.taken p.word p.mid here.working.closed p.now);
              takes = record { does = p.does; costs = refl; put = p.put; leaves = refl };
              cost = (let w = p.within in let same_weight = weight_is g (L.place x) homes are sram same_place st.board target o.node.op o.fits in omega (arith, w, same_weight));
              same_code = end.1;
              turned = end.0;
            }

        pub performed : Laid means (weight st.board sram o.node.op)
        performed = subst (λ y. Laid y (weight st.board sram o.node.op)) does_it done
