-- Each operation of a graph of one function is performed by its template, wherever a machine stands at it.
use Rattle.std.proofs.Common.{◌≡◌, ◌≢◌, ℕ, suc, zero, ◌+◌, ◌*◌, ◌%◌, ◌^◌, ◌<◌, ◌≤◌, Bool, true, false, Option, Some, None, List, [], ◌∷◌, length, refl, sym, ap, ◌∙◌, subst, arith}
use Rattle.std.specs.Prelude.{All, if◌then◌else◌, slice_get}
use Rattle.std.proofs.lemmas.List.Elements.{All-head, All-tail}
use Rattle.board_table.specs.declared.board.Board.{Board}
use Rattle.ti_txt.specs.Image.{Block}
use Rattle.msp430_machine.specs.State.{Awake, State, input_word}
use Rattle.msp430_machine.specs.Memory.{written}
use Rattle.msp430_machine.specs.Cost.{cost}
use Rattle.flow_graph.specs.declared.graph.ArrayUse.{ArrayUse}
use Rattle.flow_graph.specs.declared.graph.Op.{Op}
use Rattle.flow_graph.specs.declared.graph.OpKind.{OpKind}
use Rattle.flow_graph.specs.declared.graph.OpKind.TheVariants as kind
use Rattle.flow_graph.specs.declared.graph.Graph.{Graph}
use Rattle.flow_graph.specs.declared.nodes.Next.{Next}
use Rattle.flow_graph.specs.declared.nodes.Next.TheVariants as next
use Rattle.flow_graph.specs.declared.nodes.Node.{Node}
use Rattle.flow_graph.specs.Nodes.{graph_nodes}
use Rattle.flow_graph.specs.Operations.{passes}
use Rattle.flow_graph.specs.Owned.{operations}
use Rattle.flow_graph.specs.Closed.{IsNextOf}
use Rattle.flow_graph.specs.Rules.{IsGraph, parts_of}
use Rattle.power_core.proofs.Points.{Setting}
use Rattle.resumed_runs.specs.Code.{size_of}
use Rattle.resumed_runs.specs.Need.{sleep_cost}
use Rattle.resumed_runs.proofs.Paths.{Stand, Path, Working}
use Rattle.resumed_runs.proofs.Agreeing.{setting}
use Rattle.laid_code.specs.Flows.{Memory, Change, Turn, On, Away, Ends, Effect, taken_by}
use Rattle.laid_code.specs.Chosen.{Piece, chosen_at, head_at, head_size, template_of}
use Rattle.laid_code.specs.Obeying.{AreSmall}
use Rattle.laid_code.proofs.Homes.{InFram}
use Rattle.laid_code.proofs.Laid.{Changed, Here, Performed, Turned, effect_at}
use Rattle.laid_code.proofs.Backwards.{wrote}
use Rattle.laid_code.proofs.ChosenHeads.{Position, Before, Behind, landing, chosen_layout}
use Rattle.laid_code.proofs.ChosenHeads as chosen
use Rattle.laid_code.proofs.ChosenImage.{Templates, chosen_plan}
use Rattle.graph_flow.specs.GraphFlow.{Place, away_at, away_by, effect_by, flow_of, operand, sizes, turn_by}
use Rattle.graph_flow.specs.GraphFlow as graph
use Rattle.graph_flow.proofs.Obeying.{graphs_obey}
use Rattle.graph_code.specs.Homes.{HaveHomes, first_word}
use Rattle.graph_code.specs.Order.{IsAlone, IsThere}
use Rattle.graph_code.specs.Pieces.{address_of, jumps_to, pieces}
use Rattle.graph_code.proofs.HomeLemmas.{home_room}
use Rattle.graph_code.proofs.OrderLemmas.{operations_stand_in_order}
use Rattle.graph_code.proofs.Pieces.{address_is, pieces-length, place_next, template_is}
use Rattle.op_cost.specs.Weights.{weight}
use Rattle.emit_templates.specs.Effects as device
use Rattle.emit_templates.specs.Layer as layer
use Rattle.emit_templates.specs.Layer.{Now, Stops, TurnedBy, after, changed, effect_in, words_of_code}
use Rattle.emit_templates.specs.Placed.{GoesTo, element_at, operand_at}
use Rattle.emit_templates.proofs.Performing.{operation_performs}
use Rattle.each_image.specs.Image.{code_words, fram_homes, fram_template}
use Rattle.each_image.proofs.OperationEffects.{IsHere, Same, change_of, effect_of, effects_same, turn_of}
use Rattle.each_image.proofs.Places.{place_low, steady}
use Rattle.each_image.proofs.Reading.{element_is, formed, operand_is, ready, weight_is}
use Rattle.each_image.proofs.Standing.{Stood, operations-length}
use Rattle.each_image.proofs.TemplatePaths.{code_stands, now_works, path_of, words_size}

-- the weight of the operation at a place
abbrev pub weight_at : Board → List Node → ℕ → ℕ
weight_at b [] i = 0
weight_at b (x ∷ xs) zero = weight b [] x.op
weight_at b (x ∷ xs) (suc i) = weight_at b xs i

pub weight_there : (b : Board) (xs : List Node) (i : ℕ) (x : Node) → slice_get xs i ≡ Some x → weight_at b xs i ≡ weight b [] x.op
weight_there b [] i x e = absurd (cc)
weight_there b (y ∷ ys) zero x e = let same : y ≡ x = cc in ap (λ (z : Node). weight b [] z.op) same
weight_there b (y ∷ ys) (suc i) x e = weight_there b ys i x e

taken_same : (n : ℕ) (takes : Bool) → layer.taken_by n takes ≡ taken_by n takes
taken_same n true = refl
taken_same n false = refl

input_small : (input : List ℕ) → All (λ w. w < 65536) input → (k : ℕ) → input_word input k < 65536
input_small [] h k = omega arith
input_small (w ∷ ws) h zero = All-head (λ w. w < 65536) w ws h
input_small (w ∷ ws) h (suc k) = input_small ws (All-tail (λ w. w < 65536) w ws h) k

-- an end goes nowhere
pub no_end : (k : OpKind) (op : Op) (a b : ℕ) (m : Memory) (w : ℕ) (turn : Turn) → (effect_by k op a b m w turn).turn ≡ Away → k ≡ kind.Finish → ⊥
no_end k op a b m w turn away e = let bad : Ends a ≡ Away = ap (λ j. (effect_by j op a b m w turn).turn) (sym e) ∙ away in absurd (cc)

pub jumped : (k : OpKind) (y : Next) (q : Place) → IsNextOf k y → k ≢ kind.Call → k ≢ kind.Ret → k ≢ kind.Finish → (away_by y q).at ≡ jumps_to y
jumped k (next.To n) q by call ret ends = refl
jumped k (next.Either n m) q by call ret ends = refl
jumped k (next.Into f n) q by call ret ends = absurd (call by)
jumped k next.Returns q by call ret ends = absurd (ret by)
jumped k next.Ends q by call ret ends = absurd (ends by)

module _ (g : Graph) (homes : HaveHomes g) (heads : ℕ → Bool) (b : Board) (image : List Block) (whole : ℕ) (input : List ℕ) (code : ℕ → ℕ) (weight_of left : Place → ℕ) where
  abbrev ts : List Piece
  ts = pieces (fram_template g) heads g

  abbrev plan : chosen.Plan Place
  plan = chosen_plan Place (pieces (fram_template g) heads g) (λ q. q.at) weight_of left (first_word g)

  abbrev st : Setting
  st = setting b image whole input code

  -- ---- Behind an operation

  record Went (q : Place) (change : Option device.Change) (takes : Bool) (to : ℕ) (s u : State) : Type 0 where
    awake : u.phase ≡ Awake
    pc : u.reg 0 ≡ 0x8000 + 2 * to
    has_code : u.code ≡ s.code
    same_sp : u.reg 1 ≡ s.reg 1
    same_count : u.reg 10 ≡ s.reg 10
    has_taken : u.taken ≡ taken_by s.taken takes
    changed_so : Changed (Position Place) Place (flow_of g) (sizes g) (chosen_layout Place plan (sleep_cost b)) st (Behind q) (change_of change) s u

  went : (q : Place) (change : Option device.Change) (takes : Bool) (to : ℕ) (s u : State) → ((c : Change) → change_of change ≡ Some c → c.index < sizes g c.object)
      → Now (changed (fram_homes g) change s) (layer.taken_by s.taken takes) to u → Went q change takes to s u
  went q None takes to s u within now = record {
    awake = now.awake;
    pc = now.pc;
    has_code = now.has_code;
    same_sp = now.kept 1 (omega arith) (omega arith);
    same_count = now.kept 10 (omega arith) (omega arith);
    has_taken = now.has_taken ∙ taken_same s.taken takes;
    changed_so = (now.has_sram, now.has_fram);
  }
  went q (Some c) takes to s u within now =
      let e : fram_homes g c.object + 2 * c.index ≡ 2 * (first_word g c.object + c.index) = omega arith in
      let here = subst (λ a. Now (written false s a c.value) (layer.taken_by s.taken takes) to u) e now in
      let w = wrote (InFram (first_word g c.object)) (sizes g c.object) c.index c.value to (layer.taken_by s.taken takes) s u (home_room g homes c.object)
      (within (record { object = c.object; index = c.index; value = c.value }) refl)
      (record { awake = here.awake; pc = here.pc; has_code = here.has_code; has_sram = here.has_sram; has_fram = here.has_fram; has_taken = here.has_taken; kept = here.kept }) in
      record {
        awake = w.awake;
        pc = w.pc;
        has_code = w.has_code;
        same_sp = w.same_sp;
        same_count = w.same_count;
        has_taken = w.has_taken ∙ taken_same s.taken takes;
        changed_so = w.changes;
      }

  abbrev IsAtEnd : Place → Position Place → Position Place → device.Effect → Turn → State → State → Type 0
  IsAtEnd q on away e turn s u = Turned (Position Place) Place (flow_of g) (sizes g) (chosen_layout Place plan (sleep_cost b)) st (Behind q) on away (effect_of e) turn s u

  abbrev place : Position Place → ℕ
  place x = chosen.address Place plan (sleep_cost b) x

  turned : (q : Place) (on away : Position Place) (e : device.Effect) (t : device.Turn) (behind kt : ℕ) (s u : State) → IsHere t
      → ((c : Change) → change_of e.change ≡ Some c → c.index < sizes g c.object) → (turn_of t ≡ On → place on ≡ behind) → (turn_of t ≡ Away → place away ≡ kt)
      → TurnedBy t e (fram_homes g) s behind kt u → IsAtEnd q on away e (turn_of t) s u × (u.code ≡ s.code)
  turned q on away e device.On behind kt s u here within ons aways now =
      let w = went q e.change e.takes behind s u within now in
      (record { awake = w.awake; pc = w.pc ∙ ap (λ k. 0x8000 + 2 * k) (sym (ons refl)); same_sp = w.same_sp; same_count = w.same_count; has_taken = w.has_taken; changed = w.changed_so }, w.has_code)
  turned q on away e device.Away behind kt s u here within ons aways now =
      let w = went q e.change e.takes kt s u within now in
      (record { awake = w.awake; pc = w.pc ∙ ap (λ k. 0x8000 + 2 * k) (sym (aways refl)); same_sp = w.same_sp; same_count = w.same_count; has_taken = w.has_taken; changed = w.changed_so }, w.has_code)
  turned q on away e device.Calls behind kt s u here within ons aways now = absurd here
  turned q on away e device.Returns behind kt s u here within ons aways now = absurd here
  turned q on away e (device.Ends w) behind kt s u here within ons aways now = (now.phase, now.has_code)
  turned q on away e (device.Traps t) behind kt s u here within ons aways now = (now.phase, now.has_code)

  -- ---- Places

  behind_at : (c : Bool) (n : ℕ) → (if c then n + 11 else n) ≡ n + head_size c
  behind_at true n = refl
  behind_at false n = omega arith

  lands : (q : Place) (c : Bool) → head_at ts q.at ≡ c → place (if c then Before q else Behind q) ≡ chosen_at 9 ts q.at
  lands q true e = refl
  lands q false e = ap (λ c. if c then chosen_at 9 ts q.at + 11 else chosen_at 9 ts q.at) e

  pub lands_at : (q : Place) → place (landing Place plan (sleep_cost b) q) ≡ chosen_at 9 ts q.at
  lands_at q = lands q (head_at ts q.at) refl

  module _ (rules : IsGraph g) (alone : IsAlone g) (room : code_words heads g ≤ 0x3FC0) where
    pub pieces-count : length ts ≡ length (operations g)
    pieces-count = pieces-length (fram_template g) heads (address_of (fram_template g) heads g) (graph_nodes g) ∙ operations-length g

    target_is : (n : ℕ) → GoesTo (address_of (fram_template g) heads g n) (chosen_at 9 ts n)
    target_is n =
        let is = address_is (fram_template g) heads (steady g) g n in
        let low = place_low 9 ts n in
        record { is = is; low = omega (arith, is, low, room) }

    module _ (small : All (λ w. w < 65536) input) (stands : Templates Place ts (λ q. q.at) code) (q : Place) (m : Memory) (s : State) (words : AreSmall (sizes g) m)
        (here : Here (Position Place) Place (flow_of g) (sizes g) (chosen_layout Place plan (sleep_cost b)) st (Behind q) m s) (is : IsThere g q) (o : Stood g q.at) where
      abbrev op : Op
      op = o.node.op

      abbrev target : ℕ
      target = address_of (fram_template g) heads g (jumps_to o.node.next)

      held : (x i : ℕ) → i < sizes g x → s.fram (first_word g x + i) ≡ m x i
      held x i low = here.held x (InFram (first_word g x)) refl i low

      abbrev taking : ℕ
      taking = input_word input s.taken

      abbrev does : device.Effect
      does = effect_in input (fram_homes g) s o.node.op

      abbrev means : Effect
      means = effect_at (Position Place) Place (flow_of g) (sizes g) (chosen_layout Place plan (sleep_cost b)) st (Behind q) m s.taken

      abbrev told : Effect
      told = graph.effect_at (Some o.node) m taking

      meant : told ≡ means
      meant = ap (λ (x : Option Node). graph.effect_at x m taking) (sym o.found)

      a_is : operand_at (fram_homes g) s o.node.op.a ≡ operand m o.node.op.a
      a_is = operand_is g homes m s held words (parts_of o.node.op.kind).a o.node.op.a o.fits.a

      b_is : operand_at (fram_homes g) s o.node.op.b ≡ operand m o.node.op.b
      b_is = operand_is g homes m s held words (parts_of o.node.op.kind).b o.node.op.b o.fits.b

      abbrev element : ℕ
      element = element_at (fram_homes g) s o.node.op.array (operand_at (fram_homes g) s o.node.op.a)

      element_same : (u : ArrayUse) → o.node.op.array ≡ Some u → operand m o.node.op.a < u.length → element ≡ m u.object (operand m o.node.op.a)
      element_same u e low = ap (λ i. element_at (fram_homes g) s o.node.op.array i) a_is ∙ element_is g homes m s held words (parts_of o.node.op.kind).array o.node.op.array (operand m o.node.op.a) o.fits.array u e low

      taking_same : taking ≡ taking % 2 ^ 16
      taking_same = let low = input_small input small s.taken in omega (arith, low)

      same : Same does told
      same =
          let h = effects_same o.node.op.kind o.node.op (operand m o.node.op.a) (operand m o.node.op.b) element taking taking m o.node.next o.no_call o.no_return
          (formed g o.node.op.kind o.node.op o.fits.dest o.fits.array) o.by element_same taking_same in
          subst (λ x. Same (device.effect_by o.node.op.kind o.node.op x (operand_at (fram_homes g) s o.node.op.b) element taking) told) (sym a_is)
          (subst (λ y. Same (device.effect_by o.node.op.kind o.node.op (operand m o.node.op.a) y element taking) told) (sym b_is) h)

      does_it : effect_of does ≡ means
      does_it = same.same ∙ meant

      within : (c : Change) → change_of does.change ≡ Some c → c.index < sizes g c.object
      within c e = ((graphs_obey g input rules).within q m s.taken c (sym (ap (λ (x : Effect). x.change) does_it) ∙ e)).1

      -- where the code of the operation begins and ends, and where it jumps to
      abbrev begins : ℕ
      begins = place (Behind q)

      begins_is : begins ≡ chosen_at 9 ts q.at + head_size (head_at ts q.at)
      begins_is = behind_at (head_at ts q.at) (chosen_at 9 ts q.at)

      template_here : template_of ts q.at ≡ fram_template g target o.node.op
      template_here = template_is (fram_template g) heads (address_of (fram_template g) heads g) (graph_nodes g) q.at o.node o.item

      ends_at : begins + words_of_code (fram_template g target o.node.op) ≡ chosen_at 9 ts (suc q.at)
      ends_at =
          let next = place_next 9 ts q.at (let n = pieces-count in omega (arith, is, n)) in
          let size = words_size (fram_template g target o.node.op) in
          let sized : size_of (template_of ts q.at) ≡ size_of (fram_template g target o.node.op) = ap size_of template_here in
          omega (arith, next, size, sized, begins_is)

      on_at : turn_of does.turn ≡ On → place (landing Place plan (sleep_cost b) ((flow_of g).on q)) ≡ begins + words_of_code (fram_template g target o.node.op)
      on_at e =
          let order = (operations_stand_in_order g rules alone q m taking is).on (sym (ap (λ (x : Effect). x.turn) does_it) ∙ e) in
          let up : q.at + 1 ≡ suc q.at = omega arith in
          lands_at ((flow_of g).on q) ∙ ap (λ n. chosen_at 9 ts n) (order.1 ∙ up) ∙ sym ends_at

      away_is : turn_of does.turn ≡ Away → ((flow_of g).away q).at ≡ jumps_to o.node.next
      away_is e =
          let turns : told.turn ≡ Away = sym (ap (λ (x : Effect). x.turn) same.same) ∙ e in
          let ends = no_end o.node.op.kind o.node.op (operand m o.node.op.a) (operand m o.node.op.b) m taking (turn_by o.node.op.kind o.node.next (passes o.node.op.kind (operand m o.node.op.a) (operand m o.node.op.b))) turns in
          ap (λ (x : Option Node). (away_at x q).at) o.found ∙ jumped o.node.op.kind o.node.next q o.by o.no_call o.no_return ends

      away_at' : turn_of does.turn ≡ Away → place (landing Place plan (sleep_cost b) ((flow_of g).away q)) ≡ chosen_at 9 ts (jumps_to o.node.next)
      away_at' e = lands_at ((flow_of g).away q) ∙ ap (λ n. chosen_at 9 ts n) (away_is e)

      abbrev on : Position Place
      on = landing Place plan (sleep_cost b) ((flow_of g).on q)

      abbrev away : Position Place
      away = landing Place plan (sleep_cost b) ((flow_of g).away q)

      template_stands : Stand code begins (fram_template g target o.node.op)
      template_stands = subst (λ k. Stand code k (fram_template g target o.node.op)) (sym begins_is) (subst (λ t. Stand code (chosen_at 9 ts q.at + head_size (head_at ts q.at)) t) template_here (stands q (let n = pieces-count in omega (arith, is, n))))

      abbrev Laid : Effect → ℕ → Type 0
      Laid e most = Performed (Position Place) Place (flow_of g) (sizes g) (chosen_layout Place plan (sleep_cost b)) st (Behind q) on away most e s

      done : Laid (effect_of does) (weight b [] o.node.op)
      done =
          let p = operation_performs (fram_homes g) target o.node.op b input begins (chosen_at 9 ts (jumps_to o.node.next)) [] s
          (ready g homes m s held words o.node.op.kind o.node.op target (chosen_at 9 ts (jumps_to o.node.next)) o.no_call o.no_return o.fits.dest o.fits.a o.fits.b o.fits.array o.fits.count (target_is (jumps_to o.node.next)))
          (code_stands s.code begins (fram_template g target o.node.op) (subst (λ f. Stand f begins (fram_template g target o.node.op)) (sym here.working.has_code) template_stands))
          (record { awake = here.working.awake; pc = here.pc; has_code = refl; has_sram = refl; has_fram = refl; has_taken = refl; kept = λ r low high. refl }) in
          let end = turned q on away does does.turn (begins + words_of_code (fram_template g target o.node.op)) (chosen_at 9 ts (jumps_to o.node.next)) s (after b input p.last p.mid) same.here within on_at away_at' p.behind in
          record {
            mid = p.mid;
            after = after b input p.last p.mid;
            first = p.spent;
            last = cost b p.mid p.last;
            instruction = p.last;
            path = subst (λ f. Path b input f p.mid p.spent s) here.working.has_code (path_of b input s p.mid p.spent s here.working.closed p.path);
            working = subst (λ f. Working f p.mid) here.working.has_code (now_works s p.taken p.word p.mid here.working.closed p.now);
            takes = record { does = p.does; costs = refl; put = p.put; leaves = refl };
            cost = (let w = p.within in let same_weight = weight_is g homes b target o.node.op o.fits in omega (arith, w, same_weight));
            same_code = end.1;
            turned = end.0;
          }

      pub performed : weight_of q ≡ weight b [] o.node.op → Laid means (weight_of q)
      performed e = subst (λ n. Laid means n) (sym e) (subst (λ x. Laid x (weight b [] o.node.op)) does_it done)
