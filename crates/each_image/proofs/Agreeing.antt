-- The image of a graph of one function agrees and endures.
use Rattle.std.proofs.Common.{◌≡◌, ℕ, suc, ◌+◌, ◌*◌, ◌<◌, ◌≤◌, Bool, true, false, List, [], ◌++◌, length, flat_map, Some, refl, sym, ap, ◌∙◌, subst, arith}
use Rattle.std.specs.Prelude.{if◌then◌else◌, slice_get}
use Rattle.board_table.specs.declared.board.Board.{Board}
use Rattle.plain_meaning.specs.Behaviour.{Behaviour}
use Rattle.msp430_isa.specs.Encoding.{words_of}
use Rattle.msp430_machine.specs.State.{State, input_word}
use Rattle.msp430_machine.specs.First.{HoldsBlocks, IsFirst}
use Rattle.flow_graph.specs.declared.graph.Graph.{Graph}
use Rattle.flow_graph.specs.Nodes.{graph_nodes}
use Rattle.flow_graph.specs.Operations.{word_at}
use Rattle.flow_graph.specs.Owned.{operations}
use Rattle.flow_graph.specs.Flow.{Begin, flow}
use Rattle.resumed_runs.specs.Code.{boot}
use Rattle.resumed_runs.specs.Carries.{Carries}
use Rattle.resumed_runs.specs.Counts.{IsCounted}
use Rattle.resumed_runs.specs.Need.{sleep_cost}
use Rattle.resumed_runs.proofs.Agreeing.{setting}
use Rattle.laid_code.specs.Flows.{behaves}
use Rattle.laid_code.specs.Chosen.{Piece, StandsAt, chosen_at, chosen_code, head_at}
use Rattle.laid_code.proofs.Behaves.{Tracks, follows}
use Rattle.laid_code.proofs.ChosenHeads.{Shown, landing}
use Rattle.laid_code.proofs.ChosenHeads as chosen
use Rattle.laid_code.proofs.ChosenImage.{IsChosenImage, chosen_agrees, chosen_endures, chosen_plan, chosen_works}
use Rattle.graph_flow.specs.GraphFlow.{Place, begin, flow_of, sizes}
use Rattle.graph_flow.proofs.Meeting.{graph_stands, graphs_are_flows}
use Rattle.graph_flow.proofs.Obeying.{graphs_obey}
use Rattle.graph_code.specs.Homes.{HaveHomes, first_word}
use Rattle.graph_code.specs.Order.{IsThere}
use Rattle.graph_code.specs.Pieces.{address_of, pieces}
use Rattle.graph_code.proofs.HomeLemmas.{home_clear, homes_apart, objects_have_homes}
use Rattle.graph_code.proofs.OrderLemmas.{operations_stand_in_order, runs_begin_first}
use Rattle.graph_code.proofs.Pieces.{address_is, head_is}
use Rattle.op_cost.specs.Weights.{overhead}
use Rattle.each_image.specs.Image.{data_blocks, fram_template, graph_blocks, left_at}
use Rattle.each_image.specs.Laws.{IsEach, EachChargesWork, EachImagesAgree, EachImagesEndure, ShowsFlow}
use Rattle.each_image.proofs.Loaded.{begins_in, blocks_front, objects_in, word_in_fram}
use Rattle.each_image.proofs.Performing.{performed, pieces-count, weight_at, weight_there}
use Rattle.each_image.proofs.Places.{size-append, size_is, steady}
use Rattle.each_image.proofs.Standing.{Stood, operations-length, stood}
use Rattle.each_image.proofs.Stretches.{jumps, left_step, left_within, overhead_is, total, weight_within}

module _ (b : Board) (program : Behaviour) (nodes : ℕ) (heads : ℕ → Bool) (g : Graph) (is : IsEach program nodes heads g) (whole : ℕ)
    (enough : (i : ℕ) → i < length (graph_nodes g) → heads i ≡ true → left_at b heads (graph_nodes g) i + overhead b ≤ whole) where
  abbrev ts : List Piece
  ts = pieces (fram_template g) heads g

  abbrev weighs : Place → ℕ
  weighs q = weight_at b (graph_nodes g) q.at

  abbrev left : Place → ℕ
  left q = left_at b heads (graph_nodes g) q.at + sleep_cost b

  abbrev plan : chosen.Plan Place
  plan = chosen_plan Place (pieces (fram_template g) heads g) (λ q. q.at) (λ q. weight_at b (graph_nodes g) q.at) (λ q. left_at b heads (graph_nodes g) q.at + sleep_cost b) (first_word g)

  abbrev does : State → Behaviour
  does s = behaves Place (flow_of g) (begin g) (word_at (objects_in g s))

  homes : HaveHomes g
  homes = objects_have_homes g is.objects

  count : length ts ≡ length (operations g)
  count = pieces-count g homes heads b [] whole [] (λ n. n) weighs left is.rules is.alone is.room

  there : (q : Place) → q.at < length ts → IsThere g q
  there q low = let n = count in omega (arith, low, n)

  known : (q : Place) → IsThere g q → q.at < length ts
  known q low = let n = count in omega (arith, low, n)

  at_place : (q : Place) → IsThere g q → Stood g q.at
  at_place q low = stood g is.rules is.alone q.at low

  has_head : (i : ℕ) → Stood g i → head_at ts i ≡ heads i
  has_head i o = head_is (fram_template g) heads (address_of (fram_template g) heads g) (graph_nodes g) i o.node o.item ∙ ap heads o.number

  -- ---- What is spent

  abbrev costs : Place → ℕ
  costs q = chosen.budget Place plan (sleep_cost b) (landing Place plan (sleep_cost b) q)

  -- to a head, or on in the same stretch
  to_head : (q : Place) (c : Bool) → head_at ts q.at ≡ c → costs q ≡ (if c then 0 else left_at b heads (graph_nodes g) q.at) + sleep_cost b
  to_head q true e = ap (λ c. chosen.budget Place plan (sleep_cost b) (if c then chosen.Before q else chosen.Behind q)) e ∙ (let z : sleep_cost b ≡ 0 + sleep_cost b = omega arith in z)
  to_head q false e = ap (λ c. chosen.budget Place plan (sleep_cost b) (if c then chosen.Before q else chosen.Behind q)) e

  pays_on : (q to : Place) → IsThere g q → IsThere g to → to.at ≡ q.at + 1 → weighs q + costs to ≤ left q
  pays_on q to low is_there behind =
      let o = at_place to is_there in
      let up : to.at ≡ suc q.at = omega (arith, behind) in
      let step = left_step b heads (graph_nodes g) q.at o.node (subst (λ n. slice_get (graph_nodes g) n ≡ Some o.node) up o.item) in
      let here = to_head to (heads o.node.op.number) (has_head to.at o ∙ ap heads (sym o.number)) in
      let same : (if heads o.node.op.number then 0 else left_at b heads (graph_nodes g) to.at) ≡ (if heads o.node.op.number then 0 else left_at b heads (graph_nodes g) (suc q.at)) =
      ap (λ n. if heads o.node.op.number then 0 else left_at b heads (graph_nodes g) n) up in
      omega (arith, step, here, same)

  pays_away : (q to : Place) → IsThere g to → heads to.at ≡ true → weighs q + costs to ≤ left q
  pays_away q to is_there has =
      let o = at_place to is_there in
      let here = to_head to true (has_head to.at o ∙ has) in
      let within = weight_within b heads (graph_nodes g) q.at in
      omega (arith, here, within)

  code_room : length (flat_map words_of (boot ++ chosen_code 9 ts)) ≤ 0x3FC0
  code_room = let sized = size_is (boot ++ chosen_code 9 ts) in let both = size-append boot (chosen_code 9 ts) in let r = is.room in omega (arith, sized, both, r)

  -- ---- From each first state

  begins_here : (s : State) → IsFirst s → HoldsBlocks s (graph_blocks heads g) → Begin g.objects (objects_in g s)
  begins_here s first holds = begins_in g s is.rules homes first (blocks_front s (data_blocks g) _ holds.1)

  same_flow : (s : State) → Begin g.objects (objects_in g s) → (λ (words : List ℕ) (n : ℕ). flow g (objects_in g s) words n) ≡ does s
  same_flow s begins = λ i words n. sym (graphs_are_flows g (objects_in g s) words is.rules begins n) i

  -- ---- What states show

  abbrev Shows : List ℕ → State → ℕ → State → Type 0
  Shows input s = ShowsFlow heads g (objects_in g s) input

  -- the place of the flow is where the graph stands
  shows : (input : List ℕ) (s : State) → IsFirst s → HoldsBlocks s (graph_blocks heads g) → (done : ℕ) (u : State)
      → Shown Place (flow_of g) (sizes g) plan (setting b (graph_blocks heads g) whole input s.code) (does s) (Tracks Place (flow_of g) (begin g) (word_at (objects_in g s)) (sizes g) input) done u
      → Shows input s done u
  shows input s first holds done u w =
      let t = w.tracks in
      let st = graph_stands g (objects_in g s) input is.rules (begins_here s first holds) done w.q t.real w.taken w.put t.is in
      let o = at_place w.q (there w.q w.there) in
      let place : 0x8000 + 2 * chosen_at 9 ts w.q.at ≡ address_of (fram_template g) heads g st.0.at =
      sym (address_is (fram_template g) heads (steady g) g w.q.at) ∙ ap (λ n. address_of (fram_template g) heads g n) (sym st.2) in
      let head : head_at ts w.q.at ≡ heads st.0.at = has_head w.q.at o ∙ ap heads (sym st.2) in
      record {
        spot = st.0;
        is = ap (λ x. x.stand) st.1;
        stands = subst (λ a. StandsAt a (heads st.0.at) u) place (subst (λ c. StandsAt (0x8000 + 2 * chosen_at 9 ts w.q.at) c u) head w.stands);
        held = λ p i low. w.held p i low ∙ t.same p i low ∙ st.3 p i;
      }

  pub image_is : IsChosenImage Place (flow_of g) (sizes g) b whole (data_blocks g) ts (λ q. q.at) weighs left (first_word g) program nodes does
      (λ input s. Tracks Place (flow_of g) (begin g) (word_at (objects_in g s)) (sizes g) input) (λ input s. ShowsFlow heads g (objects_in g s) input)
  image_is = record {
    first = begin g;
    first_is = (runs_begin_first g is.rules is.alone).0;
    some = (let low = known (begin g) (runs_begin_first g is.rules is.alone).1 in omega (arith, low));
    first_head =
        (let starts = runs_begin_first g is.rules is.alone in
        has_head (begin g).at (at_place (begin g) starts.1) ∙ ap heads starts.0 ∙ is.stand.first);
    room = code_room;
    fits = λ q low has.
        (let o = at_place q (there q low) in
        let n = operations-length g in
        let k = count in
        let fit = enough q.at (omega (arith, low, n, k)) (sym (has_head q.at o) ∙ has) in
        let cost = overhead_is b in
        omega (arith, fit, cost));
    affords = λ q low. (let within = weight_within b heads (graph_nodes g) q.at in omega (arith, within));
    clear = λ o. home_clear g homes o;
    apart = λ o t differ. homes_apart g homes o t differ;
    on = λ input code q m taken low turn.
        (let order = (operations_stand_in_order g is.rules is.alone q m (input_word input taken) (there q low)).on turn in
        (known ((flow_of g).on q) order.0, pays_on q ((flow_of g).on q) (there q low) order.0 order.1));
    away = λ input code q m taken low turn.
        (let to = (operations_stand_in_order g is.rules is.alone q m (input_word input taken) (there q low)).away turn in
        let o = at_place q (there q low) in
        let j = jumps g q m (input_word input taken) o turn in
        (known ((flow_of g).away q) to, pays_away q ((flow_of g).away q) to (ap heads j.to ∙ is.stand.jumped q.at o.node o.item j.can)));
    performs = λ input code small stands q m s words here.
        (let low = there q here.counted in
        let o = at_place q low in
        performed g homes heads b (graph_blocks heads g) whole input code weighs left is.rules is.alone is.room small stands q m s words here low o
        (weight_there b (graph_nodes g) q.at o.node o.item));
    follows = λ input s small first holds. follows Place (flow_of g) (begin g) (word_at (objects_in g s)) input (sizes g) (graphs_obey g input is.rules);
    begins = λ input s small first holds. record {
      real = word_at (objects_in g s);
      is = refl;
      same = λ o i low. sym (word_in_fram g s o i low);
      small = λ o i low. (let r = homes.room o in first.fram (first_word g o + i) (omega (arith, r, low)));
    };
    carries = λ input s small first holds.
        (let begins = begins_here s first holds in
        subst (λ f. Carries program f nodes input) (same_flow s begins) (is.carries (objects_in g s) input small begins));
    shows = shows;
  }

pub each_images_agree : EachImagesAgree
each_images_agree b program nodes heads g is fits =
    chosen_agrees Place (flow_of g) (sizes g) b b.budget (data_blocks g) (pieces (fram_template g) heads g) (λ q. q.at) (λ q. weight_at b (graph_nodes g) q.at)
    (λ q. left_at b heads (graph_nodes g) q.at + sleep_cost b) (first_word g) program nodes (λ s. behaves Place (flow_of g) (begin g) (word_at (objects_in g s)))
    (λ input s. Tracks Place (flow_of g) (begin g) (word_at (objects_in g s)) (sizes g) input) (λ input s. ShowsFlow heads g (objects_in g s) input) (image_is b program nodes heads g is b.budget fits) (omega arith)

pub each_images_endure : EachImagesEndure
each_images_endure b program nodes heads g is =
    let whole : ℕ = total b heads (graph_nodes g) + overhead b in
    chosen_endures Place (flow_of g) (sizes g) b (total b heads (graph_nodes g) + overhead b) (data_blocks g) (pieces (fram_template g) heads g) (λ q. q.at) (λ q. weight_at b (graph_nodes g) q.at)
    (λ q. left_at b heads (graph_nodes g) q.at + sleep_cost b) (first_word g) program nodes (λ s. behaves Place (flow_of g) (begin g) (word_at (objects_in g s)))
    (λ input s. Tracks Place (flow_of g) (begin g) (word_at (objects_in g s)) (sizes g) input) (λ input s. ShowsFlow heads g (objects_in g s) input)
    (image_is b program nodes heads g is (total b heads (graph_nodes g) + overhead b) (λ i low has. (let w = left_within b heads (graph_nodes g) i in omega (arith, w))))

pub each_charges_work : EachChargesWork
each_charges_work b program nodes heads g is fits input events t words generous run =
    let begins = begins_here b program nodes heads g is b.budget fits run.0 run.1 run.2 in
    let counted =
    chosen_works Place (flow_of g) (sizes g) b b.budget (data_blocks g) (pieces (fram_template g) heads g) (λ q. q.at) (λ q. weight_at b (graph_nodes g) q.at)
    (λ q. left_at b heads (graph_nodes g) q.at + sleep_cost b) (first_word g) program nodes (λ s. behaves Place (flow_of g) (begin g) (word_at (objects_in g s)))
    (λ input s. Tracks Place (flow_of g) (begin g) (word_at (objects_in g s)) (sizes g) input) (λ input s. ShowsFlow heads g (objects_in g s) input) (image_is b program nodes heads g is b.budget fits) (omega arith) input events t words generous run in (
      objects_in g run.0,
      begins,
      (λ o i low. sym (word_in_fram g run.0 o i low)),
      subst (λ (f : Behaviour). IsCounted b input f (ShowsFlow heads g (objects_in g run.0) input) run.0 events t) (sym (same_flow b program nodes heads g is b.budget fits run.0 begins)) counted,
    )
