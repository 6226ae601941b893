-- The flow of a graph and the graph, operation by operation.
use Rattle.std.proofs.Common.{◌≡◌, ◌≢◌, ℕ, zero, suc, ◌+◌, ◌<◌, ◌%◌, ◌^◌, Option, Some, None, List, [], ◌∷◌, ◌++◌, length, get_or, true, false, refl, sym, ap, ◌∙◌, subst, inl, inr, ◌⊎◌, arith, append-nil}
use Rattle.std.specs.Prelude.{Bool, ◌==◌, ◌&&◌, ⊤, nat_lt, if◌then◌else◌}
use Rattle.c_values.specs.Values.{Worked, Gives, Traps as MeetsTrap}
use Rattle.plain_meaning.specs.Behaviour.{Outcome, EndedWith, TrappedWith}
use Rattle.flow_graph.specs.declared.graph.Operand.{Operand}
use Rattle.flow_graph.specs.declared.graph.Operand.TheVariants.{Const, Object}
use Rattle.flow_graph.specs.declared.graph.Op.{Op}
use Rattle.flow_graph.specs.declared.graph.OpKind.{OpKind}
use Rattle.flow_graph.specs.declared.graph.OpKind.TheVariants as kind
use Rattle.flow_graph.specs.declared.graph.ArrayUse.{ArrayUse}
use Rattle.flow_graph.specs.declared.graph.Graph.{Graph}
use Rattle.flow_graph.specs.declared.nodes.Next.{Next}
use Rattle.flow_graph.specs.declared.nodes.Next.TheVariants as next
use Rattle.flow_graph.specs.declared.nodes.Node.{Node}
use Rattle.flow_graph.specs.Operations.{Words, words_of, word_at, with_word, operand_word, gives, passes}
use Rattle.flow_graph.specs.Nodes.{graph_nodes, node_in}
use Rattle.flow_graph.specs.Flow as graph_flow
use Rattle.flow_graph.specs.Flow.{Begin, Spot, Did, Went, Ended, Trapped, Lost, told_at, told_over, telling, flow_from, start, operate}
use Rattle.flow_graph.specs.Rules.{IsGraph}
use Rattle.flow_graph.specs.Laws.{AllWritesFit, ArrayWithin, DestWithin, NeverLost, WritesFit}
use Rattle.flow_graph.proofs.ObjectLemmas.{word_written, length_same, count_same}
use Rattle.flow_graph.proofs.StandLemmas.{nothing_is_missing, writes_are_within}
use Rattle.flow_graph.proofs.FlowLemmas.{flow_on, flow_one, flow_trap, flow_end, flow_more}
use Rattle.laid_code.specs.Flows as flows
use Rattle.laid_code.specs.Flows.{Memory, Turn, On, Away, Ends, Stage, Doing, Stopped, turned, done, stage}
use Rattle.graph_flow.specs.GraphFlow.{Place, operand, changes, worked, load, store, effect_by, effect_on, effect_at, to_turn, turn_by, on_by, away_by, returned, on_at, away_at, flow_of, begin, at_element, GraphsAreFlows}
use Rattle.std.proofs.lemmas.Bool.Decides.{nat_tests}

abbrev pub input_from : List ℕ → ℕ → List ℕ → Type 0
input_from input taken left = (k : ℕ) → get_or left k 0 ≡ get_or input (taken + k) 0

pub to_is : (k : OpKind) → (to_turn k ≡ On) ⊎ (to_turn k ≡ Away)
to_is kind.Go = inr refl
to_is _ = inl refl

head_or : List ℕ → ℕ
head_or [] = 0
head_or (x ∷ xs) = x

tail_of : List ℕ → List ℕ
tail_of [] = []
tail_of (x ∷ xs) = xs

heads : {n k : ℕ} {ns ks : List ℕ} → n ∷ ns ≡ k ∷ ks → n ≡ k
unfolding head_or
heads e = ap head_or e

tails : {n k : ℕ} {ns ks : List ℕ} → n ∷ ns ≡ k ∷ ks → ns ≡ ks
unfolding tail_of
tails e = ap tail_of e

pub is_below : (i n : ℕ) → nat_lt i n ≡ true → i < n
is_below i n e = grind (arith, nat_tests)

next_is : (l : List ℕ) → graph_flow.next_word l ≡ get_or l 0 0 % 2 ^ 16
next_is [] = refl
next_is (x ∷ xs) = refl

behind_is : (l : List ℕ) (k : ℕ) → get_or (graph_flow.behind_word l) k 0 ≡ get_or l (suc k) 0
behind_is [] k = refl
behind_is (x ∷ xs) k = refl

module _ (g : Graph) (objects : Words) (input : List ℕ) where
  -- the memory, the input words taken, and a spot with the same words and the same input left
  record Alike (m : Memory) (taken : ℕ) (now : Words) (left : List ℕ) : Type 0 where
    words : (o i : ℕ) → m o i ≡ word_at now o i
    input_left : input_from input taken left
    count : length now ≡ length objects
    sizes : (o : ℕ) → length (words_of now o) ≡ length (words_of objects o)

  record Stands (q : Place) (m : Memory) (taken : ℕ) (s : Spot) : Type 0 where
    at : s.at ≡ q.at
    calls : s.calls ≡ q.calls
    alike : Alike m taken s.objects s.input

  abbrev Meets : Stage Place (flow_of g) → List ℕ → Did → Type 0
  Meets (Doing q m taken put) before (Went ws s) = Stands q m taken s × (put ≡ before ++ ws)
  Meets (Stopped x) before (Ended v) = x ≡ record { words = before; outcome = EndedWith v }
  Meets (Stopped x) before (Trapped v) = x ≡ record { words = before; outcome = TrappedWith v }
  Meets s before Lost = ⊤
  Meets _ _ _ = ⊥

  module _ (x : Node) (q : Place) (found : node_in (graph_nodes g) q.at ≡ Some x) where
    on_is : (flow_of g).on q ≡ on_by g x.next q
    on_is = ap (λ n. on_at g n q) found

    away_is : (flow_of g).away q ≡ away_by x.next q
    away_is = ap (λ n. away_at n q) found

    -- what is executed next, where s is as the spot before
    follows_by : (k : OpKind) (next : Next) (passed : Bool) (m : Memory) (taken : ℕ) (put before ws : List ℕ) (s : Spot)
        → (flow_of g).on q ≡ on_by g next q → (flow_of g).away q ≡ away_by next q → Stands q m taken s → put ≡ before ++ ws
        → Meets (turned Place (flow_of g) (turn_by k next passed) q m taken put) before (graph_flow.follow g next passed ws s)
    follows_by k (next.To n) passed m taken put before ws s on away h e = jump (to_turn k) (to_is k)
      where
        jump : (t : Turn) → (t ≡ On) ⊎ (t ≡ Away) → Meets (turned Place (flow_of g) t q m taken put) before (graph_flow.follow g (next.To n) passed ws s)
        jump t (inl i) = subst (λ u. Meets (turned Place (flow_of g) u q m taken put) before (graph_flow.follow g (next.To n) passed ws s)) (sym i)
            (record { at = sym (ap (λ p. p.at) on); calls = h.calls ∙ sym (ap (λ p. p.calls) on); alike = h.alike }, e)
        jump t (inr i) = subst (λ u. Meets (turned Place (flow_of g) u q m taken put) before (graph_flow.follow g (next.To n) passed ws s)) (sym i)
            (record { at = sym (ap (λ p. p.at) away); calls = h.calls ∙ sym (ap (λ p. p.calls) away); alike = h.alike }, e)
    follows_by k (next.Either n j) true m taken put before ws s on away h e = (record { at = sym (ap (λ p. p.at) on); calls = h.calls ∙ sym (ap (λ p. p.calls) on); alike = h.alike }, e)
    follows_by k (next.Either n j) false m taken put before ws s on away h e = (record { at = sym (ap (λ p. p.at) away); calls = h.calls ∙ sym (ap (λ p. p.calls) away); alike = h.alike }, e)
    follows_by k (next.Into f n) passed m taken put before ws s on away h e = (record { at = sym (ap (λ p. p.at) on); calls = ap (λ l. n ∷ l) h.calls ∙ sym (ap (λ p. p.calls) on); alike = h.alike }, e)
    follows_by k next.Returns passed m taken put before ws s on away h e = returns s.calls q.calls h.calls on
      where
        returns : (cs ds : List ℕ) → cs ≡ ds → (flow_of g).on q ≡ returned ds q → Meets (turned Place (flow_of g) On q m taken put) before (graph_flow.return_to cs ws s)
        returns [] ds c o = tt
        returns (n ∷ ns) [] c o = cc
        returns (n ∷ ns) (k ∷ ks) c o = (record { at = heads c ∙ sym (ap (λ p. p.at) o); calls = tails c ∙ sym (ap (λ p. p.calls) o); alike = h.alike }, e)
    follows_by k next.Ends passed m taken put before ws s on away h e = tt

    -- ---- one operation

    module _ (m : Memory) (taken : ℕ) (put : List ℕ) (s : Spot) (stands : Stands q m taken s) (next : Next) (passed : Bool) (turn : Turn)
        (leads : (m2 : Memory) (taken2 : ℕ) (put2 ws : List ℕ) (s2 : Spot) → Stands q m2 taken2 s2 → put2 ≡ put ++ ws → Meets (turned Place (flow_of g) turn q m2 taken2 put2) put (graph_flow.follow g next passed ws s2)) where
      same_puts : put ≡ put ++ []
      same_puts = sym (append-nil put)

      at_word : (o i w v : ℕ) (taken2 : ℕ) (left : List ℕ) → input_from input taken2 left → o < length objects → i < length (words_of objects o) → w ≡ v
          → Stands q (flows.written m (Some (record { object = o; index = i; value = w }))) taken2 (record { at = s.at; calls = s.calls; objects = with_word s.objects o i v; input = left })
      at_word o i w v taken2 left from ho hi e = record {
        at = stands.at;
        calls = stands.calls;
        alike = record {
          words = λ p j. ap (λ z. if p == o && j == i then w else z) (stands.alike.words p j) ∙ (ap (λ z. if p == o && j == i then z else word_at s.objects p j) e
              ∙ word_written s.objects o i v p j (subst (λ n. o < n) (sym stands.alike.count) ho) (subst (λ n. i < n) (sym (stands.alike.sizes o)) hi));
          input_left = from;
          count = count_same s.objects o i v ∙ stands.alike.count;
          sizes = λ p. length_same s.objects o i v p ∙ stands.alike.sizes p;
        };
      }

      at_dest : (dest : Option ℕ) (w v : ℕ) (taken2 : ℕ) (left : List ℕ) → input_from input taken2 left → DestWithin objects dest → ((o : ℕ) → dest ≡ Some o → 0 < length (words_of objects o)) → w ≡ v
          → Stands q (flows.written m (changes dest w)) taken2 (graph_flow.written dest v (record { at = s.at; calls = s.calls; objects = s.objects; input = left }))
      at_dest None w v taken2 left from fits some e = record { at = stands.at; calls = stands.calls; alike = record { words = stands.alike.words; input_left = from; count = stands.alike.count; sizes = stands.alike.sizes } }
      at_dest (Some o) w v taken2 left from fits some e = at_word o 0 w v taken2 left from fits (some o refl) e

      module _ (op : Op) (fit : WritesFit objects op) where
        worked_meets : (r : Worked) → Meets (done Place (flow_of g) (worked op.dest r turn) q m taken put) put (graph_flow.followed g next passed (graph_flow.write_worked op.dest r s))
        worked_meets (Gives w) = leads (flows.written m (changes op.dest w)) taken put [] (graph_flow.written op.dest w s) (at_dest op.dest w w taken s.input stands.alike.input_left fit.dest fit.words refl) same_puts
        worked_meets (MeetsTrap t) = refl

        load_meets : (array : Option ArrayUse) (i : ℕ) → Meets (done Place (flow_of g) (load array op.dest i m turn) q m taken put) put (graph_flow.followed g next passed (graph_flow.load array op.dest i s))
        load_meets None i = tt
        load_meets (Some array) i = by_test (nat_lt i array.length)
          where
            by_test : (b : Bool) → Meets (done Place (flow_of g) (at_element b (record { change = changes op.dest (m array.object i); puts = None; takes = false; turn = turn })) q m taken put) put
                (graph_flow.followed g next passed (graph_flow.at_element b (Went [] (graph_flow.written op.dest (word_at s.objects array.object i) s))))
            by_test true = leads (flows.written m (changes op.dest (m array.object i))) taken put [] (graph_flow.written op.dest (word_at s.objects array.object i) s)
                (at_dest op.dest (m array.object i) (word_at s.objects array.object i) taken s.input stands.alike.input_left fit.dest fit.words (stands.alike.words array.object i)) same_puts
            by_test false = refl

        store_meets : (array : Option ArrayUse) (w i : ℕ) → ArrayWithin objects array → Meets (done Place (flow_of g) (store array w i turn) q m taken put) put (graph_flow.followed g next passed (graph_flow.store array w i s))
        store_meets None w i fits = tt
        store_meets (Some array) w i fits = by_test (nat_lt i array.length) refl
          where
            by_test : (b : Bool) → nat_lt i array.length ≡ b → Meets (done Place (flow_of g) (at_element b (record { change = Some (record { object = array.object; index = i; value = w }); puts = None; takes = false; turn = turn })) q m taken put) put
                (graph_flow.followed g next passed (graph_flow.at_element b (Went [] (record s { objects = with_word s.objects array.object i w }))))
            by_test true e = leads (flows.written m (Some (record { object = array.object; index = i; value = w }))) taken put [] (record s { objects = with_word s.objects array.object i w })
                (at_word array.object i w w taken s.input stands.alike.input_left fits.0 (let lt = is_below i array.length e in omega (arith, lt, fits.1)) refl) same_puts
            by_test false e = refl

        input_meets : Meets (done Place (flow_of g) (record { change = changes op.dest (get_or input taken 0 % 2 ^ 16); puts = None; takes = true; turn = turn }) q m taken put) put (graph_flow.followed g next passed (graph_flow.take_word op.dest s))
        input_meets = leads (flows.written m (changes op.dest (get_or input taken 0 % 2 ^ 16))) (taken + 1) put [] (graph_flow.written op.dest (graph_flow.next_word s.input) (record s { input = graph_flow.behind_word s.input }))
            (at_dest op.dest (get_or input taken 0 % 2 ^ 16) (graph_flow.next_word s.input) (taken + 1) (graph_flow.behind_word s.input)
            (λ k. behind_is s.input k ∙ (stands.alike.input_left (suc k) ∙ ap (λ n. get_or input n 0) (omega arith)))
            fit.dest fit.words (sym (next_is s.input ∙ ap (λ n. n % 2 ^ 16) (stands.alike.input_left 0 ∙ ap (λ n. get_or input n 0) (omega arith))))) same_puts

        effect_meets : (k : OpKind) (a b : ℕ) → Meets (done Place (flow_of g) (effect_by k op a b m (get_or input taken 0) turn) q m taken put) put (graph_flow.followed g next passed (graph_flow.effect_by k op a b s))
        effect_meets kind.Load a b = load_meets op.array a
        effect_meets kind.Store a b = store_meets op.array a b fit.array
        effect_meets kind.Input a b = input_meets
        effect_meets kind.Output a b = leads m taken (put ++ a ∷ []) (a ∷ []) s stands refl
        effect_meets kind.Finish a b = refl
        effect_meets k a b = worked_meets (gives k a b)

  -- ---- from operation to operation

  operand_is : (m : Memory) (taken : ℕ) (s : Spot) (a : Operand) → Alike m taken s.objects s.input → operand m a ≡ operand_word s.objects a
  operand_is m taken s (Const w) h = refl
  operand_is m taken s (Object o) h = h.words o 0

  node_meets : (x : Node) (q : Place) (m : Memory) (taken : ℕ) (put : List ℕ) (s : Spot) → node_in (graph_nodes g) q.at ≡ Some x → WritesFit objects x.op → Stands q m taken s
      → Meets (done Place (flow_of g) (effect_at (Some x) m (get_or input taken 0)) q m taken put) put (graph_flow.execute_at g (Some x) s)
  node_meets x q m taken put s found fit h =
      let a = operand_is m taken s x.op.a h.alike in
      let b = operand_is m taken s x.op.b h.alike in
      subst (λ v. Meets (done Place (flow_of g) (effect_on x m (get_or input taken 0) v (operand m x.op.b)) q m taken put) put (graph_flow.execute g x s)) (sym a)
      (subst (λ v. Meets (done Place (flow_of g) (effect_on x m (get_or input taken 0) (operand_word s.objects x.op.a) v) q m taken put) put (graph_flow.execute g x s)) (sym b)
      (meets (operand_word s.objects x.op.a) (operand_word s.objects x.op.b)))
    where
      meets : (v w : ℕ) → Meets (done Place (flow_of g) (effect_on x m (get_or input taken 0) v w) q m taken put) put (graph_flow.execute_on g x s v w)
      meets v w = effect_meets x q found m taken put s h x.next (passes x.op.kind v w) (turn_by x.op.kind x.next (passes x.op.kind v w))
          (λ m2 taken2 put2 ws s2 h2 e. follows_by x q found x.op.kind x.next (passes x.op.kind v w) m2 taken2 put2 put ws s2 (on_is x q found) (away_is x q found) h2 e)
          x.op fit x.op.kind v w

  operates_by : (n : Option Node) (q : Place) (m : Memory) (taken : ℕ) (put : List ℕ) (s : Spot) → node_in (graph_nodes g) q.at ≡ n → AllWritesFit g objects → Stands q m taken s
      → Meets (done Place (flow_of g) (effect_at n m (get_or input taken 0)) q m taken put) put (graph_flow.execute_at g n s)
  operates_by None q m taken put s found fit h = tt
  operates_by (Some x) q m taken put s found fit h = node_meets x q m taken put s found (fit q.at x found) h

  operates : (q : Place) (m : Memory) (taken : ℕ) (put : List ℕ) (s : Spot) → AllWritesFit g objects → Stands q m taken s
      → Meets (flows.next Place (flow_of g) input (Doing q m taken put)) put (operate g s)
  operates q m taken put s fit h =
      subst (λ n. Meets (done Place (flow_of g) (effect_at (node_in (graph_nodes g) q.at) m (get_or input taken 0)) q m taken put) put (graph_flow.execute_at g (node_in (graph_nodes g) n) s)) (sym h.at)
      (operates_by (node_in (graph_nodes g) q.at) q m taken put s refl fit h)

  abbrev begins : Spot
  begins = start g objects input

  -- the stage of the flow after n operations tells where the graph is
  abbrev Tells : Stage Place (flow_of g) → ℕ → Type 0
  Tells (Doing q m taken put) n = (s : Spot) × (flow_from g n begins ≡ told_at put s) × Stands q m taken s
  Tells (Stopped x) n = (o : Outcome) × (flow_from g n begins ≡ told_over x.words o) × (x.outcome ≡ o)

  advance : (n : ℕ) (put : List ℕ) (s : Spot) (st : Stage Place (flow_of g)) (d : Did) → flow_from g n begins ≡ told_at put s → operate g s ≡ d → d ≢ Lost → Meets st put d → Tells st (suc n)
  advance n put s (Doing q m taken more) (Went ws t) h e there h2 =
      (t, flow_on g n 1 (suc n) begins put s (omega arith) h ∙ (ap (telling put) (flow_one g s ws t e) ∙ ap (λ l. told_at l t) (sym h2.1)), h2.0)
  advance n put s (Stopped x) (Ended v) h e there h2 =
      (EndedWith v, flow_on g n 1 (suc n) begins put s (omega arith) h ∙ (ap (telling put) (flow_end g s v e) ∙ ap (λ l. told_over l (EndedWith v)) (append-nil put ∙ sym (ap (λ y. y.words) h2))), ap (λ y. y.outcome) h2)
  advance n put s (Stopped x) (Trapped v) h e there h2 =
      (TrappedWith v, flow_on g n 1 (suc n) begins put s (omega arith) h ∙ (ap (telling put) (flow_trap g s v e) ∙ ap (λ l. told_over l (TrappedWith v)) (append-nil put ∙ sym (ap (λ y. y.words) h2))), ap (λ y. y.outcome) h2)
  advance n put s (Doing q m taken more) (Ended v) h e there h2 = absurd h2
  advance n put s (Doing q m taken more) (Trapped v) h e there h2 = absurd h2
  advance n put s (Stopped x) (Went ws t) h e there h2 = absurd h2
  advance n put s st Lost h e there h2 = absurd (there refl)

  module _ (fit : AllWritesFit g objects) (never : NeverLost g objects input) where
    further : (st : Stage Place (flow_of g)) (n : ℕ) → Tells st n → Tells (flows.next Place (flow_of g) input st) (suc n)
    further (Doing q m taken put) n t =
        advance n put t.0 (flows.next Place (flow_of g) input (Doing q m taken put)) (operate g t.0) t.1 refl (never n put t.0 t.1) (operates q m taken put t.0 fit t.2)
    further (Stopped x) n t = (t.0, (flow_more g n (suc n) begins (omega arith)).over t.0 (ap (λ y. y.stand) t.1) ∙ t.1, t.2)

    tells : (n : ℕ) → Tells (stage Place (flow_of g) (begin g) (word_at objects) input n) n
    tells zero = (
      begins,
      refl,
      record {
        at = refl;
        calls = refl;
        alike = record { words = λ o i. refl; input_left = λ k. ap (λ n. get_or input n 0) (omega arith); count = refl; sizes = λ o. refl };
      },
    )
    tells (suc n) = further (stage Place (flow_of g) (begin g) (word_at objects) input n) n (tells n)

  means : (st : Stage Place (flow_of g)) (n : ℕ) → Tells st n → flows.meaning_of Place (flow_of g) st ≡ graph_flow.meaning_of (flow_from g n begins)
  means (Doing q m taken put) n t = sym (ap graph_flow.meaning_of t.1)
  means (Stopped x) n t = ap (λ o. record { words = x.words; outcome = o }) t.2 ∙ sym (ap graph_flow.meaning_of t.1)

pub graphs_are_flows : GraphsAreFlows
graphs_are_flows g objects input rules begins_so n =
    means g objects input (stage Place (flow_of g) (begin g) (word_at objects) input n) n
    (tells g objects input (writes_are_within g objects rules begins_so) (nothing_is_missing g objects input rules begins_so) n)

-- Where the flow goes on, the graph stands at that operation, with the same words of objects.
pub graph_stands : (g : Graph) (objects : Words) (input : List ℕ) → IsGraph g → Begin g.objects objects → (n : ℕ) (q : Place) (m : Memory) (taken : ℕ) (put : List ℕ)
    → stage Place (flow_of g) (begin g) (word_at objects) input n ≡ Doing q m taken put
    → (s : Spot) × (flow_from g n (start g objects input) ≡ told_at put s) × (s.at ≡ q.at) × ((o i : ℕ) → m o i ≡ word_at s.objects o i)
graph_stands g objects input rules begins_so n q m taken put is =
    let told : Tells g objects input (stage Place (flow_of g) (begin g) (word_at objects) input n) n = tells g objects input (writes_are_within g objects rules begins_so) (nothing_is_missing g objects input rules begins_so) n in
    let t : Tells g objects input (Doing q m taken put) n = subst (λ st. Tells g objects input st n) is told in
    (t.0, t.1, t.2.at, t.2.alike.words)
