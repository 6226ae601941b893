-- The rules of a graph tell where control goes: its operations with their functions, found by their numbers, and each followed as its kind says.
use Rattle.std.proofs.Common.{◌≡◌, ◌⊎◌, ◌+◌, ◌<◌, ℕ, zero, suc, Bool, true, false, List, [], ◌∷◌, ◌++◌, length, refl, sym, ap, subst, inl, inr, ◌∙◌, arith, zero-add}
use Rattle.std.specs.Prelude.{Option, None, Some, slice_get, if◌then◌else◌, ◌==◌, Contains}
use Rattle.std.specs.Option.{option_map}
use Rattle.std.proofs.lemmas.Bool.{and_parts, eqb-false, false≢true}
use Rattle.std.proofs.lemmas.Bool.Decides.{eqb_tells}
use Rattle.std.proofs.lemmas.Option.{slice_get_within}
use Rattle.flow_graph.specs.declared.graph.Func.{Func}
use Rattle.flow_graph.specs.declared.graph.Graph.{Graph}
use Rattle.flow_graph.specs.declared.nodes.Node.{Node}
use Rattle.flow_graph.specs.declared.owned.Owned.{Owned}
use Rattle.flow_graph.specs.Nodes.{all_nodes, around_body, body_nodes, entry, first_in, graph_nodes, node_in}
use Rattle.flow_graph.specs.Rules.{IsGraph, IsNumbered, Returns, Where, bodies_fit, body_fits, doing_in}
use Rattle.flow_graph.specs.Owned.{IsAt, IsIn, operations, owned, owned_from}
use Rattle.flow_graph.specs.Closed.{ArePlaces, IsClosed}
use Rattle.flow_graph.specs.Laws.{GraphsAreClosed}
use Rattle.flow_graph.proofs.ListLemmas.{Stood, stood_behind, stood_left, stood_right, stood_cases, stood_none, item_at}
use Rattle.flow_graph.proofs.PartLemmas.{Each, Good, Within, each_stood, good_items}

-- ---- the node of a number is the operation at that place

abbrev pub nodes : List Owned → List Node
nodes [] = []
nodes (x ∷ xs) = x.node ∷ nodes xs

nodes-append : (xs ys : List Owned) → nodes (xs ++ ys) ≡ nodes xs ++ nodes ys
nodes-append [] ys = refl
nodes-append (x ∷ xs) ys = ap (λ zs. x.node ∷ zs) (nodes-append xs ys)

nodes-owned : (f : ℕ) (xs : List Node) → nodes (owned f xs) ≡ xs
nodes-owned f [] = refl
nodes-owned f (x ∷ xs) = ap (λ zs. x ∷ zs) (nodes-owned f xs)

pub nodes-owned_from : (f : ℕ) (bs : List Func) → nodes (owned_from f bs) ≡ all_nodes bs
nodes-owned_from f [] = refl
nodes-owned_from f (b ∷ bs) = nodes-append (owned f (body_nodes b)) (owned_from (f + 1) bs) ∙ (ap (λ zs. zs ++ nodes (owned_from (f + 1) bs)) (nodes-owned f (body_nodes b)) ∙ ap (λ zs. body_nodes b ++ zs) (nodes-owned_from (f + 1) bs))

node_here : (x : Node) (xs : List Node) (n : ℕ) → x.op.number ≡ n → node_in (x ∷ xs) n ≡ Some x
node_here x xs n e = elim (eqb_tells x.op.number n) [ inl t ↦ ap (λ (b : Bool). if b then Some x else node_in xs n) t.0 | inr f ↦ absurd (f.1 e) ]

node_past : (x : Node) (xs : List Node) (n : ℕ) → (x.op.number ≡ n → ⊥) → node_in (x ∷ xs) n ≡ node_in xs n
node_past x xs n ne = elim (eqb_tells x.op.number n) [ inl t ↦ absurd (ne t.1) | inr f ↦ ap (λ (b : Bool). if b then Some x else node_in xs n) f.0 ]

found_at : (xs : List Owned) (base : ℕ) → ((k : ℕ) (x : Owned) → slice_get xs k ≡ Some x → x.node.op.number ≡ base + k)
    → (k : ℕ) (x : Owned) → slice_get xs k ≡ Some x → node_in (nodes xs) (base + k) ≡ Some x.node
found_at [] base h k x e = let lt = slice_get_within [] k x e in absurd (omega arith)
found_at (y ∷ ys) base h zero x e = node_here y.node (nodes ys) (base + 0) (h 0 y refl) ∙ ap (option_map (λ (z : Owned). z.node)) e
found_at (y ∷ ys) base h (suc k) x e =
    node_past y.node (nodes ys) (base + suc k) (λ f. let n = h 0 y refl in absurd (omega arith))
    ∙ (ap (node_in (nodes ys)) (omega arith) ∙ found_at ys (base + 1) (λ j z d. let n = h (suc j) z d in omega arith) k x e)

pub node_at : (g : Graph) (i : ℕ) (x : Owned) → ArePlaces g → IsAt (operations g) i x → node_in (graph_nodes g) i ≡ Some x.node
node_at g i x places e =
    subst (λ ns. node_in ns i ≡ Some x.node) (nodes-owned_from 0 g.functions)
    (subst (λ n. node_in (nodes (operations g)) n ≡ Some x.node) (zero-add i) (found_at (operations g) 0 (λ k y d. places k y d ∙ sym (zero-add k)) i x e))

pub node_of : (xs : List Owned) (k : ℕ) (x : Owned) → slice_get xs k ≡ Some x → slice_get (nodes xs) k ≡ Some x.node
node_of [] k x e = let lt = slice_get_within [] k x e in absurd (omega arith)
node_of (y ∷ ys) zero x e = ap (option_map (λ (z : Owned). z.node)) e
node_of (y ∷ ys) (suc k) x e = node_of ys k x e

-- ---- numbers are places

number_at : (xs : List Owned) (base k : ℕ) (x : Owned) → IsNumbered base (nodes xs) → slice_get xs k ≡ Some x → x.node.op.number ≡ base + k
number_at [] base k x h e = let lt = slice_get_within [] k x e in absurd (omega arith)
number_at (y ∷ ys) base zero x h e = number_of (ap (option_map (λ (z : Owned). z.node.op.number)) (sym e)) ∙ (h.0 ∙ omega arith)
  where
    value : Option ℕ → ℕ
    value None = 0
    value (Some n) = n

    number_of : Some x.node.op.number ≡ Some y.node.op.number → x.node.op.number ≡ y.node.op.number
    number_of p = ap value p
number_at (y ∷ ys) base (suc k) x h e = number_at ys (base + 1) k x h.1 e ∙ omega arith

pub are_places : (g : Graph) → IsNumbered 0 (graph_nodes g) → ArePlaces g
are_places g numbered i x e = number_at (operations g) 0 i x (subst (IsNumbered 0) (sym (nodes-owned_from 0 g.functions)) numbered) e ∙ zero-add i

-- ---- operations with their functions

abbrev pub own : ℕ → Node → Owned
own f n = record { function = f; node = n }

owned_stood : (f : ℕ) (xs : List Node) (n : Node) → Stood xs n → Stood (owned f xs) (own f n)
owned_stood f xs n h = by_place xs h.place h.is_there
  where
    by_place : (ys : List Node) (k : ℕ) → slice_get ys k ≡ Some n → Stood (owned f ys) (own f n)
    by_place [] k e = absurd (cc)
    by_place (y ∷ ys) zero e = record { place = 0; is_there = ap (option_map (own f)) e }
    by_place (y ∷ ys) (suc k) e = stood_behind (own f y) (owned f ys) (own f n) (by_place ys k e)

stood_owned : (f : ℕ) (xs : List Node) (x : Owned) → Stood (owned f xs) x → (x.function ≡ f) × Stood xs x.node
stood_owned f xs x h = by_place xs h.place h.is_there
  where
    by_place : (ys : List Node) (k : ℕ) → slice_get (owned f ys) k ≡ Some x → (x.function ≡ f) × Stood ys x.node
    by_place [] k e = absurd (cc)
    by_place (y ∷ ys) zero e = let same : own f y ≡ x = cc in (ap (λ (z : Owned). z.function) (sym same), record { place = 0; is_there = ap (λ (z : Owned). Some z.node) same })
    by_place (y ∷ ys) (suc k) e = let r = by_place ys k e in (r.0, stood_behind y ys x.node r.1)

-- the function that an operation belongs to
record Belongs (base : ℕ) (fs : List Func) (x : Owned) : Type 0 where
  index : ℕ
  body : Func
  function : x.function ≡ base + index
  is_function : slice_get fs index ≡ Some body
  stood : Stood (body_nodes body) x.node

belongs : (base : ℕ) (fs : List Func) (x : Owned) → Stood (owned_from base fs) x → Belongs base fs x
belongs base [] x h = absurd (stood_none x h)
belongs base (b ∷ bs) x h = by_case (stood_cases (owned base (body_nodes b)) (owned_from (base + 1) bs) x h) (belongs (base + 1) bs x)
  where
    by_case : Stood (owned base (body_nodes b)) x ⊎ Stood (owned_from (base + 1) bs) x → (Stood (owned_from (base + 1) bs) x → Belongs (base + 1) bs x) → Belongs base (b ∷ bs) x
    by_case (inl s) rest = let r = stood_owned base (body_nodes b) x s in let e = r.0 in record { index = 0; body = b; function = omega (arith, e); is_function = refl; stood = r.1 }
    by_case (inr s) rest = let r = rest s in let e = r.function in record { index = suc r.index; body = r.body; function = omega (arith, e); is_function = r.is_function; stood = r.stood }

located : (base : ℕ) (fs : List Func) (k : ℕ) (b : Func) (n : Node) → slice_get fs k ≡ Some b → Stood (body_nodes b) n → Stood (owned_from base fs) (own (base + k) n)
located base [] k b n e s = absurd (cc)
located base (c ∷ cs) zero b n e s =
    let same : b ≡ c = cc in
    let z : base ≡ base + 0 = omega arith in
    stood_left (owned base (body_nodes c)) (owned_from (base + 1) cs) (own (base + 0) n)
    (subst (λ i. Stood (owned base (body_nodes c)) (own i n)) z (owned_stood base (body_nodes c) n (subst (λ x. Stood (body_nodes x) n) same s)))
located base (c ∷ cs) (suc k) b n e s =
    let z : (base + 1) + k ≡ base + suc k = omega arith in
    stood_right (owned base (body_nodes c)) (owned_from (base + 1) cs) (own (base + suc k) n)
    (subst (λ i. Stood (owned_from (base + 1) cs) (own i n)) z (located (base + 1) cs k b n e s))

-- ---- bodies that fit

body_at : (main n : ℕ) (fs : List Func) (f : ℕ) (b : Func) → bodies_fit main n fs ≡ true → slice_get fs f ≡ Some b → body_fits (n + f == main) b.body ≡ true
body_at main n [] f b h e = absurd (cc)
body_at main n (c ∷ cs) zero b h e =
    let same : c ≡ b = cc in
    let z : n ≡ n + 0 = omega arith in
    subst (λ i. body_fits (i == main) b.body ≡ true) z (subst (λ (x : Func). body_fits (n == main) x.body ≡ true) same (and_parts (body_fits (n == main) c.body) (bodies_fit main (n + 1) cs) h).0)
body_at main n (c ∷ cs) (suc f) b h e =
    let z : (n + 1) + f ≡ n + suc f = omega arith in
    subst (λ i. body_fits (i == main) b.body ≡ true) z (body_at main (n + 1) cs f b (and_parts (body_fits (n == main) c.body) (bodies_fit main (n + 1) cs) h).1 e)

module _ (g : Graph) (rules : IsGraph g) where
  places : ArePlaces g
  places = are_places g rules.numbered

  abbrev Number : ℕ → ℕ → Type 0
  Number f j = IsIn g j f

  abbrev Called : ℕ → ℕ → Type 0
  Called f h = Contains (doing_in (slice_get g.functions f)).calls h

  abbrev where_in : ℕ → Where
  where_in f = record { in_main = f == g.main; breaks = false; continues = false; returns = true }

  in_function : (f : ℕ) (b : Func) (n : Node) → slice_get g.functions f ≡ Some b → Stood (body_nodes b) n → IsIn g n.op.number f
  in_function f b n e s =
      let t = located 0 g.functions f b n e s in
      (own (0 + f) n, subst (λ i. IsAt (operations g) i (own (0 + f) n)) (sym (places t.place (own (0 + f) n) t.is_there)) t.is_there, zero-add f)

  within_body : (f : ℕ) (b : Func) → slice_get g.functions f ≡ Some b → Within (Number f) (Called f) (body_nodes b)
  within_body f b e j k = subst (Number f) k.number (in_function f b k.found e k.stood)

  fits_at : (f : ℕ) (b : Func) → slice_get g.functions f ≡ Some b → body_fits (f == g.main) b.body ≡ true
  fits_at f b e = subst (λ i. body_fits (i == g.main) b.body ≡ true) (zero-add f) (body_at g.main 0 g.functions f b rules.bodies e)

  good_body : (f : ℕ) (b : Func) → slice_get g.functions f ≡ Some b → Each (Good (Number f) (Called f) (f == g.main)) (body_nodes b)
  good_body f b e =
      (good_items (Number f) (Called f) b.body).nodes (where_in f) Returns None around_body (fits_at f b e)
      (record { behind = λ n. absurd n; breaks = λ t. absurd (false≢true t); continues = λ t. absurd (false≢true t) })
      (within_body f b e) (λ h k. subst (λ o. Contains (doing_in o).calls h) (sym e) k)

  good_at : (i : ℕ) (x : Owned) → IsAt (operations g) i x → Good (Number x.function) (Called x.function) (x.function == g.main) x.node
  good_at i x at =
      let r = belongs 0 g.functions x (record { place = i; is_there = at }) in
      subst (λ k. Good (Number k) (Called k) (k == g.main) x.node) (sym (r.function ∙ zero-add r.index))
      (each_stood (Good (Number r.index) (Called r.index) (r.index == g.main)) (body_nodes r.body) x.node (good_body r.index r.body r.is_function) r.stood)

  entered : (f : ℕ) → f < length g.functions → IsIn g (entry g f) f
  entered f lt =
      let b = item_at g.functions f lt in
      subst (λ o. IsIn g (first_in o) f) (sym b.1)
      ((good_items (Number f) (Called f) b.0.body).ends (where_in f) None 0 around_body (fits_at f b.0 b.1) (within_body f b.0 b.1))

  pub closed : IsClosed g
  closed = record {
    places = places;
    begins = entered g.main rules.main;
    stays = λ i x at. (good_at i x at).stays;
    enters = λ i x f n at e. entered f (rules.calls x.function f ((good_at i x at).calls f n e)).0;
    calls = λ i x f n at e. (good_at i x at).calls f n e;
    returns = λ i x at e same. eqb-false x.function g.main ((good_at i x at).returns e) same;
    kinds = λ i x at. (good_at i x at).by_kind;
    fits = λ i x at. rules.operations i x.node (subst (λ ns. slice_get ns i ≡ Some x.node) (nodes-owned_from 0 g.functions) (node_of (operations g) i x at));
  }

pub graphs_are_closed : GraphsAreClosed
graphs_are_closed g rules = closed g rules
