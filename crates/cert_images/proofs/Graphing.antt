-- Each operation of a graph of one function passes in the order of their numbers.
use Rattle.std.proofs.Common.{◌≡◌, ◌≢◌, ℕ, zero, suc, ◌+◌, ◌<◌, Bool, true, false, Some, None, List, [], ◌∷◌, length, refl, sym, ap, ◌∙◌, subst, arith, inl, inr}
use Rattle.std.specs.Prelude.{is_some, slice_get}
use Rattle.flow_graph.specs.declared.graph.OpKind.{OpKind}
use Rattle.flow_graph.specs.declared.graph.OpKind.TheVariants as kind
use Rattle.flow_graph.specs.declared.graph.Graph.{Graph}
use Rattle.flow_graph.specs.declared.nodes.Next.{Next}
use Rattle.flow_graph.specs.declared.nodes.Next.TheVariants as next
use Rattle.flow_graph.specs.declared.nodes.Node.{Node}
use Rattle.flow_graph.specs.declared.owned.Owned.{Owned}
use Rattle.flow_graph.specs.Closed.{FallsTo, IsClosed, IsNextOf, IsOnward, Stays}
use Rattle.flow_graph.specs.Nodes.{graph_nodes}
use Rattle.flow_graph.specs.Owned.{IsIn, operations}
use Rattle.flow_graph.specs.Rules.{IsGraph}
use Rattle.flow_graph.proofs.ClosedLemmas.{closed, nodes, nodes-owned_from}
use Rattle.flow_graph.proofs.FallLemmas.{operations_fall_on}
use Rattle.graph_code.specs.Homes.{HaveHomes}
use Rattle.graph_code.specs.Order.{IsAlone}
use Rattle.graph_code.specs.Pieces.{jumps_to}
use Rattle.graph_code.proofs.OrderLemmas.{in_main, no_call}
use Rattle.each_image.specs.Image.{HeadsStand, can_jump, fram_homes}
use Rattle.cert_rules.specs.Sheet.{Sheet}
use Rattle.cert_templates.specs.Frames.{Position}
use Rattle.cert_images.specs.Images.{positions_by}
use Rattle.cert_images.proofs.Laying.{AllPassing, HeadAt, IsSome, Passing, comes_behind, leads_away}
use Rattle.cert_images.proofs.Operating.{by_kind}
use Rattle.cert_images.proofs.Forming.{formed, kind_begins, kind_first, kind_forms}

-- ---- Nodes, and the operations that they are

pub record OwnedAt (xs : List Owned) (k : ℕ) (x : Node) : Type 0 where
  pub owned : Owned
  pub at : slice_get xs k ≡ Some owned
  pub is : owned.node ≡ x

owned_at : (xs : List Owned) (k : ℕ) (x : Node) → slice_get (nodes xs) k ≡ Some x → OwnedAt xs k x
owned_at [] k x e = absurd (let no : false ≡ true = ap (λ o. is_some o) e in cc)
owned_at (y ∷ ys) zero x e = record { owned = y; at = refl; is = cc }
owned_at (y ∷ ys) (suc k) x e = let h = owned_at ys k x e in record { owned = h.owned; at = h.at; is = h.is }

nodes_length : (xs : List Owned) → length (nodes xs) ≡ length xs
nodes_length [] = refl
nodes_length (x ∷ xs) = ap (λ n. suc n) (nodes_length xs)

pub get_within : {A : Type 0} → (xs : List A) (k : ℕ) (x : A) → slice_get xs k ≡ Some x → k < length xs
get_within [] k x e = absurd (let no : false ≡ true = ap (λ o. is_some o) e in cc)
get_within (y ∷ ys) zero x e = omega arith
get_within (y ∷ ys) (suc k) x e = let h = get_within ys k x e in omega (arith, h)

-- ---- Kinds

leads_is : (k : OpKind) → leads_away k ≡ true → can_jump k ≡ true
leads_is kind.Go e = refl
leads_is kind.Test e = refl
leads_is kind.Below e = refl
leads_is k e = absurd (let no : false ≡ true = e in cc)

no_call_by : (y : Next) → IsNextOf kind.Call y → (f : ℕ) × (n : ℕ) × (y ≡ next.Into f n)
no_call_by (next.To n) h = absurd (let no : false ≡ true = h in cc)
no_call_by (next.Either n m) h = absurd (let no : false ≡ true = h in cc)
no_call_by (next.Into f n) h = (f, n, refl)
no_call_by next.Returns h = absurd cc
no_call_by next.Ends h = absurd cc

no_return_by : (y : Next) → IsNextOf kind.Ret y → y ≡ next.Returns
no_return_by (next.To n) h = absurd (let no : false ≡ true = h in cc)
no_return_by (next.Either n m) h = absurd (let no : false ≡ true = h in cc)
no_return_by (next.Into f n) h = absurd cc
no_return_by next.Returns h = refl
no_return_by next.Ends h = absurd cc

onward_is : (k : OpKind) (m n : ℕ) → comes_behind k ≡ true → IsOnward k m n → m ≡ n
onward_is kind.Go m n e h = absurd (let no : false ≡ true = e in cc)
onward_is k m n e h = h

module _ (g : Graph) (rules : IsGraph g) (alone : IsAlone g) (homes : HaveHomes g) where
  is_closed : IsClosed g
  is_closed = closed g rules

  pub count_is : length (graph_nodes g) ≡ length (operations g)
  count_is = ap (λ (ns : List Node). length ns) (sym (nodes-owned_from 0 g.functions)) ∙ nodes_length (operations g)

  there : (i : ℕ) (x : Node) → slice_get (graph_nodes g) i ≡ Some x → OwnedAt (operations g) i x
  there i x e = owned_at (operations g) i x (subst (λ (ns : List Node). slice_get ns i ≡ Some x) (sym (nodes-owned_from 0 g.functions)) e)

  reached : (j f : ℕ) → IsIn g j f → j < length (graph_nodes g)
  reached j f h = let low = get_within (operations g) j h.0 h.1 in let n = count_is in omega (arith, low, n)

  module _ (i : ℕ) (x : Node) (e : slice_get (graph_nodes g) i ≡ Some x) where
    mine : OwnedAt (operations g) i x
    mine = there i x e

    follows : IsNextOf x.op.kind x.next
    follows = subst (λ (y : Node). IsNextOf y.op.kind y.next) mine.is (is_closed.kinds i mine.owned mine.at)

    stays : (j : ℕ) → Stays x.next j → j < length (graph_nodes g)
    stays j h = reached j mine.owned.function (is_closed.stays i mine.owned mine.at j (subst (λ (y : Node). Stays y.next j) (sym mine.is) h))

    falls : FallsTo x.op.kind x.next (i + 1)
    falls = subst (λ (y : Node). FallsTo y.op.kind y.next (i + 1)) mine.is (operations_fall_on g rules i mine.owned mine.at)

    calls_none : x.op.kind ≢ kind.Call
    calls_none c =
        let h = no_call_by x.next (subst (λ k. IsNextOf k x.next) c follows) in
        no_call g rules alone i mine.owned h.0 h.1 mine.at (ap (λ (y : Node). y.next) mine.is ∙ h.2)

    returns_none : x.op.kind ≢ kind.Ret
    returns_none c =
        let h = no_return_by x.next (subst (λ k. IsNextOf k x.next) c follows) in
        is_closed.returns i mine.owned mine.at (ap (λ (y : Node). y.next) mine.is ∙ h) (in_main g rules alone i mine.owned mine.at)

    -- the one behind it is of the code
    on_is : comes_behind x.op.kind ≡ true → i + 1 < length (graph_nodes g)
    on_is comes = by x.next follows falls (λ j h. stays j h)
      where
        by : (y : Next) → IsNextOf x.op.kind y → FallsTo x.op.kind y (i + 1) → ((j : ℕ) → Stays y j → j < length (graph_nodes g)) → i + 1 < length (graph_nodes g)
        by (next.To n) k f s = subst (λ m. m < length (graph_nodes g)) (onward_is x.op.kind n (i + 1) comes f) (s n refl)
        by (next.Either n m) k f s = subst (λ j. j < length (graph_nodes g)) f (s n (inl refl))
        by (next.Into h n) k f s = absurd (calls_none k)
        by next.Returns k f s = absurd (returns_none k)
        by next.Ends k f s = absurd (let no : false ≡ true = ap (λ j. comes_behind j) (sym k) ∙ comes in cc)

    -- and so is the one that it jumps to
    jump_is : jumps_to x.next < length (graph_nodes g)
    jump_is = by x.next (λ j h. stays j h)
      where
        by : (y : Next) → ((j : ℕ) → Stays y j → j < length (graph_nodes g)) → jumps_to y < length (graph_nodes g)
        by (next.To n) s = s n refl
        by (next.Either n m) s = s m (inr refl)
        by (next.Into f n) s = let low = get_within (graph_nodes g) i x e in omega (arith, low)
        by next.Returns s = let low = get_within (graph_nodes g) i x e in omega (arith, low)
        by next.Ends s = let low = get_within (graph_nodes g) i x e in omega (arith, low)

  module _ (heads : ℕ → Bool) (stand : HeadsStand heads g) (t : Sheet) (split : t.here.flat ≡ None) (address : ℕ → ℕ)
      (at_heads : (j : ℕ) → j < length (graph_nodes g) → heads j ≡ true → HeadAt t (address j)) where
    position : Node → Position
    position x = record { op = x.op; target = address (jumps_to x.next); has_head = heads x.op.number }

    one_passes : (i : ℕ) (x : Node) → slice_get (graph_nodes g) i ≡ Some x → (ps : List Position) → (i + 1 < length (graph_nodes g) → IsSome ps)
        → Passing t (fram_homes g) (record { op = x.op; target = address (jumps_to x.next); has_head = heads x.op.number }) ps
    one_passes i x e ps some =
        let target = address (jumps_to x.next) in
        let fits = rules.operations i x e in
        record {
          passes = λ st n. by_kind g homes t split target st n x.op.kind x.op (calls_none i x e) (returns_none i x e) fits.dest fits.a fits.b fits.array fits.count;
          forms = λ k j f. (formed _ (kind_forms (fram_homes g) target x.op x.op.kind) k j f).0;
          first = kind_first (fram_homes g) target x.op x.op.kind;
          begins = kind_begins x.op.kind t.board _ _;
          goes = λ h. at_heads (jumps_to x.next) (jump_is i x e) (stand.jumped i x e (leads_is x.op.kind h));
          on = λ h. some (on_is i x e h);
        }

    some_left : (xs : List Node) → 0 < length xs → IsSome (positions_by address heads xs)
    some_left [] h = absurd (omega (arith, h))
    some_left (x ∷ xs) h = tt

    at_first : (i : ℕ) (x : Node) → slice_get (graph_nodes g) (i + 0) ≡ Some x → slice_get (graph_nodes g) i ≡ Some x
    at_first i x e = subst (λ n. slice_get (graph_nodes g) n ≡ Some x) (let same : i + 0 ≡ i = omega arith in same) e

    at_next : (i k : ℕ) (x : Node) → slice_get (graph_nodes g) (i + suc k) ≡ Some x → slice_get (graph_nodes g) (i + 1 + k) ≡ Some x
    at_next i k x e = subst (λ n. slice_get (graph_nodes g) n ≡ Some x) (let same : i + suc k ≡ i + 1 + k = omega arith in same) e

    from_on : (i : ℕ) (xs : List Node) → ((k : ℕ) (x : Node) → slice_get xs k ≡ Some x → slice_get (graph_nodes g) (i + k) ≡ Some x) → i + length xs ≡ length (graph_nodes g)
        → AllPassing t (fram_homes g) (positions_by address heads xs)
    from_on i [] at count = tt
    from_on i (x ∷ xs) at count = (
      one_passes i x (at_first i x (at 0 x refl)) (positions_by address heads xs) (λ low. some_left xs (omega (arith, low, count))),
      from_on (i + 1) xs (λ k y e. at_next i k y (at (suc k) y e)) (omega (arith, count)),
    )

    pub all_pass : AllPassing t (fram_homes g) (positions_by address heads (graph_nodes g))
    all_pass = from_on 0 (graph_nodes g) (λ k x e. subst (λ n. slice_get (graph_nodes g) n ≡ Some x) (let same : k ≡ 0 + k = omega arith in same) e) (omega arith)
