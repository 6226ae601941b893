-- Lowered parts, one after another.
use Rattle.std.proofs.Common.{◌≡◌, ℕ, suc, ◌+◌, ◌≤◌, Bool, true, false, Some, None, List, [], ◌∷◌, ◌++◌, refl, ap, ◌∙◌, subst}
use Rattle.std.specs.Prelude.{if◌then◌else◌}
use Rattle.c_values.specs.Values.{Worked, Gives, Traps, is_set}
use Rattle.c_tree.specs.Runs.{State, Got, Done, Part, go_on, word_or_trap, either}
use Rattle.flow_graph.specs.declared.graph.Graph.{Graph}
use Rattle.flow_graph.specs.declared.graph.Op.{Op}
use Rattle.flow_graph.specs.declared.graph.OpKind.{OpKind}
use Rattle.flow_graph.specs.declared.graph.OpKind.TheVariants as kind
use Rattle.flow_graph.specs.declared.graph.Item.{Item}
use Rattle.flow_graph.specs.declared.graph.Item.TheVariants as item
use Rattle.flow_graph.specs.Operations.{operand_word, with_word, gives, passes}
use Rattle.flow_graph.specs.declared.nodes.Next.TheVariants.{To, Either}
use Rattle.flow_graph.specs.declared.nodes.Node.{Node}
use Rattle.flow_graph.specs.declared.nodes.Around.{Around}
use Rattle.flow_graph.specs.Nodes.{test_node, at_behind, graph_nodes, node_in, node, next_of, first_of, nodes_of, laid_items}
use Rattle.flow_graph.specs.Flow as flow
use Rattle.flow_graph.specs.Flow.{Spot, operate, execute, execute_at, effect_by, write_worked}
use Rattle.flow_graph.proofs.LaidLemmas.{laid-Branch, laid_items-append, first_of-append, nodes_of-append, laid-One}
use Rattle.lowered_meaning.specs.Runs.{Runs}
use Rattle.lowered_meaning.specs.Tracks.{Has, Stand, Behind, Tracks}
use Rattle.lowered_meaning.proofs.RunLemmas.{runs_on, runs_op, runs_done, runs_weaker, meets_trap}

-- ---- nodes that the graph has

pub has_left : (g : Graph) (xs ys : List Node) → Has g (xs ++ ys) → Has g xs
has_left g [] ys h = tt
has_left g (x ∷ xs) ys h = (h.0, has_left g xs ys h.1)

pub has_right : (g : Graph) (xs ys : List Node) → Has g (xs ++ ys) → Has g ys
has_right g [] ys h = h
has_right g (x ∷ xs) ys h = has_right g xs ys h.1

stands_both : (g : Graph) (k : Around) (xs ys : List Item) → Stand g k (xs ++ ys) → Has g (nodes_of (laid_items xs) (at_behind k (first_of (laid_items ys) k.behind)) ++ nodes_of (laid_items ys) k)
stands_both g k xs ys h = subst (Has g) (nodes_of-append (laid_items xs) (laid_items ys) k) (subst (λ l. Has g (nodes_of l k)) (laid_items-append xs ys) h)

pub stands_left : (g : Graph) (k : Around) (xs ys : List Item) → Stand g k (xs ++ ys) → Stand g (at_behind k (first_of (laid_items ys) k.behind)) xs
stands_left g k xs ys h = has_left g _ _ (stands_both g k xs ys h)

pub stands_right : (g : Graph) (k : Around) (xs ys : List Item) → Stand g k (xs ++ ys) → Stand g k ys
stands_right g k xs ys h = has_right g _ _ (stands_both g k xs ys h)

pub first_left : (xs ys : List Item) (n : ℕ) → first_of (laid_items (xs ++ ys)) n ≡ first_of (laid_items xs) (first_of (laid_items ys) n)
first_left xs ys n = ap (λ l. first_of l n) (laid_items-append xs ys) ∙ first_of-append (laid_items xs) (laid_items ys) n

-- ---- one part and then another

pub tracks_append : {A B : Type 0} (g : Graph) (most a b c o u w : ℕ) (got : Got A) (f : A → Part B) (k : Around) (xs ys : List Item) (s : Spot)
    (rel : A → State → Spot → Type 0) (rel' : B → State → Spot → Type 0)
    → Tracks g most a b o u got (at_behind k (first_of (laid_items ys) k.behind)) xs s rel
    → ((v : A) (d : State) (z : Spot) → z.calls ≡ s.calls → rel v d z → Tracks g most b c u w (f v d) k ys z rel')
    → Tracks g most a c o w (go_on got f) k (xs ++ ys) s rel'
tracks_append g most a b c o u w got f k xs ys s rel rel' h next = λ stand at.
    runs_on g most a b c o u w got f s _ _
    (h (stands_left g k xs ys stand) (at ∙ first_left xs ys k.behind))
    (λ v d z r. let n = next v d z r.0.calls r.1 (stands_right g k xs ys stand) r.0.at in
    subst (λ cs. Runs g most b c u w (f v d) z (λ v' d' z'. Behind k.behind cs z' × rel' v' d' z')) r.0.calls n)

-- a part without items
pub tracks_none : {A : Type 0} (g : Graph) (most a o : ℕ) (v : A) (d : State) (k : Around) (s : Spot) (rel : A → State → Spot → Type 0)
    → rel v d s → Tracks g most a a o o (Done [] v d) k [] s rel
tracks_none g most a o v d k s rel r = λ stand at.
    let b : Behind k.behind s.calls s × rel v d s = (record { at = at; calls = refl }, r) in
    runs_done g most a o v d s (λ v' d' z. Behind k.behind s.calls z × rel v' d' z) b

pub tracks_weaker : {A : Type 0} (g : Graph) (most a b o u a' b' o' u' : ℕ) (got : Got A) (k : Around) (xs : List Item) (s : Spot) (rel rel' : A → State → Spot → Type 0)
    → a ≤ a' → b' + a ≤ b + a' → o ≤ o' → u' + o ≤ u + o' → ((v : A) (d : State) (z : Spot) → rel v d z → rel' v d z)
    → Tracks g most a b o u got k xs s rel → Tracks g most a' b' o' u' got k xs s rel'
tracks_weaker g most a b o u a' b' o' u' got k xs s rel rel' e1 e2 e3 e4 f h = λ stand at.
    runs_weaker g most a b o u a' b' o' u' got s _ _ e1 e2 e3 e4 (λ v d z r. (r.0, f v d z r.1)) (h stand at)

-- ---- one operation

pub one_stands : (g : Graph) (k : Around) (op : Op) (s : Spot) → Stand g k (item.One op ∷ []) → s.at ≡ first_of (laid_items (item.One op ∷ [])) k.behind
    → node_in (graph_nodes g) s.at ≡ Some (node op k.behind)
one_stands g k op s stand at =
    let e : Has g (node op k.behind ∷ []) = subst (λ l. Has g (l.nodes (at_behind k k.behind) ++ [])) (laid-One op) stand in
    let n : s.at ≡ op.number = at ∙ ap (λ l. l.first k.behind) (laid-One op) in
    ap (node_in (graph_nodes g)) n ∙ e.0

-- an operation that gives a word or traps, and goes on to what follows it
pub record IsWorked (k : OpKind) : Type 0 where
  pub effect : (op : Op) (a b : ℕ) (s : Spot) → effect_by k op a b s ≡ write_worked op.dest (gives k a b) s
  pub next : (n : ℕ) → next_of k n ≡ To n

pub worked : (g : Graph) (k : Around) (op : Op) (s : Spot) → IsWorked op.kind → node_in (graph_nodes g) s.at ≡ Some (node op k.behind)
    → operate g s ≡ flow.followed g (To k.behind) (passes op.kind (operand_word s.objects op.a) (operand_word s.objects op.b))
    (write_worked op.dest (gives op.kind (operand_word s.objects op.a) (operand_word s.objects op.b)) s)
worked g k op s is e =
    let a : ℕ = operand_word s.objects op.a in
    let b : ℕ = operand_word s.objects op.b in
    ap (λ x. execute_at g x s) e
    ∙ ap (λ x. flow.followed g x (passes op.kind a b) (flow.effect op a b s)) (is.next k.behind)
    ∙ ap (flow.followed g (To k.behind) (passes op.kind a b)) (is.effect op a b s)

-- a word was written to an object
pub record Wrote (W : Worked) (o : ℕ) (s : Spot) (d : State) (v : ℕ) (d' : State) (z : Spot) : Type 0 where
  pub gives : W ≡ Gives v
  pub state : d' ≡ d
  pub objects : z.objects ≡ with_word s.objects o 0 v
  pub input : z.input ≡ s.input

pub tracks_worked : (g : Graph) (most a o : ℕ) (k : Around) (op : Op) (t : ℕ) (W : Worked) (s : Spot) (d : State) → IsWorked op.kind → op.dest ≡ Some t
    → gives op.kind (operand_word s.objects op.a) (operand_word s.objects op.b) ≡ W
    → Tracks g most a (a + most) (suc o) o (word_or_trap W d) k (item.One op ∷ []) s (Wrote W t s d)
tracks_worked g most a o k op t (Gives w) s d is dest e = λ stand at.
    let z : Spot = record (flow.written (Some t) w s) { at = k.behind } in
    let r : Behind k.behind s.calls z × Wrote (Gives w) t s d w d z = (record { at = refl; calls = refl }, record { gives = refl; state = refl; objects = refl; input = refl }) in
    let h : operate g s ≡ flow.Went [] z = worked g k op s is (one_stands g k op s stand at) ∙ ap (λ x. flow.followed g (To k.behind) (passes op.kind (operand_word s.objects op.a) (operand_word s.objects op.b)) (write_worked op.dest x s)) e
    ∙ ap (λ x. flow.followed g (To k.behind) (passes op.kind (operand_word s.objects op.a) (operand_word s.objects op.b)) (write_worked x (Gives w) s)) dest in
    runs_op g most a (a + most) o o (Done [] w d) s z (λ v d' z'. Behind k.behind s.calls z' × Wrote (Gives w) t s d v d' z') h
    (runs_done g most (a + most) o w d z (λ v d' z'. Behind k.behind s.calls z' × Wrote (Gives w) t s d v d' z') r)
tracks_worked g most a o k op t (Traps n) s d is dest e = λ stand at.
    meets_trap g most a o n s (worked g k op s is (one_stands g k op s stand at) ∙ ap (λ x. flow.followed g (To k.behind) (passes op.kind (operand_word s.objects op.a) (operand_word s.objects op.b)) (write_worked op.dest x s)) e)

-- ---- branches

-- the items of a branch stand in the graph: its test, and both arms with what lies around the branch
pub record BranchStands (g : Graph) (k : Around) (test : Op) (xs ys : List Item) (n : ℕ) : Type 0 where
  pub node : node_in (graph_nodes g) n ≡ Some (test_node test (first_of (laid_items xs) k.behind) (first_of (laid_items ys) k.behind))
  pub passed : Stand g k xs
  pub failed : Stand g k ys

around_is : (k : Around) → at_behind k k.behind ≡ k
around_is k = refl

pub branch_stands : (g : Graph) (k : Around) (test : Op) (xs ys : List Item) (n : ℕ) → Stand g k (item.Branch test xs ys ∷ []) → n ≡ first_of (laid_items (item.Branch test xs ys ∷ [])) k.behind
    → BranchStands g k test xs ys n
branch_stands g k test xs ys n stand at =
    let e = subst (λ l. Has g (l.nodes (at_behind k k.behind) ++ [])) (laid-Branch test xs ys) stand in
    let h : Has g (nodes_of (laid_items xs) k ++ nodes_of (laid_items ys) k) = has_left g (nodes_of (laid_items xs) k ++ nodes_of (laid_items ys) k) [] e.1 in
    record {
      node = ap (node_in (graph_nodes g)) (at ∙ ap (λ l. l.first k.behind) (laid-Branch test xs ys)) ∙ e.0;
      passed = has_left g (nodes_of (laid_items xs) k) (nodes_of (laid_items ys) k) h;
      failed = has_right g (nodes_of (laid_items xs) k) (nodes_of (laid_items ys) k) h;
    }

-- a test goes one way or the other
pub tested : (g : Graph) (test : Op) (n m : ℕ) (s : Spot) → test.kind ≡ kind.Test → node_in (graph_nodes g) s.at ≡ Some (test_node test n m) → test.dest ≡ None
    → operate g s ≡ flow.Went [] (record s { at = if is_set (operand_word s.objects test.a) then n else m })
tested g test n m s is e dest =
    let a : ℕ = operand_word s.objects test.a in
    let b : ℕ = operand_word s.objects test.b in
    ap (λ x. execute_at g x s) e
    ∙ ap (λ x. flow.followed g (Either n m) (passes x a b) (effect_by x test a b s)) is
    ∙ ap (λ x. flow.followed g (Either n m) (is_set a) (write_worked x (Gives a) s)) dest

pub tracks_branch : {A : Type 0} (g : Graph) (most a b o u : ℕ) (P Q : Part A) (v : ℕ) (k : Around) (test : Op) (xs ys : List Item) (s : Spot) (d : State) (rel : A → State → Spot → Type 0)
    → test.kind ≡ kind.Test → test.dest ≡ None → operand_word s.objects test.a ≡ v
    → ((n : ℕ) → Tracks g most (a + most) b o u (P d) k xs (record s { at = n }) rel) → ((n : ℕ) → Tracks g most (a + most) b o u (Q d) k ys (record s { at = n }) rel)
    → Tracks g most a b (suc o) u (either (is_set v) P Q d) k (item.Branch test xs ys ∷ []) s rel
tracks_branch {A} g most a b o u P Q v k test xs ys s d rel is dest value hp hq = λ stand at.
    let h : BranchStands g k test xs ys s.at = branch_stands g k test xs ys s.at stand at in
    let n : ℕ = first_of (laid_items xs) k.behind in
    let m : ℕ = first_of (laid_items ys) k.behind in
    let r : A → State → Spot → Type 0 = λ x y z. Behind k.behind s.calls z × rel x y z in
    let e : operate g s ≡ flow.Went [] (record s { at = if is_set v then n else m }) =
    tested g test n m s is h.node dest ∙ ap (λ x. flow.Went [] (record s { at = if is_set x then n else m })) value in
    by_case (is_set v) r e h
  where
    by_case : (t : Bool) (r : A → State → Spot → Type 0) → operate g s ≡ flow.Went [] (record s { at = if t then first_of (laid_items xs) k.behind else first_of (laid_items ys) k.behind })
        → BranchStands g k test xs ys s.at → Runs g most a b (suc o) u (either t P Q d) s (λ x y z. Behind k.behind s.calls z × rel x y z)
    by_case true r e h = runs_op g most a b o u (P d) s _ _ e (hp (first_of (laid_items xs) k.behind) h.passed refl)
    by_case false r e h = runs_op g most a b o u (Q d) s _ _ e (hq (first_of (laid_items ys) k.behind) h.failed refl)

-- a go goes on to what follows it
pub goes : (g : Graph) (op : Op) (n : ℕ) (s : Spot) → op.kind ≡ kind.Go → op.dest ≡ None → node_in (graph_nodes g) s.at ≡ Some (node op n) → operate g s ≡ flow.Went [] (record s { at = n })
goes g op n s is dest e =
    let a : ℕ = operand_word s.objects op.a in
    let b : ℕ = operand_word s.objects op.b in
    ap (λ x. execute_at g x s) e
    ∙ ap (λ x. flow.followed g (next_of x n) (passes x a b) (effect_by x op a b s)) is
    ∙ ap (λ x. flow.followed g (To n) (passes kind.Go a b) (write_worked x (Gives a) s)) dest
