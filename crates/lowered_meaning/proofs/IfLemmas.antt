-- Statements behind their step, lists of items, `if` as it is lowered, and what jumps.
use Rattle.std.proofs.Common.{◌≡◌, ℕ, suc, ◌+◌, ◌≤◌, Bool, true, false, Some, None, List, [], ◌∷◌, ◌++◌, refl, ap, ◌∙◌, subst, arith, inl, inr, append-nil}
use Rattle.std.specs.Prelude.{if◌then◌else◌}
use Rattle.base_io.specs.declared.place.Place.{Place}
use Rattle.c_values.specs.Values.{is_set}
use Rattle.c_tree.specs.declared.tree.Expr.{Expr}
use Rattle.c_tree.specs.declared.leaving.Leaving.{Leaving}
use Rattle.c_tree.specs.declared.leaving.Leaving.TheVariants.{Next, Broke, Continued, Returned}
use Rattle.c_tree.specs.Runs.{State, Part, begin, pure, either, ◌>>=◌, ◌>>◌}
use Rattle.c_tree.specs.Nodes.{then_on}
use Rattle.flow_graph.specs.declared.graph.Graph.{Graph}
use Rattle.flow_graph.specs.declared.graph.Op.{Op}
use Rattle.flow_graph.specs.declared.graph.OpKind.TheVariants as kind
use Rattle.flow_graph.specs.declared.graph.Operand.{Operand}
use Rattle.flow_graph.specs.declared.graph.Item.{Item}
use Rattle.flow_graph.specs.declared.graph.Item.TheVariants as item
use Rattle.flow_graph.specs.declared.graph.LeaveTo.TheVariants.{Break, Continue}
use Rattle.flow_graph.specs.Operations.{operand_word}
use Rattle.flow_graph.specs.declared.nodes.Around.{Around}
use Rattle.flow_graph.specs.Nodes.{at_behind, first_of, laid_items}
use Rattle.flow_graph.specs.Flow as flow
use Rattle.flow_graph.specs.Flow.{Spot, operate}
use Rattle.lowered_graphs.specs.Making.{Emit, Counts, Made, test_of, go, leave, nothing}
use Rattle.lowered_graphs.specs.Exprs.{full}
use Rattle.lowered_graphs.specs.Stmts.{LoweredStmt, if_at, break_at, last_position}
use Rattle.lowered_graphs.specs.declared.positions.Position.{Position}
use Rattle.lowered_graphs.specs.declared.positions.Position.TheVariants.{Anywhere, LastOfGroup, Body, LastOfBody}
use Rattle.lowered_meaning.specs.Keeps.{Ground, Agrees, Ready, ExprTracks}
use Rattle.lowered_meaning.specs.Leaves.{Callee, LeftAt, BrokeAt, Since, StmtDone, StmtTracks, ActTracks, ItemDone, Upwards}
use Rattle.lowered_meaning.specs.Runs.{Runs}
use Rattle.lowered_meaning.specs.Tracks.{Stand}
use Rattle.lowered_meaning.proofs.RunLemmas.{runs_on, runs_begin, runs_done, runs_op, runs_weaker}
use Rattle.lowered_meaning.proofs.ShapeLemmas.{Tracked}
use Rattle.lowered_meaning.proofs.SinceLemmas.{since_start, since_at, since_both, since_expr}
use Rattle.lowered_meaning.proofs.StmtLemmas.{both, if_else, leaves, left_within, since_less}
use Rattle.lowered_meaning.proofs.TrackLemmas.{stands_left, stands_right, first_left, BranchStands, branch_stands, tested}

-- ---- forms

-- a statement behind its step, which pays for 6 operations
abbrev pub StmtLevel : Graph → Callee → (ℕ → Type 0) → (most n : ℕ) → Position → Part Leaving → Emit (Unit {0}) → Type 0
StmtLevel g f scope most n last p emit = (c : Counts) → f.ground.base ≤ c.temp → (emit c).counts.temp ≤ f.ground.top
    → (k : Around) (s : Spot) (d : State) (a o : ℕ) → Agrees f.ground scope d s → Ready f.ground s.objects
    → Stand g k (emit c).items → s.at ≡ first_of (laid_items (emit c).items) k.behind
    → Runs g most (a + n) a (6 + o) (suc o) (p d) s (StmtDone g f scope last k s d)

-- a list of items, which may have no step of its own: it keeps the operation that it was given
abbrev pub ListTracks : Graph → Callee → (ℕ → Type 0) → (most n : ℕ) → Position → Part Leaving → Emit (Unit {0}) → Type 0
ListTracks g f scope most n last p emit = (c : Counts) → f.ground.base ≤ c.temp → (emit c).counts.temp ≤ f.ground.top
    → (k : Around) (s : Spot) (d : State) (a o : ℕ) → Agrees f.ground scope d s → Ready f.ground s.objects
    → Stand g k (emit c).items → s.at ≡ first_of (laid_items (emit c).items) k.behind
    → Runs g most (a + n) a (suc o) (suc o) (p d) s (StmtDone g f scope last k s d)

-- an item of a list, behind which other variables may be in scope
abbrev pub ItemPays : Graph → Callee → (scope scope' : ℕ → Type 0) → (most n : ℕ) → Position → Part Leaving → Emit (Unit {0}) → Type 0
ItemPays g f scope scope' most n last p emit = (c : Counts) → f.ground.base ≤ c.temp → (emit c).counts.temp ≤ f.ground.top
    → (k : Around) (s : Spot) (d : State) (a o : ℕ) → Agrees f.ground scope d s → Ready f.ground s.objects
    → Stand g k (emit c).items → s.at ≡ first_of (laid_items (emit c).items) k.behind
    → Runs g most (a + n) a (suc o) (suc o) (p d) s (ItemDone g f scope scope' last k s d)

-- ---- what the steps that are left don't count for

pub since_from : (w : Ground) (scope : ℕ → Type 0) (s : Spot) (old d : State) (z : Spot) (j : ℕ) → Since w scope s (record old { left = j }) d z → Since w scope s old d z
since_from w scope s old d z j h = record { calls = h.calls; agrees = h.agrees; ready = h.ready; kept = h.kept; shape = h.shape; store = h.store }

pub agrees_left : (w : Ground) (scope : ℕ → Type 0) (d : State) (s : Spot) (j : ℕ) → Agrees w scope d s → Agrees w scope (record d { left = j }) s
agrees_left w scope d s j h = record { variables = h.variables; shape = h.shape; input = h.input; fit = h.fit }

-- ---- where a statement was left

pub left_anywhere : (g : Graph) (f : Callee) (last : Position) (k : Around) (l : Leaving) (z : Spot) → LeftAt g f Anywhere k l z → LeftAt g f last k l z
left_anywhere g f last k Next z h = h
left_anywhere g f last k Continued z h = h
left_anywhere g f last k (Returned v) z h = h
left_anywhere g f Anywhere k Broke z h = h
left_anywhere g f LastOfGroup k Broke z h = inl h
left_anywhere g f Body k Broke z h = h
left_anywhere g f LastOfBody k Broke z h = h

left_block : (g : Graph) (f : Callee) (last : Position) (k : Around) (l : Leaving) (z : Spot) → LeftAt g f (last_position last) k l z → LeftAt g f last k l z
left_block g f last k Next z h = h
left_block g f last k Continued z h = h
left_block g f last k (Returned v) z h = h
left_block g f Anywhere k Broke z h = h
left_block g f LastOfGroup k Broke z h = h
left_block g f Body k Broke z h = h
left_block g f LastOfBody k Broke z h = h

-- ---- items that end in a part without items

pub cut : (xs ys : List Item) → (xs ++ []) ++ ys ≡ xs ++ ys
cut xs ys = ap (λ l. l ++ ys) (append-nil xs)

pub stands_same : (g : Graph) (k : Around) (xs ys : List Item) → xs ≡ ys → Stand g k xs → Stand g k ys
stands_same g k xs ys e h = subst (Stand g k) e h

pub first_same : (xs ys : List Item) (n m : ℕ) → xs ≡ ys → m ≡ first_of (laid_items xs) n → m ≡ first_of (laid_items ys) n
first_same xs ys n m e h = h ∙ ap (λ l. first_of (laid_items l) n) e

module _ (g : Graph) (f : Callee) (scope : ℕ → Type 0) (most : ℕ) where
  abbrev w : Ground
  w = f.ground

  -- ---- a statement and its step

  pub stmt_begun : (n : ℕ) (last : Position) (p : Part Leaving) (emit : Emit (Unit {0})) → StmtLevel g f scope most n last p emit → StmtTracks g f scope most (suc n) last (begin >> p) emit
  stmt_begun n last p emit h c le top k s d a o agrees ready stand at =
      runs_weaker g most (suc (a + n)) a o (suc o) (a + suc n) a o (suc o) ((begin >> p) d) s Goal Goal (omega arith) (omega arith) (omega arith) (omega arith) (λ l e z r. r)
      (runs_begin g most (a + n) a o (suc o) d.left d p s Goal
      (λ j. runs_weaker g most (a + n) a (6 + o) (suc o) (a + n) a (6 + o) (suc o) (p (record d { left = j })) s (StmtDone g f scope last k s (record d { left = j })) Goal
      (omega arith) (omega arith) (omega arith) (omega arith) (λ l e z r. record { left = r.left; since = since_from w scope s d e z j r.since })
      (h c le top k s (record d { left = j }) a o (agrees_left w scope d s j agrees) ready stand at)))
    where
      Goal : Leaving → State → Spot → Type 0
      Goal = StmtDone g f scope last k s d

  -- ---- items

  -- a statement as an item
  pub stmt_pays : (n : ℕ) (last : Position) (p : Part Leaving) (emit : Emit (Unit {0})) → StmtTracks g f scope most n last p emit → ItemPays g f scope scope most n last p emit
  stmt_pays n last p emit h c le top k s d a o agrees ready stand at =
      runs_weaker g most (a + n) a o (suc o) (a + n) a (suc o) (suc o) (p d) s _ (ItemDone g f scope scope last k s d) (omega arith) (omega arith) (omega arith) (omega arith)
      (λ l e z r. record { left = r.left; since = r.since; next = λ q. r.since }) (h c le top k s d a o agrees ready stand at)

  -- a declaration as an item
  pub declared_pays : (scope' : ℕ → Type 0) (n : ℕ) (last : Position) (p : Part (Unit {0})) (emit : Emit (Unit {0})) → ((x : ℕ) → scope x → scope' x)
      → ActTracks g f.ground scope scope' most n p emit → ItemPays g f scope scope' most n last (p >> pure Next) emit
  declared_pays scope' n last p emit wider h c le top k s d a o agrees ready stand at =
      runs_on g most (a + n) a a (suc o) (suc o) (suc o) (p d) (λ _. pure Next) s _ Goal (h c le top k s d a (suc o) agrees ready stand at)
      (λ u e z r. runs_done g most a (suc o) Next e z Goal (record { left = r.0; since = since_less w scope scope' s d e z wider r.1; next = λ q. r.1 }))
    where
      Goal : Leaving → State → Spot → Type 0
      Goal = ItemDone g f scope scope' last k s d

  -- ---- lists of items

  pub list_none : (last : Position) → ListTracks g f scope most 0 last (pure Next) nothing
  list_none last c le top k s d a o agrees ready stand at =
      runs_weaker g most a a (suc o) (suc o) (a + 0) a (suc o) (suc o) (pure Next d) s Goal Goal (omega arith) (omega arith) (omega arith) (omega arith) (λ l e z r. r)
      (runs_done g most a (suc o) Next d s Goal (record { left = at; since = since_start w scope s d agrees ready }))
    where
      Goal : Leaving → State → Spot → Type 0
      Goal = StmtDone g f scope last k s d

  pub list_one : (scope' : ℕ → Type 0) (n : ℕ) (last : Position) (p : Part Leaving) (emit : Emit (Unit {0})) → ItemPays g f scope scope' most n last p emit
      → ListTracks g f scope most n last (p >>= (λ l. then_on l (pure Next))) emit
  list_one scope' n last p emit h c le top k s d a o agrees ready stand at =
      runs_on g most (a + n) a a (suc o) (suc o) (suc o) (p d) (λ l. then_on l (pure Next)) s _ Goal (h c le top k s d a o agrees ready stand at) (λ l e z r. by_leaving l e z r)
    where
      Goal : Leaving → State → Spot → Type 0
      Goal = StmtDone g f scope last k s d

      by_leaving : (l : Leaving) (e : State) (z : Spot) → ItemDone g f scope scope' last k s d l e z → Runs g most a a (suc o) (suc o) (then_on l (pure Next) e) z Goal
      by_leaving Next e z r = runs_done g most a (suc o) Next e z Goal (record { left = r.left; since = r.since })
      by_leaving Broke e z r = runs_done g most a (suc o) Broke e z Goal (record { left = r.left; since = r.since })
      by_leaving Continued e z r = runs_done g most a (suc o) Continued e z Goal (record { left = r.left; since = r.since })
      by_leaving (Returned v) e z r = runs_done g most a (suc o) (Returned v) e z Goal (record { left = r.left; since = r.since })

  pub list_more : (scope' : ℕ → Type 0) (n m : ℕ) (last : Position) (p q : Part Leaving) (e1 e2 : Emit (Unit {0})) → ((x : ℕ) → scope x → scope' x) → Upwards e1 → Upwards e2
      → ItemPays g f scope scope' most n Anywhere p e1 → ListTracks g f scope' most m last q e2
      → ListTracks g f scope most (n + m) last (p >>= (λ l. then_on l q)) (both e1 e2)
  list_more scope' n m last p q e1 e2 wider up1 up2 h1 h2 c le top k s d a o agrees ready stand at =
      runs_on g most (a + (n + m)) (a + m) a (suc o) (suc o) (suc o) (p d) (λ l. then_on l q) s _ Goal
      (runs_weaker g most (a + m + n) (a + m) (suc o) (suc o) (a + (n + m)) (a + m) (suc o) (suc o) (p d) s _ _ (omega arith) (omega arith) (omega arith) (omega arith) (λ l e z r. r)
      (h1 c le (omega (arith, top, up2 m1.counts)) (at_behind k second) s d (a + m) o agrees ready (stands_left g k m1.items m2.items stand) (at ∙ first_left m1.items m2.items k.behind)))
      (λ l e z r. by_leaving l e z r)
    where
      m1 : Made (Unit {0})
      m1 = e1 c

      m2 : Made (Unit {0})
      m2 = e2 m1.counts

      second : ℕ
      second = first_of (laid_items m2.items) k.behind

      Goal : Leaving → State → Spot → Type 0
      Goal = StmtDone g f scope last k s d

      left : (l : Leaving) (e : State) (z : Spot) → LeftAt g f last k l z → Since w scope s d e z → Runs g most (a + m) a (suc o) (suc o) (pure l e) z Goal
      left l e z t since = runs_weaker g most (a + m) (a + m) (suc o) (suc o) (a + m) a (suc o) (suc o) (pure l e) z Goal Goal (omega arith) (omega arith) (omega arith) (omega arith) (λ l' e' z' r'. r')
          (runs_done g most (a + m) (suc o) l e z Goal (record { left = t; since = since }))

      by_leaving : (l : Leaving) (e : State) (z : Spot) → ItemDone g f scope scope' Anywhere (at_behind k second) s d l e z → Runs g most (a + m) a (suc o) (suc o) (then_on l q e) z Goal
      by_leaving Next e z r =
          let since : Since w scope' s d e z = r.next refl in
          runs_weaker g most (a + m) a (suc o) (suc o) (a + m) a (suc o) (suc o) (q e) z _ Goal (omega arith) (omega arith) (omega arith) (omega arith)
          (λ l' e' z' r'. record { left = r'.left; since = since_less w scope scope' s d e' z' wider (since_both w scope' scope' s d e e' z z' since r'.since) })
          (h2 m1.counts (omega (arith, le, up1 c)) top k z e a o since.agrees since.ready (stands_right g k m1.items m2.items stand) r.left)
      by_leaving Broke e z r = left Broke e z (left_within g f last k second Broke z refl r.left) r.since
      by_leaving Continued e z r = left Continued e z r.left r.since
      by_leaving (Returned v) e z r = left (Returned v) e z r.left r.since

  -- a block behind its step
  pub block_level : (n : ℕ) (last : Position) (p : Part Leaving) (emit : Emit (Unit {0})) → ListTracks g f scope most n (last_position last) p emit → StmtLevel g f scope most n last p emit
  block_level n last p emit h c le top k s d a o agrees ready stand at =
      runs_weaker g most (a + n) a (suc o) (suc o) (a + n) a (6 + o) (suc o) (p d) s _ (StmtDone g f scope last k s d) (omega arith) (omega arith) (omega arith) (omega arith)
      (λ l e z r. record { left = left_block g f last k l z r.left; since = r.since }) (h c le top k s d a o agrees ready stand at)

  -- ---- what goes on, and what jumps

  pub empty_level : (last : Position) → StmtLevel g f scope most 0 last (pure Next) nothing
  empty_level last c le top k s d a o agrees ready stand at =
      runs_weaker g most a a (6 + o) (6 + o) (a + 0) a (6 + o) (suc o) (pure Next d) s Goal Goal (omega arith) (omega arith) (omega arith) (omega arith) (λ l e z r. r)
      (runs_done g most a (6 + o) Next d s Goal (record { left = at; since = since_start w scope s d agrees ready }))
    where
      Goal : Leaving → State → Spot → Type 0
      Goal = StmtDone g f scope last k s d

  pub act_level : (n : ℕ) (last : Position) (p : Part (Unit {0})) (emit : Emit (Unit {0})) → ActTracks g f.ground scope scope most n p emit → StmtLevel g f scope most n last (p >> pure Next) emit
  act_level n last p emit h c le top k s d a o agrees ready stand at =
      runs_weaker g most (a + n) a (suc o) (suc o) (a + n) a (6 + o) (suc o) ((p >> pure Next) d) s Goal Goal (omega arith) (omega arith) (omega arith) (omega arith) (λ l e z r. r)
      (runs_on g most (a + n) a a (suc o) (suc o) (suc o) (p d) (λ _. pure Next) s _ Goal (h c le top k s d a (suc o) agrees ready stand at)
      (λ u e z r. runs_done g most a (suc o) Next e z Goal (record { left = r.0; since = r.1 })))
    where
      Goal : Leaving → State → Spot → Type 0
      Goal = StmtDone g f scope last k s d

  pub continue_level : (last : Position) (at : Place) → StmtLevel g f scope most 0 last (pure Continued) (leave Continue (go at))
  continue_level last at c le top k s d a o agrees ready stand first =
      runs_weaker g most a a (6 + o) (suc o) (a + 0) a (6 + o) (suc o) (pure Continued d) s Goal Goal (omega arith) (omega arith) (omega arith) (omega arith) (λ l e z r. r)
      (leaves g f scope most a o last Continued Continue (go at c.op) k s d refl refl (λ z e. e) agrees ready stand first)
    where
      Goal : Leaving → State → Spot → Type 0
      Goal = StmtDone g f scope last k s d

  broke : (last : Position) (k : Around) (z : Spot) → z.at ≡ k.break_to → BrokeAt last k z
  broke Anywhere k z e = e
  broke LastOfGroup k z e = inl e
  broke Body k z e = e
  broke LastOfBody k z e = e

  break_leaves : (last : Position) (at : Place) → StmtLevel g f scope most 0 last (pure Broke) (leave Break (go at))
  break_leaves last at c le top k s d a o agrees ready stand first =
      runs_weaker g most a a (6 + o) (suc o) (a + 0) a (6 + o) (suc o) (pure Broke d) s Goal Goal (omega arith) (omega arith) (omega arith) (omega arith) (λ l e z r. r)
      (leaves g f scope most a o last Broke Break (go at c.op) k s d refl refl (λ z e. broke last k z e) agrees ready stand first)
    where
      Goal : Leaving → State → Spot → Type 0
      Goal = StmtDone g f scope last k s d

  break_none : (at : Place) → StmtLevel g f scope most 0 LastOfGroup (pure Broke) (break_at LastOfGroup at)
  break_none at c le top k s d a o agrees ready stand first =
      runs_weaker g most a a (6 + o) (6 + o) (a + 0) a (6 + o) (suc o) (pure Broke d) s Goal Goal (omega arith) (omega arith) (omega arith) (omega arith) (λ l e z r. r)
      (runs_done g most a (6 + o) Broke d s Goal (record { left = inr first; since = since_start w scope s d agrees ready }))
    where
      Goal : Leaving → State → Spot → Type 0
      Goal = StmtDone g f scope LastOfGroup k s d

  pub break_level : (last : Position) (at : Place) → StmtLevel g f scope most 0 last (pure Broke) (break_at last at)
  break_level Anywhere at = break_leaves Anywhere at
  break_level Body at = break_leaves Body at
  break_level LastOfBody at = break_leaves LastOfBody at
  break_level LastOfGroup at = break_none at

  -- ---- tests

  -- an expression that is tested, and the arm that it leads to
  pub tests_then : {A : Type 0} (zc n : ℕ) (called : Bool) (pc : Part ℕ) (px py : Part A) (ec : Emit Operand) (c1 : Counts) (test : Op) (ys zs : List Item)
      (k : Around) (s : Spot) (d : State) (a b o u : ℕ) (rel : A → State → Spot → Type 0)
      → f.ground.base ≤ c1.temp → (ec c1).counts.temp ≤ f.ground.top → test.kind ≡ kind.Test → test.dest ≡ None → test.a ≡ (ec c1).value
      → ExprTracks g f.ground scope most zc called pc ec → Agrees f.ground scope d s → Ready f.ground s.objects
      → Stand g k ((ec c1).items ++ (item.Branch test ys zs ∷ [])) → s.at ≡ first_of (laid_items ((ec c1).items ++ (item.Branch test ys zs ∷ []))) k.behind
      → ((e : State) (z : Spot) → Since f.ground scope s d e z → z.at ≡ first_of (laid_items ys) k.behind → Stand g k ys → Runs g most (a + n + most) b (6 + o) u (px e) z rel)
      → ((e : State) (z : Spot) → Since f.ground scope s d e z → z.at ≡ first_of (laid_items zs) k.behind → Stand g k zs → Runs g most (a + n + most) b (6 + o) u (py e) z rel)
      → Runs g most (a + (zc + n)) b (6 + o) u ((pc >>= (λ v. either (is_set v) px py)) d) s rel
  tests_then {A} zc n called pc px py ec c1 test ys zs k s d a b o u rel b1 t1 is dest value hc agrees ready stand at hx hy =
      runs_on g most (a + (zc + n)) (a + n) b (6 + o) (suc (6 + o)) u (pc d) (λ v. either (is_set v) px py) s _ rel
      (runs_weaker g most (a + n + zc) (a + n) (6 + o) (suc (6 + o)) (a + (zc + n)) (a + n) (6 + o) (suc (6 + o)) (pc d) s _ _
      (omega arith) (omega arith) (omega arith) (omega arith) (λ v e z r. r)
      (hc c1 b1 t1 (at_behind k (first_of (laid_items branch) k.behind)) s d (a + n) (6 + o) agrees ready
      (stands_left g k (ec c1).items branch stand) (at ∙ first_left (ec c1).items branch k.behind)))
      (λ v e z r. by_test v e z (is_set v) refl (branch_stands g k test ys zs z.at (stands_right g k (ec c1).items branch stand) r.0.at)
      (since_expr w scope called c1.temp (ec c1).value s d d e v s z (since_start w scope s d agrees ready) r.0.calls r.1) r.1.value)
    where
      branch : List Item
      branch = item.Branch test ys zs ∷ []

      yes : ℕ
      yes = first_of (laid_items ys) k.behind

      no : ℕ
      no = first_of (laid_items zs) k.behind

      tests : (v : ℕ) (z : Spot) → BranchStands g k test ys zs z.at → operand_word z.objects (ec c1).value ≡ v → operate g z ≡ flow.Went [] (record z { at = if is_set v then yes else no })
      tests v z st e = tested g test yes no z is st.node dest ∙ ap (λ x. flow.Went [] (record z { at = if is_set x then yes else no })) (ap (operand_word z.objects) value ∙ e)

      by_test : (v : ℕ) (e : State) (z : Spot) (t : Bool) → is_set v ≡ t → BranchStands g k test ys zs z.at → Since w scope s d e z → operand_word z.objects (ec c1).value ≡ v
          → Runs g most (a + n) b (suc (6 + o)) u (either (is_set v) px py e) z rel
      by_test v e z true q st since x = rw q (runs_op g most (a + n) b (6 + o) u (px e) z (record z { at = yes }) rel
          (tests v z st x ∙ ap (λ t. flow.Went [] (record z { at = if t then yes else no })) q) (hx e (record z { at = yes }) (since_at w scope s d e z yes since) refl st.passed))
      by_test v e z false q st since x = rw q (runs_op g most (a + n) b (6 + o) u (py e) z (record z { at = no }) rel
          (tests v z st x ∙ ap (λ t. flow.Went [] (record z { at = if t then yes else no })) q) (hy e (record z { at = no }) (since_at w scope s d e z no since) refl st.failed))

  -- ---- `if`

  pub if_alone : (c : Expr) (x : LoweredStmt) (at : Place) (zc zx : ℕ) (called : Bool) (last : Position) (pc : Part ℕ) (px : Part Leaving)
      → Tracked g f.ground scope most zc called false pc (full f.ground.setting c) → Upwards (x.emit Anywhere) → StmtTracks g f scope most zx Anywhere px (x.emit Anywhere)
      → StmtLevel g f scope most (zc + (zx + 0)) last (pc >>= (λ v. either (is_set v) px (pure Next))) (if_at f.ground.setting c x None at)
  if_alone c x at zc zx called last pc px t up hx c1 le top k s d a o agrees ready stand first =
      tests_then zc (zx + 0) called pc px (pure Next) (full w.setting c) c1 test X.items [] k s d a a o (suc o) Goal le (omega (arith, top, up c2)) refl refl refl t.tracks agrees ready
      (stands_same g k _ _ (cut m.items branch) stand) (first_same _ _ k.behind s.at (cut m.items branch) first)
      (λ e z since at' stands. runs_weaker g most (a + zx) a o (suc o) (a + (zx + 0) + most) a (6 + o) (suc o) (px e) z _ Goal (omega arith) (omega arith) (omega arith) (omega arith)
      (λ l e' z' r. record { left = left_anywhere g f last k l z' r.left; since = since_both w scope scope s d e e' z z' since r.since })
      (hx c2 (omega (arith, le, t.grows c1)) top k z e a o since.agrees since.ready stands at'))
      (λ e z since at' stands. runs_weaker g most a a (6 + o) (6 + o) (a + (zx + 0) + most) a (6 + o) (suc o) (pure Next e) z Goal Goal (omega arith) (omega arith) (omega arith) (omega arith)
      (λ l e' z' r. r) (runs_done g most a (6 + o) Next e z Goal (record { left = at'; since = since })))
    where
      m : Made Operand
      m = full w.setting c c1

      test : Op
      test = test_of m.value at m.counts.op

      c2 : Counts
      c2 = record { op = m.counts.op + 1; temp = m.counts.temp }

      X : Made (Unit {0})
      X = x.emit Anywhere c2

      branch : List Item
      branch = item.Branch test X.items [] ∷ []

      Goal : Leaving → State → Spot → Type 0
      Goal = StmtDone g f scope last k s d

  pub if_both : (c : Expr) (x y : LoweredStmt) (at : Place) (zc zx zy : ℕ) (called : Bool) (last : Position) (pc : Part ℕ) (px py : Part Leaving)
      → Tracked g f.ground scope most zc called false pc (full f.ground.setting c) → Upwards (x.emit Anywhere) → Upwards (y.emit Anywhere)
      → StmtTracks g f scope most zx Anywhere px (x.emit Anywhere) → StmtTracks g f scope most zy Anywhere py (y.emit Anywhere)
      → StmtLevel g f scope most (zc + (zx + zy)) last (pc >>= (λ v. either (is_set v) px py)) (if_at f.ground.setting c x (Some y) at)
  if_both c x y at zc zx zy called last pc px py t upx upy hx hy c1 le top k s d a o agrees ready stand first =
      if_else g f scope most zc zx zy called last pc px py (full w.setting c) (x.emit Anywhere) (y.emit Anywhere) c1 c2 c3 test on k s d a o
      le (omega (arith, top, upx c2, upy c3)) (omega (arith, le, t.grows c1)) (omega (arith, top, upy c3)) (omega (arith, le, t.grows c1, upx c2)) top
      refl refl refl refl refl t.tracks hx hy agrees ready (stands_same g k _ _ (cut m.items branch) stand) (first_same _ _ k.behind s.at (cut m.items branch) first)
    where
      m : Made Operand
      m = full w.setting c c1

      test : Op
      test = test_of m.value at m.counts.op

      c2 : Counts
      c2 = record { op = m.counts.op + 1; temp = m.counts.temp }

      X : Made (Unit {0})
      X = x.emit Anywhere c2

      on : Op
      on = go at X.counts.op

      c3 : Counts
      c3 = record { op = X.counts.op + 1; temp = X.counts.temp }

      branch : List Item
      branch = item.Branch test (X.items ++ (item.One on ∷ [])) (y.emit Anywhere c3).items ∷ []
