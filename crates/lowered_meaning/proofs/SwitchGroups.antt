-- The groups of a `switch`, one after another, and the whole.
use Rattle.std.proofs.Common.{◌≡◌, ℕ, suc, ◌+◌, ◌*◌, ◌^◌, ◌<◌, ◌≤◌, Bool, true, false, Some, None, List, [], ◌∷◌, ◌++◌, length, refl, sym, ap, ◌∙◌, subst, arith, inl, inr, ◌⊎◌}
use Rattle.std.specs.Prelude.{if◌then◌else◌, map}
use Rattle.base_io.specs.declared.place.Place.{Place}
use Rattle.c_values.specs.Values.{Worked, Gives, Traps, from_test, is_set}
use Rattle.c_tree.specs.declared.tree.Expr.{Expr}
use Rattle.c_tree.specs.declared.tree.Group.{Group}
use Rattle.c_tree.specs.declared.tree.BlockItem.{BlockItem}
use Rattle.c_tree.specs.declared.leaving.Leaving.{Leaving}
use Rattle.c_tree.specs.declared.leaving.Leaving.TheVariants.{Next, Broke, Continued, Returned}
use Rattle.c_tree.specs.Runs.{State, Part, go_on, pure, either, ◌>>=◌, ◌>>◌}
use Rattle.c_tree.specs.Nodes as meaning
use Rattle.c_tree.specs.Nodes.{begin_labels, has_default, has_label, is_chosen, chosen, left_switch}
use Rattle.flow_graph.specs.declared.graph.Graph.{Graph}
use Rattle.flow_graph.specs.declared.graph.Op.{Op}
use Rattle.flow_graph.specs.declared.graph.OpKind.TheVariants as kind
use Rattle.flow_graph.specs.declared.graph.Operand.{Operand}
use Rattle.flow_graph.specs.declared.graph.Operand.TheVariants.{Object}
use Rattle.flow_graph.specs.declared.graph.Item.{Item}
use Rattle.flow_graph.specs.declared.graph.Item.TheVariants as item
use Rattle.flow_graph.specs.Operations.{operand_word}
use Rattle.flow_graph.specs.declared.nodes.Around.{Around}
use Rattle.flow_graph.specs.Nodes.{at_behind, first_of, laid_items, nodes_of}
use Rattle.flow_graph.proofs.LaidLemmas.{laid-Switch}
use Rattle.flow_graph.specs.Flow as flow
use Rattle.flow_graph.specs.Flow.{Spot, operate}
use Rattle.lowered_graphs.specs.Making.{Emit, Counts, Made, op_of, test_of, go, zero_operand, nothing}
use Rattle.lowered_graphs.specs.Exprs.{full}
use Rattle.lowered_graphs.specs.Stmts.{LoweredStmt, LoweredGroup, each_item, labels, group_items, default_items, group_branch, groups_from, all_groups, give_switch, switch_at}
use Rattle.lowered_graphs.specs.declared.positions.Position.{Position}
use Rattle.lowered_graphs.specs.declared.positions.Position.TheVariants.{LastOfGroup}
use Rattle.lowered_meaning.specs.Keeps.{Ground, StaysBy, IsOperand, OwnsTemporaries, HasHomes, Evaluated}
use Rattle.lowered_meaning.specs.Leaves.{Callee, LeftAt, Since, StmtDone, Upwards}
use Rattle.lowered_meaning.specs.Runs.{Comes, Runs}
use Rattle.lowered_meaning.specs.Tracks.{Has, Stand, Behind}
use Rattle.lowered_meaning.proofs.RunLemmas.{runs_on, runs_done, runs_op, runs_weaker, behind_none}
use Rattle.lowered_meaning.proofs.TrackLemmas.{has_left, stands_left, stands_right, first_left, BranchStands, branch_stands, tested, goes, one_stands}
use Rattle.lowered_meaning.proofs.KeepLemmas.{operand_stays, operand_fits}
use Rattle.lowered_meaning.proofs.SinceLemmas.{since_start, since_at, since_both, since_expr, since_left}
use Rattle.lowered_meaning.proofs.ShapeLemmas.{Tracked, tracks_made, is_copy}
use Rattle.lowered_meaning.proofs.DoParts.{on_on, on_same}
use Rattle.lowered_meaning.proofs.IfLemmas.{StmtLevel, ListTracks}
use Rattle.lowered_meaning.proofs.SwitchLabels.{comes_then, labels_begun, labels_run, labels_up, Reached}

-- ---- a switch where it stands

-- a `break` within it goes behind it
abbrev in_switch : Around → Around
in_switch k = record k { break_to = k.behind }

pub switch_stands : (g : Graph) (k : Around) (xs : List Item) (c : Counts) → Stand g k (give_switch xs c).items → Stand g (in_switch k) xs
switch_stands g k [] c h = tt
switch_stands g k (x ∷ xs) c h =
    let e : Has g (nodes_of (laid_items (x ∷ xs)) (in_switch k) ++ []) = subst (λ l. Has g (l.nodes (at_behind k k.behind) ++ [])) (laid-Switch (x ∷ xs)) h in
    has_left g (nodes_of (laid_items (x ∷ xs)) (in_switch k)) [] e

pub switch_first : (xs : List Item) (c : Counts) (n : ℕ) → first_of (laid_items (give_switch xs c).items) n ≡ first_of (laid_items xs) n
switch_first [] c n = refl
switch_first (x ∷ xs) c n = ap (λ l. l.first n) (laid-Switch (x ∷ xs))

switch_temp : (xs : List Item) (c : Counts) → (give_switch xs c).counts.temp ≡ c.temp
switch_temp [] c = refl
switch_temp (x ∷ xs) c = refl

abbrev word_of : Worked → ℕ
word_of (Gives n) = n
word_of (Traps n) = 0

-- where a switch is left that was left so within
left_in : (g : Graph) (f : Callee) (last : Position) (k : Around) (n : ℕ) (l : Leaving) (z : Spot) → LeftAt g f LastOfGroup (at_behind (in_switch k) n) l z
    → ((left_switch l ≡ Next) × (z.at ≡ n)) ⊎ LeftAt g f last k (left_switch l) z
left_in g f last k n Next z h = inl (refl, h)
left_in g f last k n Broke z (inl h) = inr h
left_in g f last k n Broke z (inr h) = inl (refl, h)
left_in g f last k n Continued z h = inr h
left_in g f last k n (Returned v) z h = inr h

module _ (g : Graph) (f : Callee) (scope : ℕ → Type 0) (most : ℕ) (owns : OwnsTemporaries f.ground) (homes : HasHomes f.ground scope)
    (lower : Group → List LoweredStmt) (run : List BlockItem → Part Leaving) (nodes : Group → ℕ) (at : Place) where
  abbrev w : Ground
  w = f.ground

  -- a group as it is lowered
  abbrev pub grouped : Group → LoweredGroup
  grouped x = record { labels = x.labels; items = lower x }

  -- what a group owes
  pub record GroupOk (x : Group) : Type 0 where
    pub up : Upwards (each_item LastOfGroup (lower x))
    pub tracks : ListTracks g f scope most (nodes x) LastOfGroup (run x.items) (each_item LastOfGroup (lower x))
    pub some : 1 ≤ length x.labels

  abbrev pub GroupsOk : List Group → Type 0
  GroupsOk [] = Unit {0}
  GroupsOk (x ∷ xs) = GroupOk x × GroupsOk xs

  -- the nodes of groups
  abbrev pub groups_nodes : List Group → ℕ
  groups_nodes [] = 0
  groups_nodes (x ∷ xs) = (length x.labels + nodes x) + groups_nodes xs

  -- those of the groups without `default`, and those of the first one with it
  abbrev tested_nodes : List Group → ℕ
  tested_nodes [] = 0
  tested_nodes (x ∷ xs) = if has_default x.labels then tested_nodes xs else (length x.labels + nodes x) + tested_nodes xs

  abbrev other_nodes : List Group → ℕ
  other_nodes [] = 0
  other_nodes (x ∷ xs) = if has_default x.labels then nodes x else other_nodes xs

  tested_few : (xs : List Group) → tested_nodes xs ≤ groups_nodes xs
  tested_few [] = omega arith
  tested_few (x ∷ xs) = by_default (has_default x.labels) (tested_few xs)
    where
      by_default : (b : Bool) → tested_nodes xs ≤ groups_nodes xs → (if b then tested_nodes xs else (length x.labels + nodes x) + tested_nodes xs) ≤ (length x.labels + nodes x) + groups_nodes xs
      by_default true h = omega (arith, h)
      by_default false h = omega (arith, h)

  all_few : (xs : List Group) → tested_nodes xs + other_nodes xs ≤ groups_nodes xs
  all_few [] = omega arith
  all_few (x ∷ xs) = by_default (has_default x.labels) (all_few xs) (tested_few xs)
    where
      by_default : (b : Bool) → tested_nodes xs + other_nodes xs ≤ groups_nodes xs → tested_nodes xs ≤ groups_nodes xs
          → (if b then tested_nodes xs else (length x.labels + nodes x) + tested_nodes xs) + (if b then nodes x else other_nodes xs) ≤ (length x.labels + nodes x) + groups_nodes xs
      by_default true h i = omega (arith, i)
      by_default false h i = omega (arith, h)

  -- the items of the group with `default`
  pub others_up : (xs : List Group) → GroupsOk xs → Upwards (default_items (map grouped xs))
  others_up [] ok c = omega arith
  others_up (x ∷ xs) ok c = by_default (has_default x.labels) (others_up xs ok.1 c)
    where
      by_default : (b : Bool) → c.temp ≤ (default_items (map grouped xs) c).counts.temp
          → c.temp ≤ ((if b then group_items (grouped x) else default_items (map grouped xs)) c).counts.temp
      by_default true h = ok.0.up c
      by_default false h = h

  groups_up : (v : Operand) (xs : List Group) (others : Emit (Unit {0})) → GroupsOk xs → Upwards others → Upwards (groups_from v (map grouped xs) others at)
  groups_up v [] others ok up c = up c
  groups_up v (x ∷ xs) others ok up c = by_default (has_default x.labels) (groups_up v xs others ok.1 up)
    where
      by_default : (b : Bool) → Upwards (groups_from v (map grouped xs) others at)
          → c.temp ≤ ((if b then groups_from v (map grouped xs) others at else group_branch v (grouped x) (groups_from v (map grouped xs) others at) at) c).counts.temp
      by_default true h = h c
      by_default false h =
          let A : Made Operand = labels v x.labels c in
          let c1 : Counts = record { op = A.counts.op + 1; temp = A.counts.temp } in
          let I : Made (Unit {0}) = each_item LastOfGroup (lower x) c1 in
          omega (arith, labels_up v x.labels c, ok.0.up c1, h (record { op = I.counts.op + 1; temp = I.counts.temp }))

  -- the others' items, as a list
  pub others_track : (xs : List Group) → GroupsOk xs → ListTracks g f scope most 0 LastOfGroup (run []) nothing
      → ListTracks g f scope most (other_nodes xs) LastOfGroup (run (meaning.default_items xs)) (default_items (map grouped xs))
  others_track [] ok none = none
  others_track (x ∷ xs) ok none = by_default (has_default x.labels) (others_track xs ok.1 none)
    where
      by_default : (b : Bool) → ListTracks g f scope most (other_nodes xs) LastOfGroup (run (meaning.default_items xs)) (default_items (map grouped xs))
          → ListTracks g f scope most (if b then nodes x else other_nodes xs) LastOfGroup (run (if b then x.items else meaning.default_items xs)) (if b then group_items (grouped x) else default_items (map grouped xs))
      by_default true h = ok.0.tracks
      by_default false h = h

  -- ---- the groups, one after another

  -- the items that are chosen
  abbrev switched : List BlockItem → Part Leaving
  switched items = run items >>= (λ l. pure (left_switch l))

  module _ (last : Position) (k : Around) (s0 : Spot) (d0 : State) (t0 x : ℕ) (others : List BlockItem) (emit : Emit (Unit {0})) (m : ℕ)
      (up : Upwards emit) (track : ListTracks g f scope most m LastOfGroup (run others) emit) (low : f.ground.base ≤ t0) (high : t0 < f.ground.top) where
    abbrev Goal : Leaving → State → Spot → Type 0
    Goal = StmtDone g f scope last k s0 d0

    abbrev v : Operand
    v = Object t0

    -- a list of items that stands with a Go behind it, or at the end
    listed : (n : ℕ) (items : List BlockItem) (e : Emit (Unit {0})) (behind : ℕ) (c : Counts) (s : Spot) (d : State) (a o : ℕ) → ListTracks g f scope most n LastOfGroup (run items) e
        → w.base ≤ c.temp → (e c).counts.temp ≤ w.top → Since w scope s0 d0 d s → Stand g (at_behind (in_switch k) behind) (e c).items → s.at ≡ first_of (laid_items (e c).items) behind
        → ((l : Leaving) (d' : State) (z : Spot) → left_switch l ≡ Next → z.at ≡ behind → Since w scope s0 d0 d' z → Runs g most a a (suc (suc o)) (suc o) (pure (left_switch l) d') z Goal)
        → Runs g most (a + n) a (suc (suc o)) (suc o) (switched items d) s Goal
    listed n items e behind c s d a o h le top since stand first next =
        runs_on g most (a + n) a a (suc (suc o)) (suc (suc o)) (suc o) (run items d) (λ l. pure (left_switch l)) s _ Goal
        (h c le top (at_behind (in_switch k) behind) s d a (suc o) since.agrees since.ready stand first)
        (λ l d' z r. by_left l d' z (since_both w scope scope s0 d0 d d' s z since r.since) (left_in g f last k behind l z r.left))
      where
        by_left : (l : Leaving) (d' : State) (z : Spot) → Since w scope s0 d0 d' z → ((left_switch l ≡ Next) × (z.at ≡ behind)) ⊎ LeftAt g f last k (left_switch l) z
            → Runs g most a a (suc (suc o)) (suc o) (pure (left_switch l) d') z Goal
        by_left l d' z since' (inl q) = next l d' z q.0 q.1 since'
        by_left l d' z since' (inr q) = runs_weaker g most a a (suc (suc o)) (suc (suc o)) a a (suc (suc o)) (suc o) (pure (left_switch l) d') z Goal Goal (omega arith) (omega arith) (omega arith) (omega arith) (λ l' d'' z' r. r)
            (runs_done g most a (suc (suc o)) (left_switch l) d' z Goal (record { left = q; since = since' }))

    -- one that is left at the end of the switch
    ends_next : (l : Leaving) (d' : State) (z : Spot) (a u o : ℕ) → o ≤ u → left_switch l ≡ Next → z.at ≡ k.behind → Since w scope s0 d0 d' z → Runs g most a a u o (pure (left_switch l) d') z Goal
    ends_next l d' z a u o le q at' since' = rw q (runs_weaker g most a a u u a a u o (pure Next d') z Goal Goal (omega arith) (omega arith) (omega arith) (omega (arith, le)) (λ l' d'' z' r. r)
        (runs_done g most a u Next d' z Goal (record { left = at'; since = since' })))

    abbrev Groups : List Group → Type 0
    Groups xs = (c : Counts) (s : Spot) (d : State) (a o : ℕ) → t0 < c.temp → (groups_from v (map grouped xs) emit at c).counts.temp ≤ w.top → Since w scope s0 d0 d s → operand_word s.objects v ≡ x
        → Stand g (in_switch k) (groups_from v (map grouped xs) emit at c).items → s.at ≡ first_of (laid_items (groups_from v (map grouped xs) emit at c).items) k.behind
        → Runs g most (a + (tested_nodes xs + m)) a (suc (suc o)) (suc o) ((chosen x others xs >>= switched) d) s Goal

    no_groups : Groups []
    no_groups c s d a o lt top since value stand first =
        subst (λ r. Runs g most (a + (0 + m)) a (suc (suc o)) (suc o) r s Goal) (sym (behind_none (switched others d)))
        (runs_weaker g most (a + m) a (suc (suc o)) (suc o) (a + (0 + m)) a (suc (suc o)) (suc o) (switched others d) s Goal Goal (omega arith) (omega arith) (omega arith) (omega arith) (λ l d' z r. r)
        (listed m others emit k.behind c s d a o track (omega (arith, low, lt)) top since stand first (λ l d' z q at' since'. ends_next l d' z a (suc (suc o)) (suc o) (omega arith) q at' since')))

    -- a group without `default`
    group_then : (y : Group) (xs : List Group) → GroupOk y → GroupsOk xs → has_default y.labels ≡ false → Groups xs → (c : Counts) (s : Spot) (d : State) (a o : ℕ) → t0 < c.temp
        → (group_branch v (grouped y) (groups_from v (map grouped xs) emit at) at c).counts.temp ≤ w.top → Since w scope s0 d0 d s → operand_word s.objects v ≡ x
        → Stand g (in_switch k) (group_branch v (grouped y) (groups_from v (map grouped xs) emit at) at c).items
        → s.at ≡ first_of (laid_items (group_branch v (grouped y) (groups_from v (map grouped xs) emit at) at c).items) k.behind
        → Runs g most (a + ((length y.labels + nodes y) + tested_nodes xs + m)) a (suc (suc o)) (suc o) ((begin_labels y.labels >> (either (has_label x y.labels) (pure y.items) (chosen x others xs) >>= switched)) d) s Goal
    group_then y xs ok oks none more c s d a o lt top since value stand first =
        runs_on g most (a + (n + nodes y + tested_nodes xs + m)) (a + (nodes y + tested_nodes xs + m)) a (suc (suc o)) (6 * n + suc (suc o)) (suc o) (begin_labels y.labels d) (λ _. rest) s _ Goal
        (runs_weaker g most (a + (nodes y + tested_nodes xs + m) + n) (a + (nodes y + tested_nodes xs + m)) (suc (suc o)) (6 * n + suc (suc o)) (a + (n + nodes y + tested_nodes xs + m)) (a + (nodes y + tested_nodes xs + m)) (suc (suc o)) (6 * n + suc (suc o)) (begin_labels y.labels d) s _ _
        (omega arith) (omega arith) (omega arith) (omega arith) (λ u e z r. r) (labels_begun g most y.labels d s (a + (nodes y + tested_nodes xs + m)) (suc (suc o))))
        (λ u e z r. begun e z r.0 r.1.0 r.1.1)
      where
        n : ℕ
        n = length y.labels

        A : Made Operand
        A = labels v y.labels c

        test : Op
        test = test_of A.value at A.counts.op

        c1 : Counts
        c1 = record { op = A.counts.op + 1; temp = A.counts.temp }

        I : Made (Unit {0})
        I = each_item LastOfGroup (lower y) c1

        on : Op
        on = go at I.counts.op

        c2 : Counts
        c2 = record { op = I.counts.op + 1; temp = I.counts.temp }

        Y : Made (Unit {0})
        Y = groups_from v (map grouped xs) emit at c2

        ys : List Item
        ys = I.items ++ (item.One on ∷ [])

        branch : List Item
        branch = item.Branch test ys Y.items ∷ []

        b : Bool
        b = has_label x y.labels

        rest : Part Leaving
        rest = either b (pure y.items) (chosen x others xs) >>= switched

        B : ℕ
        B = a + (nodes y + tested_nodes xs + m)

        labels_low : c.temp ≤ A.counts.temp
        labels_low = labels_up v y.labels c

        items_low : A.counts.temp ≤ I.counts.temp
        items_low = ok.up c1

        rest_low : I.counts.temp ≤ Y.counts.temp
        rest_low = groups_up v xs emit oks up c2

        is_v : IsOperand w true c.temp v
        is_v = subst (λ q. StaysBy w true c.temp t0 q) (sym (owns t0 low high)) (refl, lt)

        yes : ℕ
        yes = first_of (laid_items ys) k.behind

        no : ℕ
        no = first_of (laid_items Y.items) k.behind

        begun : (e : State) (z : Spot) → z ≡ s → (j : ℕ) → e ≡ record d { left = j } → Runs g most B a (6 * n + suc (suc o)) (suc o) (rest e) z Goal
        begun e z ez j ee = rw (ez, ee) (labelled (record d { left = j }) (since_left w scope s0 d0 d s j since))
          where
            labelled : (e' : State) → Since w scope s0 d0 e' s → Runs g most B a (6 * n + suc (suc o)) (suc o) (rest e') s Goal
            labelled e' since' = comes_then g most B B a (6 * n + suc (suc o)) (4 * n + suc (suc o)) (suc o) (rest e') s
                (Reached g w scope most owns homes (at_behind (in_switch k) (first_of (laid_items branch) k.behind)) s e' c.temp A.value (from_test b)) Goal
                (subst (λ q. Comes g most B B q (4 * n + suc (suc o)) [] s (Reached g w scope most owns homes (at_behind (in_switch k) (first_of (laid_items branch) k.behind)) s e' c.temp A.value (from_test b))) (omega arith)
                (labels_run g w scope most owns homes x v y.labels c (at_behind (in_switch k) (first_of (laid_items branch) k.behind)) s e' B (4 * n + suc (suc o)) (omega (arith, low, lt)) (omega (arith, top, items_low, rest_low))
                since'.agrees since'.ready is_v value none ok.some (stands_left g (in_switch k) A.items branch stand) (first ∙ first_left A.items branch k.behind)))
                (λ z' r. test_it e' z' r (since_expr w scope false c.temp A.value s0 d0 e' e' (from_test b) s z' since' r.calls r.value)
                (operand_stays w true false c.temp v s.objects z'.objects (λ q. refl) is_v r.value.kept ∙ value)
                (branch_stands g (in_switch k) test ys Y.items z'.at (stands_right g (in_switch k) A.items branch stand) r.at))
              where
                test_it : (e1 : State) (z' : Spot) → Reached g w scope most owns homes (at_behind (in_switch k) (first_of (laid_items branch) k.behind)) s e1 c.temp A.value (from_test b) z'
                    → Since w scope s0 d0 e1 z' → operand_word z'.objects v ≡ x → BranchStands g (in_switch k) test ys Y.items z'.at → Runs g most B a (4 * n + suc (suc o)) (suc o) (rest e1) z' Goal
                test_it e1 z' r since1 value1 st = by_label b refl
                  where
                    went : operate g z' ≡ flow.Went [] (record z' { at = if is_set (from_test b) then yes else no })
                    went = tested g test yes no z' refl st.node refl ∙ ap (λ q. flow.Went [] (record z' { at = if is_set q then yes else no })) r.value.value

                    four : 4 * n + suc (suc o) ≡ suc (4 * n + suc o)
                    four = omega arith

                    by_label : (q : Bool) → b ≡ q → Runs g most B a (4 * n + suc (suc o)) (suc o) ((either b (pure y.items) (chosen x others xs) >>= switched) e1) z' Goal
                    by_label true q = rw q (subst (λ o'. Runs g most B a o' (suc o) ((pure y.items >>= switched) e1) z' Goal) (sym four)
                        (subst (λ got. Runs g most B a (suc (4 * n + suc o)) (suc o) got z' Goal) (sym (behind_none (switched y.items e1)))
                        (runs_op g most B a (4 * n + suc o) (suc o) (switched y.items e1) z' (record z' { at = yes }) Goal
                        (went ∙ ap (λ h. flow.Went [] (record z' { at = if is_set (from_test h) then yes else no })) q)
                        (runs_weaker g most (a + nodes y) a (suc (suc (suc o))) (suc (suc o)) (B + most) a (4 * n + suc o) (suc o) (switched y.items e1) (record z' { at = yes }) Goal Goal
                        (omega arith) (omega arith) (omega (arith, ok.some)) (omega (arith, ok.some)) (λ l d' y' t. t)
                        (listed (nodes y) y.items (each_item LastOfGroup (lower y)) (first_of (laid_items (item.One on ∷ [])) k.behind) c1 (record z' { at = yes }) e1 a (suc o) ok.tracks
                        (omega (arith, low, lt, labels_low)) (omega (arith, top, rest_low)) (since_at w scope s0 d0 e1 z' yes since1)
                        (stands_left g (in_switch k) I.items (item.One on ∷ []) st.passed) (first_left I.items (item.One on ∷ []) k.behind)
                        (λ l d' y' q' at' since2. goes_out l d' y' q' at' since2 (stands_right g (in_switch k) I.items (item.One on ∷ []) st.passed)))))))
                      where
                        goes_out : (l : Leaving) (d' : State) (y' : Spot) → left_switch l ≡ Next → y'.at ≡ first_of (laid_items (item.One on ∷ [])) k.behind → Since w scope s0 d0 d' y'
                            → Stand g (in_switch k) (item.One on ∷ []) → Runs g most a a (suc (suc (suc o))) (suc (suc o)) (pure (left_switch l) d') y' Goal
                        goes_out l d' y' q' at' since2 stand2 = runs_weaker g most a (a + most) (suc (suc (suc o))) (suc (suc o)) a a (suc (suc (suc o))) (suc (suc o)) (pure (left_switch l) d') y' Goal Goal
                            (omega arith) (omega arith) (omega arith) (omega arith) (λ l' d'' y'' t. t)
                            (runs_op g most a (a + most) (suc (suc o)) (suc (suc o)) (pure (left_switch l) d') y' (record y' { at = k.behind }) Goal
                            (goes g on k.behind y' refl refl (one_stands g (in_switch k) on y' stand2 at'))
                            (ends_next l d' (record y' { at = k.behind }) (a + most) (suc (suc o)) (suc (suc o)) (omega arith) q' refl (since_at w scope s0 d0 d' y' k.behind since2)))
                    by_label false q = rw q (subst (λ o'. Runs g most B a o' (suc o) ((chosen x others xs >>= switched) e1) z' Goal) (sym four)
                        (runs_op g most B a (4 * n + suc o) (suc o) ((chosen x others xs >>= switched) e1) z' (record z' { at = no }) Goal
                        (went ∙ ap (λ h. flow.Went [] (record z' { at = if is_set (from_test h) then yes else no })) q)
                        (runs_weaker g most (a + (tested_nodes xs + m)) a (suc (suc o)) (suc o) (B + most) a (4 * n + suc o) (suc o) ((chosen x others xs >>= switched) e1) (record z' { at = no }) Goal Goal
                        (omega arith) (omega arith) (omega (arith, ok.some)) (omega (arith, ok.some)) (λ l d' y' t. t)
                        (more c2 (record z' { at = no }) e1 a o (omega (arith, lt, labels_low, items_low)) (omega (arith, top)) (since_at w scope s0 d0 e1 z' no since1) value1 st.failed refl))))

    pub groups_run : (xs : List Group) → GroupsOk xs → Groups xs
    groups_run [] oks c s d a o lt top since value stand first = no_groups c s d a o lt top since value stand first
    groups_run (y ∷ xs) oks c s d a o lt top since value stand first = by_default (has_default y.labels) refl (groups_run xs oks.1) top stand first
      where
        by_default : (b : Bool) → has_default y.labels ≡ b → Groups xs
            → ((if b then groups_from v (map grouped xs) emit at else group_branch v (grouped y) (groups_from v (map grouped xs) emit at) at) c).counts.temp ≤ w.top
            → Stand g (in_switch k) ((if b then groups_from v (map grouped xs) emit at else group_branch v (grouped y) (groups_from v (map grouped xs) emit at) at) c).items
            → s.at ≡ first_of (laid_items ((if b then groups_from v (map grouped xs) emit at else group_branch v (grouped y) (groups_from v (map grouped xs) emit at) at) c).items) k.behind
            → Runs g most (a + ((if b then tested_nodes xs else (length y.labels + nodes y) + tested_nodes xs) + m)) a (suc (suc o)) (suc o)
            (((either b (pure false) (begin_labels y.labels >> pure (has_label x y.labels)) >>= (λ found. either found (pure y.items) (chosen x others xs))) >>= switched) d) s Goal
        by_default true q more top' stand' first' =
            subst (λ got. Runs g most (a + (tested_nodes xs + m)) a (suc (suc o)) (suc o) (go_on got switched) s Goal) (sym (behind_none (chosen x others xs d))) (more c s d a o lt top' since value stand' first')
        by_default false q more top' stand' first' =
            subst (λ got. Runs g most (a + ((length y.labels + nodes y) + tested_nodes xs + m)) a (suc (suc o)) (suc o) got s Goal) (sym same)
            (group_then y xs oks.0 oks.1 q more c s d a o lt top' since value stand' first')
          where
            found_part : Bool → Part (List BlockItem)
            found_part found = either found (pure y.items) (chosen x others xs)

            same : (((begin_labels y.labels >> pure (has_label x y.labels)) >>= found_part) >>= switched) d ≡ (begin_labels y.labels >> (found_part (has_label x y.labels) >>= switched)) d
            same = on_on ((begin_labels y.labels >> pure (has_label x y.labels)) d) found_part switched
                ∙ (on_on (begin_labels y.labels d) (λ _. pure (has_label x y.labels)) (λ found. found_part found >>= switched)
                ∙ on_same (begin_labels y.labels d) _ _ (λ u e. behind_none ((found_part (has_label x y.labels) >>= switched) e)))

  -- ---- the whole

  pub switched_up : (e : Expr) (xs : List Group) → GroupsOk xs → ((c : Counts) → c.temp ≤ (full f.ground.setting e c).counts.temp) → Upwards (switch_at f.ground.setting e (map grouped xs) at)
  switched_up e xs oks grows c =
      let t0 : ℕ = (full w.setting e c).counts.temp in
      let c2 : Counts = record { op = (full w.setting e c).counts.op + 1; temp = t0 + 1 } in
      let X : Made (Unit {0}) = all_groups (Object t0) (map grouped xs) at c2 in
      omega (arith, grows c, groups_up (Object t0) xs (default_items (map grouped xs)) oks (others_up xs oks) c2, switch_temp X.items X.counts)

  pub switch_level : (last : Position) (e : Expr) (zc : ℕ) (called : Bool) (p : Part ℕ) (xs : List Group) → Tracked g f.ground scope most zc called false p (full f.ground.setting e) → GroupsOk xs
      → ListTracks g f scope most 0 LastOfGroup (run []) nothing
      → StmtLevel g f scope most (zc + groups_nodes xs) last (p >>= (λ x. chosen x (meaning.default_items xs) xs >>= switched)) (switch_at f.ground.setting e (map grouped xs) at)
  switch_level last e zc called p xs t oks none c le top k s d a o agrees ready stand first =
      runs_on g most (a + (zc + groups_nodes xs)) (a + groups_nodes xs) a (6 + o) (suc (6 + o)) (suc o) (p d) _ s _ Goal
      (runs_weaker g most (a + groups_nodes xs + zc) (a + groups_nodes xs) (6 + o) (suc (6 + o)) (a + (zc + groups_nodes xs)) (a + groups_nodes xs) (6 + o) (suc (6 + o)) (p d) s _ _
      (omega arith) (omega arith) (omega arith) (omega arith) (λ v' e' z r. r)
      (t.tracks c le (omega (arith, top1)) (at_behind k (first_of (laid_items rest) k.behind)) s d (a + groups_nodes xs) (6 + o) agrees ready (stands_left g k m.items rest stand) (first ∙ first_left m.items rest k.behind)))
      (λ x e' z r. copied x e' z r.0.at r.1.value (subst (λ q. q < 2 ^ 16) r.1.value (operand_fits w false m.counts.temp m.value z.objects (t.stays c le (omega (arith, top1))) r.1.agrees.fit))
      (since_expr w scope called c.temp m.value s d d e' x s z (since_start w scope s d agrees ready) r.0.calls r.1))
    where
      m : Made Operand
      m = full w.setting e c

      t0 : ℕ
      t0 = m.counts.temp

      copy : Op
      copy = op_of kind.Copy (Some t0) m.value zero_operand None at m.counts.op

      c2 : Counts
      c2 = record { op = m.counts.op + 1; temp = t0 + 1 }

      X : Made (Unit {0})
      X = all_groups (Object t0) (map grouped xs) at c2

      R : List Item
      R = (give_switch X.items X.counts).items

      rest : List Item
      rest = item.One copy ∷ R

      top2 : X.counts.temp ≤ w.top
      top2 = subst (λ q. q ≤ w.top) (switch_temp X.items X.counts) top

      top1 : t0 + 1 ≤ w.top
      top1 = omega (arith, top2, groups_up (Object t0) xs (default_items (map grouped xs)) oks (others_up xs oks) c2)

      Goal : Leaving → State → Spot → Type 0
      Goal = StmtDone g f scope last k s d

      copied : (x : ℕ) (e' : State) (z : Spot) → z.at ≡ first_of (laid_items rest) k.behind → operand_word z.objects m.value ≡ x → x < 2 ^ 16 → Since w scope s d e' z
          → Runs g most (a + groups_nodes xs) a (suc (6 + o)) (suc o) ((chosen x (meaning.default_items xs) xs >>= switched) e') z Goal
      copied x e' z at' value fits since =
          comes_then g most (a + groups_nodes xs) (a + groups_nodes xs + most) a (suc (6 + o)) (6 + o) (suc o) ((chosen x (meaning.default_items xs) xs >>= switched) e') z
          (λ y. Behind (first_of (laid_items R) k.behind) z.calls y × Evaluated w scope false t0 (Object t0) z e' x e' y) Goal
          (tracks_made g w scope most false (λ t' n. op_of kind.Copy (Some t') m.value zero_operand None at n) (Gives x) m.counts (at_behind k (first_of (laid_items R) k.behind)) z e' (a + groups_nodes xs) (6 + o)
          owns homes (omega (arith, le, t.grows c)) top1 since.agrees since.ready is_copy refl (ap Gives value) (λ n q. subst (λ y. y < 2 ^ 16) (ap word_of q) fits)
          (stands_left g k (item.One copy ∷ []) R (stands_right g k m.items rest stand)) (at' ∙ first_left (item.One copy ∷ []) R k.behind))
          (λ y r. runs_weaker g most (a + (tested_nodes xs + other_nodes xs)) a (suc (suc o)) (suc o) (a + groups_nodes xs + most) a (6 + o) (suc o) ((chosen x (meaning.default_items xs) xs >>= switched) e') y Goal Goal
          (omega (arith, all_few xs)) (omega (arith, all_few xs)) (omega arith) (omega arith) (λ l d' y' q. q)
          (groups_run last k s d t0 x (meaning.default_items xs) (default_items (map grouped xs)) (other_nodes xs) (others_up xs oks) (others_track xs oks none) (omega (arith, le, t.grows c)) (omega (arith, top1)) xs oks
          c2 y e' a o (omega arith) top2 (since_expr w scope false t0 (Object t0) s d e' e' x z y since r.0.calls r.1) r.1.value
          (switch_stands g k X.items X.counts (stands_right g k (item.One copy ∷ []) R (stands_right g k m.items rest stand))) (r.0.at ∙ switch_first X.items X.counts k.behind)))
