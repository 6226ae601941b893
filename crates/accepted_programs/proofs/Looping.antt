-- What the rules of `for` and of blocks make is good, where it is of their parts.
use Rattle.std.proofs.Common.{◌≡◌, refl, sym, ap, subst, ◌∙◌, ℕ, ◌+◌, add-zero, add_assoc, Bool, true, false, List, [], ◌∷◌, ◌++◌, map, arith, append-nil, append_assoc}
use Rattle.std.specs.Prelude.{length, ◌&&◌}
use Rattle.c_tree.specs.declared.tree.Declared.{Declared}
use Rattle.c_tree.specs.declared.tree.Function.{Function}
use Rattle.c_tree.specs.declared.tree.BlockItem.{BlockItem, out-BlockItem}
use Rattle.c_tree.specs.declared.tree.BlockItem.TheVariants as item
use Rattle.c_tree.specs.declared.tree.BlockItem.TheOpen.{StmtKind-F, BlockItem-F}
use Rattle.c_tree.specs.declared.tree.Stmt.{Stmt}
use Rattle.c_tree.specs.declared.tree.StmtKind.TheVariants as stmt
use Rattle.c_typing.specs.Parts.{Part, ◌>>=◌, pure}
use Rattle.c_typing.specs.Judged.{Judged, is_token}
use Rattle.c_typing.specs.Statements as rule
use Rattle.sound_programs.specs.Sound as sound
use Rattle.sound_programs.specs.Sound.{typing, has_value, stmt_fits, item_fits, all_hold, action_fits, first_fits, step_fits, tests}
use Rattle.sound_programs.specs.Calls.{Below, calls_below, stmt_below, item_below, item_calls_by, opt_below, action_below, first_below, step_below}
use Rattle.sound_programs.specs.Calls as calls
use Rattle.sound_programs.specs.Counted.{expr_nodes, opt_nodes, stmt_nodes, item_nodes, sum_of, first_nodes, step_nodes, item_nodes_by}
use Rattle.sound_programs.specs.Counted as counted
use Rattle.sound_programs.proofs.SoundLevels as sound_levels
use Rattle.sound_programs.proofs.CallLevels as call_levels
use Rattle.sound_programs.proofs.CountLevels as count_levels
use Rattle.sound_programs.specs.Scoped as scoped
use Rattle.sound_programs.specs.Scoped.{Stand, Scoped, in_loop, names, names_opt, first_names, first_behind, first_numbers, each_fits, last_ends, locals, item_locals, joined, scoped_item, opt_action_names}
use Rattle.sound_programs.proofs.NameLevels as name_levels
use Rattle.accepted_programs.proofs.Walk.{World, Env, below}
use Rattle.accepted_programs.proofs.Trees.{Covers, Whole, both}
use Rattle.accepted_programs.proofs.Calling.{all_snoc, sum_snoc}
use Rattle.accepted_programs.proofs.Doing.{Has, Inside, Stays, Closed, inside_refl, inside_trans, restored, opened, has_pure, has_if, has_then, has_true, has_false, has_from, has_scoped}
use Rattle.accepted_programs.proofs.Declaring.{Between, between_append, GoodDeclaration, IsDeclaration, zero_more}
use Rattle.accepted_programs.proofs.Stating.{GoodKind, GoodStmt, IsStmt, IsKind, later_covers}

no_truth : false ≡ true → ⊥
no_truth h = cc

-- ---- items

pub record GoodItem (w : World) (at : Stand) (ended : Bool) (e : Env) (i : BlockItem) (e' : Env) (n : ℕ) : Type 0 where
  pub inside : Inside e e'
  pub fits : Whole w → item_fits w.program e.result i ≡ true
  pub calls : item_below (below w (length e.functions)) i ≡ true
  pub scoped_ : (scope : scoped.Scope) → Covers scope e → (scoped_item i).fits at scope ≡ true
  pub covers : (scope : scoped.Scope) → Covers scope e → Covers ((scoped_item i).behind scope) e'
  pub ends : ended ≡ true → (scoped_item i).ends ≡ true
  pub locals_ : Between (length e.variables) (item_locals i) (length e'.variables)
  pub nodes : item_nodes w.program i ≡ n

abbrev pub IsItem : World → Stand → Bool → Part BlockItem → Type 0
IsItem w at ended p = Has w (λ e. Unit {0}) p (GoodItem w at ended)

-- the scope behind items
abbrev pub behind_all : List Scoped → scoped.Scope → scoped.Scope
behind_all [] scope = scope
behind_all (x ∷ xs) scope = behind_all xs (x.behind scope)

pub record GoodItems (w : World) (at : Stand) (ended : Bool) (e : Env) (is : List BlockItem) (e' : Env) (n : ℕ) : Type 0 where
  pub inside : Inside e e'
  pub fits : Whole w → all_hold (map (item_fits w.program e.result) is) ≡ true
  pub calls : all_hold (map (item_below (below w (length e.functions))) is) ≡ true
  pub scoped_ : (scope : scoped.Scope) → Covers scope e → each_fits at scope (map scoped_item is) ≡ true
  pub covers : (scope : scoped.Scope) → Covers scope e → Covers (behind_all (map scoped_item is) scope) e'
  pub ends : ended ≡ true → last_ends (map scoped_item is) ≡ true
  pub locals_ : Between (length e.variables) (joined (map item_locals is)) (length e'.variables)
  pub nodes : sum_of (map (item_nodes w.program) is) ≡ n

pub map_snoc : {A B : Type 0} (f : A → B) (xs : List A) (x : A) → map f (xs ++ x ∷ []) ≡ map f xs ++ f x ∷ []
map_snoc f [] x = refl
map_snoc f (y ∷ xs) x = ap (λ z. f y ∷ z) (map_snoc f xs x)

each_snoc : (at : Stand) (scope : scoped.Scope) (xs : List Scoped) (x : Scoped) → each_fits at scope xs ≡ true → x.fits at (behind_all xs scope) ≡ true → each_fits at scope (xs ++ x ∷ []) ≡ true
each_snoc at scope [] x h k = both (x.fits at scope) true k refl
each_snoc at scope (y ∷ xs) x h k = by (y.fits at scope) h (λ r. each_snoc at (y.behind scope) xs x r k)
  where
    by : (b : Bool) → (b && each_fits at (y.behind scope) xs) ≡ true → (each_fits at (y.behind scope) xs ≡ true → each_fits at (y.behind scope) (xs ++ x ∷ []) ≡ true) → (b && each_fits at (y.behind scope) (xs ++ x ∷ [])) ≡ true
    by true h r = r h
    by false h r = cc

behind_snoc : (xs : List Scoped) (x : Scoped) (scope : scoped.Scope) → behind_all (xs ++ x ∷ []) scope ≡ x.behind (behind_all xs scope)
behind_snoc [] x scope = refl
behind_snoc (y ∷ xs) x scope = behind_snoc xs x (y.behind scope)

ends_snoc : (xs : List Scoped) (x : Scoped) → last_ends (xs ++ x ∷ []) ≡ x.ends
ends_snoc [] x = refl
ends_snoc (y ∷ []) x = refl
ends_snoc (y ∷ z ∷ xs) x = ends_snoc (z ∷ xs) x

pub joined_snoc : (xs : List (List ℕ)) (x : List ℕ) → joined (xs ++ x ∷ []) ≡ joined xs ++ x
joined_snoc [] x = append-nil x
joined_snoc (y ∷ xs) x = ap (λ z. y ++ z) (joined_snoc xs x) ∙ sym (append_assoc y (joined xs) x)

module _ (w : World) where
  items_snoc : (at : Stand) (b c : Bool) (e : Env) (is : List BlockItem) (e1 : Env) (m : ℕ) (i : BlockItem) (e2 : Env) (n : ℕ) → GoodItems w at b e is e1 m → GoodItem w at c e1 i e2 n → GoodItems w at c e (is ++ i ∷ []) e2 (m + n)
  items_snoc at b c e is e1 m i e2 n g h = record {
    inside = inside_trans e e1 e2 g.inside h.inside;
    fits = λ whole. ap all_hold (map_snoc (item_fits w.program e.result) is i) ∙ all_snoc (map (item_fits w.program e.result) is) (item_fits w.program e.result i) (g.fits whole) (ap (λ r. item_fits w.program r i) (sym g.inside.result) ∙ h.fits whole);
    calls = ap all_hold (map_snoc (item_below (below w (length e.functions))) is i) ∙ all_snoc (map (item_below (below w (length e.functions))) is) (item_below (below w (length e.functions)) i) g.calls
        (ap (λ (fs : List Function). item_below (below w (length fs)) i) (sym g.inside.functions) ∙ h.calls);
    scoped_ = λ scope covers. ap (each_fits at scope) (map_snoc scoped_item is i) ∙ each_snoc at scope (map scoped_item is) (scoped_item i) (g.scoped_ scope covers) (h.scoped_ (behind_all (map scoped_item is) scope) (g.covers scope covers));
    covers = λ scope covers. subst (λ z. Covers z e2) (sym (ap (λ z. behind_all z scope) (map_snoc scoped_item is i) ∙ behind_snoc (map scoped_item is) (scoped_item i) scope)) (h.covers (behind_all (map scoped_item is) scope) (g.covers scope covers));
    ends = λ q. ap last_ends (map_snoc scoped_item is i) ∙ (ends_snoc (map scoped_item is) (scoped_item i) ∙ h.ends q);
    locals_ = subst (λ z. Between (length e.variables) z (length e2.variables)) (sym (ap joined (map_snoc item_locals is i) ∙ joined_snoc (map item_locals is) (item_locals i)))
        (between_append (length e.variables) (length e1.variables) (length e2.variables) (joined (map item_locals is)) (item_locals i) g.locals_ h.locals_);
    nodes = ap sum_of (map_snoc (item_nodes w.program) is i) ∙ (sum_snoc (map (item_nodes w.program) is) (item_nodes w.program i) ∙ (ap (λ k. k + item_nodes w.program i) g.nodes ∙ ap (λ k. m + k) h.nodes));
  }

  no_items : (at : Stand) (e : Env) → GoodItems w at false e [] e 0
  no_items at e = record { inside = inside_refl e; fits = λ whole. refl; calls = refl; scoped_ = λ scope covers. refl; covers = λ scope covers. covers; ends = λ h. absurd (no_truth h); locals_ = omega arith; nodes = refl }

  -- items, and perhaps a token behind them; whether the last of them ends a group
  pub data AreItems (at : Stand) : Bool → Bool → List Judged → Type 0 where
    no_more : (b : Bool) → AreItems at b b []
    token_behind : (b : Bool) (part : Judged) (rest : List Judged) → is_token part ≡ true → AreItems at b b (part ∷ rest)
    item_first : (b c d : Bool) (part : Judged) (rest : List Judged) → is_token part ≡ false → IsItem w at c part.item → AreItems at c d rest → AreItems at b d (part ∷ rest)

  onto_has : (at : Stand) (b d : Bool) (e0 : Env) (m : ℕ) (is : List BlockItem) (js : List Judged) → AreItems at b d js → Has w (λ e. GoodItems w at b e0 is e m) (rule.items_onto is js) (λ e xs e' n. GoodItems w at d e0 xs e' (m + n))
  onto_has at b d e0 m is [] (no_more _) = has_pure w (λ e. GoodItems w at b e0 is e m) is (λ e xs e' n. GoodItems w at b e0 xs e' (m + n)) (λ e q core. subst (λ k. GoodItems w at b e0 is e k) (sym (add-zero m)) q)
  onto_has at b d e0 m is (part ∷ rest) (token_behind _ _ _ token) =
      has_true w (λ e. GoodItems w at b e0 is e m) (is_token part) (pure is) (part.item >>= (λ i. rule.items_onto (is ++ i ∷ []) rest)) (λ e xs e' n. GoodItems w at b e0 xs e' (m + n)) token
      (has_pure w (λ e. GoodItems w at b e0 is e m) is (λ e xs e' n. GoodItems w at b e0 xs e' (m + n)) (λ e q core. subst (λ k. GoodItems w at b e0 is e k) (sym (add-zero m)) q))
  onto_has at b d e0 m is (part ∷ rest) (item_first _ c _ _ _ node item others) =
      has_false w (λ e. GoodItems w at b e0 is e m) (is_token part) (pure is) (part.item >>= (λ i. rule.items_onto (is ++ i ∷ []) rest)) (λ e xs e' n. GoodItems w at d e0 xs e' (m + n)) node
      (has_then w (λ e. GoodItems w at b e0 is e m) part.item (λ i. rule.items_onto (is ++ i ∷ []) rest) (GoodItem w at c) (λ e xs e' n. GoodItems w at d e0 xs e' (m + n))
      (has_if w (λ e. GoodItems w at b e0 is e m) (λ e. Unit {0}) part.item (GoodItem w at c) (GoodItem w at c) (λ e q. tt) (λ e a e' n q core core' g. g) item)
      (λ e i n. has_if w (λ e'. GoodItems w at b e0 is e m × GoodItem w at c e i e' n) (λ e'. GoodItems w at c e0 (is ++ i ∷ []) e' (m + n)) (rule.items_onto (is ++ i ∷ []) rest)
      (λ e' xs e2 k. GoodItems w at d e0 xs e2 ((m + n) + k)) (λ e' xs e2 k. GoodItems w at d e0 xs e2 (m + (n + k))) (λ e' q. items_snoc at b c e0 is e m i e' n q.0 q.1)
      (λ e' xs e2 k q core core' g. subst (λ j. GoodItems w at d e0 xs e2 j) (add_assoc m n k) g)
      (onto_has at c d e0 (m + n) (is ++ i ∷ []) rest others)))

  pub items_has : (at : Stand) (d : Bool) (js : List Judged) → AreItems at false d js → Has w (λ e. Unit {0}) (rule.items_onto [] js) (GoodItems w at d)
  items_has at d js are =
      has_from w (λ e. Unit {0}) (rule.items_onto [] js) (GoodItems w at d)
      (λ e0. has_if w (λ e. Unit {0} × (e ≡ e0)) (λ e. GoodItems w at false e0 [] e 0) (rule.items_onto [] js) (λ e xs e' n. GoodItems w at d e0 xs e' (0 + n)) (λ e xs e' n. GoodItems w at d e0 xs e' n)
      (λ e q. subst (λ z. GoodItems w at false e0 [] z 0) (sym q.1) (no_items at e0)) (λ e xs e' n q core core' g. subst (λ k. GoodItems w at d e0 xs e' k) (zero_more w n) g)
      (onto_has at false d e0 0 [] js are))

  -- ---- an item

  item_declare : (at : Stand) (e : Env) (ds : List Declared) (e' : Env) (n : ℕ) → GoodDeclaration w e ds e' n → GoodItem w at false e (item.Declare ds) e' (n + 0)
  item_declare at e ds e' n g =
      let i : BlockItem = item.Declare ds in
      let out : out-BlockItem i ≡ BlockItem-F.Declare ds = item.outs-Declare ds in
      record {
        inside = g.inside;
        fits = λ whole. sym (sound_levels.item_level w.program e.result i) ∙ (ap (λ x. sound.item_by w.program (sound.item_parts_fit w.program e.result x)) out ∙ g.fits whole);
        calls = sym (call_levels.item_level (below w (length e.functions)) i) ∙ (ap (λ x. item_calls_by (below w (length e.functions)) (calls.item_parts_below (below w (length e.functions)) x)) out ∙ g.calls);
        scoped_ = λ scope covers. ap (λ (z : Scoped). z.fits at scope) (sym (name_levels.scoped_item_level i) ∙ ap (λ x. scoped.item_by (name_levels.scoped_item_parts x)) out) ∙ g.named scope covers;
        covers = λ scope covers. subst (λ z. Covers z e') (sym (ap (λ (z : Scoped). z.behind scope) (sym (name_levels.scoped_item_level i) ∙ ap (λ x. scoped.item_by (name_levels.scoped_item_parts x)) out))) (g.covers scope covers);
        ends = λ h. absurd (no_truth h);
        locals_ = subst (λ z. Between (length e.variables) z (length e'.variables)) (sym (ap (λ x. scoped.item_numbers_by (name_levels.locals_item_parts x)) out) ∙ name_levels.item_locals_level i) g.numbers;
        nodes = sym (count_levels.item_level w.program i) ∙ (ap (λ x. item_nodes_by w.program (counted.counted_item w.program x)) out ∙ (g.nodes ∙ sym (add-zero n)));
      }

  item_act : (at : Stand) (b : Bool) (e : Env) (s : Stmt) (e' : Env) (n : ℕ) → GoodStmt w at b e s e' n → GoodItem w at b e (item.Act s) e' (n + 0)
  item_act at b e s e' n g =
      let i : BlockItem = item.Act s in
      let out : out-BlockItem i ≡ BlockItem-F.«BlockItem::Act» s = item.outs-Act s in
      record {
        inside = g.stays.inside;
        fits = λ whole. sym (sound_levels.item_level w.program e.result i) ∙ (ap (λ x. sound.item_by w.program (sound.item_parts_fit w.program e.result x)) out ∙ g.fits whole);
        calls = sym (call_levels.item_level (below w (length e.functions)) i) ∙ (ap (λ x. item_calls_by (below w (length e.functions)) (calls.item_parts_below (below w (length e.functions)) x)) out ∙ g.calls);
        scoped_ = λ scope covers. ap (λ (z : Scoped). z.fits at scope) (sym (name_levels.scoped_item_level i) ∙ ap (λ x. scoped.item_by (name_levels.scoped_item_parts x)) out) ∙ g.scoped_ scope covers;
        covers = λ scope covers. subst (λ z. Covers z e') (sym (ap (λ (z : Scoped). z.behind scope) (sym (name_levels.scoped_item_level i) ∙ ap (λ x. scoped.item_by (name_levels.scoped_item_parts x)) out) ∙ g.behind scope)) (later_covers w e e' scope g.stays.scopes covers);
        ends = λ h. ap (λ (z : Scoped). z.ends) (sym (name_levels.scoped_item_level i) ∙ ap (λ x. scoped.item_by (name_levels.scoped_item_parts x)) out) ∙ g.ends h;
        locals_ = subst (λ z. Between (length e.variables) z (length e'.variables)) (sym (ap (λ x. scoped.item_numbers_by (name_levels.locals_item_parts x)) out) ∙ name_levels.item_locals_level i) g.locals_;
        nodes = sym (count_levels.item_level w.program i) ∙ (ap (λ x. item_nodes_by w.program (counted.counted_item w.program x)) out ∙ (g.nodes ∙ sym (add-zero n)));
      }

  pub item_of_declaration : (at : Stand) (part : Judged) → rule.is_declaration part.rule ≡ true → IsDeclaration w part.declaration → IsItem w at false (rule.item_by (part ∷ []))
  item_of_declaration at part h is =
      has_true w (λ e. Unit {0}) (rule.is_declaration part.rule) (part.declaration >>= (λ ds. pure (item.Declare ds))) (part.stmt >>= (λ s. pure (item.Act s))) (GoodItem w at false) h
      (has_then w (λ e. Unit {0}) part.declaration (λ ds. pure (item.Declare ds)) (GoodDeclaration w) (GoodItem w at false) is
      (λ e ds n. has_pure w (λ e'. Unit {0} × GoodDeclaration w e ds e' n) (item.Declare ds) (λ e' i e2 m. GoodItem w at false e i e2 (n + m)) (λ e' q core. item_declare at e ds e' n q.1)))

  pub item_of_stmt : (at : Stand) (b : Bool) (part : Judged) → rule.is_declaration part.rule ≡ false → IsStmt w at b part.stmt → IsItem w at b (rule.item_by (part ∷ []))
  item_of_stmt at b part h is =
      has_false w (λ e. Unit {0}) (rule.is_declaration part.rule) (part.declaration >>= (λ ds. pure (item.Declare ds))) (part.stmt >>= (λ s. pure (item.Act s))) (GoodItem w at b) h
      (has_then w (λ e. Unit {0}) part.stmt (λ s. pure (item.Act s)) (GoodStmt w at b) (GoodItem w at b) is
      (λ e s n. has_pure w (λ e'. Unit {0} × GoodStmt w at b e s e' n) (item.Act s) (λ e' i e2 m. GoodItem w at b e i e2 (n + m)) (λ e' q core. item_act at b e s e' n q.1)))

  -- ---- blocks

  pub closed_stays : (e last e' : Env) → e' ≡ restored e last → Inside (opened e) last → Stays e e'
  closed_stays e last e' is i = subst (λ z. Stays e z) (sym is) (record { scopes = refl; inside = record { outer = refl; functions = i.functions; signatures = i.signatures; defined = i.defined; result = i.result; kept = i.kept; grown = i.grown } })

  block_good : (at : Stand) (b : Bool) (e : Env) (is : List BlockItem) (e' : Env) (n : ℕ) → Closed (GoodItems w at b) e is e' n → GoodKind w at b e (stmt.Block is) e' (n + 0)
  block_good at b e is e' n c =
      let g = c.fits in
      record {
        layer = StmtKind-F.Block is;
        out = stmt.outs-Block is;
        stays = closed_stays e c.last e' c.is c.inside;
        fits = g.fits;
        calls = g.calls;
        scoped_ = λ scope covers. g.scoped_ scope covers;
        ends = g.ends;
        locals_ = subst (λ (z : Env). Between (length e.variables) (joined (map item_locals is)) (length z.variables)) (sym c.is) g.locals_;
        nodes = g.nodes ∙ sym (add-zero n);
      }

  pub block_kind : (at : Stand) (b : Bool) (part : Judged) → rule.is_block part.rule ≡ true → Has w (λ e. Unit {0}) part.items (GoodItems w at b) → IsKind w at b (rule.node_kind part)
  block_kind at b part h is =
      has_true w (λ e. Unit {0}) (rule.is_block part.rule) (rule.scoped part.items >>= (λ xs. pure (stmt.Block xs))) (rule.act_kind part) (GoodKind w at b) h
      (has_then w (λ e. Unit {0}) (rule.scoped part.items) (λ xs. pure (stmt.Block xs)) (Closed (GoodItems w at b)) (GoodKind w at b)
      (has_scoped w (λ e. Unit {0}) (λ e. Unit {0}) part.items (GoodItems w at b) (λ e q core. tt) (λ e a e' n g. g.inside) is)
      (λ e xs n. has_pure w (λ e'. Unit {0} × Closed (GoodItems w at b) e xs e' n) (stmt.Block xs) (λ e' k e2 m. GoodKind w at b e k e2 (n + m)) (λ e' q core. block_good at b e xs e' n q.1)))
