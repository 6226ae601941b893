-- What the rules of statements make is good, where it is of their parts.
use Rattle.std.proofs.Common.{◌≡◌, refl, sym, ap, subst, ◌∙◌, ℕ, ◌+◌, add-zero, Bool, true, false, Option, Some, None, List, [], ◌∷◌, arith, append-nil}
use Rattle.std.specs.Prelude.{length}
use Rattle.base_io.specs.declared.place.Place.{Place}
use Rattle.c_values.specs.declared.ops.Ty.{Ty}
use Rattle.c_tree.specs.Layer.{StmtLayer}
use Rattle.c_tree.specs.declared.tree.Expr.{Expr}
use Rattle.c_tree.specs.declared.tree.BlockItem.TheOpen.{StmtKind-F}
use Rattle.c_tree.specs.declared.tree.Stmt.{Stmt}
use Rattle.c_tree.specs.declared.tree.StmtKind.{StmtKind, out-StmtKind}
use Rattle.c_tree.specs.declared.tree.StmtKind.TheVariants as stmt
use Rattle.c_tree.specs.declared.tree.StmtKind.TheVariants.{outs-Block, outs-Empty, outs-Break, outs-Continue, outs-Return, outs-If, outs-While, outs-Do, outs-For, outs-Switch}
use Rattle.c_typing.specs.declared.type_fault.TypeFault.TheVariants as fault
use Rattle.c_typing.specs.Parts.{Part, ◌>>=◌, pure, looked}
use Rattle.c_typing.specs.Judged.{Judged}
use Rattle.c_typing.specs.Scopes.{find}
use Rattle.c_tree.specs.declared.tree.Function.{Function}
use Rattle.c_typing.specs.Expressions as expression
use Rattle.c_typing.specs.Statements as rule
use Rattle.sound_programs.specs.Sound.{typing, has_value, has_type, stmt_fits, stmt_by, parts_fit, return_fits}
use Rattle.sound_programs.specs.Calls.{Below, calls_below, stmt_below, stmt_calls_by, stmt_parts_below}
use Rattle.sound_programs.specs.Counted.{expr_nodes, stmt_nodes, kind_nodes_by, counted_stmt}
use Rattle.sound_programs.proofs.SoundLevels as sound_levels
use Rattle.sound_programs.proofs.CallLevels as call_levels
use Rattle.sound_programs.proofs.CountLevels as count_levels
use Rattle.sound_programs.specs.Scoped as scoped
use Rattle.sound_programs.specs.Scoped.{Stand, Scoped, in_loop, in_switch, names, names_opt, action_names, first_names, first_behind, first_numbers, fits_by, ends_by, each_fits, last_ends, kind_by, locals, item_locals, stmt_numbers_by, joined, scoped_item, opt_fits, opt_action_names}
use Rattle.sound_programs.proofs.NameLevels as name_levels
use Rattle.sound_programs.proofs.NameLevels.{scoped_parts, locals_parts}
use Rattle.accepted_programs.proofs.Walk.{World, Env, Makes, Saw, below, makes_pure, makes_then, fails, looked_then}
use Rattle.accepted_programs.proofs.Types.{same_refl}
use Rattle.accepted_programs.proofs.Trees.{Covers, Whole, Good, value, both}
use Rattle.accepted_programs.proofs.Values.{Fit, GoodExpr, IsExpr, value_makes, converted_makes}
use Rattle.accepted_programs.proofs.Acting.{GoodAction, IsAction}
use Rattle.accepted_programs.proofs.Doing.{Has, Stays, stays_refl, stays_trans, has_pure, has_if, has_then, has_given, has_lifted, has_count}
use Rattle.accepted_programs.proofs.Declaring.{Between, between_append}

-- ---- statements

-- a kind of statement, by its level
pub record GoodKind (w : World) (at : Stand) (ended : Bool) (e : Env) (k : StmtKind) (e' : Env) (n : ℕ) : Type 0 where
  pub layer : StmtLayer
  pub out : out-StmtKind k ≡ layer
  pub stays : Stays e e'
  pub fits : Whole w → stmt_by w.program e.result (parts_fit w.program e.result layer) ≡ true
  pub calls : stmt_calls_by (below w (length e.functions)) (stmt_parts_below (below w (length e.functions)) layer) ≡ true
  pub scoped_ : (scope : scoped.Scope) → Covers scope e → fits_by (scoped_parts layer) at scope ≡ true
  pub ends : ended ≡ true → ends_by (scoped_parts layer) ≡ true
  pub locals_ : Between (length e.variables) (stmt_numbers_by (locals_parts layer)) (length e'.variables)
  pub nodes : kind_nodes_by w.program (counted_stmt w.program layer) ≡ n

pub record GoodStmt (w : World) (at : Stand) (ended : Bool) (e : Env) (s : Stmt) (e' : Env) (n : ℕ) : Type 0 where
  pub stays : Stays e e'
  pub fits : Whole w → stmt_fits w.program e.result s ≡ true
  pub calls : stmt_below (below w (length e.functions)) s ≡ true
  pub scoped_ : (scope : scoped.Scope) → Covers scope e → (scoped.scoped s).fits at scope ≡ true
  pub behind : (scope : scoped.Scope) → (scoped.scoped s).behind scope ≡ scope
  pub ends : ended ≡ true → (scoped.scoped s).ends ≡ true
  pub locals_ : Between (length e.variables) (locals s) (length e'.variables)
  pub nodes : stmt_nodes w.program s ≡ n

abbrev pub IsStmt : World → Stand → Bool → Part Stmt → Type 0
IsStmt w at ended p = Has w (λ e. Unit {0}) p (GoodStmt w at ended)

abbrev pub IsKind : World → Stand → Bool → Part StmtKind → Type 0
IsKind w at ended p = Has w (λ e. Unit {0}) p (GoodKind w at ended)

good_stmt : (w : World) (at : Stand) (ended : Bool) (e : Env) (place : Place) (k : StmtKind) (e' : Env) (n : ℕ) → GoodKind w at ended e k e' n → GoodStmt w at ended e (record { place = place; kind = k }) e' (n + 1)
good_stmt w at ended e place k e' n g =
    let s : Stmt = record { place = place; kind = k } in
    let b : Below = below w (length e.functions) in
    record {
      stays = g.stays;
      fits = λ whole. sym (sound_levels.stmt_level w.program e.result s) ∙ (ap (λ x. stmt_by w.program e.result (parts_fit w.program e.result x)) g.out ∙ g.fits whole);
      calls = sym (call_levels.stmt_level b s) ∙ (ap (λ x. stmt_calls_by b (stmt_parts_below b x)) g.out ∙ g.calls);
      scoped_ = λ scope covers. sym (ap (λ (z : Scoped). z.fits at scope) (name_levels.scoped_level s)) ∙ (ap (λ x. fits_by (scoped_parts x) at scope) g.out ∙ g.scoped_ scope covers);
      behind = λ scope. sym (ap (λ (z : Scoped). z.behind scope) (name_levels.scoped_level s));
      ends = λ h. sym (ap (λ (z : Scoped). z.ends) (name_levels.scoped_level s)) ∙ (ap (λ x. ends_by (scoped_parts x)) g.out ∙ g.ends h);
      locals_ = subst (λ z. Between (length e.variables) z (length e'.variables)) (sym (ap (λ x. stmt_numbers_by (locals_parts x)) g.out) ∙ name_levels.locals_level s) g.locals_;
      nodes = sym (count_levels.stmt_level w.program s) ∙ (ap (λ x. 1 + kind_nodes_by w.program (counted_stmt w.program x)) g.out ∙ one_more (kind_nodes_by w.program (counted_stmt w.program g.layer)) n g.nodes);
    }
  where
    one_more : (a n : ℕ) → a ≡ n → 1 + a ≡ n + 1
    one_more a n h = omega (arith, h)

module _ (w : World) where
  pub stmt_has : (at : Stand) (ended : Bool) (place : Place) (parts : List Judged) → IsKind w at ended (rule.stmt_kind parts) → IsStmt w at ended (rule.stmt_by place parts)
  stmt_has at ended place parts is =
      has_then w (λ e. Unit {0}) (rule.stmt_kind parts) (rule.made place) (GoodKind w at ended) (GoodStmt w at ended) is
      (λ e k n. has_count w (λ e'. Unit {0} × GoodKind w at ended e k e' n) 1 (pure (record { place = place; kind = k })) (λ e' s e2 m. GoodStmt w at ended e s e2 (n + m))
      (has_pure w (λ e'. Unit {0} × GoodKind w at ended e k e' n) (record { place = place; kind = k }) (λ e' s e2 m. GoodStmt w at ended e s e2 (n + (1 + m)))
      (λ e' q core. good_stmt w at ended e place k e' n q.1)))

  -- ---- kinds without parts that are statements

  plain : (at : Stand) (ended : Bool) (e : Env) (k : StmtKind) (x : StmtLayer) (n : ℕ) → out-StmtKind k ≡ x → (Whole w → stmt_by w.program e.result (parts_fit w.program e.result x) ≡ true)
      → stmt_calls_by (below w (length e.functions)) (stmt_parts_below (below w (length e.functions)) x) ≡ true
      → ((scope : scoped.Scope) → Covers scope e → fits_by (scoped_parts x) at scope ≡ true) → (ended ≡ true → ends_by (scoped_parts x) ≡ true) → stmt_numbers_by (locals_parts x) ≡ []
      → kind_nodes_by w.program (counted_stmt w.program x) ≡ n → GoodKind w at ended e k e n
  plain at ended e k x n out fits calls scoped_ ends none nodes = record {
    layer = x;
    out = out;
    stays = stays_refl e;
    fits = fits;
    calls = calls;
    scoped_ = scoped_;
    ends = ends;
    locals_ = subst (λ z. Between (length e.variables) z (length e.variables)) (sym none) (omega arith);
    nodes = nodes;
  }

  pub empty_kind : (at : Stand) → IsKind w at false (pure stmt.Empty)
  empty_kind at = has_pure w (λ e. Unit {0}) stmt.Empty (GoodKind w at false) (λ e x core. plain at false e stmt.Empty StmtKind-F.Empty 0 outs-Empty (λ whole. refl) refl (λ scope covers. refl) (λ h. absurd (no_truth h)) refl refl)
    where
      no_truth : false ≡ true → ⊥
      no_truth h = cc

  pub break_kind : (at : Stand) → at.breaks ≡ true → IsKind w at true (pure stmt.Break)
  break_kind at h = has_pure w (λ e. Unit {0}) stmt.Break (GoodKind w at true) (λ e x core. plain at true e stmt.Break StmtKind-F.Break 0 outs-Break (λ whole. refl) refl (λ scope covers. h) (λ h. refl) refl refl)

  pub continue_kind : (at : Stand) → at.continues ≡ true → IsKind w at true (pure stmt.Continue)
  continue_kind at h = has_pure w (λ e. Unit {0}) stmt.Continue (GoodKind w at true) (λ e x core. plain at true e stmt.Continue StmtKind-F.Continue 0 outs-Continue (λ whole. refl) refl (λ scope covers. h) (λ h. refl) refl refl)

  pub act_kind : (at : Stand) (part : Judged) → IsAction w part.act → IsKind w at false (rule.act_kind part)
  act_kind at part is =
      has_given w (λ e. Unit {0}) part.act (λ a. pure (stmt.Act a)) (GoodAction w) (GoodKind w at false) is
      (λ a n. has_pure w (λ e. Unit {0} × GoodAction w e a n) (stmt.Act a) (λ e k e' m. GoodKind w at false e k e' (n + m))
      (λ e q core. let g = q.1 in plain at false e (stmt.Act a) (StmtKind-F.«StmtKind::Act» a) (n + 0) (stmt.outs-Act a) g.fits g.calls g.named (λ h. absurd (no_truth h)) refl (g.nodes ∙ sym (add-zero n))))
    where
      no_truth : false ≡ true → ⊥
      no_truth h = cc

  -- `return`
  GoodReturn : Stand → Env → StmtKind → ℕ → Type 0
  GoodReturn at e k n = GoodKind w at true e k e n

  seen_result : (e : Env) (o : Option Ty) → Saw e rule.result_type o → e.result ≡ o
  seen_result e o saw = ap (λ (z : Env). z.result) (sym saw.same) ∙ saw.is

  nothing_returned : (at : Stand) (e : Env) (X : Type 0) (place : Place) (o : Option Ty) → (X → e.result ≡ o) → Makes w e X (rule.returned_nothing place o) (GoodReturn at e)
  unfolding GoodReturn
  nothing_returned at e X place None h = makes_pure w e X (stmt.Return None) (GoodReturn at e)
      (λ q. plain at true e (stmt.Return None) (StmtKind-F.Return None) 0 (outs-Return None) (λ whole. ap (λ r. return_fits w.program r None) (h q)) refl (λ scope covers. refl) (λ h. refl) refl refl)
  nothing_returned at e X place (Some ty) h = fails w e X (fault.BadAssign place) (stmt.Return None) (GoodReturn at e)

  something_returned : (at : Stand) (e : Env) (X : Type 0) (place : Place) (x : Expr) (n : ℕ) (o : Option Ty) → (X → GoodExpr w e x n × (e.result ≡ o)) → Makes w e X (rule.returned place x o) (λ k m. GoodReturn at e k (n + m))
  unfolding GoodReturn
  something_returned at e X place x n None h = fails w e X (fault.BadAssign place) (stmt.Return None) (λ k m. GoodReturn at e k (n + m))
  something_returned at e X place x n (Some ty) h =
      makes_then w e X (expression.converted ty x) (λ y. pure (stmt.Return (Some y))) (λ y m. (y.ty ≡ ty) × Good w e (value ty) y (n + m)) (λ k m. GoodReturn at e k (n + m))
      (converted_makes w e X ty x n (λ q. (h q).0))
      (λ y m. makes_pure w e (X × ((y.ty ≡ ty) × Good w e (value ty) y (n + m))) (stmt.Return (Some y)) (λ k i. GoodReturn at e k (n + (m + i)))
      (λ q. let g = q.1.1 in plain at true e (stmt.Return (Some y)) (StmtKind-F.Return (Some y)) (n + (m + 0)) (outs-Return (Some y))
      (λ whole. ap (λ r. return_fits w.program r (Some y)) (h q.0).1 ∙ (ap (has_type ty) (g.typed whole) ∙ same_refl ty)) g.calls g.named (λ h. refl) refl (g.nodes ∙ ap (λ z. n + z) (sym (add-zero m)))))

  pub return_nothing : (at : Stand) (place : Place) (sign : Judged) → IsKind w at true (rule.return_by place (sign ∷ []))
  unfolding GoodReturn
  return_nothing at place sign =
      has_lifted w (λ e. Unit {0}) (looked rule.result_type (rule.returned_nothing place)) (GoodReturn at) (GoodKind w at true)
      (λ e. looked_then w e (Fit w e) rule.result_type (rule.returned_nothing place) (GoodReturn at e) (λ o. nothing_returned at e (Fit w e × Saw e rule.result_type o) place o (λ q. seen_result e o q.1)))
      (λ e k n x g. g)

  pub return_value : (at : Stand) (place : Place) (part sign : Judged) → IsExpr w part → IsKind w at true (rule.return_by place (part ∷ sign ∷ []))
  unfolding GoodReturn
  return_value at place part sign is =
      has_lifted w (λ e. Unit {0}) (expression.value_of part >>= (λ x. looked rule.result_type (rule.returned place x))) (GoodReturn at) (GoodKind w at true)
      (λ e. makes_then w e (Fit w e) (expression.value_of part) (λ x. looked rule.result_type (rule.returned place x)) (GoodExpr w e) (GoodReturn at e) (value_makes w e (Fit w e) part (λ q. q) is)
      (λ x n. looked_then w e (Fit w e × GoodExpr w e x n) rule.result_type (rule.returned place x) (λ k m. GoodReturn at e k (n + m))
      (λ o. something_returned at e ((Fit w e × GoodExpr w e x n) × Saw e rule.result_type o) place x n o (λ q. (q.0.1, seen_result e o q.1)))))
      (λ e k n x g. g)

  -- ---- facts about a statement that stands behind others

  pub later_covers : (e e1 : Env) (scope : scoped.Scope) → e1.scopes ≡ e.scopes → Covers scope e → Covers scope e1
  later_covers e e1 scope h covers = λ name x ty size c f. covers name x ty size c (ap (find name) (sym h) ∙ f)

  value_test : (e : Env) (x : Expr) (n : ℕ) → Whole w → GoodExpr w e x n → has_value (typing w.program x) ≡ true
  value_test e x n whole g = ap has_value (g.typed whole)

  no_truth : false ≡ true → ⊥
  no_truth h = cc

  -- a statement in other surroundings of the same function
  later_fits : (at : Stand) (ended : Bool) (e e1 : Env) (s : Stmt) (e2 : Env) (n : ℕ) → e1.result ≡ e.result → GoodStmt w at ended e1 s e2 n → Whole w → stmt_fits w.program e.result s ≡ true
  later_fits at ended e e1 s e2 n h g whole = ap (λ r. stmt_fits w.program r s) (sym h) ∙ g.fits whole

  later_calls : (at : Stand) (ended : Bool) (e e1 : Env) (s : Stmt) (e2 : Env) (n : ℕ) → e1.functions ≡ e.functions → GoodStmt w at ended e1 s e2 n → stmt_below (below w (length e.functions)) s ≡ true
  later_calls at ended e e1 s e2 n h g = ap (λ (fs : List Function). stmt_below (below w (length fs)) s) (sym h) ∙ g.calls

  -- ---- if

  if_alone : (at : Stand) (b : Bool) (e : Env) (c : Expr) (m : ℕ) (a : Stmt) (e1 : Env) (n : ℕ) → GoodExpr w e c m → GoodStmt w at b e a e1 n → GoodKind w at false e (stmt.If c a None) e1 (m + (n + 0))
  if_alone at b e c m a e1 n f g = record {
    layer = StmtKind-F.If c a None;
    out = outs-If c a None;
    stays = g.stays;
    fits = λ whole. both _ _ (value_test e c m whole f) (both _ true (g.fits whole) refl);
    calls = both _ _ f.calls (both _ true g.calls refl);
    scoped_ = λ scope covers. both _ _ (f.named scope covers) (both _ true (g.scoped_ scope covers) refl);
    ends = λ h. absurd (no_truth h);
    locals_ = subst (λ z. Between (length e.variables) z (length e1.variables)) (sym (append-nil (locals a))) g.locals_;
    nodes = sums (expr_nodes c) (stmt_nodes w.program a) m n f.nodes g.nodes;
  }
    where
      sums : (a b m n : ℕ) → a ≡ m → b ≡ n → a + (b + 0) ≡ m + (n + 0)
      sums a b m n h k = omega (arith, h, k)

  if_both : (at : Stand) (b c : Bool) (e : Env) (t : Expr) (k : ℕ) (x : Stmt) (e1 : Env) (m : ℕ) (y : Stmt) (e2 : Env) (n : ℕ) → GoodExpr w e t k → GoodStmt w at b e x e1 m → GoodStmt w at c e1 y e2 n
      → GoodKind w at false e (stmt.If t x (Some y)) e2 (k + (m + (n + 0)))
  if_both at b c e t k x e1 m y e2 n f g h = record {
    layer = StmtKind-F.If t x (Some y);
    out = outs-If t x (Some y);
    stays = stays_trans e e1 e2 g.stays h.stays;
    fits = λ whole. both _ _ (value_test e t k whole f) (both _ _ (g.fits whole) (later_fits at c e e1 y e2 n g.stays.inside.result h whole));
    calls = both _ _ f.calls (both _ _ g.calls (later_calls at c e e1 y e2 n g.stays.inside.functions h));
    scoped_ = λ scope covers. both _ _ (f.named scope covers) (both _ _ (g.scoped_ scope covers) (h.scoped_ scope (later_covers e e1 scope g.stays.scopes covers)));
    ends = λ h. absurd (no_truth h);
    locals_ = between_append (length e.variables) (length e1.variables) (length e2.variables) (locals x) (locals y) g.locals_ h.locals_;
    nodes = sums (expr_nodes t) (stmt_nodes w.program x) (stmt_nodes w.program y) k m n f.nodes g.nodes h.nodes;
  }
    where
      sums : (a b c k m n : ℕ) → a ≡ k → b ≡ m → c ≡ n → a + (b + c) ≡ k + (m + (n + 0))
      sums a b c k m n h f g = omega (arith, h, f, g)

  pub if_kind : (at : Stand) (b : Bool) (bracket test close part : Judged) → IsExpr w test → IsStmt w at b part.stmt → IsKind w at false (rule.if_by (bracket ∷ test ∷ close ∷ part ∷ []))
  if_kind at b bracket test close part f is =
      has_given w (λ e. Unit {0}) (expression.value_of test) (rule.yes_by part []) (GoodExpr w) (GoodKind w at false) (λ e. value_makes w e (Fit w e) test (λ q. q) f)
      (λ t m. has_then w (λ e. Unit {0} × GoodExpr w e t m) part.stmt (rule.else_by [] t) (GoodStmt w at b) (λ e k e' n. GoodKind w at false e k e' (m + n))
      (has_if w (λ e. Unit {0} × GoodExpr w e t m) (λ e. Unit {0}) part.stmt (GoodStmt w at b) (GoodStmt w at b) (λ e q. tt) (λ e a e' n q core core' g. g) is)
      (λ e a n. has_pure w (λ e1. (Unit {0} × GoodExpr w e t m) × GoodStmt w at b e a e1 n) (stmt.If t a None) (λ e1 k e' i. GoodKind w at false e k e' (m + (n + i)))
      (λ e1 q core. if_alone at b e t m a e1 n q.0.1 q.1)))

  pub if_else_kind : (at : Stand) (b c : Bool) (bracket test close part word other : Judged) → IsExpr w test → IsStmt w at b part.stmt → IsStmt w at c other.stmt → IsKind w at false (rule.if_by (bracket ∷ test ∷ close ∷ part ∷ word ∷ other ∷ []))
  if_else_kind at b c bracket test close part word other f is has =
      has_given w (λ e. Unit {0}) (expression.value_of test) (rule.yes_by part (word ∷ other ∷ [])) (GoodExpr w) (GoodKind w at false) (λ e. value_makes w e (Fit w e) test (λ q. q) f)
      (λ t m. has_then w (λ e. Unit {0} × GoodExpr w e t m) part.stmt (rule.else_by (word ∷ other ∷ []) t) (GoodStmt w at b) (λ e k e' n. GoodKind w at false e k e' (m + n))
      (has_if w (λ e. Unit {0} × GoodExpr w e t m) (λ e. Unit {0}) part.stmt (GoodStmt w at b) (GoodStmt w at b) (λ e q. tt) (λ e a e' n q core core' g. g) is)
      (λ e a n. has_then w (λ e1. (Unit {0} × GoodExpr w e t m) × GoodStmt w at b e a e1 n) other.stmt (λ y. rule.if_made t a (Some y)) (GoodStmt w at c) (λ e1 k e' i. GoodKind w at false e k e' (m + (n + i)))
      (has_if w (λ e1. (Unit {0} × GoodExpr w e t m) × GoodStmt w at b e a e1 n) (λ e. Unit {0}) other.stmt (GoodStmt w at c) (GoodStmt w at c) (λ e q. tt) (λ e a e' n q core core' g. g) has)
      (λ e1 y i. has_pure w (λ e2. ((Unit {0} × GoodExpr w e t m) × GoodStmt w at b e a e1 n) × GoodStmt w at c e1 y e2 i) (stmt.If t a (Some y)) (λ e2 k e' j. GoodKind w at false e k e' (m + (n + (i + j))))
      (λ e2 q core. if_both at b c e t m a e1 n y e2 i q.0.0.1 q.0.1 q.1))))

  -- ---- while and do

  while_good : (at : Stand) (b : Bool) (e : Env) (c : Expr) (m : ℕ) (a : Stmt) (e1 : Env) (n : ℕ) → GoodExpr w e c m → GoodStmt w in_loop b e a e1 n → GoodKind w at false e (stmt.While c a) e1 (1 + (m + (n + 0)))
  while_good at b e c m a e1 n f g = record {
    layer = StmtKind-F.While c a;
    out = outs-While c a;
    stays = g.stays;
    fits = λ whole. both _ _ (value_test e c m whole f) (g.fits whole);
    calls = both _ _ f.calls g.calls;
    scoped_ = λ scope covers. both _ _ (f.named scope covers) (g.scoped_ scope covers);
    ends = λ h. absurd (no_truth h);
    locals_ = g.locals_;
    nodes = sums (expr_nodes c) (stmt_nodes w.program a) m n f.nodes g.nodes;
  }
    where
      sums : (a b m n : ℕ) → a ≡ m → b ≡ n → 1 + (a + b) ≡ 1 + (m + (n + 0))
      sums a b m n h k = omega (arith, h, k)

  pub while_kind : (at : Stand) (b : Bool) (bracket test close part : Judged) → IsExpr w test → IsStmt w in_loop b part.stmt → IsKind w at false (rule.while_by (bracket ∷ test ∷ close ∷ part ∷ []))
  while_kind at b bracket test close part f is =
      has_count w (λ e. Unit {0}) 1 (expression.value_of test >>= rule.while_body part) (GoodKind w at false)
      (has_given w (λ e. Unit {0}) (expression.value_of test) (rule.while_body part) (GoodExpr w) (λ e k e' n. GoodKind w at false e k e' (1 + n)) (λ e. value_makes w e (Fit w e) test (λ q. q) f)
      (λ t m. has_then w (λ e. Unit {0} × GoodExpr w e t m) part.stmt (λ s. pure (stmt.While t s)) (GoodStmt w in_loop b) (λ e k e' n. GoodKind w at false e k e' (1 + (m + n)))
      (has_if w (λ e. Unit {0} × GoodExpr w e t m) (λ e. Unit {0}) part.stmt (GoodStmt w in_loop b) (GoodStmt w in_loop b) (λ e q. tt) (λ e a e' n q core core' g. g) is)
      (λ e a n. has_pure w (λ e1. (Unit {0} × GoodExpr w e t m) × GoodStmt w in_loop b e a e1 n) (stmt.While t a) (λ e1 k e' i. GoodKind w at false e k e' (1 + (m + (n + i))))
      (λ e1 q core. while_good at b e t m a e1 n q.0.1 q.1))))

  do_good : (at : Stand) (b : Bool) (e : Env) (a : Stmt) (e1 : Env) (n : ℕ) (c : Expr) (m : ℕ) → GoodStmt w in_loop b e a e1 n → GoodExpr w e1 c m → GoodKind w at false e (stmt.Do a c) e1 (1 + (n + (m + 0)))
  do_good at b e a e1 n c m g f = record {
    layer = StmtKind-F.Do a c;
    out = outs-Do a c;
    stays = g.stays;
    fits = λ whole. both _ _ (g.fits whole) (value_test e1 c m whole f);
    calls = both _ _ g.calls (ap (λ (fs : List Function). calls_below (below w (length fs)) c) (sym g.stays.inside.functions) ∙ f.calls);
    scoped_ = λ scope covers. both _ _ (g.scoped_ scope covers) (f.named scope (later_covers e e1 scope g.stays.scopes covers));
    ends = λ h. absurd (no_truth h);
    locals_ = g.locals_;
    nodes = sums (stmt_nodes w.program a) (expr_nodes c) n m g.nodes f.nodes;
  }
    where
      sums : (a b m n : ℕ) → a ≡ m → b ≡ n → 1 + (a + b) ≡ 1 + (m + (n + 0))
      sums a b m n h k = omega (arith, h, k)

  pub do_kind : (at : Stand) (b : Bool) (part word bracket test : Judged) (rest : List Judged) → IsStmt w in_loop b part.stmt → IsExpr w test → IsKind w at false (rule.do_by (part ∷ word ∷ bracket ∷ test ∷ rest))
  do_kind at b part word bracket test rest is f =
      has_count w (λ e. Unit {0}) 1 (part.stmt >>= rule.do_test test) (GoodKind w at false)
      (has_then w (λ e. Unit {0}) part.stmt (rule.do_test test) (GoodStmt w in_loop b) (λ e k e' n. GoodKind w at false e k e' (1 + n)) is
      (λ e a n. has_given w (λ e1. Unit {0} × GoodStmt w in_loop b e a e1 n) (expression.value_of test) (λ x. pure (stmt.Do a x)) (GoodExpr w) (λ e1 k e' m. GoodKind w at false e k e' (1 + (n + m))) (λ e1. value_makes w e1 (Fit w e1) test (λ q. q) f)
      (λ x m. has_pure w (λ e1. (Unit {0} × GoodStmt w in_loop b e a e1 n) × GoodExpr w e1 x m) (stmt.Do a x) (λ e1 k e' i. GoodKind w at false e k e' (1 + (n + (m + i))))
      (λ e1 q core. do_good at b e a e1 n x m q.0.1 q.1))))
