-- What the rules of `for` make is good, where it is of their parts.
use Rattle.std.proofs.Common.{◌≡◌, refl, sym, ap, subst, ◌∙◌, ℕ, ◌+◌, add-zero, Bool, true, false, Option, Some, None, List, [], ◌∷◌, arith}
use Rattle.std.specs.Prelude.{length}
use Rattle.c_tree.specs.Layer.{StmtLayer}
use Rattle.c_tree.specs.declared.tree.Expr.{Expr}
use Rattle.c_tree.specs.declared.tree.Action.{Action}
use Rattle.c_tree.specs.declared.tree.Function.{Function}
use Rattle.c_tree.specs.declared.tree.Declared.{Declared}
use Rattle.c_tree.specs.declared.tree.BlockItem.TheOpen.{StmtKind-F}
use Rattle.c_tree.specs.declared.tree.Stmt.{Stmt}
use Rattle.c_tree.specs.declared.tree.StmtKind.{StmtKind, out-StmtKind}
use Rattle.c_tree.specs.declared.tree.StmtKind.TheVariants as stmt
use Rattle.c_tree.specs.declared.tree.ForFirst.{ForFirst}
use Rattle.c_tree.specs.declared.tree.ForFirst.TheVariants as first
use Rattle.c_typing.specs.Parts.{◌>>=◌, pure}
use Rattle.c_typing.specs.Judged.{Judged, is_token}
use Rattle.c_typing.specs.Expressions as expression
use Rattle.c_typing.specs.Statements as rule
use Rattle.sound_programs.specs.Sound.{has_value, stmt_by, parts_fit, stmt_fits, first_fits, step_fits, tests}
use Rattle.sound_programs.specs.Calls.{stmt_calls_by, stmt_parts_below, stmt_below, opt_below, first_below, step_below}
use Rattle.sound_programs.specs.Counted.{kind_nodes_by, counted_stmt, opt_nodes, stmt_nodes, first_nodes, step_nodes}
use Rattle.sound_programs.specs.Scoped as scoped
use Rattle.sound_programs.specs.Scoped.{Stand, in_loop, names_opt, first_names, first_behind, first_numbers, fits_by, locals, opt_action_names}
use Rattle.sound_programs.proofs.NameLevels.{scoped_parts, locals_parts}
use Rattle.accepted_programs.proofs.Walk.{World, Env, below}
use Rattle.accepted_programs.proofs.Trees.{Covers, Whole, both}
use Rattle.accepted_programs.proofs.Values.{Fit, GoodExpr, IsExpr, value_makes}
use Rattle.accepted_programs.proofs.Acting.{GoodAction, IsAction}
use Rattle.accepted_programs.proofs.Doing.{Has, Inside, Closed, inside_refl, inside_trans, has_pure, has_if, has_then, has_given, has_count, has_true, has_false, has_from, has_scoped}
use Rattle.accepted_programs.proofs.Declaring.{Between, between_append, GoodDeclaration, IsDeclaration}
use Rattle.accepted_programs.proofs.Stating.{GoodKind, GoodStmt, IsStmt, IsKind}
use Rattle.accepted_programs.proofs.Looping.{closed_stays}

no_truth : false ≡ true → ⊥
no_truth h = cc

-- what a `for` does first, from its own scope on
pub record GoodFirst (w : World) (e : Env) (f : Option ForFirst) (e' : Env) (n : ℕ) : Type 0 where
  pub inside : Inside e e'
  pub fits : Whole w → first_fits w.program f ≡ true
  pub calls : first_below (below w (length e.functions)) f ≡ true
  pub named : (scope : scoped.Scope) → Covers scope e → first_names f scope ≡ true
  pub covers : (scope : scoped.Scope) → Covers scope e → Covers (first_behind f scope) e'
  pub numbers : Between (length e.variables) (first_numbers f) (length e'.variables)
  pub nodes : first_nodes w.program f ≡ n

-- a test or none
pub record GoodTest (w : World) (e : Env) (o : Option Expr) (n : ℕ) : Type 0 where
  pub fits : Whole w → tests w.program o ≡ true
  pub calls : opt_below (below w (length e.functions)) o ≡ true
  pub named : (scope : scoped.Scope) → Covers scope e → names_opt o scope ≡ true
  pub nodes : opt_nodes o ≡ n

-- a step or none
pub record GoodStep (w : World) (e : Env) (o : Option Action) (n : ℕ) : Type 0 where
  pub fits : Whole w → step_fits w.program o ≡ true
  pub calls : step_below (below w (length e.functions)) o ≡ true
  pub named : (scope : scoped.Scope) → Covers scope e → opt_action_names o scope ≡ true
  pub nodes : step_nodes w.program o ≡ n

-- the whole loop, inside of its scope
pub record GoodFor (w : World) (at : Stand) (e : Env) (k : StmtKind) (e' : Env) (n : ℕ) : Type 0 where
  pub layer : StmtLayer
  pub out : out-StmtKind k ≡ layer
  pub inside : Inside e e'
  pub fits : Whole w → stmt_by w.program e.result (parts_fit w.program e.result layer) ≡ true
  pub calls : stmt_calls_by (below w (length e.functions)) (stmt_parts_below (below w (length e.functions)) layer) ≡ true
  pub scoped_ : (scope : scoped.Scope) → Covers scope e → fits_by (scoped_parts layer) at scope ≡ true
  pub locals_ : Between (length e.variables) (scoped.stmt_numbers_by (locals_parts layer)) (length e'.variables)
  pub nodes : kind_nodes_by w.program (counted_stmt w.program layer) ≡ 1 + n

module _ (w : World) where
  for_good : (at : Stand) (b : Bool) (e : Env) (f : Option ForFirst) (e1 : Env) (i : ℕ) (c : Option Expr) (j : ℕ) (step : Option Action) (k : ℕ) (s : Stmt) (e2 : Env) (m : ℕ)
      → GoodFirst w e f e1 i → GoodTest w e1 c j → GoodStep w e1 step k → GoodStmt w in_loop b e1 s e2 m → GoodFor w at e (stmt.For f c step s) e2 (i + (j + (k + m)))
  for_good at b e f e1 i c j step k s e2 m first test act body =
      let fs : e1.functions ≡ e.functions = first.inside.functions in
      record {
        layer = StmtKind-F.For f c step s;
        out = stmt.outs-For f c step s;
        inside = inside_trans e e1 e2 first.inside body.stays.inside;
        fits = λ whole. both _ _ (first.fits whole) (both _ _ (test.fits whole) (both _ _ (act.fits whole) (ap (λ r. stmt_fits w.program r s) (sym first.inside.result) ∙ body.fits whole)));
        calls = both _ _ first.calls (both _ _ (ap (λ (z : List Function). opt_below (below w (length z)) c) (sym fs) ∙ test.calls)
            (both _ _ (ap (λ (z : List Function). step_below (below w (length z)) step) (sym fs) ∙ act.calls) (ap (λ (z : List Function). stmt_below (below w (length z)) s) (sym fs) ∙ body.calls)));
        scoped_ = λ scope covers. let inner = first.covers scope covers in
            both _ _ (first.named scope covers) (both _ _ (test.named (first_behind f scope) inner) (both _ _ (act.named (first_behind f scope) inner) (body.scoped_ (first_behind f scope) inner)));
        locals_ = between_append (length e.variables) (length e1.variables) (length e2.variables) (first_numbers f) (locals s) first.numbers body.locals_;
        nodes = sums (first_nodes w.program f) (opt_nodes c) (step_nodes w.program step) (stmt_nodes w.program s) i j k m first.nodes test.nodes act.nodes body.nodes;
      }
    where
      sums : (a b c d i j k m : ℕ) → a ≡ i → b ≡ j → c ≡ k → d ≡ m → 1 + (a + (b + (c + d))) ≡ 1 + (i + (j + (k + m)))
      sums a b c d i j k m h f g q = omega (arith, h, f, g, q)

  -- ---- from the last part to the first

  abbrev pub HasFirst : Env → Option ForFirst → ℕ → Env → Type 0
  HasFirst e0 f i e = GoodFirst w e0 f e i

  body_has : (at : Stand) (b : Bool) (e0 : Env) (f : Option ForFirst) (i : ℕ) (c : Option Expr) (j : ℕ) (step : Option Action) (k : ℕ) (part : Judged) → IsStmt w in_loop b part.stmt
      → Has w (λ e. GoodFirst w e0 f e i × GoodTest w e c j × GoodStep w e step k) (rule.for_body f c (part ∷ []) step) (λ e x e' n. GoodFor w at e0 x e' (i + (j + (k + n))))
  body_has at b e0 f i c j step k part is =
      has_then w (λ e. GoodFirst w e0 f e i × GoodTest w e c j × GoodStep w e step k) part.stmt (λ s. pure (stmt.For f c step s)) (GoodStmt w in_loop b) (λ e x e' n. GoodFor w at e0 x e' (i + (j + (k + n))))
      (has_if w (λ e. GoodFirst w e0 f e i × GoodTest w e c j × GoodStep w e step k) (λ e. Unit {0}) part.stmt (GoodStmt w in_loop b) (GoodStmt w in_loop b) (λ e q. tt) (λ e a e' n q core core' g. g) is)
      (λ e s n. has_pure w (λ e'. (GoodFirst w e0 f e i × GoodTest w e c j × GoodStep w e step k) × GoodStmt w in_loop b e s e' n) (stmt.For f c step s) (λ e' x e2 m. GoodFor w at e0 x e2 (i + (j + (k + (n + m)))))
      (λ e' q core. subst (λ z. GoodFor w at e0 (stmt.For f c step s) e' (i + (j + (k + z)))) (sym (add-zero n)) (for_good at b e0 f e i c j step k s e' n q.0.0 q.0.1 q.0.2 q.1)))

  no_test : (e : Env) → GoodTest w e None 0
  no_test e = record { fits = λ whole. refl; calls = refl; named = λ scope covers. refl; nodes = refl }

  no_step : (e : Env) → GoodStep w e None 0
  no_step e = record { fits = λ whole. refl; calls = refl; named = λ scope covers. refl; nodes = refl }

  -- behind the second semicolon: ), or a step and )
  pub data IsStep : Bool → List Judged → Type 0 where
    none : (b : Bool) (close part : Judged) → is_token close ≡ true → IsStmt w in_loop b part.stmt → IsStep b (close ∷ part ∷ [])
    some_ : (b : Bool) (a close part : Judged) → is_token a ≡ false → IsAction w a.act → IsStmt w in_loop b part.stmt → IsStep b (a ∷ close ∷ part ∷ [])

  step_has : (at : Stand) (b : Bool) (e0 : Env) (f : Option ForFirst) (i : ℕ) (c : Option Expr) (j : ℕ) (js : List Judged) → IsStep b js
      → Has w (λ e. GoodFirst w e0 f e i × GoodTest w e c j) (rule.step_by f js c) (λ e x e' n. GoodFor w at e0 x e' (i + (j + n)))
  step_has at b e0 f i c j [] h = elim h [ ]
  step_has at b e0 f i c j (close ∷ []) h = elim h [ ]
  step_has at b e0 f i c j (a ∷ close ∷ part ∷ more ∷ rest) h = elim h [ ]
  step_has at b e0 f i c j (close ∷ part ∷ []) (none _ _ _ h is) =
      has_true w (λ e. GoodFirst w e0 f e i × GoodTest w e c j) (is_token close) (rule.for_body f c (part ∷ []) None) (close.act >>= (λ a. rule.for_body f c (rule.but_first (part ∷ [])) (Some a))) (λ e x e' n. GoodFor w at e0 x e' (i + (j + n))) h
      (has_if w (λ e. GoodFirst w e0 f e i × GoodTest w e c j) (λ e. GoodFirst w e0 f e i × GoodTest w e c j × GoodStep w e None 0) (rule.for_body f c (part ∷ []) None) (λ e x e' n. GoodFor w at e0 x e' (i + (j + (0 + n)))) (λ e x e' n. GoodFor w at e0 x e' (i + (j + n)))
      (λ e q. (q.0, q.1, no_step e)) (λ e x e' n q core core' g. subst (λ z. GoodFor w at e0 x e' (i + (j + z))) (zero_first n) g) (body_has at b e0 f i c j None 0 part is))
    where
      zero_first : (n : ℕ) → 0 + n ≡ n
      zero_first n = omega arith
  step_has at b e0 f i c j (a ∷ close ∷ part ∷ []) (some_ _ _ _ _ h act is) =
      has_false w (λ e. GoodFirst w e0 f e i × GoodTest w e c j) (is_token a) (rule.for_body f c (close ∷ part ∷ []) None) (a.act >>= (λ x. rule.for_body f c (part ∷ []) (Some x))) (λ e x e' n. GoodFor w at e0 x e' (i + (j + n))) h
      (has_given w (λ e. GoodFirst w e0 f e i × GoodTest w e c j) a.act (λ x. rule.for_body f c (part ∷ []) (Some x)) (GoodAction w) (λ e x e' n. GoodFor w at e0 x e' (i + (j + n))) act
      (λ x k. has_if w (λ e. (GoodFirst w e0 f e i × GoodTest w e c j) × GoodAction w e x k) (λ e. GoodFirst w e0 f e i × GoodTest w e c j × GoodStep w e (Some x) k) (rule.for_body f c (part ∷ []) (Some x))
      (λ e y e' n. GoodFor w at e0 y e' (i + (j + (k + n)))) (λ e y e' n. GoodFor w at e0 y e' (i + (j + (k + n)))) (λ e q. (q.0.0, q.0.1, record { fits = q.1.fits; calls = q.1.calls; named = q.1.named; nodes = q.1.nodes })) (λ e y e' n q core core' g. g)
      (body_has at b e0 f i c j (Some x) k part is)))

  -- behind the first semicolon
  pub data IsTest : Bool → List Judged → Type 0 where
    none : (b : Bool) (sign : Judged) (rest : List Judged) → is_token sign ≡ true → IsStep b rest → IsTest b (sign ∷ rest)
    some_ : (b : Bool) (x sign : Judged) (rest : List Judged) → is_token x ≡ false → IsExpr w x → IsStep b rest → IsTest b (x ∷ sign ∷ rest)

  test_has : (at : Stand) (b : Bool) (e0 : Env) (f : Option ForFirst) (i : ℕ) (js : List Judged) → IsTest b js
      → Has w (λ e. GoodFirst w e0 f e i) (rule.test_by js f) (λ e x e' n. GoodFor w at e0 x e' (i + n))
  test_has at b e0 f i [] h = elim h [ ]
  test_has at b e0 f i (sign ∷ rest) (none _ _ _ h is) =
      has_true w (λ e. GoodFirst w e0 f e i) (is_token sign) (rule.step_by f rest None) (expression.value_of sign >>= (λ x. rule.step_by f (rule.but_first rest) (Some x))) (λ e x e' n. GoodFor w at e0 x e' (i + n)) h
      (has_if w (λ e. GoodFirst w e0 f e i) (λ e. GoodFirst w e0 f e i × GoodTest w e None 0) (rule.step_by f rest None) (λ e x e' n. GoodFor w at e0 x e' (i + (0 + n))) (λ e x e' n. GoodFor w at e0 x e' (i + n))
      (λ e q. (q, no_test e)) (λ e x e' n q core core' g. subst (λ z. GoodFor w at e0 x e' (i + z)) (zero_first n) g) (step_has at b e0 f i None 0 rest is))
    where
      zero_first : (n : ℕ) → 0 + n ≡ n
      zero_first n = omega arith
  test_has at b e0 f i (x ∷ sign ∷ rest) (some_ _ _ _ _ h has is) =
      has_false w (λ e. GoodFirst w e0 f e i) (is_token x) (rule.step_by f (sign ∷ rest) None) (expression.value_of x >>= (λ y. rule.step_by f rest (Some y))) (λ e y e' n. GoodFor w at e0 y e' (i + n)) h
      (has_given w (λ e. GoodFirst w e0 f e i) (expression.value_of x) (λ y. rule.step_by f rest (Some y)) (GoodExpr w) (λ e y e' n. GoodFor w at e0 y e' (i + n)) (λ e. value_makes w e (Fit w e) x (λ q. q) has)
      (λ y j. has_if w (λ e. GoodFirst w e0 f e i × GoodExpr w e y j) (λ e. GoodFirst w e0 f e i × GoodTest w e (Some y) j) (rule.step_by f rest (Some y)) (λ e z e' n. GoodFor w at e0 z e' (i + (j + n))) (λ e z e' n. GoodFor w at e0 z e' (i + (j + n)))
      (λ e q. (q.0, record { fits = λ whole. ap has_value (q.1.typed whole); calls = q.1.calls; named = q.1.named; nodes = q.1.nodes })) (λ e z e' n q core core' g. g)
      (step_has at b e0 f i (Some y) j rest is)))

  -- behind the bracket
  pub data IsFor : Bool → List Judged → Type 0 where
    none : (b : Bool) (sign : Judged) (rest : List Judged) → is_token sign ≡ true → IsTest b rest → IsFor b (sign ∷ rest)
    declares : (b : Bool) (part : Judged) (rest : List Judged) → is_token part ≡ false → rule.is_declaration part.rule ≡ true → IsDeclaration w part.declaration → IsTest b rest → IsFor b (part ∷ rest)
    acts : (b : Bool) (part sign : Judged) (rest : List Judged) → is_token part ≡ false → rule.is_declaration part.rule ≡ false → IsAction w part.act → IsTest b rest → IsFor b (part ∷ sign ∷ rest)

  nothing_first : (e : Env) → GoodFirst w e None e 0
  nothing_first e = record { inside = inside_refl e; fits = λ whole. refl; calls = refl; named = λ scope covers. refl; covers = λ scope covers. covers; numbers = omega arith; nodes = refl }

  declared_first : (e : Env) (ds : List Declared) (e' : Env) (n : ℕ) → GoodDeclaration w e ds e' n → GoodFirst w e (Some (first.Declare ds)) e' n
  declared_first e ds e' n g = record { inside = g.inside; fits = g.fits; calls = g.calls; named = g.named; covers = g.covers; numbers = g.numbers; nodes = g.nodes }

  acted_first : (e : Env) (a : Action) (n : ℕ) → GoodAction w e a n → GoodFirst w e (Some (first.Act a)) e n
  acted_first e a n g = record { inside = inside_refl e; fits = g.fits; calls = g.calls; named = g.named; covers = λ scope covers. covers; numbers = omega arith; nodes = g.nodes }

  first_has : (at : Stand) (b : Bool) (js : List Judged) → IsFor b js → Has w (λ e. Unit {0}) (rule.first_by js) (GoodFor w at)
  first_has at b [] h = elim h [ ]
  first_has at b (sign ∷ rest) (none _ _ _ h is) =
      has_true w (λ e. Unit {0}) (is_token sign) (rule.test_by rest None) (rule.first_some sign rest) (GoodFor w at) h
      (has_from w (λ e. Unit {0}) (rule.test_by rest None) (GoodFor w at)
      (λ e0. has_if w (λ e. Unit {0} × (e ≡ e0)) (λ e. GoodFirst w e0 None e 0) (rule.test_by rest None) (λ e x e' n. GoodFor w at e0 x e' (0 + n)) (λ e x e' n. GoodFor w at e0 x e' n)
      (λ e q. subst (λ z. GoodFirst w e0 None z 0) (sym q.1) (nothing_first e0)) (λ e x e' n q core core' g. subst (λ z. GoodFor w at e0 x e' z) (zero_first n) g) (test_has at b e0 None 0 rest is)))
    where
      zero_first : (n : ℕ) → 0 + n ≡ n
      zero_first n = omega arith
  first_has at b (part ∷ rest) (declares _ _ _ h k has is) =
      has_false w (λ e. Unit {0}) (is_token part) (rule.test_by rest None) (rule.first_some part rest) (GoodFor w at) h
      (has_true w (λ e. Unit {0}) (rule.is_declaration part.rule) (part.declaration >>= (λ ds. rule.test_by rest (Some (first.Declare ds)))) (part.act >>= (λ a. rule.test_by (rule.but_first rest) (Some (first.Act a)))) (GoodFor w at) k
      (has_then w (λ e. Unit {0}) part.declaration (λ ds. rule.test_by rest (Some (first.Declare ds))) (GoodDeclaration w) (GoodFor w at) has
      (λ e ds n. has_if w (λ e'. Unit {0} × GoodDeclaration w e ds e' n) (λ e'. GoodFirst w e (Some (first.Declare ds)) e' n) (rule.test_by rest (Some (first.Declare ds))) (λ e' x e2 m. GoodFor w at e x e2 (n + m)) (λ e' x e2 m. GoodFor w at e x e2 (n + m))
      (λ e' q. declared_first e ds e' n q.1) (λ e' x e2 m q core core' g. g) (test_has at b e (Some (first.Declare ds)) n rest is))))
  first_has at b (part ∷ sign ∷ rest) (acts _ _ _ _ h k has is) =
      has_false w (λ e. Unit {0}) (is_token part) (rule.test_by (sign ∷ rest) None) (rule.first_some part (sign ∷ rest)) (GoodFor w at) h
      (has_false w (λ e. Unit {0}) (rule.is_declaration part.rule) (part.declaration >>= (λ ds. rule.test_by (sign ∷ rest) (Some (first.Declare ds)))) (part.act >>= (λ a. rule.test_by rest (Some (first.Act a)))) (GoodFor w at) k
      (has_from w (λ e. Unit {0}) (part.act >>= (λ a. rule.test_by rest (Some (first.Act a)))) (GoodFor w at)
      (λ e0. has_given w (λ e. Unit {0} × (e ≡ e0)) part.act (λ a. rule.test_by rest (Some (first.Act a))) (GoodAction w) (λ e x e' n. GoodFor w at e0 x e' n) has
      (λ a n. has_if w (λ e. (Unit {0} × (e ≡ e0)) × GoodAction w e a n) (λ e. GoodFirst w e0 (Some (first.Act a)) e n) (rule.test_by rest (Some (first.Act a))) (λ e x e' m. GoodFor w at e0 x e' (n + m)) (λ e x e' m. GoodFor w at e0 x e' (n + m))
      (λ e q. subst (λ z. GoodFirst w z (Some (first.Act a)) e n) q.0.1 (acted_first e a n q.1)) (λ e x e' m q core core' g. g) (test_has at b e0 (Some (first.Act a)) n rest is)))))

  for_closed : (at : Stand) (e : Env) (k : StmtKind) (e' : Env) (n : ℕ) → Closed (GoodFor w at) e k e' n → GoodKind w at false e k e' (1 + n)
  for_closed at e k e' n c =
      let g = c.fits in record {
        layer = g.layer;
        out = g.out;
        stays = closed_stays w e c.last e' c.is c.inside;
        fits = g.fits;
        calls = g.calls;
        scoped_ = λ scope covers. g.scoped_ scope covers;
        ends = λ h. absurd (no_truth h);
        locals_ = subst (λ (z : Env). Between (length e.variables) (scoped.stmt_numbers_by (locals_parts g.layer)) (length z.variables)) (sym c.is) g.locals_;
        nodes = g.nodes;
      }

  pub for_kind : (at : Stand) (b : Bool) (bracket : Judged) (js : List Judged) → IsFor b js → IsKind w at false (rule.for_by (bracket ∷ js))
  for_kind at b bracket js is =
      has_count w (λ e. Unit {0}) 1 (rule.scoped (rule.first_by js)) (GoodKind w at false)
      (has_if w (λ e. Unit {0}) (λ e. Unit {0}) (rule.scoped (rule.first_by js)) (Closed (GoodFor w at)) (λ e k e' n. GoodKind w at false e k e' (1 + n)) (λ e q. tt) (λ e k e' n q core core' c. for_closed at e k e' n c)
      (has_scoped w (λ e. Unit {0}) (λ e. Unit {0}) (rule.first_by js) (GoodFor w at) (λ e q core. tt) (λ e a e' n g. g.inside) (first_has at b js is)))
