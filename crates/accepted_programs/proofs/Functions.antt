-- What the rules of functions make is good, where it is of their parts.
use Rattle.std.proofs.Common.{◌≡◌, refl, sym, ap, subst, ◌∙◌, ℕ, suc, ◌+◌, ◌≤◌, add-zero, add_assoc, append-nil, append_assoc, Bool, true, false, Option, Some, None, List, [], ◌∷◌, ◌++◌, map, arith}
use Rattle.std.specs.Prelude.{slice_get, length, ◌&&◌, ◌||◌, ◌==◌, nat_le, if◌then◌else◌}
use Rattle.std.proofs.lemmas.Bool.Decides.{nat_tests}
use Rattle.base_io.specs.declared.place.Place.{Place}
use Rattle.c_values.specs.declared.ops.Ty.{Ty}
use Rattle.c_tree.specs.Layer.{StmtLayer, ItemLayer}
use Rattle.c_tree.specs.declared.tree.Variable.{Variable}
use Rattle.c_tree.specs.declared.tree.Function.{Function}
use Rattle.c_tree.specs.declared.tree.Program.{Program}
use Rattle.c_tree.specs.declared.tree.BlockItem.{BlockItem, out-BlockItem}
use Rattle.c_tree.specs.declared.tree.BlockItem.TheOpen.{StmtKind-F, BlockItem-F}
use Rattle.c_tree.specs.declared.tree.Stmt.{Stmt}
use Rattle.c_tree.specs.declared.tree.StmtKind.{out-StmtKind}
use Rattle.c_tree.specs.declared.tree.StmtKind.TheVariants as stmt
use Rattle.c_typing.specs.declared.meaning.Meaning.TheVariants as meaning
use Rattle.c_typing.specs.declared.state.State.{State}
use Rattle.c_typing.specs.declared.value.Parameter.{Parameter}
use Rattle.c_typing.specs.declared.type_fault.TypeFault.TheVariants as fault
use Rattle.c_typing.specs.Parts.{◌>>◌, pure, looked, note_if, count}
use Rattle.c_typing.specs.Judged.{Judged}
use Rattle.c_typing.specs.Statements as statement
use Rattle.c_typing.specs.Declarations as declaration
use Rattle.c_typing.specs.Functions as rule
use Rattle.sound_programs.specs.Sound as sound
use Rattle.sound_programs.specs.Sound.{parameters_fit, is_parameter, stmt_fits}
use Rattle.sound_programs.specs.Calls.{stmt_below, functions_below}
use Rattle.sound_programs.specs.Counted as counted
use Rattle.sound_programs.specs.Calls as calls
use Rattle.sound_programs.proofs.SoundLevels as sound_levels
use Rattle.sound_programs.proofs.CallLevels as call_levels
use Rattle.sound_programs.proofs.CountLevels as count_levels
use Rattle.sound_programs.proofs.NameLevels as name_levels
use Rattle.sound_programs.specs.Counted.{stmt_nodes, functions_nodes, implied_nodes}
use Rattle.sound_programs.specs.Scoped as scoped
use Rattle.sound_programs.specs.Scoped.{Scoped, holds, in_body, locals, functions_scoped, globals_from, introduced}
use Rattle.accepted_programs.proofs.Walk.{World, Env, env, below, not_empty, After, after_more}
use Rattle.accepted_programs.proofs.Trees.{Covers, Whole, AreOf, both}
use Rattle.accepted_programs.proofs.Doing.{Core, Did, Has, Inside, Stays, Closed, inside_refl, inside_trans, has_pure, has_if, has_then, has_count, has_from}
use Rattle.accepted_programs.proofs.Objects.{Added, has_object}
use Rattle.accepted_programs.proofs.Declaring.{Between, between_append, added_inside, added_covers, added_one}
use Rattle.accepted_programs.proofs.Looping.{GoodItems, closed_stays}
use Rattle.accepted_programs.proofs.Filing.{File, Files, IsFiled, names_in}
use Rattle.accepted_programs.proofs.Signing.{Named, function_named, unseen_has}

-- ---- lists of functions

pub fit_snoc : (p : Program) (fs : List Function) (f : Function) → sound.functions_fit p fs ≡ true → parameters_fit p f.params ≡ true → stmt_fits p f.result f.body ≡ true → sound.functions_fit p (fs ++ f ∷ []) ≡ true
fit_snoc p [] f h k l = both _ _ k (both _ true l refl)
fit_snoc p (g ∷ fs) f h k l = by (parameters_fit p g.params) (stmt_fits p g.result g.body) h (λ r. fit_snoc p fs f r k l)
  where
    by : (a b : Bool) → (a && (b && sound.functions_fit p fs)) ≡ true → (sound.functions_fit p fs ≡ true → sound.functions_fit p (fs ++ f ∷ []) ≡ true) → (a && (b && sound.functions_fit p (fs ++ f ∷ []))) ≡ true
    by true true h r = r h
    by true false h r = cc
    by false b h r = cc

pub below_snoc : (w : World) (k : ℕ) (fs : List Function) (f : Function) → functions_below w.heights k fs ≡ true → stmt_below (below w (k + length fs)) f.body ≡ true → functions_below w.heights k (fs ++ f ∷ []) ≡ true
below_snoc w k [] f h l = both _ true (ap (λ z. stmt_below (below w z) f.body) (sym (add-zero k)) ∙ l) refl
below_snoc w k (g ∷ fs) f h l = by (stmt_below (below w k) g.body) h (λ r. below_snoc w (k + 1) fs f r (ap (λ z. stmt_below (below w z) f.body) (sums k (length fs)) ∙ l))
  where
    sums : (k n : ℕ) → (k + 1) + n ≡ k + suc n
    sums k n = omega arith

    by : (a : Bool) → (a && functions_below w.heights (k + 1) fs) ≡ true → (functions_below w.heights (k + 1) fs ≡ true → functions_below w.heights (k + 1) (fs ++ f ∷ []) ≡ true) → (a && functions_below w.heights (k + 1) (fs ++ f ∷ [])) ≡ true
    by true h r = r h
    by false h r = cc

pub scoped_snoc : (gs : scoped.Scope) (fs : List Function) (f : Function) → functions_scoped gs fs ≡ true → (scoped.scoped f.body).fits in_body (f.params ++ gs) ≡ true → functions_scoped gs (fs ++ f ∷ []) ≡ true
scoped_snoc gs [] f h k = both _ true k refl
scoped_snoc gs (g ∷ fs) f h k = by ((scoped.scoped g.body).fits in_body (g.params ++ gs)) h (λ r. scoped_snoc gs fs f r k)
  where
    by : (a : Bool) → (a && functions_scoped gs fs) ≡ true → (functions_scoped gs fs ≡ true → functions_scoped gs (fs ++ f ∷ []) ≡ true) → (a && functions_scoped gs (fs ++ f ∷ [])) ≡ true
    by true h r = r h
    by false h r = cc

pub introduced_snoc : (fs : List Function) (f : Function) → introduced (fs ++ f ∷ []) ≡ introduced fs ++ (f.params ++ locals f.body)
introduced_snoc [] f = append-nil (f.params ++ locals f.body)
introduced_snoc (g ∷ fs) f = ap (λ z. (g.params ++ locals g.body) ++ z) (introduced_snoc fs f) ∙ sym (append_assoc (g.params ++ locals g.body) (introduced fs) (f.params ++ locals f.body))

pub nodes_snoc : (p : Program) (fs : List Function) (f : Function) → functions_nodes p (fs ++ f ∷ []) ≡ functions_nodes p fs + (stmt_nodes p f.body + implied_nodes (out-StmtKind f.body.kind))
nodes_snoc p [] f = omega arith
nodes_snoc p (g ∷ fs) f = omega (arith, nodes_snoc p fs f)

pub names_snoc : (fs : List Function) (f : Function) → names_in (fs ++ f ∷ []) ≡ names_in fs ++ f.name ∷ []
names_snoc [] f = refl
names_snoc (g ∷ fs) f = ap (λ z. g.name ∷ z) (names_snoc fs f)

-- ---- parameters

pub record GoodParams (w : World) (tys : List Ty) (e : Env) (xs : List ℕ) (e' : Env) (n : ℕ) : Type 0 where
  pub none : n ≡ 0
  pub inside : Inside e e'
  pub fits : parameters_fit w.program xs ≡ true
  pub are : AreOf w.program xs tys
  pub numbers : Between (length e.variables) xs (length e'.variables)
  pub covers : (scope : scoped.Scope) → Covers scope e → Covers (xs ++ scope) e'

no_params : (w : World) (e : Env) → GoodParams w [] e [] e 0
no_params w e = record { none = refl; inside = inside_refl e; fits = refl; are = tt; numbers = omega arith; covers = λ scope covers. covers }

are_snoc : (p : Program) (xs : List ℕ) (tys : List Ty) (x : ℕ) (ty : Ty) → AreOf p xs tys → (v : Variable) × (slice_get p.variables x ≡ Some v) × (v.length ≡ None) × (v.ty ≡ ty) → AreOf p (xs ++ x ∷ []) (tys ++ ty ∷ [])
are_snoc p [] [] x ty h k = (k, tt)
are_snoc p [] (t ∷ tys) x ty h k = absurd h
are_snoc p (y ∷ xs) [] x ty h k = absurd h
are_snoc p (y ∷ xs) (t ∷ tys) x ty (h, hs) k = (h, are_snoc p xs tys x ty hs k)

params_snoc : (p : Program) (xs : List ℕ) (x : ℕ) → parameters_fit p xs ≡ true → is_parameter (slice_get p.variables x) ≡ true → parameters_fit p (xs ++ x ∷ []) ≡ true
params_snoc p [] x h k = both _ true k refl
params_snoc p (y ∷ xs) x h k = by (is_parameter (slice_get p.variables y)) h (λ r. params_snoc p xs x r k)
  where
    by : (a : Bool) → (a && parameters_fit p xs) ≡ true → (parameters_fit p xs ≡ true → parameters_fit p (xs ++ x ∷ []) ≡ true) → (a && parameters_fit p (xs ++ x ∷ [])) ≡ true
    by true h r = r h
    by false h r = cc

or_swap : (a b c : Bool) → (a || (b || c)) ≡ (b || (a || c))
or_swap true true c = refl
or_swap true false c = refl
or_swap false b c = refl

holds_moved : (y x : ℕ) (xs scope : List ℕ) → holds y ((xs ++ x ∷ []) ++ scope) ≡ holds y (x ∷ (xs ++ scope))
holds_moved y x [] scope = refl
holds_moved y x (z ∷ xs) scope = ap (λ b. (y == z) || b) (holds_moved y x xs scope) ∙ or_swap (y == z) (y == x) (holds y (xs ++ scope))

abbrev pub types_of : List Parameter → List Ty
types_of ps = rule.types_of ps

module _ (w : World) where
  abbrev pub parameter_variable : Parameter → Variable
  parameter_variable p = declaration.local p.ty None

  one_more : (p : Parameter) (tys : List Ty) (e : Env) (xs : List ℕ) (e1 : Env) (m : ℕ) (x : ℕ) (e2 : Env) (n : ℕ) → GoodParams w tys e xs e1 m → Added w p.name p.constant (parameter_variable p) e1 x e2 n → GoodParams w (tys ++ p.ty ∷ []) e (xs ++ x ∷ []) e2 (m + n)
  one_more p tys e xs e1 m x e2 n g a = record {
    none = sums m n g.none a.none;
    inside = inside_trans e e1 e2 g.inside (added_inside w p.name p.constant (parameter_variable p) e1 x e2 n a);
    fits = params_snoc w.program xs x g.fits (ap is_parameter a.there);
    are = are_snoc w.program xs tys x p.ty g.are (parameter_variable p, a.there, refl, refl);
    numbers = between_append (length e.variables) (length e1.variables) (length e2.variables) xs (x ∷ []) g.numbers (at_end x (length e1.variables) (length e2.variables) a.number (added_one w p.name p.constant (parameter_variable p) e1 x e2 n a));
    covers = λ scope covers name y ty size c h. holds_moved y x xs scope ∙ added_covers w p.name p.constant (parameter_variable p) e1 x e2 n a (xs ++ scope) (g.covers scope covers) name y ty size c h;
  }
    where
      sums : (m n : ℕ) → m ≡ 0 → n ≡ 0 → m + n ≡ 0
      sums m n h k = omega (arith, h, k)

      at_end : (x a b : ℕ) → x ≡ a → b ≡ a + 1 → (a ≤ x) × (suc x ≤ b)
      at_end x a b h k = (omega (arith, h), omega (arith, h, k))

  params_onto : (e0 : Env) (m : ℕ) (tys : List Ty) (xs : List ℕ) (ps : List Parameter) → Has w (λ e. GoodParams w tys e0 xs e m) (rule.add_parameters xs ps) (λ e ys e' n. GoodParams w (tys ++ types_of ps) e0 ys e' (m + n))
  params_onto e0 m tys xs [] = has_pure w (λ e. GoodParams w tys e0 xs e m) xs (λ e ys e' n. GoodParams w (tys ++ []) e0 ys e' (m + n)) (λ e q core. subst (λ t. GoodParams w t e0 xs e (m + 0)) (sym (append-nil tys)) (subst (λ k. GoodParams w tys e0 xs e k) (sym (add-zero m)) q))
  params_onto e0 m tys xs (p ∷ ps) =
      has_then w (λ e. GoodParams w tys e0 xs e m) (rule.add_parameter p) (λ x. rule.add_parameters (xs ++ x ∷ []) ps) (Added w p.name p.constant (parameter_variable p)) (λ e ys e' n. GoodParams w (tys ++ p.ty ∷ types_of ps) e0 ys e' (m + n))
      (has_object w (λ e. GoodParams w tys e0 xs e m) p.name p.name_place p.constant (parameter_variable p) (λ e q. (refl, refl)))
      (λ e x n. has_if w (λ e'. GoodParams w tys e0 xs e m × Added w p.name p.constant (parameter_variable p) e x e' n) (λ e'. GoodParams w (tys ++ p.ty ∷ []) e0 (xs ++ x ∷ []) e' (m + n)) (rule.add_parameters (xs ++ x ∷ []) ps)
      (λ e' ys e2 k. GoodParams w ((tys ++ p.ty ∷ []) ++ types_of ps) e0 ys e2 ((m + n) + k)) (λ e' ys e2 k. GoodParams w (tys ++ p.ty ∷ types_of ps) e0 ys e2 (m + (n + k)))
      (λ e' q. one_more p tys e0 xs e m x e' n q.0 q.1) (λ e' ys e2 k q core core' g. subst (λ t. GoodParams w t e0 ys e2 (m + (n + k))) (append_assoc tys (p.ty ∷ []) (types_of ps)) (subst (λ j. GoodParams w ((tys ++ p.ty ∷ []) ++ types_of ps) e0 ys e2 j) (add_assoc m n k) g))
      (params_onto e0 (m + n) (tys ++ p.ty ∷ []) (xs ++ x ∷ []) ps))

  params_has : (ps : List Parameter) → Has w (λ e. Unit {0}) (rule.add_parameters [] ps) (GoodParams w (types_of ps))
  params_has ps =
      has_from w (λ e. Unit {0}) (rule.add_parameters [] ps) (GoodParams w (types_of ps))
      (λ e0. has_if w (λ e. Unit {0} × (e ≡ e0)) (λ e. GoodParams w [] e0 [] e 0) (rule.add_parameters [] ps) (λ e ys e' n. GoodParams w ([] ++ types_of ps) e0 ys e' (0 + n)) (λ e ys e' n. GoodParams w (types_of ps) e0 ys e' n)
      (λ e q. subst (λ z. GoodParams w [] e0 [] z 0) (sym q.1) (no_params w e0)) (λ e ys e' n q core core' g. subst (λ k. GoodParams w (types_of ps) e0 ys e' k) (zero_before n) g) (params_onto e0 0 [] [] ps))
    where
      zero_before : (n : ℕ) → 0 + n ≡ n
      zero_before n = omega arith

-- ---- bodies

return_same : (x : StmtLayer) → rule.is_return_stmt x ≡ counted.is_return x
return_same (StmtKind-F.Return e) = refl
return_same (StmtKind-F.Block items) = refl
return_same StmtKind-F.Empty = refl
return_same (StmtKind-F.«StmtKind::Act» a) = refl
return_same StmtKind-F.Break = refl
return_same StmtKind-F.Continue = refl
return_same (StmtKind-F.If c a b) = refl
return_same (StmtKind-F.While c body) = refl
return_same (StmtKind-F.Do body c) = refl
return_same (StmtKind-F.For f c step body) = refl
return_same (StmtKind-F.Switch e groups) = refl

item_same : (x : ItemLayer) → rule.is_return_item x ≡ counted.is_return_item x
item_same (BlockItem-F.Declare ds) = refl
item_same (BlockItem-F.«BlockItem::Act» s) = return_same (out-StmtKind s.kind)

ends_same : (is : List BlockItem) → rule.ends_in_return is ≡ counted.ends_in_return is
ends_same [] = refl
ends_same (i ∷ []) = item_same (out-BlockItem i)
ends_same (i ∷ j ∷ is) = ends_same (j ∷ is)

-- a function, by the surroundings of its definition
pub record GoodFunction (w : World) (name : List ℕ) (tys : List Ty) (e : Env) (f : Function) (e' : Env) (n : ℕ) : Type 0 where
  pub stays : Stays e e'
  pub params : parameters_fit w.program f.params ≡ true
  pub are : AreOf w.program f.params tys
  pub fits : Whole w → stmt_fits w.program f.result f.body ≡ true
  pub calls : stmt_below (below w (length e.functions)) f.body ≡ true
  pub scoped_ : (scope : scoped.Scope) → Covers scope e → (scoped.scoped f.body).fits in_body (f.params ++ scope) ≡ true
  pub numbers : Between (length e.variables) (f.params ++ locals f.body) (length e'.variables)
  pub nodes : stmt_nodes w.program f.body + implied_nodes (out-StmtKind f.body.kind) ≡ n
  pub named : f.name ≡ name
  pub result : f.result ≡ e.result

module _ (w : World) where
  -- what stands in the scope of the parameters
  pub record GoodInner (name : List ℕ) (tys : List Ty) (e : Env) (f : Function) (e' : Env) (n : ℕ) : Type 0 where
    pub first : Env
    pub none : ℕ
    pub params : GoodParams w tys e f.params first none
    pub place : Place
    pub items : List BlockItem
    pub more : ℕ
    pub body : GoodItems w in_body false first items e' more
    pub is : f.body ≡ record { place = place; kind = stmt.Block items }
    pub count : more + rule.body_nodes items ≡ n
    pub named : f.name ≡ name
    pub result : f.result ≡ e.result

  pub inner_inside : (name : List ℕ) (tys : List Ty) (e : Env) (f : Function) (e' : Env) (n : ℕ) → GoodInner name tys e f e' n → Inside e e'
  inner_inside name tys e f e' n g = inside_trans e g.first e' g.params.inside g.body.inside

  pub body_has : (result : Option Ty) (name block : Judged) (ps : List Parameter) → Has w (λ e. Unit {0}) block.items (GoodItems w in_body false)
      → Has w (λ e. e.result ≡ result) (rule.parameters_and_body result name ps block) (GoodInner name.text (types_of ps))
  body_has result name block ps is =
      has_then w (λ e. e.result ≡ result) (rule.add_parameters [] ps) (rule.body_by result name block) (GoodParams w (types_of ps)) (GoodInner name.text (types_of ps))
      (has_if w (λ e. e.result ≡ result) (λ e. Unit {0}) (rule.add_parameters [] ps) (GoodParams w (types_of ps)) (GoodParams w (types_of ps)) (λ e q. tt) (λ e a e' n q core core' g. g) (params_has w ps))
      (λ e xs n. has_then w (λ e1. (e.result ≡ result) × GoodParams w (types_of ps) e xs e1 n) block.items (λ items. count (rule.body_nodes items) >> pure (rule.function result name block xs items)) (GoodItems w in_body false) (λ e1 f e' m. GoodInner name.text (types_of ps) e f e' (n + m))
      (has_if w (λ e1. (e.result ≡ result) × GoodParams w (types_of ps) e xs e1 n) (λ e. Unit {0}) block.items (GoodItems w in_body false) (GoodItems w in_body false) (λ e q. tt) (λ e a e' n q core core' g. g) is)
      (λ e1 items m. has_count w (λ e2. ((e.result ≡ result) × GoodParams w (types_of ps) e xs e1 n) × GoodItems w in_body false e1 items e2 m) (rule.body_nodes items) (pure (rule.function result name block xs items)) (λ e2 f e' k. GoodInner name.text (types_of ps) e f e' (n + (m + k)))
      (has_pure w (λ e2. ((e.result ≡ result) × GoodParams w (types_of ps) e xs e1 n) × GoodItems w in_body false e1 items e2 m) (rule.function result name block xs items) (λ e2 f e' k. GoodInner name.text (types_of ps) e f e' (n + (m + (rule.body_nodes items + k))))
      (λ e2 q core. record { first = e1; none = n; params = q.0.1; place = block.place; items = items; more = m; body = q.1; is = refl; count = sums n m (rule.body_nodes items) q.0.1.none; named = refl; result = sym q.0.0 }))))
    where
      sums : (n m k : ℕ) → n ≡ 0 → m + k ≡ n + (m + (k + 0))
      sums n m k h = omega (arith, h)

  implied : (place : Place) (items : List BlockItem) (a n : ℕ) → a ≡ n + 1 → a + implied_nodes (out-StmtKind (stmt.Block items)) ≡ n + rule.body_nodes items
  implied place items a n h = ap (λ x. a + implied_nodes x) (stmt.outs-Block items) ∙ (ap (λ b. a + (if b then 0 else 1)) (sym (ends_same items)) ∙ by (rule.ends_in_return items))
    where
      by : (b : Bool) → a + (if b then 0 else 1) ≡ n + (if b then 1 else 2)
      by true = omega (arith, h)
      by false = omega (arith, h)

  -- the block of a body stands in the scope of the parameters
  pub function_good : (name : List ℕ) (tys : List Ty) (e : Env) (f : Function) (e' : Env) (n : ℕ) → Closed (GoodInner name tys) e f e' n → GoodFunction w name tys e f e' n
  function_good name tys e f e' n c =
      let g = c.fits in let b = g.body in let p = g.params in
      let s : Stmt = record { place = g.place; kind = stmt.Block g.items } in
      let fs : g.first.functions ≡ e.functions = p.inside.functions in
      let out : out-StmtKind (stmt.Block g.items) ≡ StmtKind-F.Block g.items = stmt.outs-Block g.items in
      record {
        stays = closed_stays w e c.last e' c.is c.inside;
        params = p.fits;
        are = p.are;
        fits = λ whole. ap (stmt_fits w.program f.result) g.is ∙ (ap (λ r. stmt_fits w.program r s) (g.result ∙ sym p.inside.result) ∙ (sym (sound_levels.stmt_level w.program g.first.result s) ∙ (ap (λ x. sound.stmt_by w.program g.first.result (sound.parts_fit w.program g.first.result x)) out ∙ b.fits whole)));
        calls = ap (stmt_below (below w (length e.functions))) g.is ∙ (ap (λ (z : List Function). stmt_below (below w (length z)) s) (sym fs) ∙ (sym (call_levels.stmt_level (below w (length g.first.functions)) s) ∙ (ap (λ x. calls.stmt_calls_by (below w (length g.first.functions)) (calls.stmt_parts_below (below w (length g.first.functions)) x)) out ∙ b.calls)));
        scoped_ = λ scope covers. ap (λ z. (scoped.scoped z).fits in_body (f.params ++ scope)) g.is ∙ (sym (ap (λ (z : Scoped). z.fits in_body (f.params ++ scope)) (name_levels.scoped_level s)) ∙ (ap (λ x. scoped.fits_by (name_levels.scoped_parts x) in_body (f.params ++ scope)) out ∙ b.scoped_ (f.params ++ scope) (p.covers scope covers)));
        numbers = subst (λ z. Between (length e.variables) (f.params ++ locals z) (length e'.variables)) (sym g.is)
            (subst (λ z. Between (length e.variables) (f.params ++ z) (length e'.variables)) (sym (ap (λ x. scoped.stmt_numbers_by (name_levels.locals_parts x)) out) ∙ name_levels.locals_level s)
            (subst (λ (z : Env). Between (length e.variables) (f.params ++ scoped.joined (map scoped.item_locals g.items)) (length z.variables)) (sym c.is)
            (between_append (length e.variables) (length g.first.variables) (length c.last.variables) f.params (scoped.joined (map scoped.item_locals g.items)) p.numbers b.locals_)));
        nodes = ap (λ (z : Stmt). stmt_nodes w.program z + implied_nodes (out-StmtKind z.kind)) g.is
            ∙ (implied g.place g.items (stmt_nodes w.program s) g.more (sym (count_levels.stmt_level w.program s) ∙ (ap (λ x. 1 + counted.kind_nodes_by w.program (counted.counted_stmt w.program x)) out ∙ one_first (counted.sum_of (map (counted.item_nodes w.program) g.items)) g.more b.nodes)) ∙ g.count);
        named = g.named;
        result = g.result;
      }
    where
      one_first : (a n : ℕ) → a ≡ n → 1 + a ≡ n + 1
      one_first a n h = omega (arith, h)

  -- ---- the head

  head_full : (s : State) (place : Place) (b : Bool) → nat_le 256 (length s.functions) ≡ b → After w s (note_if b (fault.TooMany place) s) (λ _ s'. Core (env s) → Did s.nodes (λ e' n. (n ≡ 0) × (e' ≡ env s) × (length s.functions + 1 ≤ 256)) s')
  head_full s place true h = λ some. (refl, λ ends. absurd (not_empty s.faults (fault.TooMany place) ends.faultless))
  head_full s place false h = λ some. (refl, λ ends. (ends, λ core. record { more = 0; core = core; nodes = sym (add-zero s.nodes); fits = (refl, refl, not_full (length s.functions) h) }))
    where
      not_full : (n : ℕ) → nat_le 256 n ≡ false → n + 1 ≤ 256
      not_full n h = grind (arith, nat_tests)

  pub full_has : (X : Env → Type 0) (place : Place) → Has w X (looked rule.is_last (λ full. note_if full (fault.TooMany place))) (λ e _ e' n. (n ≡ 0) × (e' ≡ e) × (length e.functions + 1 ≤ 256))
  full_has X place s =
      after_more w s s (note_if (rule.is_last s) (fault.TooMany place) s) (λ _ s'. Core (env s) → Did s.nodes (λ e' n. (n ≡ 0) × (e' ≡ env s) × (length s.functions + 1 ≤ 256)) s') (λ _ s'. X (env s) → Core (env s) → Did s.nodes (λ e' n. (n ≡ 0) × (e' ≡ env s) × (length s.functions + 1 ≤ 256)) s') refl (λ z. z)
      (λ a s' q x core. q core) (head_full s place (rule.is_last s) refl)

  pub many_has : (X : Env → Type 0) (ps : List Parameter) → Has w X (rule.note_many ps) (λ e _ e' n. (n ≡ 0) × (e' ≡ e))
  many_has X ps = by (slice_get ps rule.most_parameters)
    where
      by : (o : Option Parameter) → Has w X (rule.note_ninth o) (λ e _ e' n. (n ≡ 0) × (e' ≡ e))
      by None = has_pure w X (tt {0}) (λ e _ e' n. (n ≡ 0) × (e' ≡ e)) (λ e x core. (refl, refl))
      by (Some p) = λ s some. (refl, λ ends. absurd (not_empty s.faults (fault.TooMany p.place) ends.faultless))

  pub result_has : (X : Env → Type 0) (r : Option Ty) → Has w X (rule.set_result r) (λ e _ e' n. (n ≡ 0) × (e' ≡ record e { result = r }))
  result_has X r s = λ some. (
    refl,
    λ ends. (
      ends,
      λ x core. record {
        more = 0;
        nodes = sym (add-zero s.nodes);
        fits = (refl, refl);
        core = record { variables = core.variables; functions = core.functions; roles = core.roles; objects = core.objects; few = core.few; open_ = core.open_ };
      },
    ),
  )

  pub add_has : (X : Env → Type 0) (f : Function) → Has w X (rule.add_function f) (λ e _ e' n. (n ≡ 0) × (e' ≡ record e { functions = e.functions ++ f ∷ [] }) × ((i : ℕ) (v : Variable) → slice_get e.variables i ≡ Some v → slice_get w.program.variables i ≡ Some v))
  add_has X f s = λ some. (
    refl,
    λ ends. (
      ends,
      λ x core. record {
        more = 0;
        nodes = sym (add-zero s.nodes);
        fits = (refl, refl, ends.variables);
        core = record { variables = core.variables; functions = core.functions; roles = core.roles; objects = core.objects; few = core.few; open_ = core.open_ };
      },
    ),
  )

  -- ---- what stays of the file

  pub filed_named : (name : List ℕ) (tys : List Ty) (result : Option Ty) (e e' : Env) (m n : ℕ) → File w e m → Named w name tys result e e' n → File w e' m
  filed_named name tys result e e' m n f h = record {
    one = h.one ∙ f.one;
    globals = λ other x ty size c i. let v = f.globals other x ty size c (h.old other x ty size c i) in (v.0, ap (λ (z : List Variable). slice_get z x) h.variables ∙ v.1, v.2);
    fits = λ whole. ap (sound.functions_fit w.program) h.functions ∙ f.fits whole;
    calls = ap (functions_below w.heights 0) h.functions ∙ f.calls;
    scoped_ = ap (functions_scoped (globals_from 0 w.program.variables)) h.functions ∙ f.scoped_;
    numbers = subst (λ (z : List Function). Between 0 (introduced z) (length e'.variables)) (sym h.functions) (subst (λ (z : List Variable). Between 0 (introduced e.functions) (length z)) (sym h.variables) f.numbers);
    nodes = ap (functions_nodes w.program) h.functions ∙ f.nodes;
    few = subst (λ (z : List Function). length z ≤ 256) (sym h.functions) f.few;
    signed = λ k fn i. let q = f.signed k fn (ap (λ (z : List Function). slice_get z k) (sym h.functions) ∙ i) in let g = h.kept q.number q.signature q.is in
        record { number = q.number; signature = g.0; named = h.file fn.name (meaning.Function q.number) q.named; is = g.1; params = subst (λ t. AreOf w.program fn.params t) g.2.params q.params; result = q.result ∙ g.2.result };
  }

  -- ---- prototypes

  pub prototype_filed : (result : Option Ty) (name : Judged) (ps : List Parameter) → IsFiled w [] (rule.prototype result name ps)
  prototype_filed result name ps m =
      has_then w (λ e. File w e m) (rule.name_function false (types_of ps) result name >> rule.note_many ps) (λ _. statement.scoped (rule.name_parameters ps)) (λ e _ e' n. (n ≡ 0) × File w e' m × (e'.functions ≡ e.functions)) (λ e _ e' n. Files w [] m e e' n)
      (has_then w (λ e. File w e m) (rule.name_function false (types_of ps) result name) (λ _. rule.note_many ps) (λ e _ e' n. Named w name.text (types_of ps) result e e' n) (λ e _ e' n. (n ≡ 0) × File w e' m × (e'.functions ≡ e.functions))
      (function_named w (λ e. File w e m) false (types_of ps) result name (λ e q. q.one))
      (λ e u n. has_if w (λ e'. File w e m × Named w name.text (types_of ps) result e e' n) (λ e'. File w e m × Named w name.text (types_of ps) result e e' n) (rule.note_many ps) (λ e' _ e2 k. (k ≡ 0) × (e2 ≡ e')) (λ e' _ e2 k. (n + k ≡ 0) × File w e2 m × (e2.functions ≡ e.functions)) (λ e' q. q)
      (λ e' a e2 k q core core' g. (sums n k q.1.none g.0, subst (λ z. File w z m) (sym g.1) (filed_named name.text (types_of ps) result e e' m n q.0 q.1), ap (λ (z : Env). z.functions) g.1 ∙ q.1.functions))
      (many_has (λ e'. File w e m × Named w name.text (types_of ps) result e e' n) ps)))
      (λ e u n. has_if w (λ e'. File w e m × ((n ≡ 0) × File w e' m × (e'.functions ≡ e.functions))) (λ e'. File w e m × ((n ≡ 0) × File w e' m × (e'.functions ≡ e.functions))) (statement.scoped (rule.name_parameters ps)) (λ e' _ e2 k. (k ≡ 0) × (e2 ≡ e')) (λ e' _ e2 k. Files w [] m e e2 (n + k)) (λ e' q. q)
      (λ e' a e2 k q core core' g. record { file = subst (λ z. File w e2 z) (nothing_more m n k q.1.0 g.0) (subst (λ z. File w z m) (sym g.1) q.1.1); names_ = ap names_in (ap (λ (z : Env). z.functions) g.1 ∙ q.1.2) ∙ sym (append-nil (names_in e.functions)) })
      (unseen_has w (λ e'. File w e m × ((n ≡ 0) × File w e' m × (e'.functions ≡ e.functions))) ps))
    where
      sums : (n k : ℕ) → n ≡ 0 → k ≡ 0 → n + k ≡ 0
      sums n k h f = omega (arith, h, f)

      nothing_more : (m n k : ℕ) → n ≡ 0 → k ≡ 0 → m ≡ m + (n + k)
      nothing_more m n k h f = omega (arith, h, f)
