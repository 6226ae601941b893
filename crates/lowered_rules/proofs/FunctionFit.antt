-- What the lowering of a reached function takes for granted holds, so its items fit.
use Rattle.std.proofs.Common.{◌≡◌, ◌≢◌, ℕ, suc, ◌+◌, ◌<◌, ◌≤◌, ◌^◌, Bool, true, false, Option, Some, None, List, [], ◌∷◌, ◌++◌, inl, inr, refl, sym, ap, subst, ◌∙◌, arith}
use Rattle.std.specs.Prelude.{⊤, ◌⊎◌, ◌==◌, not, is_none, Contains, slice_get, slice_index_or, nat_le}
use Rattle.std.proofs.lemmas.Bool.{and_parts, eq-eqb, false≢true}
use Rattle.std.proofs.lemmas.List.Elements.{Contains-append_cases, Contains-append_left, Contains-append_right}
use Rattle.c_values.specs.declared.ops.Ty.{Ty}
use Rattle.c_tree.specs.declared.tree.Variable.{Variable}
use Rattle.c_tree.specs.declared.tree.Function.{Function}
use Rattle.c_tree.specs.declared.tree.Program.{Program}
use Rattle.sound_programs.specs.Scoped.{IsScoped, globals_from, global_or, holds, in_body, locals}
use Rattle.sound_programs.specs.Sound.{is_parameter, length_fits, parameters_fit}
use Rattle.sound_programs.specs.SoundPrograms.{IsSound}
use Rattle.flow_graph.specs.Rules.{Returns}
use Rattle.lowered_graphs.specs.Making.{Counts}
use Rattle.lowered_graphs.specs.Exprs.{home, place_of, result_home, setting_of}
use Rattle.lowered_graphs.specs.Stmts.{lowered_stmt}
use Rattle.lowered_graphs.specs.GraphOf.{homes_of, made_function, no_homes, reached, temporaries, within_of}
use Rattle.lowered_rules.proofs.EachLemmas.{Each, each_contains, each_from}
use Rattle.lowered_rules.proofs.BodyFit.{body_good, body_where}
use Rattle.lowered_rules.proofs.BodyTemps.{body_temps, locals_anywhere}
use Rattle.lowered_rules.proofs.FitLemmas.{Fits, Ground}
use Rattle.lowered_rules.proofs.FrameLemmas.{Callee, all_rising, callees_known, judged, never_main}
use Rattle.lowered_rules.proofs.HomesOf.{global_at, result_at, variables_at}
use Rattle.lowered_rules.proofs.Introduced.{introduced_at, introduced_by, parameter_apart}
use Rattle.lowered_rules.proofs.ObjectRules.{variable_fits}
use Rattle.lowered_rules.proofs.Rising.{holds_contains, rising_distinct, rising_right}
use Rattle.lowered_rules.proofs.StmtGiven.{Distinct, Given, facts_of}
use Rattle.lowered_rules.proofs.StmtTold.{jumps_stay}
use Rattle.lowered_rules.proofs.ThingLemmas.{Named, Result, Temporary, Thing}
use Rattle.lowered_rules.proofs.ThingsOf.{things, variables_of}

-- ---- what an object is

module _ (p : Program) where
  -- an object of a thing of which something holds
  abbrev pub IsThing : (Thing → Type 0) → ℕ → Type 0
  IsThing P o = (t : Thing) × (slice_get (things p) o ≡ Some t) × P t

  abbrev pub OfLength : Option ℕ → ℕ → Type 0
  OfLength length x = (v : Variable) × (slice_get p.variables x ≡ Some v) × (v.length ≡ length)

  abbrev pub ScalarThing : Thing → Type 0
  ScalarThing (Named x) = OfLength None x
  ScalarThing (Result m) = ⊤
  ScalarThing (Temporary m) = ⊤

  abbrev pub ArrayThing : ℕ → Thing → Type 0
  ArrayThing k (Named x) = OfLength (Some k) x
  ArrayThing k (Result m) = ⊥
  ArrayThing k (Temporary m) = ⊥

  abbrev pub IsGlobal : ℕ → Type 0
  IsGlobal x = (v : Variable) × (slice_get p.variables x ≡ Some v) × (v.global ≡ true)

  abbrev pub IsParameter : ℕ → Type 0
  IsParameter x = (m : ℕ) × (g : Function) × (slice_get p.functions m ≡ Some g) × Contains g.params x

  -- a variable that may be named in a function
  abbrev pub Known : ℕ → Function → ℕ → Type 0
  Known n f x = IsGlobal x ⊎ Contains (variables_of p n f) x

  -- what is a function's alone
  abbrev pub OwnThing : ℕ → Function → Thing → Type 0
  OwnThing n f (Named x) = Contains (locals f.body) x
  OwnThing n f (Result m) = ⊥
  OwnThing n f (Temporary m) = m ≡ n

  -- what a function may write
  abbrev pub MayThing : ℕ → Function → Thing → Type 0
  MayThing n f (Named x) = Known n f x ⊎ IsParameter x
  MayThing n f (Result m) = m ≡ n
  MayThing n f (Temporary m) = m ≡ n

  -- the temporaries of a function
  abbrev pub AreTemporaries : (n base top : ℕ) → Type 0
  AreTemporaries n base top = (t : ℕ) → base ≤ t → t < top → slice_get (things p) t ≡ Some (Temporary n)

  apart_things : (a b : ℕ) (t u : Thing) → slice_get (things p) a ≡ Some t → slice_get (things p) b ≡ Some u → t ≢ u → a ≢ b
  apart_things a b t u e d ne same = let is : t ≡ u = cc in ne is

  array_few : IsSound p → (k : ℕ) (t : Thing) → ArrayThing k t → (1 ≤ k) × (k ≤ 1024)
  array_few sound k (Named x) a =
      let fits : length_fits (Some k) ≡ true = subst (λ l. length_fits l ≡ true) a.2 (variable_fits p.variables x a.0 sound.variables a.1).0 in
      let q = and_parts (nat_le 1 k) (nat_le k 1024) fits in
      (grind (arith, q.0), grind (arith, q.1))
  array_few sound k (Result m) a = absurd a
  array_few sound k (Temporary m) a = absurd a

  pub array_small : IsSound p → (o k : ℕ) → IsThing (ArrayThing k) o → (1 ≤ k) × (k ≤ 1024)
  array_small sound o k a = array_few sound k a.0 a.2

  one_of : (k : ℕ) (t : Thing) → ScalarThing t → ArrayThing k t → ⊥
  one_of k (Named x) s a =
      let one : Some s.0 ≡ Some a.0 = sym s.1 ∙ a.1 in
      let variable : s.0 ≡ a.0 = cc in
      let none : None ≡ Some k = sym s.2 ∙ (ap (λ (v : Variable). v.length) variable ∙ a.2) in
      absurd (cc)
  one_of k (Result m) s a = a
  one_of k (Temporary m) s a = a

  -- a scalar is no array
  pub one_thing : (o k : ℕ) → IsThing ScalarThing o → IsThing (ArrayThing k) o → ⊥
  one_thing o k s a =
      let one : Some s.0 ≡ Some a.0 = sym s.1 ∙ a.1 in
      let same : s.0 ≡ a.0 = cc in
      one_of k a.0 (subst ScalarThing same s.2) a.2

-- ---- the variables of the file

record GlobalFrom (k : ℕ) (vs : List Variable) (x : ℕ) : Type 0 where
  pub at : ℕ
  pub variable : Variable
  pub number : k + at ≡ x
  pub there : slice_get vs at ≡ Some variable
  pub global : variable.global ≡ true

global_further : (k : ℕ) (v : Variable) (vs : List Variable) (x : ℕ) → GlobalFrom (k + 1) vs x → GlobalFrom k (v ∷ vs) x
global_further k v vs x r = record { at = suc r.at; variable = r.variable; number = omega (arith, r.number); there = r.there; global = r.global }

global_first : (b : Bool) (k : ℕ) (v : Variable) (vs : List Variable) (x : ℕ) → v.global ≡ b → (Contains (globals_from (k + 1) vs) x → GlobalFrom (k + 1) vs x) → Contains (global_or b k (globals_from (k + 1) vs)) x
    → GlobalFrom k (v ∷ vs) x
global_first false k v vs x g rest c = global_further k v vs x (rest c)
global_first true k v vs x g rest c = elim (Contains-append_cases (k ∷ []) (globals_from (k + 1) vs) x c) [
  | inl here ↦ let only = each_contains (λ z. k ≡ z) (k ∷ []) x (refl, tt) here in record { at = 0; variable = v; number = omega (arith, only); there = refl; global = g }
  | inr more ↦ global_further k v vs x (rest more)
]

global_from : (k : ℕ) (vs : List Variable) (x : ℕ) → Contains (globals_from k vs) x → GlobalFrom k vs x
global_from k [] x c = absurd (omega (arith, c.1))
global_from k (v ∷ vs) x c = global_first v.global k v vs x refl (λ d. global_from (k + 1) vs x d) c

pub globals_known : (p : Program) (x : ℕ) → Contains (globals_from 0 p.variables) x → IsGlobal p x
globals_known p x c = let r = global_from 0 p.variables x c in let same : r.at ≡ x = omega (arith, r.number) in (r.variable, subst (λ k. slice_get p.variables k ≡ Some r.variable) same r.there, r.global)

-- ---- a reached function

module _ (p : Program) (sound : IsSound p) (in_scope : IsScoped p) (n : ℕ) (f : Function) (here : slice_get p.functions n ≡ Some f) (is_reached : slice_index_or (reached p) n false ≡ true) where
  abbrev MayCall : ℕ → Type 0
  MayCall m = Callee p sound in_scope n m

  abbrev InReach : ℕ → Type 0
  InReach x = Known p n f x

  abbrev Local : ℕ → Type 0
  Local x = Contains (locals f.body) x

  abbrev pub Calls : ℕ → Type 0
  Calls k = (m : ℕ) × MayCall m × (k ≡ place_of (setting_of p (homes_of p)) m)

  abbrev home_of : ℕ → ℕ
  home_of x = home (setting_of p (homes_of p)) x

  variables_are : variables_of p n f ≡ introduced_by f
  variables_are = ap (λ xs. f.params ++ xs) (locals_anywhere p no_homes n f)

  local_there : (x : ℕ) → Local x → Contains (variables_of p n f) x
  local_there x c = subst (λ xs. Contains xs x) (sym variables_are) (Contains-append_right f.params (locals f.body) x c)

  -- ---- homes

  -- the home of a variable that may be named is its own object
  pub home_at : (x : ℕ) → InReach x → slice_get (things p) (home_of x) ≡ Some (Named x)
  home_at x (inl g) = global_at p sound x g.0 g.1 g.2
  home_at x (inr c) = each_contains (λ y. slice_get (things p) (home_of y) ≡ Some (Named y)) (variables_of p n f) x (variables_at p sound n f here is_reached) c

  pub single : (x : ℕ) (v : Variable) → InReach x → slice_get p.variables x ≡ Some v → v.length ≡ None → IsThing p (ScalarThing p) (home_of x)
  single x v k e l = (Named x, home_at x k, (v, e, l))

  pub several : (x k : ℕ) (v : Variable) → InReach x → slice_get p.variables x ≡ Some v → v.length ≡ Some k → IsThing p (ArrayThing p k) (home_of x)
  several x k v is e l = (Named x, home_at x is, (v, e, l))

  pub known_may : (x : ℕ) → InReach x → IsThing p (MayThing p n f) (home_of x)
  known_may x k = (Named x, home_at x k, inl k)

  pub local_known : (x : ℕ) → Local x → InReach x
  local_known x c = inr (local_there x c)

  pub local_own : (x : ℕ) → Local x → IsThing p (OwnThing p n f) (home_of x)
  local_own x c = (Named x, home_at x (local_known x c), c)

  names_differ : (x y : ℕ) → x ≢ y → Named x ≢ Named y
  names_differ x y ne e = let same : x ≡ y = cc in ne same

  pub homes_apart : (x y : ℕ) → InReach x → InReach y → x ≢ y → home_of x ≢ home_of y
  homes_apart x y k l ne = apart_things p (home_of x) (home_of y) (Named x) (Named y) (home_at x k) (home_at y l) (names_differ x y ne)

  -- ---- temporaries

  module _ (base top : ℕ) (temporaries_are : AreTemporaries p n base top) where
    pub temporary : (t : ℕ) → base ≤ t → t < top → IsThing p (ScalarThing p) t × IsThing p (MayThing p n f) t × IsThing p (OwnThing p n f) t
    temporary t lo hi = let e = temporaries_are t lo hi in ((Temporary n, e, tt), (Temporary n, e, refl), (Temporary n, e, refl))

    pub apart_temporary : (t y : ℕ) → Local y → base ≤ t → t < top → t ≢ home_of y
    apart_temporary t y l lo hi = apart_things p t (home_of y) (Temporary n) (Named y) (temporaries_are t lo hi) (home_at y (local_known y l)) (λ e. absurd (cc))

    pub array_temporary : (t o k : ℕ) → base ≤ t → t < top → IsThing p (ArrayThing p k) o → o ≢ t
    array_temporary t o k lo hi a same =
        one_thing p o k (Temporary n, subst (λ z. slice_get (things p) z ≡ Some (Temporary n)) (sym same) (temporaries_are t lo hi), tt) a

  pub array_fits : (o k : ℕ) → IsThing p (ArrayThing p k) o → k < 2 ^ 16
  array_fits o k a = let q = (array_small p sound o k a).1 in omega (arith, q)

  -- ---- callees

  -- the home of a parameter of a function that is called
  parameter_at : (m : ℕ) (g : Function) (x : ℕ) → MayCall m → slice_get p.functions m ≡ Some g → Contains g.params x → slice_get (things p) (home_of x) ≡ Some (Named x)
  parameter_at m g x c e is =
      each_contains (λ y. slice_get (things p) (home_of y) ≡ Some (Named y)) (variables_of p m g) x (variables_at p sound m g e c.is_reached)
      (Contains-append_left g.params (lowered_stmt (within_of p no_homes m) g.body).locals x is)

  none_of : (l : Option ℕ) → is_none l ≡ true → l ≡ None
  none_of None h = refl
  none_of (Some k) h = absurd (false≢true h)

  parameter_scalar : (xs : List ℕ) → parameters_fit p xs ≡ true → Each (OfLength p None) xs
  parameter_scalar [] h = tt
  parameter_scalar (x ∷ xs) h =
      let q = and_parts (is_parameter (slice_get p.variables x)) (parameters_fit p xs) h in (by_variable (slice_get p.variables x) refl q.0, parameter_scalar xs q.1)
    where
      by_variable : (v : Option Variable) → slice_get p.variables x ≡ v → is_parameter v ≡ true → OfLength p None x
      by_variable None e is = absurd (false≢true is)
      by_variable (Some v) e is = (v, e, none_of v.length (and_parts (is_none v.length) (not v.global) is).0)

  pub parameter : (m : ℕ) (g : Function) (x : ℕ) → MayCall m → slice_get p.functions m ≡ Some g → Contains g.params x → IsThing p (ScalarThing p) (home_of x) × IsThing p (MayThing p n f) (home_of x)
  parameter m g x c e is =
      let at = parameter_at m g x c e is in
      ((Named x, at, each_contains (OfLength p None) g.params x (parameter_scalar g.params (judged p sound in_scope m g e).params) is), (Named x, at, inr (m, g, e, is)))

  pub apart_parameter : (m : ℕ) (g : Function) (x y : ℕ) → Local y → MayCall m → slice_get p.functions m ≡ Some g → Contains g.params x → home_of x ≢ home_of y
  apart_parameter m g x y l c e is =
      apart_things p (home_of x) (home_of y) (Named x) (Named y) (parameter_at m g x c e is) (home_at y (local_known y l))
      (names_differ x y (parameter_apart p.functions m n g f x y (all_rising p sound in_scope) e here is l))

  pub callee_result : (m : ℕ) (g : Function) (ty : Ty) → MayCall m → slice_get p.functions m ≡ Some g → g.result ≡ Some ty → IsThing p (ScalarThing p) (result_home (setting_of p (homes_of p)) m)
  callee_result m g ty c e r = (Result m, result_at p sound m g ty e c.is_reached (never_main p sound in_scope n m f here is_reached c) r, tt)

  -- ---- the function's own result

  not_main : (n == p.main) ≡ false → n ≢ p.main
  not_main h e = let is = eq-eqb n p.main e in let bad : false ≡ true = sym h ∙ is in false≢true bad

  own_at : (ty : Ty) → (n == p.main) ≡ false → f.result ≡ Some ty → slice_get (things p) (result_home (setting_of p (homes_of p)) n) ≡ Some (Result n)
  own_at ty m r = result_at p sound n f ty here is_reached (not_main m) r

  pub own_result : (ty : Ty) → (n == p.main) ≡ false → f.result ≡ Some ty
      → IsThing p (ScalarThing p) (result_home (setting_of p (homes_of p)) n) × IsThing p (MayThing p n f) (result_home (setting_of p (homes_of p)) n)
  own_result ty m r = let at = own_at ty m r in ((Result n, at, tt), (Result n, at, refl))

  pub apart_result : (ty : Ty) (y : ℕ) → Local y → (n == p.main) ≡ false → f.result ≡ Some ty → result_home (setting_of p (homes_of p)) n ≢ home_of y
  apart_result ty y l m r = apart_things p (result_home (setting_of p (homes_of p)) n) (home_of y) (Result n) (Named y) (own_at ty m r) (home_at y (local_known y l)) (λ e. absurd (cc))

  -- ---- all of it

  abbrev pub ground : (base top : ℕ) → AreTemporaries p n base top → Ground
  ground base top are = record {
    setting = setting_of p (homes_of p);
    function = n;
    is_main = n == p.main;
    result = f.result;
    base = base;
    top = top;
    scalar = IsThing p (ScalarThing p);
    array = λ o k. IsThing p (ArrayThing p k) o;
    may = IsThing p (MayThing p n f);
    own = IsThing p (OwnThing p n f);
    calls = Calls;
    known = InReach;
    local = Local;
    callee = MayCall;
    temporary = temporary base top are;
    single = single;
    several = λ x k v is e l. several x k v is e l;
    known_may = known_may;
    local_own = local_own;
    local_known = local_known;
    apart = λ x y l k ne. homes_apart x y k (local_known y l) ne;
    apart_temporary = apart_temporary base top are;
    array_temporary = array_temporary base top are;
    small = array_fits;
    callee_calls = λ m c. (m, c, refl);
    parameter = parameter;
    apart_parameter = apart_parameter;
    callee_result = callee_result;
    own_result = own_result;
    apart_result = apart_result;
  }

  -- what is in scope at the beginning of the body may be named
  pub scope_known : (x : ℕ) → holds x (f.params ++ globals_from 0 p.variables) ≡ true → InReach x
  scope_known x h = elim (Contains-append_cases f.params (globals_from 0 p.variables) x (holds_contains x (f.params ++ globals_from 0 p.variables) h)) [
    | inl is ↦ inr (Contains-append_left f.params (lowered_stmt (within_of p no_homes n) f.body).locals x is)
    | inr is ↦ inl (globals_known p x is)
  ]

  lowered_local : (xs : List ℕ) → xs ≡ locals f.body → Each Local xs
  lowered_local xs e = each_from Local xs (λ x c. subst (λ ys. Contains ys x) e c)

  locals_differ : (xs : List ℕ) → xs ≡ locals f.body → Distinct xs
  locals_differ xs e = subst Distinct (sym e) (rising_distinct (locals f.body) (rising_right f.params (locals f.body) (introduced_at p.functions n f (all_rising p sound in_scope) here)))

  module _ (base top : ℕ) (are : AreTemporaries p n base top) where
    abbrev G : Ground
    G = ground base top are

    pub given : Given G None (body_where G) (facts_of (lowered_stmt (within_of p (homes_of p) n) f.body))
    given =
        let j = judged p sound in_scope n f here in
        let jumps = jumps_stay (within_of p (homes_of p) n) f.body in_body (f.params ++ globals_from 0 p.variables) j.scoped in
        let same = locals_anywhere p (homes_of p) n f in
        record {
          spared = tt;
          main = refl;
          callees = callees_known p sound in_scope (homes_of p) n f here is_reached;
          locals = lowered_local (lowered_stmt (within_of p (homes_of p) n) f.body).locals same;
          distinct = locals_differ (lowered_stmt (within_of p (homes_of p) n) f.body).locals same;
          assigned = each_from (λ x. ⊤) (lowered_stmt (within_of p (homes_of p) n) f.body).assigned (λ x c. tt);
          other = each_from (λ x. ⊤) (lowered_stmt (within_of p (homes_of p) n) f.body).locals (λ x c. tt);
          breaks = jumps.breaks;
          continues = jumps.continues;
          returns = λ e. refl;
        }

  -- the items of a reached function fit, wherever its temporaries stand
  pub function_fits : (op base : ℕ) (are : AreTemporaries p n base (base + temporaries p n f))
      → Fits (ground base (base + temporaries p n f) are) None (body_where (ground base (base + temporaries p n f) are)) Returns (made_function p (homes_of p) n op base f).items
  function_fits op base are =
      let j = judged p sound in_scope n f here in
      let temps = body_temps p (homes_of p) n op base f in
      let start : Counts = record { op = op; temp = base } in
      body_good (ground base (base + temporaries p n f) are) f refl (given base (base + temporaries p n f) are) (f.params ++ globals_from 0 p.variables) scope_known j.typed j.scoped start
      (omega arith) (omega (arith, temps))
