-- What the rules of definitions and of a whole text make is good, where it is of their parts.
use Rattle.std.proofs.Common.{◌≡◌, refl, sym, ap, subst, ◌∙◌, ℕ, zero, suc, ◌+◌, ◌≤◌, Bool, true, false, Option, Some, List, [], ◌∷◌, ◌++◌, ◌⊎◌, inl, inr, arith}
use Rattle.std.specs.Prelude.{slice_get, length, ◌||◌, ◌==◌}
use Rattle.std.proofs.lemmas.Bool.Decides.{nat_tests}
use Rattle.c_values.specs.declared.ops.Ty.{Ty}
use Rattle.c_tree.specs.declared.tree.Variable.{Variable}
use Rattle.c_tree.specs.declared.tree.Function.{Function}
use Rattle.c_tree.specs.declared.tree.StmtKind.{out-StmtKind}
use Rattle.c_typing.specs.declared.value.Parameter.{Parameter}
use Rattle.c_typing.specs.declared.state.Signature.{Signature}
use Rattle.c_typing.specs.declared.type_fault.TypeFault.TheVariants as fault
use Rattle.c_typing.specs.Parts.{◌>>=◌, ◌>>◌, looked, note_if}
use Rattle.c_typing.specs.Scopes.{Scope, find, find_in}
use Rattle.c_typing.specs.Judged.{Judged, is_token}
use Rattle.c_typing.specs.Statements as statement
use Rattle.c_typing.specs.Functions as rule
use Rattle.sound_programs.specs.Sound as sound
use Rattle.sound_programs.specs.Calls.{functions_below, stmt_below}
use Rattle.sound_programs.specs.Counted.{functions_nodes, stmt_nodes, implied_nodes}
use Rattle.sound_programs.specs.Scoped as scoped
use Rattle.sound_programs.specs.Scoped.{holds, in_body, functions_scoped, globals_from, global_or, introduced, locals}
use Rattle.accepted_programs.proofs.Walk.{World, Env, below, file_of}
use Rattle.accepted_programs.proofs.Trees.{AreOf}
use Rattle.accepted_programs.proofs.Calling.{length_snoc}
use Rattle.accepted_programs.proofs.Doing.{Has, Stays, Closed, has_if, has_then, has_scoped, has_true, has_false}
use Rattle.accepted_programs.proofs.Declaring.{Between, between_append}
use Rattle.accepted_programs.proofs.Looping.{GoodItems}
use Rattle.accepted_programs.proofs.Filing.{File, Files, IsFiled, names_in, between_more}
use Rattle.accepted_programs.proofs.Signing.{Named, function_named}
use Rattle.accepted_programs.proofs.Functions.{GoodFunction, GoodInner, inner_inside, body_has, function_good, full_has, many_has, result_has, add_has, filed_named, prototype_filed, fit_snoc, below_snoc, scoped_snoc, introduced_snoc, nodes_snoc, names_snoc, types_of}

-- ---- the objects of the file are in scope everywhere

globals_hold : (vs : List Variable) (k i : ℕ) (v : Variable) → slice_get vs i ≡ Some v → v.global ≡ true → holds (k + i) (globals_from k vs) ≡ true
globals_hold [] k i v h g = cc
globals_hold (u ∷ vs) k zero v h g = by u.global (ap (λ (z : Variable). z.global) (some u v h) ∙ g)
  where
    some : (u v : Variable) → Some u ≡ Some v → u ≡ v
    some u v h = cc

    same : (k : ℕ) → (k + 0 == k) ≡ true
    same k = grind (arith, nat_tests)

    by : (b : Bool) → b ≡ true → holds (k + 0) (global_or b k (globals_from (k + 1) vs)) ≡ true
    by true h = ap (λ b. b || holds (k + 0) (globals_from (k + 1) vs)) (same k)
    by false h = cc
globals_hold (u ∷ vs) k (suc i) v h g = by u.global (ap (λ n. holds n (globals_from (k + 1) vs)) (sums k i) ∙ globals_hold vs (k + 1) i v h g)
  where
    sums : (k i : ℕ) → k + suc i ≡ (k + 1) + i
    sums k i = omega arith

    by : (b : Bool) → holds (k + suc i) (globals_from (k + 1) vs) ≡ true → holds (k + suc i) (global_or b k (globals_from (k + 1) vs)) ≡ true
    by true h = or_true (k + suc i == k) h
      where
        or_true : (b : Bool) → holds (k + suc i) (globals_from (k + 1) vs) ≡ true → (b || holds (k + suc i) (globals_from (k + 1) vs)) ≡ true
        or_true true h = refl
        or_true false h = h
    by false h = h

get_snoc : (fs : List Function) (f : Function) (k : ℕ) (g : Function) → slice_get (fs ++ f ∷ []) k ≡ Some g → (slice_get fs k ≡ Some g) ⊎ (g ≡ f)
get_snoc [] f zero g h = inr (some f g h)
  where
    some : (f g : Function) → Some f ≡ Some g → g ≡ f
    some f g h = cc
get_snoc [] f (suc k) g h = cc
get_snoc (x ∷ fs) f zero g h = inl h
get_snoc (x ∷ fs) f (suc k) g h = get_snoc fs f k g h

module _ (w : World) where
  filed_stays : (e e' : Env) (m : ℕ) → File w e m → Stays e e' → File w e' m
  filed_stays e e' m f s = record {
    one = ap (λ (z : List Scope). length z) s.scopes ∙ f.one;
    globals = λ other x ty size c i. let v = f.globals other x ty size c (ap (λ (z : List Scope). find other z) (sym s.scopes) ∙ i) in (v.0, s.inside.kept x v.0 v.1, v.2);
    fits = λ whole. ap (sound.functions_fit w.program) s.inside.functions ∙ f.fits whole;
    calls = ap (functions_below w.heights 0) s.inside.functions ∙ f.calls;
    scoped_ = ap (functions_scoped (globals_from 0 w.program.variables)) s.inside.functions ∙ f.scoped_;
    numbers = subst (λ (z : List Function). Between 0 (introduced z) (length e'.variables)) (sym s.inside.functions) (between_more 0 (length e.variables) (length e'.variables) (introduced e.functions) s.inside.grown f.numbers);
    nodes = ap (functions_nodes w.program) s.inside.functions ∙ f.nodes;
    few = subst (λ (z : List Function). length z ≤ 256) (sym s.inside.functions) f.few;
    signed = λ k fn i. let q = f.signed k fn (ap (λ (z : List Function). slice_get z k) (sym s.inside.functions) ∙ i) in
        record { number = q.number; signature = q.signature; named = ap (λ (z : List Scope). find_in fn.name (file_of z)) s.scopes ∙ q.named; is = ap (λ (z : List Signature). slice_get z q.number) s.inside.signatures ∙ q.is; params = q.params; result = q.result };
  }

  -- a function that is added behind its definition
  filed_added : (name : List ℕ) (tys : List Ty) (result : Option Ty) (e e1 : Env) (f : Function) (e2 : Env) (m k n : ℕ) → length e.functions + 1 ≤ 256 → File w e m → Named w name tys result e e1 k → e1.result ≡ result → GoodFunction w name tys e1 f e2 n
      → ((i : ℕ) (v : Variable) → slice_get e2.variables i ≡ Some v → slice_get w.program.variables i ≡ Some v) → Files w (name ∷ []) m e (record e2 { functions = e2.functions ++ f ∷ [] }) n
  filed_added name tys result e e1 f e2 m k n few file named same g there =
      let f1 : File w e1 m = filed_named w name tys result e e1 m k file named in
      let f2 : File w e2 m = filed_stays e1 e2 m f1 g.stays in
      let fs : e2.functions ≡ e1.functions = g.stays.inside.functions in
      let gs : scoped.Scope = globals_from 0 w.program.variables in
      record {
        file = record {
          one = f2.one;
          globals = f2.globals;
          fits = λ whole. fit_snoc w.program e2.functions f (f2.fits whole) g.params (g.fits whole);
          calls = below_snoc w 0 e2.functions f f2.calls (ap (λ z. stmt_below (below w z) f.body) (zero_before (length e2.functions) ∙ ap (λ (z : List Function). length z) fs) ∙ g.calls);
          scoped_ = scoped_snoc gs e2.functions f f2.scoped_ (g.scoped_ gs (λ other x ty size c h. let v = f1.globals other x ty size c h in
              ap (λ y. holds y gs) (sym (zero_before x)) ∙ globals_hold w.program.variables 0 x v.0 (there x v.0 (g.stays.inside.kept x v.0 v.1)) v.2));
          numbers = subst (λ z. Between 0 z (length e2.variables)) (sym (introduced_snoc e2.functions f))
              (between_append 0 (length e1.variables) (length e2.variables) (introduced e2.functions) (f.params ++ locals f.body) (subst (λ (z : List Function). Between 0 (introduced z) (length e1.variables)) (sym fs) f1.numbers) g.numbers);
          nodes = nodes_snoc w.program e2.functions f ∙ (ap (λ z. z + (stmt_nodes w.program f.body + implied_nodes (out-StmtKind f.body.kind))) f2.nodes ∙ ap (λ z. m + z) g.nodes);
          few = few_still (length (e2.functions ++ f ∷ [])) (length e2.functions) (length e.functions) (length_snoc e2.functions f) (ap (λ (z : List Function). length z) (fs ∙ named.functions)) few;
          signed = λ j fn h. elim (get_snoc e2.functions f j fn h) [
            | inl i ↦ let q = f2.signed j fn i in record { number = q.number; signature = q.signature; named = q.named; is = q.is; params = q.params; result = q.result }
            | inr i ↦ record {
              number = named.number;
              signature = named.signature;
              named = ap (λ z. find_in z (file_of e2.scopes)) (ap (λ (z : Function). z.name) i ∙ g.named) ∙ (ap (λ (z : List Scope). find_in name (file_of z)) g.stays.scopes ∙ named.there);
              is = ap (λ (z : List Signature). slice_get z named.number) g.stays.inside.signatures ∙ named.is;
              params = subst (λ (z : Function). AreOf w.program z.params named.signature.params) (sym i) (subst (λ t. AreOf w.program f.params t) (sym named.params_) g.are);
              result = ap (λ (z : Function). z.result) i ∙ (g.result ∙ (same ∙ sym named.result_));
            }
          ];
        };
        names_ = names_snoc e2.functions f ∙ (ap (λ z. z ++ f.name ∷ []) (ap names_in (fs ∙ named.functions)) ∙ ap (λ z. names_in e.functions ++ z ∷ []) g.named);
      }
    where
      zero_before : (n : ℕ) → 0 + n ≡ n
      zero_before n = omega arith

      few_still : (a b c : ℕ) → a ≡ b + 1 → b ≡ c → c + 1 ≤ 256 → a ≤ 256
      few_still a b c h k l = omega (arith, h, k, l)

  -- ---- the head of a definition

  pub record Headed (name : List ℕ) (tys : List Ty) (result : Option Ty) (e e' : Env) (n : ℕ) : Type 0 where
    pub few : length e.functions + 1 ≤ 256
    pub named : Named w name tys result e e' n

  head_has : (m : ℕ) (result : Option Ty) (name : Judged) (ps : List Parameter) → Has w (λ e. File w e m) (rule.definition_head result name ps) (λ e _ e' n. Headed name.text (types_of ps) result e e' n)
  head_has m result name ps =
      has_then w (λ e. File w e m) (looked rule.is_last (λ full. note_if full (fault.TooMany name.place)) >> rule.name_function true (types_of ps) result name) (λ _. rule.note_many ps) (λ e _ e' n. Headed name.text (types_of ps) result e e' n) (λ e _ e' n. Headed name.text (types_of ps) result e e' n)
      (has_then w (λ e. File w e m) (looked rule.is_last (λ full. note_if full (fault.TooMany name.place))) (λ _. rule.name_function true (types_of ps) result name) (λ e _ e' n. (n ≡ 0) × (e' ≡ e) × (length e.functions + 1 ≤ 256)) (λ e _ e' n. Headed name.text (types_of ps) result e e' n)
      (full_has w (λ e. File w e m) name.place)
      (λ e u n. has_if w (λ e'. File w e m × ((n ≡ 0) × (e' ≡ e) × (length e.functions + 1 ≤ 256))) (λ e'. File w e m × ((n ≡ 0) × (e' ≡ e) × (length e.functions + 1 ≤ 256))) (rule.name_function true (types_of ps) result name)
      (λ e' _ e2 k. Named w name.text (types_of ps) result e' e2 k) (λ e' _ e2 k. Headed name.text (types_of ps) result e e2 (n + k)) (λ e' q. q)
      (λ e' a e2 k q core core' g. record { few = q.1.2; named = subst (λ z. Named w name.text (types_of ps) result e e2 z) (same_count n k q.1.0) (subst (λ z. Named w name.text (types_of ps) result z e2 k) q.1.1 g) })
      (function_named w (λ e'. File w e m × ((n ≡ 0) × (e' ≡ e) × (length e.functions + 1 ≤ 256))) true (types_of ps) result name (λ e' q. ap (λ (z : Env). length z.scopes) q.1.1 ∙ q.0.one))))
      (λ e u n. has_if w (λ e'. File w e m × Headed name.text (types_of ps) result e e' n) (λ e'. File w e m × Headed name.text (types_of ps) result e e' n) (rule.note_many ps) (λ e' _ e2 k. (k ≡ 0) × (e2 ≡ e')) (λ e' _ e2 k. Headed name.text (types_of ps) result e e2 (n + k)) (λ e' q. q)
      (λ e' a e2 k q core core' g. subst (λ z. Headed name.text (types_of ps) result e e2 z) (no_more n k g.0) (subst (λ z. Headed name.text (types_of ps) result e z n) (sym g.1) q.1))
      (many_has w (λ e'. File w e m × Headed name.text (types_of ps) result e e' n) ps))
    where
      same_count : (n k : ℕ) → n ≡ 0 → k ≡ n + k
      same_count n k h = omega (arith, h)

      no_more : (n k : ℕ) → k ≡ 0 → n ≡ n + k
      no_more n k h = omega (arith, h)

  renamed : (name : List ℕ) (tys : List Ty) (result : Option Ty) (e e' : Env) (n : ℕ) → Named w name tys result e e' n → Named w name tys result e (record e' { result = result }) n
  renamed name tys result e e' n g = record { none = g.none; variables = g.variables; functions = g.functions; defined = g.defined; one = g.one; file = g.file; old = g.old; kept = g.kept; number = g.number; signature = g.signature; there = g.there; is = g.is; params_ = g.params_; result_ = g.result_ }

  -- ready for the body
  pub record Ready (name : List ℕ) (tys : List Ty) (result : Option Ty) (e e' : Env) (n : ℕ) : Type 0 where
    pub headed : Headed name tys result e e' n
    pub same : e'.result ≡ result

  ready_has : (m : ℕ) (result : Option Ty) (name : Judged) (ps : List Parameter) → Has w (λ e. File w e m) (rule.definition_head result name ps >> rule.set_result result) (λ e _ e' n. Ready name.text (types_of ps) result e e' n)
  ready_has m result name ps =
      has_then w (λ e. File w e m) (rule.definition_head result name ps) (λ _. rule.set_result result) (λ e _ e' n. Headed name.text (types_of ps) result e e' n) (λ e _ e' n. Ready name.text (types_of ps) result e e' n) (head_has m result name ps)
      (λ e u n. has_if w (λ e'. File w e m × Headed name.text (types_of ps) result e e' n) (λ e'. File w e m × Headed name.text (types_of ps) result e e' n) (rule.set_result result) (λ e' _ e2 k. (k ≡ 0) × (e2 ≡ record e' { result = result })) (λ e' _ e2 k. Ready name.text (types_of ps) result e e2 (n + k)) (λ e' q. q)
      (λ e' a e2 k q core core' g. subst (λ z. Ready name.text (types_of ps) result e e2 z) (no_more n k g.0) (subst (λ z. Ready name.text (types_of ps) result e z n) (sym g.1)
      (record { headed = record { few = q.1.few; named = renamed name.text (types_of ps) result e e' n q.1.named }; same = refl })))
      (result_has w (λ e'. File w e m × Headed name.text (types_of ps) result e e' n) result))
    where
      no_more : (n k : ℕ) → k ≡ 0 → n ≡ n + k
      no_more n k h = omega (arith, h)

  pub definition_filed : (result : Option Ty) (name block : Judged) (ps : List Parameter) → Has w (λ e. Unit {0}) block.items (GoodItems w in_body false) → IsFiled w (name.text ∷ []) (rule.definition result name ps block)
  definition_filed result name block ps is m =
      has_then w (λ e. File w e m) (rule.definition_head result name ps >> rule.set_result result) (λ _. statement.scoped (rule.parameters_and_body result name ps block) >>= rule.add_function) (λ e _ e' n. Ready name.text (types_of ps) result e e' n) (λ e _ e' n. Files w (name.text ∷ []) m e e' n)
      (ready_has m result name ps)
      (λ e u n. has_then w (λ e1. File w e m × Ready name.text (types_of ps) result e e1 n) (statement.scoped (rule.parameters_and_body result name ps block)) rule.add_function (Closed (GoodInner w name.text (types_of ps))) (λ e1 _ e' k. Files w (name.text ∷ []) m e e' (n + k))
      (has_scoped w (λ e1. File w e m × Ready name.text (types_of ps) result e e1 n) (λ e1. e1.result ≡ result) (rule.parameters_and_body result name ps block) (GoodInner w name.text (types_of ps)) (λ e1 q core. q.1.same) (λ e1 f e2 k g. inner_inside w name.text (types_of ps) e1 f e2 k g)
      (body_has w result name block ps is))
      (λ e1 f k. has_if w (λ e2. (File w e m × Ready name.text (types_of ps) result e e1 n) × Closed (GoodInner w name.text (types_of ps)) e1 f e2 k) (λ e2. (File w e m × Ready name.text (types_of ps) result e e1 n) × Closed (GoodInner w name.text (types_of ps)) e1 f e2 k) (rule.add_function f)
      (λ e2 _ e3 j. (j ≡ 0) × (e3 ≡ record e2 { functions = e2.functions ++ f ∷ [] }) × ((i : ℕ) (v : Variable) → slice_get e2.variables i ≡ Some v → slice_get w.program.variables i ≡ Some v)) (λ e2 _ e3 j. Files w (name.text ∷ []) m e e3 (n + (k + j))) (λ e2 q. q)
      (λ e2 a e3 j q core core' g. let r = q.0.1 in subst (λ z. Files w (name.text ∷ []) m e e3 z) (sums n k j r.headed.named.none g.0) (subst (λ z. Files w (name.text ∷ []) m e z k) (sym g.1)
      (filed_added name.text (types_of ps) result e e1 f e2 m n k r.headed.few q.0.0 r.headed.named r.same (function_good w name.text (types_of ps) e1 f e2 k q.1) g.2)))
      (add_has w (λ e2. (File w e m × Ready name.text (types_of ps) result e e1 n) × Closed (GoodInner w name.text (types_of ps)) e1 f e2 k) f)))
    where
      sums : (n k j : ℕ) → n ≡ 0 → j ≡ 0 → k ≡ n + (k + j)
      sums n k j h f = omega (arith, h, f)

  -- ---- by rules

  pub function_prototype : (type name bracket params close ending : Judged) → is_token ending ≡ true → IsFiled w [] (rule.function_by (type ∷ name ∷ bracket ∷ params ∷ close ∷ ending ∷ []))
  function_prototype type name bracket params close ending h m =
      has_true w (λ e. File w e m) (is_token ending) (rule.prototype (rule.result_of type) name params.params) (rule.definition (rule.result_of type) name params.params ending) (λ e _ e' n. Files w [] m e e' n) h
      (prototype_filed w (rule.result_of type) name params.params m)

  pub function_definition : (type name bracket params close ending : Judged) → is_token ending ≡ false → Has w (λ e. Unit {0}) ending.items (GoodItems w in_body false) → IsFiled w (name.text ∷ []) (rule.function_by (type ∷ name ∷ bracket ∷ params ∷ close ∷ ending ∷ []))
  function_definition type name bracket params close ending h is m =
      has_false w (λ e. File w e m) (is_token ending) (rule.prototype (rule.result_of type) name params.params) (rule.definition (rule.result_of type) name params.params ending) (λ e _ e' n. Files w (name.text ∷ []) m e e' n) h
      (definition_filed (rule.result_of type) name ending params.params is m)
