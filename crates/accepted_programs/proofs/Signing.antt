-- What the rules of the names of functions make is good.
use Rattle.std.proofs.Common.{◌≡◌, refl, sym, ap, subst, ◌∙◌, ℕ, zero, suc, ◌+◌, ◌≤◌, add-zero, append-nil, append_assoc, Bool, true, false, Option, Some, None, List, [], ◌∷◌, ◌++◌, inl, inr, arith}
use Rattle.std.specs.Prelude.{slice_get, slice_set, length, is_some, not, ◌&&◌, if◌then◌else◌}
use Rattle.std.specs.Str.{bytes_eq}
use Rattle.std.specs.Option.{option_or}
use Rattle.std.proofs.lemmas.Slice.Eq.{bytes_eq-Decides}
use Rattle.base_io.specs.declared.place.Place.{Place}
use Rattle.c_values.specs.declared.ops.Ty.{Ty}
use Rattle.c_tree.specs.Nodes.{same_type}
use Rattle.c_typing.specs.declared.meaning.Meaning.{Meaning}
use Rattle.c_typing.specs.declared.meaning.Meaning.TheVariants as meaning
use Rattle.c_typing.specs.declared.state.State.{State}
use Rattle.c_typing.specs.declared.state.Signature.{Signature}
use Rattle.c_typing.specs.declared.state.Role.TheVariants as role
use Rattle.c_typing.specs.declared.value.Parameter.{Parameter}
use Rattle.c_typing.specs.declared.type_fault.TypeFault.{TypeFault}
use Rattle.c_typing.specs.declared.type_fault.TypeFault.TheVariants as fault
use Rattle.c_typing.specs.Parts.{Gives, go_on, ◌>>◌, pure, skip, either, note_if}
use Rattle.c_typing.specs.Scopes.{Scope, find, find_in, find_here, declared, declared_in, closed}
use Rattle.c_typing.specs.Judged.{Judged}
use Rattle.c_typing.specs.Functions as rule
use Rattle.c_typing.specs.Declarations.{add_name, declare_name}
use Rattle.c_typing.specs.Texts.{is_empty}
use Rattle.c_typing.specs.Statements.{scoped, close_scope}
use Rattle.accepted_programs.proofs.Walk.{World, Env, env, After, Saw, SameTypes, file_of, not_empty, after_more}
use Rattle.accepted_programs.proofs.Types.{same_is}
use Rattle.accepted_programs.proofs.Values.{RoleFits}
use Rattle.accepted_programs.proofs.Doing.{Core, Did, Has, has_if, has_then, has_looked}
use Rattle.accepted_programs.proofs.Objects.{get_before, get_last, with_name, has_name, file_declared, find_declared}

-- ---- signatures that are set

-- a function that is defined after it was declared
abbrev pub now_defined : Signature → Signature
now_defined old = record old { role = role.Defined }

set_back : (gs : List Signature) (f : ℕ) (old : Signature) → slice_get gs f ≡ Some old → (k : ℕ) (g : Signature) → slice_get (slice_set gs f (now_defined old)) k ≡ Some g → (h : Signature) × (slice_get gs k ≡ Some h) × SameTypes g h
set_back [] f old is k g h = absurd (none old is)
  where
    none : (old : Signature) → ◌≡◌ {A = Option Signature} None (Some old) → ⊥
    none old h = cc
set_back (x ∷ gs) zero old is zero g h = (x, refl, same x old g (some x old is) (some (now_defined old) g h))
  where
    some : (a b : Signature) → Some a ≡ Some b → a ≡ b
    some a b h = cc

    same : (x old g : Signature) → x ≡ old → now_defined old ≡ g → SameTypes g x
    same x old g h k = record { params = sym (ap (λ (z : Signature). z.params) k) ∙ sym (ap (λ (z : Signature). z.params) h); result = sym (ap (λ (z : Signature). z.result) k) ∙ sym (ap (λ (z : Signature). z.result) h) }
set_back (x ∷ gs) zero old is (suc k) g h = (g, h, record { params = refl; result = refl })
set_back (x ∷ gs) (suc f) old is zero g h = (x, refl, record { params = ap (λ (z : Signature). z.params) (some g x h); result = ap (λ (z : Signature). z.result) (some g x h) })
  where
    some : (g x : Signature) → Some x ≡ Some g → g ≡ x
    some g x h = cc
set_back (x ∷ gs) (suc f) old is (suc k) g h = set_back gs f old is k g h

set_there : (gs : List Signature) (f : ℕ) (old : Signature) → slice_get gs f ≡ Some old → (k : ℕ) (g : Signature) → slice_get gs k ≡ Some g → (h : Signature) × (slice_get (slice_set gs f (now_defined old)) k ≡ Some h) × SameTypes g h
set_there [] f old is k g h = absurd (none old is)
  where
    none : (old : Signature) → ◌≡◌ {A = Option Signature} None (Some old) → ⊥
    none old h = cc
set_there (x ∷ gs) zero old is zero g h = (now_defined old, refl, same x old g (some x old is) (some x g h))
  where
    some : (a b : Signature) → Some a ≡ Some b → a ≡ b
    some a b h = cc

    same : (x old g : Signature) → x ≡ old → x ≡ g → SameTypes g (now_defined old)
    same x old g h k = record { params = sym (ap (λ (z : Signature). z.params) k) ∙ ap (λ (z : Signature). z.params) h; result = sym (ap (λ (z : Signature). z.result) k) ∙ ap (λ (z : Signature). z.result) h }
set_there (x ∷ gs) zero old is (suc k) g h = (g, h, record { params = refl; result = refl })
set_there (x ∷ gs) (suc f) old is zero g h = (x, refl, record { params = ap (λ (z : Signature). z.params) (some g x h); result = ap (λ (z : Signature). z.result) (some g x h) })
  where
    some : (g x : Signature) → Some x ≡ Some g → g ≡ x
    some g x h = cc
set_there (x ∷ gs) (suc f) old is (suc k) g h = set_there gs f old is k g h

set_roles : (gs : List Signature) (f : ℕ) (old : Signature) → slice_get gs f ≡ Some old → ((k : ℕ) (g : Signature) → slice_get gs k ≡ Some g → RoleFits g.role g.params) → (k : ℕ) (g : Signature) → slice_get (slice_set gs f (now_defined old)) k ≡ Some g → RoleFits g.role g.params
set_roles [] f old is fits k g h = fits k g h
set_roles (x ∷ gs) zero old is fits zero g h = subst (λ (z : Signature). RoleFits z.role z.params) (some (now_defined old) g h) tt
  where
    some : (a b : Signature) → Some a ≡ Some b → a ≡ b
    some a b h = cc
set_roles (x ∷ gs) zero old is fits (suc k) g h = fits (suc k) g h
set_roles (x ∷ gs) (suc f) old is fits zero g h = fits zero g h
set_roles (x ∷ gs) (suc f) old is fits (suc k) g h = set_roles gs f old is (λ k g h. fits (suc k) g h) k g h

-- ---- what a declaration of a function leaves

-- the name has a signature of these types, and others stay
pub record Named (w : World) (name : List ℕ) (params : List Ty) (result : Option Ty) (e e' : Env) (n : ℕ) : Type 0 where
  pub none : n ≡ 0
  pub variables : e'.variables ≡ e.variables
  pub functions : e'.functions ≡ e.functions
  pub defined : e'.defined ≡ e.defined
  pub one : length e'.scopes ≡ length e.scopes
  pub file : (other : List ℕ) (m : Meaning) → find_in other (file_of e.scopes) ≡ Some m → find_in other (file_of e'.scopes) ≡ Some m
  pub old : (other : List ℕ) (x : ℕ) (ty : Ty) (size : Option ℕ) (constant : Bool) → find other e'.scopes ≡ Some (meaning.Variable x ty size constant) → find other e.scopes ≡ Some (meaning.Variable x ty size constant)
  pub kept : (k : ℕ) (g : Signature) → slice_get e.signatures k ≡ Some g → (h : Signature) × (slice_get e'.signatures k ≡ Some h) × SameTypes g h
  pub number : ℕ
  pub signature : Signature
  pub there : find_in name (file_of e'.scopes) ≡ Some (meaning.Function number)
  pub is : slice_get e'.signatures number ≡ Some signature
  pub params_ : signature.params ≡ params
  pub result_ : signature.result ≡ result

same_params : (a b : List Ty) → rule.same_types a b ≡ true → a ≡ b
same_params [] [] h = refl
same_params [] (y ∷ b) h = cc
same_params (x ∷ a) [] h = cc
same_params (x ∷ a) (y ∷ b) h = by (same_type x y) (same_is x y) h (λ r. same_params a b r)
  where
    by : (c : Bool) → (c ≡ true → x ≡ y) → (c && rule.same_types a b) ≡ true → (rule.same_types a b ≡ true → a ≡ b) → (x ∷ a) ≡ (y ∷ b)
    by true f h r = ap (λ z. z ∷ a) (f refl) ∙ ap (λ z. y ∷ z) (r h)
    by false f h r = cc

pub same_results : (a b : Option Ty) → rule.same_result a b ≡ true → a ≡ b
same_results None None h = refl
same_results None (Some b) h = cc
same_results (Some a) None h = cc
same_results (Some a) (Some b) h = ap Some (same_is a b h)

-- one file scope is looked through whole
file_here : (name : List ℕ) (scopes : List Scope) → length scopes ≡ 1 → find_here name scopes ≡ find_in name (file_of scopes)
file_here name [] h = absurd (omega (arith, h))
file_here name (scope ∷ []) h = refl
file_here name (scope ∷ next ∷ outer) h = absurd (omega (arith, h))

left : (a b : Bool) → (a && b) ≡ true → a ≡ true
left true b h = refl
left false b h = h

right : (a b : Bool) → (a && b) ≡ true → b ≡ true
right true b h = h
right false b h = cc

not_false : (b : Bool) → not b ≡ false → b ≡ true
not_false true h = refl
not_false false h = cc

module _ (w : World) where
  -- a function that is known already
  again : (s : State) (defines : Bool) (params : List Ty) (result : Option Ty) (place : Place) (f : ℕ) (name : List ℕ) (o : Option Signature) → slice_get s.signatures f ≡ o
      → After w s (rule.name_again defines params result place f o s)
      (λ _ s'. (find_in name (file_of s.scopes) ≡ Some (meaning.Function f)) × ((g : Signature) × (slice_get s.signatures f ≡ Some g)) → Core (env s) → Did s.nodes (λ e' n. Named w name params result (env s) e' n) s')
  again s defines params result place f name None is = λ some. (refl, λ ends. (ends, λ x core. absurd (not_both x.1.0 (slice_get s.signatures f) is x.1.1)))
    where
      not_both : (g : Signature) (o : Option Signature) → o ≡ None → o ≡ Some g → ⊥
      not_both g o h k = cc
  again s defines params result place f name (Some old) is = by (rule.may_follow defines params result old) (defines && rule.may_define old.role) refl
    where
      Q : Unit {0} → State → Type 0
      Q _ s' = (find_in name (file_of s.scopes) ≡ Some (meaning.Function f)) × ((g : Signature) × (slice_get s.signatures f ≡ Some g)) → Core (env s) → Did s.nodes (λ e' n. Named w name params result (env s) e' n) s'

      by : (b c : Bool) → rule.may_follow defines params result old ≡ b
          → After w s ((note_if (not b) (fault.Redeclared place) >> either c (rule.set_signature f (now_defined old)) skip) s) (λ _ s'. (find_in name (file_of s.scopes) ≡ Some (meaning.Function f)) × ((g : Signature) × (slice_get s.signatures f ≡ Some g)) → Core (env s) → Did s.nodes (λ e' n. Named w name params result (env s) e' n) s')
      by false true h = λ some. (refl, λ ends. absurd (not_empty s.faults (fault.Redeclared place) ends.faultless))
      by false false h = λ some. (refl, λ ends. absurd (not_empty s.faults (fault.Redeclared place) ends.faultless))
      by true false h = λ some. (
        refl,
        λ ends. (
          ends,
          λ x core. record {
            more = 0;
            core = core;
            nodes = sym (add-zero s.nodes);
            fits = record {
              none = refl;
              variables = refl;
              functions = refl;
              defined = refl;
              one = refl;
              file = λ other m k. k;
              old = λ other y ty size c k. k;
              kept = λ k g i. (g, i, record { params = refl; result = refl });
              number = f;
              signature = old;
              there = x.0;
              is = is;
              params_ = sym (same_params params old.params (left (rule.same_types params old.params) _ h));
              result_ = sym (same_results result old.result (left (rule.same_result result old.result) _ (right (rule.same_types params old.params) _ h)));
            };
          },
        ),
      )
      by true true h = λ some. (
        refl,
        λ ends. (
          record {
            faultless = ends.faultless;
            variables = ends.variables;
            calls = ends.calls;
            defined = ends.defined;
            file = ends.file;
            signatures = λ k g i. let t = set_there s.signatures f old is k g i in let known = ends.signatures k t.0 t.1 in
                record { last = known.last; is = known.is; same = record { params = t.2.params ∙ known.same.params; result = t.2.result ∙ known.same.result } };
          },
          λ x core. record {
            more = 0;
            nodes = sym (add-zero s.nodes);
            core = record {
              variables = core.variables;
              functions = λ other k i. let c = core.functions other k i in (c.0, let t = set_there s.signatures f old is k c.1.0 c.1.1 in (t.0, t.1));
              roles = set_roles s.signatures f old is core.roles;
              objects = core.objects;
              few = core.few;
              open_ = core.open_;
            };
            fits = record {
              none = refl;
              variables = refl;
              functions = refl;
              defined = refl;
              one = refl;
              file = λ other m k. k;
              old = λ other y ty size c k. k;
              kept = set_there s.signatures f old is;
              number = f;
              signature = now_defined old;
              there = x.0;
              is = (set_is s.signatures f old is);
              params_ = sym (same_params params old.params (left (rule.same_types params old.params) _ h));
              result_ = sym (same_results result old.result (left (rule.same_result result old.result) _ (right (rule.same_types params old.params) _ h)));
            };
          },
        ),
      )
        where
          set_is : (gs : List Signature) (f : ℕ) (old : Signature) → slice_get gs f ≡ Some old → slice_get (slice_set gs f (now_defined old)) f ≡ Some (now_defined old)
          set_is [] f old h = cc
          set_is (x ∷ gs) zero old h = refl
          set_is (x ∷ gs) (suc f) old h = set_is gs f old h

  -- a function that is new
  add_has : (X : Env → Type 0) (new : Signature) → RoleFits new.role new.params → Has w X (rule.add_signature new) (λ e f e' n. (n ≡ 0) × (f ≡ length e.signatures) × (e' ≡ record e { signatures = e.signatures ++ new ∷ [] }))
  add_has X new fits s = λ some. (
    refl,
    λ ends. (
      record { faultless = ends.faultless; variables = ends.variables; calls = ends.calls; signatures = λ f g h. ends.signatures f g (get_before s.signatures (new ∷ []) f g h); defined = ends.defined; file = ends.file },
      λ x core. record {
        more = 0;
        nodes = sym (add-zero s.nodes);
        fits = (refl, refl, refl);
        core = record {
          variables = core.variables;
          functions = λ name f h. let g = core.functions name f h in (g.0, (g.1.0, get_before s.signatures (new ∷ []) f g.1.0 g.1.1));
          roles = roles_snoc s.signatures new core.roles fits;
          objects = core.objects;
          few = core.few;
          open_ = core.open_;
        };
      },
    ),
  )
    where
      roles_snoc : (gs : List Signature) (new : Signature) → ((k : ℕ) (g : Signature) → slice_get gs k ≡ Some g → RoleFits g.role g.params) → RoleFits new.role new.params → (k : ℕ) (g : Signature) → slice_get (gs ++ new ∷ []) k ≡ Some g → RoleFits g.role g.params
      roles_snoc [] new h f zero g i = subst (λ (z : Signature). RoleFits z.role z.params) (some new g i) f
        where
          some : (a b : Signature) → Some a ≡ Some b → a ≡ b
          some a b h = cc
      roles_snoc [] new h f (suc k) g i = cc
      roles_snoc (x ∷ gs) new h f zero g i = h zero g i
      roles_snoc (x ∷ gs) new h f (suc k) g i = roles_snoc gs new (λ k g i. h (suc k) g i) f k g i

  roles_free : (defines : Bool) (params : List Ty) → RoleFits (rule.role_of defines) params
  roles_free true params = tt
  roles_free false params = tt

  abbrev pub new_signature : Bool → List Ty → Option Ty → Signature
  new_signature defines params result = record { params = params; result = result; role = rule.role_of defines }

  -- the name isn't there yet, and so is found behind
  found_new : (name : List ℕ) (m : Meaning) (scopes : List Scope) → length scopes ≡ 1 → find_here name scopes ≡ None → find_in name (file_of (declared name m scopes)) ≡ Some m
  found_new name m [] h k = absurd (omega (arith, h))
  found_new name m (scope ∷ []) h k = by (find_in name scope) k
    where
      last : (scope : Scope) → find_in name scope ≡ None → find_in name (scope ++ (name, m) ∷ []) ≡ Some m
      last [] h = ap (λ b. if b then Some m else None) (bytes_same name)
        where
          bytes_same : (name : List ℕ) → bytes_eq name name ≡ true
          bytes_same name = (bytes_eq-Decides name name).1 refl
      last (entry ∷ scope) h = by (bytes_eq name entry.0) h (λ r. last scope r)
        where
          by : (b : Bool) → (if b then Some entry.1 else find_in name scope) ≡ None → (find_in name scope ≡ None → find_in name (scope ++ (name, m) ∷ []) ≡ Some m) → (if b then Some entry.1 else find_in name (scope ++ (name, m) ∷ [])) ≡ Some m
          by true h r = cc
          by false h r = r h

      by : (o : Option Meaning) → find_in name scope ≡ None → find_in name (declared_in name m scope) ≡ Some m
      by o h = ap (λ z. find_in name (if is_some z then scope else scope ++ (name, m) ∷ [])) h ∙ last scope h
  found_new name m (scope ∷ next ∷ outer) h k = absurd (omega (arith, h))

  first_has : (X : Env → Type 0) (defines : Bool) (params : List Ty) (result : Option Ty) (name : List ℕ) → ((e : Env) → X e → (length e.scopes ≡ 1) × (find_here name e.scopes ≡ None))
      → Has w X (rule.name_first defines params result name) (λ e _ e' n. Named w name params result e e' n)
  first_has X defines params result name f =
      has_then w X (rule.add_signature (new_signature defines params result)) (λ k. add_name name (meaning.Function k)) (λ e k e' n. (n ≡ 0) × (k ≡ length e.signatures) × (e' ≡ record e { signatures = e.signatures ++ new_signature defines params result ∷ [] })) (λ e _ e' n. Named w name params result e e' n)
      (add_has X (new_signature defines params result) (roles_free defines params))
      (λ e k n. has_if w (λ e'. X e × ((n ≡ 0) × (k ≡ length e.signatures) × (e' ≡ record e { signatures = e.signatures ++ new_signature defines params result ∷ [] }))) (λ e'. X e × ((n ≡ 0) × (k ≡ length e.signatures) × (e' ≡ record e { signatures = e.signatures ++ new_signature defines params result ∷ [] })))
      (add_name name (meaning.Function k)) (λ e' _ e2 m. (m ≡ 0) × (e2 ≡ with_name name (meaning.Function k) e')) (λ e' _ e2 m. Named w name params result e e2 (n + m)) (λ e' q. q)
      (λ e' a e2 m q core core' g. made e k n e' e2 m (f e q.0) q.1 g)
      (has_name w (λ e'. X e × ((n ≡ 0) × (k ≡ length e.signatures) × (e' ≡ record e { signatures = e.signatures ++ new_signature defines params result ∷ [] }))) name (meaning.Function k)
      (λ e' q. (ap (λ (z : Env). length z.scopes) q.1.2 ∙ (f e q.0).0, (new_signature defines params result, ap (λ (z : Env). slice_get z.signatures k) q.1.2 ∙ (ap (slice_get (e.signatures ++ new_signature defines params result ∷ [])) q.1.1 ∙ get_last e.signatures (new_signature defines params result)))))))
    where
      same_length : (name : List ℕ) (m : Meaning) (scopes : List Scope) → length (declared name m scopes) ≡ length scopes
      same_length name m [] = refl
      same_length name m (scope ∷ outer) = refl

      not_function : (y k : ℕ) (ty : Ty) (size : Option ℕ) (c : Bool) → meaning.Variable y ty size c ≡ meaning.Function k → ⊥
      not_function y k ty size c h = cc

      made : (e : Env) (k n : ℕ) (e' e2 : Env) (m : ℕ) → (length e.scopes ≡ 1) × (find_here name e.scopes ≡ None) → (n ≡ 0) × (k ≡ length e.signatures) × (e' ≡ record e { signatures = e.signatures ++ new_signature defines params result ∷ [] })
          → (m ≡ 0) × (e2 ≡ with_name name (meaning.Function k) e') → Named w name params result e e2 (n + m)
      made e k n e' e2 m x h g =
          let new : Signature = new_signature defines params result in
          subst (λ z. Named w name params result e z (n + m)) (sym (g.1 ∙ ap (with_name name (meaning.Function k)) h.2)) (record {
            none = omega (arith, h.0, g.0);
            variables = refl;
            functions = refl;
            defined = refl;
            one = same_length name (meaning.Function k) e.scopes;
            file = λ other y i. file_declared name other (meaning.Function k) y e.scopes i;
            old = λ other y ty size c i. elim (find_declared name other (meaning.Function k) (meaning.Variable y ty size c) e.scopes i) [ inl q ↦ q | inr q ↦ absurd (not_function y k ty size c q) ];
            kept = λ j g i. (g, get_before e.signatures (new ∷ []) j g i, record { params = refl; result = refl });
            number = k;
            signature = new;
            there = found_new name (meaning.Function k) e.scopes x.0 x.1;
            is = ap (slice_get (e.signatures ++ new ∷ [])) h.1 ∙ get_last e.signatures new;
            params_ = refl;
            result_ = refl;
          })

  seen_here : (name : List ℕ) (e : Env) (m : Option Meaning) → Saw e (rule.meaning_in_file name) m → find_here name e.scopes ≡ m
  seen_here name e m saw = ap (λ (z : Env). find_here name z.scopes) (sym saw.same) ∙ saw.is

  -- a declaration of a function, which may be a definition
  pub function_named : (X : Env → Type 0) (defines : Bool) (params : List Ty) (result : Option Ty) (name : Judged) → ((e : Env) → X e → length e.scopes ≡ 1)
      → Has w X (rule.name_function defines params result name) (λ e _ e' n. Named w name.text params result e e' n)
  function_named X defines params result name one =
      has_looked w X (rule.meaning_in_file name.text) (rule.name_from defines params result name) (λ e _ e' n. Named w name.text params result e e' n) by
    where
      of_find : (o : Option Meaning) (scopes : List Scope) (m : Meaning) → length scopes ≡ 1 → find_here name.text scopes ≡ Some m → find name.text scopes ≡ Some m
      of_find o [] m h k = absurd (omega (arith, h))
      of_find o (scope ∷ []) m h k = ap (λ z. option_or z None) k
      of_find o (scope ∷ next ∷ outer) m h k = absurd (omega (arith, h))

      by : (m : Option Meaning) → Has w (λ e. X e × Saw e (rule.meaning_in_file name.text) m) (rule.name_from defines params result name m) (λ e _ e' n. Named w name.text params result e e' n)
      by None s = first_has (λ e. X e × Saw e (rule.meaning_in_file name.text) None) defines params result name.text (λ e q. (one e q.0, seen_here name.text e None q.1)) s
      by (Some (meaning.Variable x ty size constant)) s = λ some. (refl, λ ends. absurd (not_empty s.faults (fault.Redeclared name.place) ends.faultless))
      by (Some (meaning.Function f)) s =
          after_more w s s (rule.name_again defines params result name.place f (slice_get s.signatures f) s)
          (λ _ s'. (find_in name.text (file_of s.scopes) ≡ Some (meaning.Function f)) × ((g : Signature) × (slice_get s.signatures f ≡ Some g)) → Core (env s) → Did s.nodes (λ e' n. Named w name.text params result (env s) e' n) s')
          (λ _ s'. X (env s) × Saw (env s) (rule.meaning_in_file name.text) (Some (meaning.Function f)) → Core (env s) → Did s.nodes (λ e' n. Named w name.text params result (env s) e' n) s') refl (λ z. z)
          (λ _ s' q x core. let h = seen_here name.text (env s) (Some (meaning.Function f)) x.1 in let c = core.functions name.text f (of_find None s.scopes (meaning.Function f) (one (env s) x.0) h) in q (c.0, c.1) core)
          (again s defines params result name.place f name.text (slice_get s.signatures f) refl)

-- ---- the parameters of a prototype stand in a scope that ends

-- names come into the innermost scope, and faults behind those that are there
abbrev pub in_shape : State → Scope → List Scope → List TypeFault → State
in_shape s scope outer faults = record s { scopes = scope ∷ outer; faults = faults }

one_shape : (p : Parameter) (s : State) (scope : Scope) (outer : List Scope) (fs : List TypeFault)
    → (scope' : Scope) × (more : List TypeFault) × (rule.name_parameter p (in_shape s scope outer fs) ≡ Gives tt (in_shape s scope' outer (fs ++ more)))
one_shape p s scope outer fs = by (is_empty p.name)
  where
    S : State
    S = in_shape s scope outer fs

    named : (b : Bool) → (scope' : Scope) × (more : List TypeFault) × ((note_if b (fault.Redeclared p.name_place) >> add_name p.name (rule.parameter_meaning p)) (in_shape s scope outer fs) ≡ Gives tt (in_shape s scope' outer (fs ++ more)))
    named true = (declared_in p.name (rule.parameter_meaning p) scope, fault.Redeclared p.name_place ∷ [], refl)
    named false = (declared_in p.name (rule.parameter_meaning p) scope, [], ap (λ z. Gives tt (in_shape s (declared_in p.name (rule.parameter_meaning p) scope) outer z)) (sym (append-nil fs)))

    by : (b : Bool) → (scope' : Scope) × (more : List TypeFault) × (either b skip (declare_name p.name p.name_place (rule.parameter_meaning p)) (in_shape s scope outer fs) ≡ Gives tt (in_shape s scope' outer (fs ++ more)))
    by true = (scope, [], ap (λ z. Gives tt (in_shape s scope outer z)) (sym (append-nil fs)))
    by false = named (is_some (find_in p.name scope))

shape : (ps : List Parameter) (s : State) (scope : Scope) (outer : List Scope) (fs : List TypeFault)
    → (scope' : Scope) × (more : List TypeFault) × (rule.name_parameters ps (in_shape s scope outer fs) ≡ Gives tt (in_shape s scope' outer (fs ++ more)))
shape [] s scope outer fs = (scope, [], ap (λ z. Gives tt (in_shape s scope outer z)) (sym (append-nil fs)))
shape (p ∷ ps) s scope outer fs =
    let one = one_shape p s scope outer fs in
    let rest = shape ps s one.0 outer (fs ++ one.1) in
    (rest.0, one.1 ++ rest.1, ap (λ g. go_on g (λ _. rule.name_parameters ps)) one.2 ∙ (rest.2 ∙ ap (λ z. Gives tt (in_shape s rest.0 outer z)) (append_assoc fs one.1 rest.1)))

closed_cons : (scope : Scope) (ss : List Scope) → 1 ≤ length ss → closed (scope ∷ ss) ≡ ss
closed_cons scope [] h = absurd (omega (arith, h))
closed_cons scope (x ∷ ss) h = refl

nothing_before : (xs ys : List TypeFault) → xs ++ ys ≡ [] → xs ≡ []
nothing_before [] ys h = refl
nothing_before (x ∷ xs) ys h = cc

module _ (w : World) where
  pub unseen_has : (X : Env → Type 0) (ps : List Parameter) → Has w X (scoped (rule.name_parameters ps)) (λ e _ e' n. (n ≡ 0) × (e' ≡ e))
  unseen_has X ps s =
      let sh = shape ps s [] s.scopes s.faults in
      let s2 : State = record s { scopes = closed (sh.0 ∷ s.scopes); faults = s.faults ++ sh.1 } in
      subst (λ g. After w s g (λ _ s'. X (env s) → Core (env s) → Did s.nodes (λ e' n. (n ≡ 0) × (e' ≡ env s)) s')) (sym (ap (λ g. go_on g (λ a. close_scope >> pure a)) sh.2))
      (λ some. let same : closed (sh.0 ∷ s.scopes) ≡ s.scopes = closed_cons sh.0 s.scopes some in (
        ap (λ (z : List Scope). length z) same,
        λ ends. (
          record {
            faultless = nothing_before s.faults sh.1 ends.faultless;
            variables = ends.variables;
            calls = ends.calls;
            signatures = ends.signatures;
            defined = ends.defined;
            file = λ name m h. ends.file name m (ap (λ (z : List Scope). find_in name (file_of z)) same ∙ h);
          },
          λ x core. let is : env s2 ≡ env s = ap (λ z. record (env s) { scopes = z }) same in
              record { more = 0; core = subst Core (sym is) core; nodes = sym (add-zero s.nodes); fits = (refl, is) },
        ),
      ))
