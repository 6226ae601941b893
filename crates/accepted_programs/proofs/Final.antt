-- An accepted program is sound, where what is judged of its text is filed.
use Rattle.std.proofs.Common.{◌≡◌, refl, sym, ap, subst, ◌∙◌, ℕ, zero, suc, ◌+◌, ◌<◌, ◌≤◌, ◌^◌, add-zero, Bool, true, false, Option, Some, None, List, [], ◌∷◌, arith}
use Rattle.std.specs.Prelude.{slice_get, length, Contains, IsTrue, nat_lt, codes, ◌&&◌, if◌then◌else◌}
use Rattle.std.specs.Option.{option_or}
use Rattle.std.specs.Str.{bytes_eq}
use Rattle.std.proofs.lemmas.Bool.Decides.{nat_tests}
use Rattle.c_values.specs.declared.ops.Ty.{Ty}
use Rattle.c_values.specs.declared.ops.Ty.TheVariants.{I16, U16}
use Rattle.c_tree.specs.declared.tree.Function.{Function}
use Rattle.c_tree.specs.declared.tree.Program.{Program}
use Rattle.c_parse.specs.declared.raw.Raw.{Raw}
use Rattle.c_typing.specs.declared.call_site.CallSite.{CallSite}
use Rattle.c_typing.specs.declared.meaning.Meaning.{Meaning}
use Rattle.c_typing.specs.declared.meaning.Meaning.TheVariants as meaning
use Rattle.c_typing.specs.declared.state.State.{State}
use Rattle.c_typing.specs.declared.state.Signature.{Signature}
use Rattle.c_typing.specs.declared.type_fault.TypeFault.{TypeFault}
use Rattle.c_typing.specs.declared.state.Role.TheVariants as role
use Rattle.c_typing.specs.FirstFaults.{first_of, sooner, precedes}
use Rattle.c_typing.specs.Parts.{Got, Gives}
use Rattle.c_typing.specs.Scopes.{Scope, find, find_in}
use Rattle.c_typing.specs.Texts.{is_empty}
use Rattle.c_typing.specs.Programs as rule
use Rattle.c_typing.specs.Programs.{judged, found, start, predeclared, first_signatures, state_of, IsTyped, Accepts, main_in, program}
use Rattle.sound_programs.specs.Sound as sound
use Rattle.sound_programs.specs.Calls.{is_below}
use Rattle.sound_programs.specs.SoundPrograms.{IsSound}
use Rattle.sound_programs.specs.Scoped.{IsScoped, is_named_main, ascends, introduced}
use Rattle.accepted_programs.proofs.Walk.{World, env, Ends, After, below, file_of}
use Rattle.accepted_programs.proofs.Trees.{Whole, AreOf}
use Rattle.accepted_programs.proofs.Values.{RoleFits}
use Rattle.accepted_programs.proofs.Doing.{Core, Did}
use Rattle.accepted_programs.proofs.Declaring.{Between}
use Rattle.accepted_programs.proofs.Filing.{File, Files, IsFiled, names_in}
use Rattle.accepted_programs.proofs.Signing.{same_results}
use Rattle.accepted_programs.proofs.Heights.{heights_of, calls_fall}

true_is : (b : Bool) → b ≡ true → IsTrue b
true_is b h = h

-- ---- what is there in the beginning

functions_alone : (name : List ℕ) (m : Meaning) → find name (predeclared ∷ []) ≡ Some m → (f : ℕ) × (m ≡ meaning.Function f) × ((g : Signature) × (slice_get first_signatures f ≡ Some g))
functions_alone name m h = by (bytes_eq name (codes "in")) (bytes_eq name (codes "out")) h
  where
    some : (a b : Meaning) → Some a ≡ Some b → b ≡ a
    some a b h = cc

    by : (a b : Bool) → option_or (if a then Some (meaning.Function 0) else (if b then Some (meaning.Function 1) else None)) None ≡ Some m → (f : ℕ) × (m ≡ meaning.Function f) × ((g : Signature) × (slice_get first_signatures f ≡ Some g))
    by true b h = (0, some (meaning.Function 0) m h, (record { params = []; result = Some U16; role = role.Input }, refl))
    by false true h = (1, some (meaning.Function 1) m h, (record { params = U16 ∷ []; result = None; role = role.Output }, refl))
    by false false h = cc

no_variable : (x f : ℕ) (ty : Ty) (size : Option ℕ) (c : Bool) → meaning.Variable x ty size c ≡ meaning.Function f → ⊥
no_variable x f ty size c h = cc

here : (name : List ℕ) (scope : Scope) (m : Meaning) → find name (scope ∷ []) ≡ Some m → find_in name scope ≡ Some m
here name scope m h = by (find_in name scope) h
  where
    by : (o : Option Meaning) → option_or o None ≡ Some m → o ≡ Some m
    by None h = h
    by (Some x) h = h

first_roles : (f : ℕ) (g : Signature) → slice_get first_signatures f ≡ Some g → RoleFits g.role g.params
first_roles zero g h = subst (λ (z : Signature). RoleFits z.role z.params) (some _ g h) refl
  where
    some : (a b : Signature) → Some a ≡ Some b → a ≡ b
    some a b h = cc
first_roles (suc zero) g h = subst (λ (z : Signature). RoleFits z.role z.params) (some _ g h) refl
  where
    some : (a b : Signature) → Some a ≡ Some b → a ≡ b
    some a b h = cc
first_roles (suc (suc f)) g h = cc

same_number : (x f : ℕ) → meaning.Function x ≡ meaning.Function f → x ≡ f
same_number x f h = cc

core_start : (ds : List (List ℕ)) → Core (env (start ds))
core_start ds = record {
  variables = λ name x ty size c h. let q = functions_alone name (meaning.Variable x ty size c) h in absurd (no_variable x q.0 ty size c q.1);
  functions = λ name f h. let q = functions_alone name (meaning.Function f) h in (here name predeclared (meaning.Function f) h, (q.2.0, ap (slice_get first_signatures) (same_number f q.0 q.1) ∙ q.2.1));
  roles = first_roles;
  objects = refl;
  few = omega arith;
  open_ = omega arith;
}

file_start : (w : World) (ds : List (List ℕ)) → File w (env (start ds)) 0
file_start w ds = record {
  one = refl;
  globals = λ name x ty size c h. let q = functions_alone name (meaning.Variable x ty size c) h in absurd (no_variable x q.0 ty size c q.1);
  fits = λ whole. refl;
  calls = refl;
  scoped_ = refl;
  numbers = omega arith;
  nodes = refl;
  few = omega arith;
  signed = λ k fn h. cc;
}

-- ---- what is there in the end

faultless : (fs : List TypeFault) → first_of fs ≡ None → fs ≡ []
faultless [] h = refl
faultless (f ∷ fs) h = absurd (by (first_of fs) h)
  where
    chosen : (b : Bool) (x y : TypeFault) → (if b then Some x else Some y) ≡ None → ⊥
    chosen true x y h = cc
    chosen false x y h = cc

    by : (o : Option TypeFault) → sooner (Some f) o ≡ None → ⊥
    by None h = cc
    by (Some g) h = chosen (precedes f g) f g h

abbrev pub world : State → ℕ → World
world s main = record { program = program s main; heights = heights_of s.calls; defined = s.defined; signatures = s.signatures; file = file_of s.scopes }

between_ascends : (low high : ℕ) (xs : List ℕ) → Between low xs high → ascends xs ≡ true
between_ascends low high [] h = refl
between_ascends low high (x ∷ []) h = refl
between_ascends low high (x ∷ y ∷ xs) (h, (k, ks)) = both (nat_lt x y) (ascends (y ∷ xs)) (less x y k) (between_ascends (suc x) high (y ∷ xs) (k, ks))
  where
    less : (x y : ℕ) → suc x ≤ y → nat_lt x y ≡ true
    less x y h = grind (arith, nat_tests)

    both : (a b : Bool) → a ≡ true → b ≡ true → (a && b) ≡ true
    both a b h k = ap (λ c. c && b) h ∙ k

names_get : (fs : List Function) (k : ℕ) (name : List ℕ) → slice_get (names_in fs) k ≡ Some name → (fn : Function) × (slice_get fs k ≡ Some fn) × (fn.name ≡ name)
names_get [] k name h = cc
names_get (f ∷ fs) zero name h = (f, refl, some f.name name h)
  where
    some : (a b : List ℕ) → Some a ≡ Some b → a ≡ b
    some a b h = cc
names_get (f ∷ fs) (suc k) name h = names_get fs k name h

-- `main` is found
main_found : (k m : ℕ) (fs : List Function) → main_in k fs ≡ Some m → (i : ℕ) × (m ≡ k + i) × ((f : Function) × (slice_get fs i ≡ Some f) × (rule.is_main f ≡ true))
main_found k m [] h = cc
main_found k m (f ∷ fs) h = by (rule.is_main f) refl h (λ r. main_found (k + 1) m fs r)
  where
    some : (a b : ℕ) → Some a ≡ Some b → b ≡ a
    some a b h = cc

    by : (b : Bool) → rule.is_main f ≡ b → (if b then Some k else main_in (k + 1) fs) ≡ Some m
        → (main_in (k + 1) fs ≡ Some m → (i : ℕ) × (m ≡ (k + 1) + i) × ((f : Function) × (slice_get fs i ≡ Some f) × (rule.is_main f ≡ true)))
        → (i : ℕ) × (m ≡ k + i) × ((g : Function) × (slice_get (f ∷ fs) i ≡ Some g) × (rule.is_main g ≡ true))
    by true is h r = (0, some k m h ∙ sym (add-zero k), (f, refl, is))
    by false is h r = let q = r h in (suc q.0, q.1 ∙ sums k q.0, q.2)
      where
        sums : (k i : ℕ) → (k + 1) + i ≡ k + suc i
        sums k i = omega arith

left : (a b : Bool) → (a && b) ≡ true → a ≡ true
left true b h = refl
left false b h = h

right : (a b : Bool) → (a && b) ≡ true → b ≡ true
right true b h = h
right false b h = cc

same_some : (a b : Meaning) (o : Option Meaning) → o ≡ Some a → o ≡ Some b → b ≡ a
same_some a b o h k = cc

same_signature : (a b : Signature) (o : Option Signature) → o ≡ Some a → o ≡ Some b → a ≡ b
same_signature a b o h k = cc

module _ (s : State) (main : ℕ) where
  -- what the walk comes to leads to the world that is made of it
  ends_there : first_of s.faults ≡ None → ((c : CallSite) → Contains s.calls c → is_below (below (world s main) c.caller) c.callee ≡ true) → Ends (world s main) s
  ends_there none fall = record {
    faultless = faultless s.faults none;
    variables = λ i v h. h;
    calls = fall;
    signatures = λ f g h. record { last = g; is = h; same = record { params = refl; result = refl } };
    defined = refl;
    file = λ name m h. h;
  }

  whole_there : (n : ℕ) → s.defined ≡ names_in s.functions → File (world s main) (env s) n → Whole (world s main)
  whole_there n names file k f name g is found has =
      let fn = names_get s.functions k name (ap (λ (z : List (List ℕ)). slice_get z k) (sym names) ∙ is) in
      let q = file.signed k fn.0 fn.1 in
      let number : f ≡ q.number = same_number f q.number (same_some (meaning.Function q.number) (meaning.Function f) (find_in name (file_of s.scopes)) (ap (λ z. find_in z (file_of s.scopes)) (sym fn.2) ∙ q.named) found) in
      let signature : g ≡ q.signature = same_signature g q.signature (slice_get s.signatures q.number) (ap (slice_get s.signatures) (sym number) ∙ has) q.is in
      record { function = fn.0; is = fn.1; params = subst (λ (z : Signature). AreOf (program s main) fn.0.params z.params) (sym signature) q.params; result = q.result ∙ sym (ap (λ (z : Signature). z.result) signature) }

-- what the walk over a text makes
pub record Walked (s : State) (main : ℕ) : Type 0 where
  pub core : Core (env s)
  pub file : File (world s main) (env s) s.nodes
  pub whole : Whole (world s main)

module _ (raw : Raw) (main : ℕ) (filed : (w : World) → IsFiled w (judged raw).defines (judged raw).external) where
  walked_by : (g : Got (Unit {0})) → first_of (state_of g).faults ≡ None → ((c : CallSite) → Contains (state_of g).calls c → is_below (below (world (state_of g) main) c.caller) c.callee ≡ true)
      → ((w : World) → After w (start (judged raw).defines) g (λ _ s'. File w (env (start (judged raw).defines)) 0 → Core (env (start (judged raw).defines)) → Did 0 (λ e' n. Files w (judged raw).defines 0 (env (start (judged raw).defines)) e' n) s'))
      → Walked (state_of g) main
  walked_by (Gives u s) none fall h =
      let w : World = world s main in
      let all = (h w (omega arith)).1 (ends_there s main none fall) in
      let did = all.1 (file_start w (judged raw).defines) (core_start (judged raw).defines) in
      let names : s.defined ≡ names_in s.functions = sym all.0.defined ∙ sym did.fits.names_ in
      let file : File w (env s) s.nodes = subst (λ n. File w (env s) n) (sym did.nodes) did.fits.file in
      record { core = did.core; file = file; whole = whole_there s main s.nodes names file }

  walked : IsTyped (found raw) (program (found raw) main) → Walked (found raw) main
  walked typed = walked_by ((judged raw).external (start (judged raw).defines)) typed.sound.faultless (calls_fall (found raw).calls typed.sound.acyclic) (λ w. filed w 0 (start (judged raw).defines))

-- ---- what is sound

main_int : (p : Program) (i : ℕ) (f : Function) → slice_get p.functions i ≡ Some f → rule.is_main f ≡ true → p.main ≡ i → (sound.is_main (slice_get p.functions p.main) ≡ true) × (is_named_main (slice_get p.functions p.main) ≡ true)
main_int p i f is h at =
    let there : slice_get p.functions p.main ≡ Some f = ap (slice_get p.functions) at ∙ is in
    let types = right (bytes_eq f.name (codes "main")) _ h in (
      ap sound.is_main there ∙ by f.params f.result (left (is_empty f.params) _ types) (same_results f.result (Some I16) (right (is_empty f.params) _ types)),
      ap is_named_main there ∙ left (bytes_eq f.name (codes "main")) _ h,
    )
  where
    by : (xs : List ℕ) (r : Option Ty) → is_empty xs ≡ true → r ≡ Some I16 → (sound.no_parameters xs && sound.is_int r) ≡ true
    by [] r h k = ap sound.is_int k
    by (x ∷ xs) r h k = cc

-- An accepted program is sound, and its names are in scope, where each text of such a tree is filed.
pub accepted_sound : (raw : Raw) (p : Program) → ((w : World) → IsFiled w (judged raw).defines (judged raw).external) → Accepts raw p → p.nodes < 2 ^ 29 → IsSound p × IsScoped p
accepted_sound raw p filed accepts few =
    let s : State = found raw in
    let is : p ≡ program s p.main = accepts.is in
    let typed : IsTyped s (program s p.main) = subst (λ q. IsTyped s q) is accepts in
    let k = walked raw p.main filed typed in
    let f = main_found 0 p.main s.functions accepts.main in
    let m = main_int (program s p.main) f.0 f.2.0 f.2.1 f.2.2 (f.1 ∙ omega arith) in
    subst (λ q. IsSound q × IsScoped q) (sym is) (
      record {
        variables = true_is _ k.core.objects;
        functions = true_is _ (k.file.fits k.whole);
        main = true_is _ m.0;
        acyclic = (heights_of s.calls, true_is _ k.file.calls);
        nodes = k.file.nodes;
        few_nodes = subst (λ (q : Program). q.nodes < 2 ^ 29) is few;
        few_functions = k.file.few;
        few_variables = omega (arith, k.core.few);
      },
      record { names = true_is _ k.file.scoped_; once = true_is _ (between_ascends 0 (length s.variables) (introduced s.functions) k.file.numbers); main = true_is _ m.1 },
    )
