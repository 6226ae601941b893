-- Words that ask for a run name a few supplies.
use Rattle.std.proofs.Common.{◌≡◌, ◌∙◌, ◌+◌, ◌≤◌, ◌++◌, ◌&&◌, ℕ, Bool, true, false, List, [], ◌∷◌, Option, Some, None, length, length-append, refl, sym, ap, subst, arith}
use Rattle.std.specs.Prelude.{nat_le, codes, if◌then◌else◌, is_some, option_map, option_and_then, unwrap_or}
use Rattle.std.specs.List.{list_any}
use Rattle.std.specs.Str.{bytes_eq}
use Rattle.std.proofs.lemmas.Bool.{leb-true}
use Rattle.job_parts.specs.Words.{Word, Given, Setting, budget, steps, Form, ends, option, strange, plain, form_of, given_from, nothing, number, slot, turn, with_number, with_option, with_words}
use Rattle.job_parts.specs.Asked.{Request, Task, asked, build, check, run, say, plan, gen, build_of, check_of, run_of, say_of, plan_of, gen_of, differ, files_of, task_of, request_of}
use Rattle.job_files.specs.Text.{Text}
use Rattle.commands.specs.Beginnings.{FitsBoxes}

none_some : {A : Type 0} (x : A) → (let n : Option A = None in n ≡ Some x) → ⊥
none_some x e = cc

some_same : {A : Type 0} (x y : A) → (let s : Option A = Some x in s ≡ Some y) → x ≡ y
some_same x y e = cc

-- ---- The words that are no options

kept_by_number : (s : Setting) (n : ℕ) (g : Given) → (with_number s n g).rest ≡ g.rest
kept_by_number budget n g = refl
kept_by_number steps n g = refl

kept_by : (s : Setting) (g h : Given) (o : Option ℕ) → option_map (λ n. with_number s n g) o ≡ Some h → h.rest ≡ g.rest
kept_by s g h None e = absurd (none_some h e)
kept_by s g h (Some n) e = sym (ap (λ (x : Given). x.rest) (some_same (with_number s n g) h e)) ∙ kept_by_number s n g

kept_if : (s : Setting) (v : Word) (g h : Given) (c : Bool) → (if c then None else option_map (λ n. with_number s n g) (number 1 1000000000 v)) ≡ Some h → h.rest ≡ g.rest
kept_if s v g h true e = absurd (none_some h e)
kept_if s v g h false e = kept_by s g h (number 1 1000000000 v) e

option_keeps : (s : Setting) (v : Word) (g h : Given) → with_option s v g ≡ Some h → h.rest ≡ g.rest
option_keeps s v g h e = kept_if s v g h (is_some (slot s g)) e

abbrev IsLong : Given → List Word → Given → Type 0
IsLong g ws h = length h.rest ≤ length g.rest + length ws

then_long : (o : Option Given) (g h : Given) (ws : List Word) (next : Given → Option Given) → ((k : Given) → o ≡ Some k → k.rest ≡ g.rest)
    → ((k : Given) → next k ≡ Some h → IsLong k ws h) → option_and_then next o ≡ Some h → IsLong g ws h
then_long None g h ws next keeps on e = absurd (none_some h e)
then_long (Some k) g h ws next keeps on e =
    let same : length k.rest ≡ length g.rest = ap length (keeps k refl) in
    let long = on k e in
    omega (arith, same, long)

by_form : (g h : Given) (w : Word) (ws : List Word) → ((o : Option Setting) (k : Given) → given_from o k ws ≡ Some h → IsLong k ws h)
    → (f : Form) → turn f w ws g (λ s k. given_from s k ws) ≡ Some h → IsLong g (w ∷ ws) h
by_form g h w ws on ends is =
    let same : length (g.rest ++ ws) ≡ length h.rest = ap (λ (x : Given). length x.rest) (some_same (with_words ws g) h is) in
    let both = length-append g.rest ws in
    omega (arith, same, both)
by_form g h w ws on (option s None) is = let long : IsLong g ws h = on (Some s) g is in omega (arith, long)
by_form g h w ws on (option s (Some v)) is =
    let long : IsLong g ws h = then_long (with_option s v g) g h ws (λ k. given_from None k ws) (λ k it. option_keeps s v g k it) (λ k it. on None k it) is in
    omega (arith, long)
by_form g h w ws on strange is = absurd (none_some h is)
by_form g h w ws on plain is =
    let long : IsLong (with_words (w ∷ []) g) ws h = on None (with_words (w ∷ []) g) is in
    let both = length-append g.rest (w ∷ []) in
    omega (arith, long, both)

rest_long : (o : Option Setting) (g h : Given) (ws : List Word) → given_from o g ws ≡ Some h → IsLong g ws h
unfolding given_from
rest_long None g h [] e = let same : length g.rest ≡ length h.rest = ap (λ (x : Given). length x.rest) (some_same g h e) in omega (arith, same)
rest_long (Some s) g h [] e = absurd (none_some h e)
rest_long (Some s) g h (v ∷ ws) e =
    let long : IsLong g ws h = then_long (with_option s v g) g h ws (λ k. given_from None k ws) (λ k is. option_keeps s v g k is) (λ k is. rest_long None k h ws is) e in
    omega (arith, long)
rest_long None g h (w ∷ ws) e = by_form g h w ws (λ o k is. rest_long o k h ws is) (form_of w) e

-- ---- The job

module _ (t : Task) where
  if_none : (P : Type 0) (c : Bool) (o : Option Task) → (o ≡ Some t → P) → (if c then None else o) ≡ Some t → P
  if_none P true o f e = absurd (none_some t e)
  if_none P false o f e = f e

  if_either : (P : Type 0) (c : Bool) (o p : Option Task) → (o ≡ Some t → P) → (p ≡ Some t → P) → (if c then o else p) ≡ Some t → P
  if_either P true o p f g e = f e
  if_either P false o p f g e = g e

fits_as : (s t : Task) (n : ℕ) → FitsBoxes s n → (let o : Option Task = Some s in o ≡ Some t) → FitsBoxes t n
fits_as s t n h e = subst (λ (x : Task). FitsBoxes x n) (some_same s t e) h

fits_if : (s t : Task) (n : ℕ) (c : Bool) → (c ≡ true → FitsBoxes s n) → (if c then Some s else None) ≡ Some t → FitsBoxes t n
fits_if s t n true h e = fits_as s t n (h refl) e
fits_if s t n false h e = absurd (none_some t e)

module _ (t : Task) (n : ℕ) where
  build_fits : (files : List Word) → build_of files ≡ Some t → FitsBoxes t n
  build_fits [] e = absurd (none_some t e)
  build_fits (a ∷ []) e = absurd (none_some t e)
  build_fits (a ∷ b ∷ []) e = absurd (none_some t e)
  build_fits (a ∷ b ∷ c ∷ []) e = absurd (none_some t e)
  build_fits (a ∷ b ∷ c ∷ d ∷ []) e = fits_if (build a b c d) t n (differ (a ∷ b ∷ c ∷ d ∷ [])) (λ is. tt) e
  build_fits (a ∷ b ∷ c ∷ d ∷ x ∷ files) e = absurd (none_some t e)

  check_fits : (files : List Word) → check_of files ≡ Some t → FitsBoxes t n
  check_fits [] e = absurd (none_some t e)
  check_fits (a ∷ []) e = absurd (none_some t e)
  check_fits (a ∷ b ∷ []) e = absurd (none_some t e)
  check_fits (a ∷ b ∷ c ∷ []) e = fits_as (check a b c) t n tt e
  check_fits (a ∷ b ∷ c ∷ x ∷ files) e = absurd (none_some t e)

  say_fits : (files : List Word) → say_of files ≡ Some t → FitsBoxes t n
  say_fits [] e = absurd (none_some t e)
  say_fits (a ∷ []) e = absurd (none_some t e)
  say_fits (a ∷ b ∷ []) e = fits_as (say a b) t n tt e
  say_fits (a ∷ b ∷ x ∷ files) e = absurd (none_some t e)

  plan_fits : (files : List Word) → plan_of files ≡ Some t → FitsBoxes t n
  plan_fits [] e = absurd (none_some t e)
  plan_fits (a ∷ []) e = absurd (none_some t e)
  plan_fits (a ∷ b ∷ []) e = fits_as (plan a b) t n tt e
  plan_fits (a ∷ b ∷ x ∷ files) e = absurd (none_some t e)

  gen_numbers : (b : Word) (o p : Option ℕ) → option_and_then (λ x. option_map (λ y. gen x y b) p) o ≡ Some t → FitsBoxes t n
  gen_numbers b None p e = absurd (none_some t e)
  gen_numbers b (Some x) None e = absurd (none_some t e)
  gen_numbers b (Some x) (Some y) e = fits_as (gen x y b) t n tt e

  gen_fits : (files : List Word) → gen_of files ≡ Some t → FitsBoxes t n
  gen_fits [] e = absurd (none_some t e)
  gen_fits (a ∷ []) e = absurd (none_some t e)
  gen_fits (a ∷ b ∷ []) e = absurd (none_some t e)
  gen_fits (a ∷ b ∷ c ∷ []) e = gen_numbers c (number 0 65535 a) (number 1 300 b) e
  gen_fits (a ∷ b ∷ c ∷ x ∷ files) e = absurd (none_some t e)

  run_fits : (files : List Word) → length files ≤ n → run_of files ≡ Some t → FitsBoxes t n
  run_fits [] l e = absurd (none_some t e)
  run_fits (a ∷ []) l e = absurd (none_some t e)
  run_fits (a ∷ b ∷ []) l e = absurd (none_some t e)
  run_fits (a ∷ b ∷ c ∷ supplies) l e =
      fits_if (run a b c supplies) t n (nat_le 1 (length supplies) && nat_le (length supplies) 256)
      (λ is. record { has_box = omega (arith, l); few = leb-true (length supplies) 256 (second (nat_le 1 (length supplies)) (nat_le (length supplies) 256) is) }) e
    where
      second : (x y : Bool) → (x && y) ≡ true → y ≡ true
      second true y is = is
      second false y is = absurd (let no : false ≡ true = is in cc)

  named_fits : (name : Word) (files : List Word) → length files ≤ n → files_of name files ≡ Some t → FitsBoxes t n
  named_fits name files l =
      if_either t (FitsBoxes t n) (bytes_eq name (codes "build")) (build_of files) _ (build_fits files)
      (if_either t (FitsBoxes t n) (bytes_eq name (codes "check")) (check_of files) _ (check_fits files)
      (if_either t (FitsBoxes t n) (bytes_eq name (codes "run")) (run_of files) _ (run_fits files l)
      (if_either t (FitsBoxes t n) (bytes_eq name (codes "say")) (say_of files) _ (say_fits files)
      (if_either t (FitsBoxes t n) (bytes_eq name (codes "plan")) (plan_of files) _ (plan_fits files)
      (if_either t (FitsBoxes t n) (bytes_eq name (codes "gen")) (gen_of files) None (gen_fits files) (λ e. absurd (none_some t e)))))))

  task_fits : (rest : List Word) → length rest ≤ n → task_of rest ≡ Some t → FitsBoxes t n
  unfolding task_of
  task_fits [] l e = absurd (none_some t e)
  task_fits (name ∷ files) l e =
      if_none t (FitsBoxes t n) (list_any (λ w. bytes_eq w (codes "-")) files) (files_of name files) (named_fits name files (omega (arith, l))) e

request_fits : (g : Given) (r : Request) (n : ℕ) → length g.rest ≤ n → request_of g ≡ Some r → FitsBoxes r.task n
request_fits g r n l e = by (task_of g.rest) refl e
  where
    by : (o : Option Task) → task_of g.rest ≡ o → option_map (λ t. record { task = t; budget = g.budget; steps = unwrap_or g.steps 1000000 }) o ≡ Some r → FitsBoxes r.task n
    by None is e = absurd (none_some r e)
    by (Some t) is e =
        let same : t ≡ r.task = ap (λ (x : Request). x.task) (some_same (let q : Request = record { task = t; budget = g.budget; steps = unwrap_or g.steps 1000000 } in q) r e) in
        subst (λ (x : Task). FitsBoxes x n) same (task_fits t n g.rest l is)

-- Words have a box for each supply that they name.
pub asked_fits : (words : List Text) (r : Request) (n : ℕ) → length words ≤ n → asked words ≡ Some r → FitsBoxes r.task n
unfolding asked
asked_fits words r n l e = by (given_from None nothing words) refl e
  where
    by : (o : Option Given) → given_from None nothing words ≡ o → option_and_then request_of o ≡ Some r → FitsBoxes r.task n
    by None is e = absurd (none_some r e)
    by (Some g) is e = let long = rest_long None nothing g words is in request_fits g r n (omega (arith, long, l)) e
