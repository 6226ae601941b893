-- What the rules of `switch` make is good, where it is of their parts.
use Rattle.std.proofs.Common.{◌≡◌, refl, sym, ap, subst, ◌∙◌, ℕ, ◌+◌, ◌^◌, add-zero, add_assoc, Bool, true, false, Option, Some, None, List, [], ◌∷◌, ◌++◌, map, arith, append-nil, append_assoc}
use Rattle.std.specs.Prelude.{length, not, is_none, nat_lt, ◌==◌, ◌&&◌, ◌||◌}
use Rattle.std.proofs.lemmas.Bool.Decides.{nat_tests}
use Rattle.base_io.specs.declared.place.Place.{Place}
use Rattle.c_values.specs.declared.ops.Ty.{Ty}
use Rattle.c_tree.specs.Nodes.{has_label, has_default, is_label}
use Rattle.c_tree.specs.declared.tree.Expr.{Expr}
use Rattle.c_tree.specs.declared.tree.Label.{Label}
use Rattle.c_tree.specs.declared.tree.Group.{Group}
use Rattle.c_typing.specs.declared.type_fault.TypeFault.TheVariants as fault
use Rattle.c_typing.specs.Parts.{Part, ◌>>=◌, pure, uncounted}
use Rattle.c_typing.specs.Constants.{constant_of}
use Rattle.c_typing.specs.Judged.{Judged}
use Rattle.c_typing.specs.Expressions as expression
use Rattle.c_typing.specs.Statements as rule
use Rattle.sound_programs.specs.Sound.{label_fits, labels_fit, is_labelled, item_fits, group_fits, all_hold}
use Rattle.sound_programs.specs.Calls.{group_below}
use Rattle.sound_programs.specs.Counted.{group_nodes}
use Rattle.sound_programs.proofs.SoundLevels as sound_levels
use Rattle.sound_programs.proofs.CallLevels as call_levels
use Rattle.sound_programs.proofs.CountLevels as count_levels
use Rattle.sound_programs.specs.Scoped as scoped
use Rattle.sound_programs.specs.Scoped.{Stand, Scoped, ScopedGroup, in_switch, names, each_fits, last_ends, groups_fit, all_labels, labels_differ, is_new, scoped_item, scoped_group, group_locals, item_locals, joined}
use Rattle.sound_programs.proofs.NameLevels as name_levels
use Rattle.accepted_programs.proofs.Walk.{World, Env, Makes, below, makes_pure, makes_if, makes_then, count_then, fails, note_if_then, makes_uncounted}
use Rattle.accepted_programs.proofs.Trees.{Covers, Whole, Good, value, both}
use Rattle.accepted_programs.proofs.Values.{Fit, GoodExpr, IsExpr, value_makes, converted_makes}
use Rattle.accepted_programs.proofs.Calling.{length_snoc}
use Rattle.accepted_programs.proofs.Doing.{Has, Stays, Closed, inside_refl, has_pure, has_if, has_then, has_given, has_true, has_false, has_scoped}
use Rattle.accepted_programs.proofs.Declaring.{Between}
use Rattle.accepted_programs.proofs.Looping.{GoodItems, AreItems, items_has, closed_stays}
use Rattle.accepted_programs.proofs.Words.{constant_word}

no_truth : false ≡ true → ⊥
no_truth h = cc

-- ---- labels

-- the label is a word, or `default`, and stands not among these
abbrev pub IsFresh : Option ℕ → List Label → Type 0
IsFresh None before = has_default before ≡ false
IsFresh (Some n) before = has_label n before ≡ false

or_false : (b : Bool) → (b || false) ≡ b
or_false true = refl
or_false false = refl

or_again : (a b c : Bool) → (a || (b || c)) ≡ ((a || b) || c)
or_again true b c = refl
or_again false b c = refl

default_snoc : (ls : List Label) (l : Label) → has_default (ls ++ l ∷ []) ≡ (has_default ls || is_none l.value)
default_snoc [] l = or_false (is_none l.value)
default_snoc (x ∷ ls) l = ap (λ b. is_none x.value || b) (default_snoc ls l) ∙ or_again (is_none x.value) (has_default ls) (is_none l.value)

label_snoc : (n : ℕ) (ls : List Label) (l : Label) → has_label n (ls ++ l ∷ []) ≡ (has_label n ls || is_label n l.value)
label_snoc n [] l = or_false (is_label n l.value)
label_snoc n (x ∷ ls) l = ap (λ b. is_label n x.value || b) (label_snoc n ls l) ∙ or_again (is_label n x.value) (has_label n ls) (is_label n l.value)

not_or : (a b : Bool) → not a ≡ true → b ≡ false → not (a || b) ≡ true
not_or true b h k = cc
not_or false b h k = ap not k

-- the labels aren't one
abbrev Apart : Option ℕ → Option ℕ → Type 0
Apart None o = is_none o ≡ false
Apart (Some n) o = is_label n o ≡ false

new_snoc : (v : Option ℕ) (ls : List Label) (l : Label) → is_new v ls ≡ true → Apart v l.value → is_new v (ls ++ l ∷ []) ≡ true
new_snoc None ls l h k = ap not (default_snoc ls l) ∙ not_or (has_default ls) (is_none l.value) h k
new_snoc (Some n) ls l h k = ap not (label_snoc n ls l) ∙ not_or (has_label n ls) (is_label n l.value) h k

or_left : (a b : Bool) → (a || b) ≡ false → a ≡ false
or_left true b h = h
or_left false b h = refl

or_right : (a b : Bool) → (a || b) ≡ false → b ≡ false
or_right true b h = cc
or_right false b h = h

flipped : (m n : ℕ) → (m == n) ≡ false → (n == m) ≡ false
flipped m n h = grind (arith, nat_tests)

fresh_apart : (x : Label) (ls : List Label) (o : Option ℕ) → IsFresh o (x ∷ ls) → Apart x.value o
fresh_apart x ls None h = by x.value (or_left (is_none x.value) (has_default ls) h)
  where
    by : (v : Option ℕ) → is_none v ≡ false → Apart v None
    by None h = h
    by (Some m) h = refl
fresh_apart x ls (Some n) h = by x.value (or_left (is_label n x.value) (has_label n ls) h)
  where
    by : (v : Option ℕ) → is_label n v ≡ false → Apart v (Some n)
    by None h = refl
    by (Some m) h = flipped n m h

fresh_rest : (x : Label) (ls : List Label) (o : Option ℕ) → IsFresh o (x ∷ ls) → IsFresh o ls
fresh_rest x ls None h = or_right (is_none x.value) (has_default ls) h
fresh_rest x ls (Some n) h = or_right (is_label n x.value) (has_label n ls) h

new_alone : (o : Option ℕ) → is_new o [] ≡ true
new_alone None = refl
new_alone (Some n) = refl

pub differ_snoc : (ls : List Label) (l : Label) → labels_differ ls ≡ true → IsFresh l.value ls → labels_differ (ls ++ l ∷ []) ≡ true
differ_snoc [] l h f = both (is_new l.value []) true (new_alone l.value) refl
differ_snoc (x ∷ ls) l h f = both (is_new x.value (ls ++ l ∷ [])) (labels_differ (ls ++ l ∷ []))
    (new_snoc x.value ls l (first (is_new x.value ls) (labels_differ ls) h) (fresh_apart x ls l.value f)) (differ_snoc ls l (second (is_new x.value ls) (labels_differ ls) h) (fresh_rest x ls l.value f))
  where
    first : (a b : Bool) → (a && b) ≡ true → a ≡ true
    first true b h = refl
    first false b h = h

    second : (a b : Bool) → (a && b) ≡ true → b ≡ true
    second true b h = h
    second false b h = cc

fit_snoc : (ls : List Label) (l : Label) → labels_fit ls ≡ true → label_fits l.value ≡ true → labels_fit (ls ++ l ∷ []) ≡ true
fit_snoc [] l h f = both (label_fits l.value) true f refl
fit_snoc (x ∷ ls) l h f = by (label_fits x.value) h (λ r. fit_snoc ls l r f)
  where
    by : (b : Bool) → (b && labels_fit ls) ≡ true → (labels_fit ls ≡ true → labels_fit (ls ++ l ∷ []) ≡ true) → (b && labels_fit (ls ++ l ∷ [])) ≡ true
    by true h r = r h
    by false h r = cc

-- a label behind others
pub record GoodLabel (before ls : List Label) (n : ℕ) : Type 0 where
  pub label : Label
  pub is : ls ≡ label ∷ []
  pub one : n ≡ 1
  pub fresh : IsFresh label.value before
  pub fits : label_fits label.value ≡ true

abbrev pub IsLabel : World → (Ty → List Label → Part (List Label)) → Type 0
IsLabel w f = (ty : Ty) (before : List Label) (e : Env) → Makes w e (Fit w e) (f ty before) (GoodLabel before)

module _ (w : World) where
  label_made_makes : (e : Env) (X : Type 0) (place : Place) (o : Option ℕ) (before : List Label) → (X → IsFresh o before) → (X → label_fits o ≡ true) → Makes w e X (rule.label_made place o) (GoodLabel before)
  label_made_makes e X place o before f g =
      count_then w e X 1 (pure (record { place = place; value = o } ∷ [])) (GoodLabel before)
      (makes_pure w e X (record { place = place; value = o } ∷ []) (λ ls n. GoodLabel before ls (1 + n)) (λ q. record { label = record { place = place; value = o }; is = refl; one = refl; fresh = f q; fits = g q }))

  pub default_label : (word colon : Judged) → IsLabel w (rule.label_by (word ∷ colon ∷ []))
  default_label word colon ty before e =
      note_if_then w e (Fit w e) (has_default before) (fault.Redeclared word.place) (rule.label_made word.place None) (GoodLabel before)
      (label_made_makes e (Fit w e × (has_default before ≡ false)) word.place None before (λ q. q.1) (λ q. refl))

  case_from_makes : (e : Env) (X : Type 0) (place : Place) (before : List Label) (x : Expr) (o : Option ℕ) → ((n : ℕ) → o ≡ Some n → nat_lt n (2 ^ 16) ≡ true) → Makes w e X (rule.case_from place before x o) (GoodLabel before)
  case_from_makes e X place before x None h = fails w e X (fault.NotConst x.place) [] (GoodLabel before)
  case_from_makes e X place before x (Some n) h =
      note_if_then w e X (has_label n before) (fault.Redeclared x.place) (rule.label_made place (Some n)) (GoodLabel before)
      (label_made_makes e (X × (has_label n before ≡ false)) place (Some n) before (λ q. q.1) (λ q. h n refl))

  pub case_label : (word part colon : Judged) → IsExpr w part → IsLabel w (rule.label_by (word ∷ part ∷ colon ∷ []))
  case_label word part colon is ty before e =
      let F : Expr → ℕ → Type 0 = λ x n. (n ≡ 0) × ((m : ℕ) × Unit {0}) in
      makes_then w e (Fit w e) (uncounted (expression.value_of part >>= expression.converted ty)) (λ x. rule.case_from word.place before x (constant_of x)) F (GoodLabel before)
      (makes_uncounted w e (Fit w e) (expression.value_of part >>= expression.converted ty) (λ x n. Unit {0})
      (makes_then w e (Fit w e) (expression.value_of part) (expression.converted ty) (GoodExpr w e) (λ x n. Unit {0}) (value_makes w e (Fit w e) part (λ q. q) is)
      (λ x n. makes_if w e (Fit w e × GoodExpr w e x n) (Fit w e × GoodExpr w e x n) (expression.converted ty x) (λ y m. (y.ty ≡ ty) × Good w e (value ty) y (n + m)) (λ y m. Unit {0}) (λ q. q) (λ y m q f. tt)
      (converted_makes w e (Fit w e × GoodExpr w e x n) ty x n (λ q. q.1)))))
      (λ x n. makes_if w e (Fit w e × F x n) (Fit w e × F x n) (rule.case_from word.place before x (constant_of x)) (GoodLabel before) (λ ls m. GoodLabel before ls (n + m)) (λ q. q)
      (λ ls m q g. subst (λ k. GoodLabel before ls k) (zero_before n m q.1.0) g)
      (case_from_makes e (Fit w e × F x n) word.place before x (constant_of x) (λ m h. constant_word x m h)))
    where
      zero_before : (n m : ℕ) → n ≡ 0 → m ≡ n + m
      zero_before n m h = omega (arith, h)

-- ---- groups

-- inside of the scope of a group
pub record GoodInner (w : World) (at : Stand) (ended : Bool) (before : List Label) (e : Env) (g : Group) (e' : Env) (n : ℕ) : Type 0 where
  pub differ : labels_differ (before ++ g.labels) ≡ true
  pub labels : labels_fit g.labels ≡ true
  pub some_ : is_labelled g.labels ≡ true
  pub more : ℕ
  pub items : GoodItems w at ended e g.items e' more
  pub count : length g.labels + more ≡ n

pub record GoodGroup (w : World) (at : Stand) (ended : Bool) (before : List Label) (e : Env) (g : Group) (e' : Env) (n : ℕ) : Type 0 where
  pub differ : labels_differ (before ++ g.labels) ≡ true
  pub stays : Stays e e'
  pub fits : Whole w → group_fits w.program e.result g ≡ true
  pub calls : group_below (below w (length e.functions)) g ≡ true
  pub labels : (scoped_group g).labels ≡ g.labels
  pub scoped_ : (scope : scoped.Scope) → Covers scope e → each_fits at scope (scoped_group g).items ≡ true
  pub ends : ended ≡ true → last_ends (scoped_group g).items ≡ true
  pub locals_ : Between (length e.variables) (group_locals g) (length e'.variables)
  pub nodes : group_nodes w.program g ≡ n

abbrev pub IsGroup : World → Stand → Bool → (Ty → List Label → Part Group) → Type 0
IsGroup w at ended f = (ty : Ty) (before : List Label) → Has w (λ e. labels_differ before ≡ true) (f ty before) (GoodGroup w at ended before)

module _ (w : World) where
  -- labels, and items behind them
  pub data AreLabelled (at : Stand) : Bool → List Judged → Type 0 where
    nothing : AreLabelled at false []
    label_first : (b : Bool) (part : Judged) (rest : List Judged) → rule.is_label part.rule ≡ true → IsLabel w part.label → AreLabelled at b rest → AreLabelled at b (part ∷ rest)
    items_behind : (b : Bool) (part : Judged) (rest : List Judged) → rule.is_label part.rule ≡ false → AreItems w at false b (part ∷ rest) → AreLabelled at b (part ∷ rest)

  -- labels so far, of which there may be none
  abbrev Begun : List Label → List Label → Type 0
  Begun before ls = (labels_differ (before ++ ls) ≡ true) × (labels_fit ls ≡ true)

  abbrev pub Labels : List Label → List Label → Type 0
  Labels before ls = Begun before ls × (is_labelled ls ≡ true)

  labelled_snoc : (ls : List Label) (l : Label) → is_labelled (ls ++ l ∷ []) ≡ true
  labelled_snoc [] l = refl
  labelled_snoc (x ∷ ls) l = refl

  label_more : (before ls : List Label) (more : List Label) (n : ℕ) → Begun before ls → GoodLabel (before ++ ls) more n → Labels before (ls ++ more) × (length (ls ++ more) ≡ length ls + n)
  label_more before ls more n h g = (
    (
      (
        ap labels_differ (ap (λ z. before ++ (ls ++ z)) g.is ∙ sym (append_assoc before ls (g.label ∷ []))) ∙ differ_snoc (before ++ ls) g.label h.0 g.fresh,
        ap labels_fit (ap (λ z. ls ++ z) g.is) ∙ fit_snoc ls g.label h.1 g.fits,
      ),
      ap is_labelled (ap (λ z. ls ++ z) g.is) ∙ labelled_snoc ls g.label,
    ),
    ap (λ (z : List Label). length (ls ++ z)) g.is ∙ (length_snoc ls g.label ∙ ap (λ k. length ls + k) (sym g.one)),
  )

  no_inner : (at : Stand) (before ls : List Label) (e : Env) → Labels before ls → GoodInner w at false before e (record { labels = ls; items = [] }) e (length ls + 0)
  no_inner at before ls e h = record {
    differ = h.0.0;
    labels = h.0.1;
    some_ = h.1;
    more = 0;
    items = record { inside = inside_refl e; fits = λ whole. refl; calls = refl; scoped_ = λ scope covers. refl; covers = λ scope covers. covers; ends = λ h. absurd (no_truth h); locals_ = omega arith; nodes = refl };
    count = refl;
  }

  -- a label, and what is behind it
  first_has : (at : Stand) (b : Bool) (ty : Ty) (before ls : List Label) (part : Judged) (rest : List Judged) → rule.is_label part.rule ≡ true → IsLabel w part.label
      → ((more : List Label) → Has w (λ e. Labels before (ls ++ more)) (rule.group_onto ty before (ls ++ more) rest) (λ e g e' m. GoodInner w at b before e g e' (length (ls ++ more) + m)))
      → Has w (λ e. Begun before ls) (rule.group_onto ty before ls (part ∷ rest)) (λ e g e' n. GoodInner w at b before e g e' (length ls + n))
  first_has at b ty before ls part rest h is behind =
      has_true w (λ e. Begun before ls) (rule.is_label part.rule) (part.label ty (before ++ ls) >>= (λ more. rule.group_onto ty before (ls ++ more) rest)) (rule.items_onto [] (part ∷ rest) >>= (λ items. pure (record { labels = ls; items = items })))
      (λ e g e' n. GoodInner w at b before e g e' (length ls + n)) h
      (has_given w (λ e. Begun before ls) (part.label ty (before ++ ls)) (λ more. rule.group_onto ty before (ls ++ more) rest) (λ e more n. GoodLabel (before ++ ls) more n) (λ e g e' n. GoodInner w at b before e g e' (length ls + n))
      (λ e. is ty (before ++ ls) e)
      (λ more n. has_if w (λ e. Begun before ls × GoodLabel (before ++ ls) more n) (λ e. Labels before (ls ++ more)) (rule.group_onto ty before (ls ++ more) rest)
      (λ e g e' m. GoodInner w at b before e g e' (length (ls ++ more) + m)) (λ e g e' m. GoodInner w at b before e g e' (length ls + (n + m)))
      (λ e q. (label_more before ls more n q.0 q.1).0)
      (λ e g e' m q core core' f. subst (λ k. GoodInner w at b before e g e' k) (ap (λ k. k + m) (label_more before ls more n q.0 q.1).1 ∙ add_assoc (length ls) n m) f)
      (behind more)))

  onto_has : (at : Stand) (b : Bool) (ty : Ty) (before ls : List Label) (js : List Judged) → AreLabelled at b js
      → Has w (λ e. Labels before ls) (rule.group_onto ty before ls js) (λ e g e' n. GoodInner w at b before e g e' (length ls + n))
  onto_has at b ty before ls [] nothing = has_pure w (λ e. Labels before ls) (record { labels = ls; items = [] }) (λ e g e' n. GoodInner w at false before e g e' (length ls + n)) (λ e q core. no_inner at before ls e q)
  onto_has at b ty before ls (part ∷ rest) (label_first _ _ _ h is are) =
      has_if w (λ e. Labels before ls) (λ e. Begun before ls) (rule.group_onto ty before ls (part ∷ rest)) (λ e g e' n. GoodInner w at b before e g e' (length ls + n)) (λ e g e' n. GoodInner w at b before e g e' (length ls + n)) (λ e q. q.0)
      (λ e g e' n q core core' f. f) (first_has at b ty before ls part rest h is (λ more. onto_has at b ty before (ls ++ more) rest are))
  onto_has at b ty before ls (part ∷ rest) (items_behind _ _ _ h are) =
      has_false w (λ e. Labels before ls) (rule.is_label part.rule) (part.label ty (before ++ ls) >>= (λ more. rule.group_onto ty before (ls ++ more) rest)) (rule.items_onto [] (part ∷ rest) >>= (λ items. pure (record { labels = ls; items = items })))
      (λ e g e' n. GoodInner w at b before e g e' (length ls + n)) h
      (has_then w (λ e. Labels before ls) (rule.items_onto [] (part ∷ rest)) (λ items. pure (record { labels = ls; items = items })) (GoodItems w at b) (λ e g e' n. GoodInner w at b before e g e' (length ls + n))
      (has_if w (λ e. Labels before ls) (λ e. Unit {0}) (rule.items_onto [] (part ∷ rest)) (GoodItems w at b) (GoodItems w at b) (λ e q. tt) (λ e a e' n q core core' g. g) (items_has w at b (part ∷ rest) are))
      (λ e items n. has_pure w (λ e'. Labels before ls × GoodItems w at b e items e' n) (record { labels = ls; items = items }) (λ e' g e2 m. GoodInner w at b before e g e2 (length ls + (n + m)))
      (λ e' q core. record { differ = q.0.0.0; labels = q.0.0.1; some_ = q.0.1; more = n; items = q.1; count = ap (λ k. length ls + k) (sym (add-zero n)) })))

  group_good : (at : Stand) (b : Bool) (before : List Label) (e : Env) (g : Group) (e' : Env) (n : ℕ) → Closed (GoodInner w at b before) e g e' n → GoodGroup w at b before e g e' n
  group_good at b before e g e' n c =
      let f = c.fits in let i = f.items in record {
        differ = f.differ;
        stays = closed_stays w e c.last e' c.is c.inside;
        fits = λ whole. sym (sound_levels.group_level w.program e.result g) ∙ both (is_labelled g.labels) _ f.some_ (both (labels_fit g.labels) (all_hold (map (item_fits w.program e.result) g.items)) f.labels (i.fits whole));
        calls = sym (call_levels.group_level (below w (length e.functions)) g) ∙ i.calls;
        labels = ap (λ (z : ScopedGroup). z.labels) (sym (name_levels.scoped_group_level g));
        scoped_ = λ scope covers. ap (λ (z : ScopedGroup). each_fits at scope z.items) (sym (name_levels.scoped_group_level g)) ∙ i.scoped_ scope covers;
        ends = λ h. ap (λ (z : ScopedGroup). last_ends z.items) (sym (name_levels.scoped_group_level g)) ∙ i.ends h;
        locals_ = subst (λ z. Between (length e.variables) z (length e'.variables)) (name_levels.group_locals_level g) (subst (λ (z : Env). Between (length e.variables) (joined (map item_locals g.items)) (length z.variables)) (sym c.is) i.locals_);
        nodes = sym (count_levels.group_level w.program g) ∙ (ap (λ k. length g.labels + k) i.nodes ∙ f.count);
      }

  pub group_has : (at : Stand) (b : Bool) (part : Judged) (rest : List Judged) → rule.is_label part.rule ≡ true → IsLabel w part.label → AreLabelled at b rest → IsGroup w at b (rule.group_by (part ∷ rest))
  group_has at b part rest h is are ty before =
      has_if w (λ e. labels_differ before ≡ true) (λ e. labels_differ before ≡ true) (rule.group_by (part ∷ rest) ty before) (Closed (GoodInner w at b before)) (GoodGroup w at b before) (λ e q. q) (λ e g e' n q core core' c. group_good at b before e g e' n c)
      (has_scoped w (λ e. labels_differ before ≡ true) (λ e. labels_differ before ≡ true) (rule.group_onto ty before [] (part ∷ rest)) (GoodInner w at b before) (λ e q core. q) (λ e a e' n g. g.items.inside)
      (has_if w (λ e. labels_differ before ≡ true) (λ e. Begun before []) (rule.group_onto ty before [] (part ∷ rest)) (λ e g e' n. GoodInner w at b before e g e' (0 + n)) (GoodInner w at b before) (λ e q. (ap labels_differ (append-nil before) ∙ q, refl))
      (λ e g e' n q core core' f. subst (λ k. GoodInner w at b before e g e' k) (zero_before n) f) (first_has at b ty before [] part rest h is (λ more. onto_has at b ty before more rest are))))
    where
      zero_before : (n : ℕ) → 0 + n ≡ n
      zero_before n = omega arith
