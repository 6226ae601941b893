-- Between two words that are put a step begins: an expression that has a value doesn't end in a word, and nor does a `return`.
use Rattle.std.proofs.Common.{◌≡◌, ℕ, zero, suc, Bool, true, false, Option, Some, None, List, [], ◌∷◌, ◌++◌, refl, ap, ◌∙◌, ◌⊎◌, inl, inr}
use Rattle.std.specs.Prelude.{if◌then◌else◌, ◌&&◌, ◌||◌, is_some, slice_index_or, slice_set, length}
use Rattle.c_values.specs.declared.ops.Ty.{Ty}
use Rattle.c_values.specs.declared.ops.Ty.TheVariants.{I16, U16}
use Rattle.c_values.specs.declared.ops.UnaryOp.{UnaryOp}
use Rattle.c_values.specs.declared.ops.UnaryOp.TheVariants as unary
use Rattle.c_values.specs.declared.ops.BinaryOp.{BinaryOp}
use Rattle.c_values.specs.Values.{Worked, Gives, Traps, within, value}
use Rattle.c_tree.specs.declared.tree.ExprKind.TheOpen.{ExprKind-F}
use Rattle.c_tree.specs.declared.tree.Label.{Label}
use Rattle.c_tree.specs.declared.leaving.Leaving.{Leaving}
use Rattle.c_tree.specs.declared.leaving.Leaving.TheVariants.{Next, Broke, Continued, Returned}
use Rattle.c_tree.specs.Layer.{ExprLayer}
use Rattle.c_tree.specs.Runs.{Event, Begun, Put, State, Got, Done, Trapped, Stopped, Part, behind_events, go_on, ◌>>=◌, ◌>>◌, pure, stop, either, begin, begin_at, begin_each, put, take_from, take_word, words_of, set_words, read, write, write_place, word_or_trap, at_element, read_at, write_at}
use Rattle.c_tree.specs.Nodes.{bind, come_back, same_type, begin_labels}
use Rattle.sound_programs.specs.Sound.{Typing, value_if, void_if, has_value, has_type, has_promoted, have_common, is_test, is_shift, is_comparison, binary_fits, unary_fits, known, is_promoted}
use Rattle.lowered_meaning.proofs.CallsBodies.{OnDone}
use Rattle.lowered_meaning.proofs.CountedConstants.{and_left, and_right}

-- ---- words with no step between them

-- Whether a word was put since the last step, where one was or wasn't before; none where two words have no step between them.
abbrev pub scan : Bool → List Event → Option Bool
scan b [] = Some b
scan b (Begun ∷ es) = scan false es
scan true (Put w ∷ es) = None
scan false (Put w ∷ es) = scan true es

-- from b on no two words stand without a step between, and where c is false none stands at the end
pub record Ends (b c : Bool) (es : List Event) : Type 0 where
  pub flag : Bool
  pub is : scan b es ≡ Some flag
  pub less : c ≡ false → flag ≡ false

abbrev pub SpacedAt : {A : Type 0} → Bool → (A → Bool) → Got A → Type 0
SpacedAt b C (Done es a s) = Ends b (C a) es
SpacedAt b C (Trapped es t) = Ends b true es
SpacedAt b C (Stopped es) = Ends b true es

abbrev pub Spaced : {A : Type 0} → Bool → (A → Bool) → Part A → Type 0
Spaced b C p = (s : State) → SpacedAt b C (p s)

ends_from : (es : List Event) (c : Bool) → Ends true c es → Ends false c es
ends_from [] c h = record { flag = false; is = refl; less = λ e. refl }
ends_from (Begun ∷ es) c h = record { flag = h.flag; is = h.is; less = h.less }
ends_from (Put w ∷ es) c h = absurd (none h.is)
  where
    none : None ≡ Some h.flag → ⊥
    none e = cc

ends_any : (b c : Bool) (es : List Event) → Ends true c es → Ends b c es
ends_any true c es h = h
ends_any false c es h = ends_from es c h

scan-append : (b x : Bool) (es fs : List Event) → scan b es ≡ Some x → scan b (es ++ fs) ≡ scan x fs
scan-append b x [] fs e = ap (λ y. scan y fs) (some_is e)
  where
    or_true : Option Bool → Bool
    or_true None = true
    or_true (Some y) = y

    some_is : Some b ≡ Some x → b ≡ x
    some_is q = cc
scan-append b x (Begun ∷ es) fs e = scan-append false x es fs e
scan-append true x (Put w ∷ es) fs e = cc
scan-append false x (Put w ∷ es) fs e = scan-append true x es fs e

ends_on : (b c c' : Bool) (es fs : List Event) → Ends b c es → Ends c c' fs → Ends b c' (es ++ fs)
ends_on b true c' es fs h i = let j : Ends h.flag c' fs = ends_any h.flag c' fs i in record { flag = j.flag; is = scan-append b h.flag es fs h.is ∙ j.is; less = j.less }
ends_on b false c' es fs h i = record { flag = i.flag; is = scan-append b false es fs (h.is ∙ ap Some (h.less refl)) ∙ i.is; less = i.less }

ends_more : (b c c' : Bool) (es : List Event) → (c' ≡ false → c ≡ false) → Ends b c es → Ends b c' es
ends_more b c c' es f h = record { flag = h.flag; is = h.is; less = λ e. h.less (f e) }

true_end : (b : Bool) → true ≡ false → b ≡ false
true_end b e = cc

-- ---- parts, one after another

spaced_behind : {A : Type 0} (b c : Bool) (D : A → Bool) (es : List Event) (got : Got A) → Ends b c es → SpacedAt c D got → SpacedAt b D (behind_events es got)
spaced_behind b c D es (Done fs a s) h i = ends_on b c (D a) es fs h i
spaced_behind b c D es (Trapped fs t) h i = ends_on b c true es fs h i
spaced_behind b c D es (Stopped fs) h i = ends_on b c true es fs h i

pub spaced_on : {A B : Type 0} (b : Bool) (C : A → Bool) (D : B → Bool) (p : Part A) (f : A → Part B) → Spaced b C p → ((a : A) → Spaced (C a) D (f a)) → Spaced b D (p >>= f)
spaced_on {A} {B} b C D p f h next s = by_got (p s) (h s)
  where
    by_got : (got : Got A) → SpacedAt b C got → SpacedAt b D (go_on got f)
    by_got (Done es a s') i = spaced_behind b (C a) D es (f a s') i (next a s')
    by_got (Trapped es t) i = i
    by_got (Stopped es) i = i

-- the same, with what is known of the answer
pub on_known : {A B : Type 0} (b : Bool) (C : A → Bool) (D : B → Bool) (P : A → Type 0) (p : Part A) (f : A → Part B) → Spaced b C p → ((s : State) → OnDone P (p s)) → ((a : A) → P a → Spaced (C a) D (f a))
    → Spaced b D (p >>= f)
on_known {A} {B} b C D P p f h known next s = by_got (p s) (h s) (known s)
  where
    by_got : (got : Got A) → SpacedAt b C got → OnDone P got → SpacedAt b D (go_on got f)
    by_got (Done es a s') i k = spaced_behind b (C a) D es (f a s') i (next a k s')
    by_got (Trapped es t) i k = i
    by_got (Stopped es) i k = i

pub spaced_then : {A B : Type 0} (b : Bool) (C : A → Bool) (D : B → Bool) (p : Part A) (q : Part B) → Spaced b C p → ((a : A) → Spaced (C a) D q) → Spaced b D (p >> q)
spaced_then b C D p q h next = spaced_on b C D p (λ _. q) h next

pub spaced_begun : {A : Type 0} (b : Bool) (D : A → Bool) (p : Part A) → Spaced false D p → Spaced b D (begin >> p)
spaced_begun {A} b D p h s = by_left s.left
  where
    by_left : (i : ℕ) → SpacedAt b D (go_on (begin_at i s) (λ _. p))
    by_left zero = record { flag = b; is = refl; less = true_end b }
    by_left (suc i) = spaced_behind b false D (Begun ∷ []) (p (record s { left = i })) (record { flag = false; is = refl; less = λ e. refl }) (h (record s { left = i }))

pub spaced_stop : {A : Type 0} (b : Bool) (D : A → Bool) → Spaced b D (stop {A = A})
spaced_stop b D s = record { flag = b; is = refl; less = true_end b }

-- what shows nothing
pub quiet : {A : Type 0} (b : Bool) (D : A → Bool) (a : A) (s : State) → (D a ≡ false → b ≡ false) → SpacedAt b D (Done [] a s)
quiet b D a s f = record { flag = b; is = refl; less = f }

pub from_any : {A : Type 0} (b : Bool) (D : A → Bool) (p : Part A) → Spaced true D p → Spaced b D p
from_any {A} b D p h s = by_got (p s) (h s)
  where
    by_got : (got : Got A) → SpacedAt true D got → SpacedAt b D got
    by_got (Done es a s') i = ends_any b (D a) es i
    by_got (Trapped es t) i = ends_any b true es i
    by_got (Stopped es) i = ends_any b true es i

pub to_more : {A : Type 0} (b : Bool) (C D : A → Bool) (p : Part A) → ((a : A) → D a ≡ false → C a ≡ false) → Spaced b C p → Spaced b D p
to_more {A} b C D p f h s = by_got (p s) (h s)
  where
    by_got : (got : Got A) → SpacedAt b C got → SpacedAt b D got
    by_got (Done es a s') i = ends_more b (C a) (D a) es (f a) i
    by_got (Trapped es t) i = i
    by_got (Stopped es) i = i

abbrev pub same : {A : Type 0} → Bool → A → Bool
same b a = b

pub spaced_either : {A : Type 0} (b t : Bool) (D : A → Bool) (p q : Part A) → Spaced b D p → Spaced b D q → Spaced b D (either t p q)
spaced_either b true D p q h i = h
spaced_either b false D p q h i = i

-- ---- the few things that show something or change a state

pub spaced_worked : (b : Bool) (r : Worked) → Spaced b (same b) (word_or_trap r)
spaced_worked b (Gives v) s = quiet b (same b) v s (λ e. e)
spaced_worked b (Traps t) s = record { flag = b; is = refl; less = true_end b }

spaced_at : {A : Type 0} (b : Bool) (o : Option ℕ) (f : ℕ → Part A) → ((i : ℕ) → Spaced b (same b) (f i)) → Spaced b (same b) (at_element o f)
spaced_at b None f h s = record { flag = b; is = refl; less = true_end b }
spaced_at b (Some i) f h s = h i s

pub spaced_words : (b : Bool) (x : ℕ) → Spaced b (same b) (words_of x)
spaced_words b x s = quiet b (same b) (slice_index_or s.store x []) s (λ e. e)

pub spaced_read : (b : Bool) (x : ℕ) → Spaced b (same b) (read x)
spaced_read b x s = quiet b (same b) (slice_index_or (slice_index_or s.store x []) 0 0) s (λ e. e)

pub spaced_place : (b : Bool) (x k v : ℕ) → Spaced b (same b) (write_place x k v)
spaced_place b x k v s = quiet b (same b) (tt {0}) (record s { store = slice_set s.store x (slice_set (slice_index_or s.store x []) k v) }) (λ e. e)

pub spaced_read_at : (b : Bool) (x : ℕ) (ty : Ty) (i : ℕ) → Spaced b (same b) (read_at x ty i)
spaced_read_at b x ty i = spaced_on b (same b) (same b) (words_of x) (λ ws. at_element (within (length ws) (value ty i)) (λ j. pure (slice_index_or ws j 0))) (spaced_words b x)
    (λ ws. spaced_at b (within (length ws) (value ty i)) (λ j. pure (slice_index_or ws j 0)) (λ j s. quiet b (same b) (slice_index_or ws j 0) s (λ e. e)))

pub spaced_write_at : (b : Bool) (x : ℕ) (ty : Ty) (i v : ℕ) → Spaced b (same b) (write_at x ty i v)
spaced_write_at b x ty i v = spaced_on b (same b) (same b) (words_of x) (λ ws. at_element (within (length ws) (value ty i)) (λ j. set_words x (slice_set ws j v))) (spaced_words b x)
    (λ ws. spaced_at b (within (length ws) (value ty i)) (λ j. set_words x (slice_set ws j v)) (λ j s. quiet b (same b) (tt {0}) (record s { store = slice_set s.store x (slice_set ws j v) }) (λ e. e)))

pub spaced_take : (b : Bool) → Spaced b (same b) take_word
spaced_take b s = by_input s.input
  where
    by_input : (input : List ℕ) → SpacedAt b (same {A = ℕ} b) (take_from input s)
    by_input [] = quiet {A = ℕ} b (same b) 0 s (λ e. e)
    by_input (v ∷ rest) = record { flag = b; is = refl; less = λ e. e }

pub spaced_put : (v : ℕ) → Spaced false (same true) (put v)
spaced_put v s = record { flag = true; is = refl; less = λ e. e }

pub spaced_begin : (b : Bool) → Spaced b (same false) begin
spaced_begin b s = by_left s.left
  where
    by_left : (i : ℕ) → SpacedAt b (same {A = Unit {0}} false) (begin_at i s)
    by_left zero = record { flag = b; is = refl; less = true_end b }
    by_left (suc i) = record { flag = false; is = refl; less = λ e. refl }

pub spaced_bind : (b : Bool) (xs vs : List ℕ) → Spaced b (same b) (bind xs vs)
spaced_bind b [] vs = λ s. quiet b (same b) (tt {0}) s (λ e. e)
spaced_bind b (x ∷ xs) [] = λ s. quiet b (same b) (tt {0}) s (λ e. e)
spaced_bind b (x ∷ xs) (v ∷ vs) = spaced_then b (same b) (same b) (write x v) (bind xs vs) (spaced_place b x 0 v) (λ u. spaced_bind b xs vs)

pub spaced_each : (n : ℕ) → Spaced true (same true) (begin_each n)
spaced_each zero = λ s. quiet true (same true) (tt {0}) s (λ e. e)
spaced_each (suc n) = spaced_then true (same false) (same true) begin (begin_each n) (spaced_begin true) (λ u. from_any false (same true) (begin_each n) (spaced_each n))

pub spaced_labels : (ls : List Label) → Spaced true (same true) (begin_labels ls)
spaced_labels [] = λ s. quiet true (same true) (tt {0}) s (λ e. e)
spaced_labels (l ∷ ls) = spaced_then true (same false) (same true) begin (begin_labels ls) (spaced_begin true) (λ u. from_any false (same true) (begin_labels ls) (spaced_labels ls))

-- how a statement is left: a `return` leaves no word at the end
abbrev pub stmt_flag : Leaving → Bool
stmt_flag Next = true
stmt_flag Broke = true
stmt_flag Continued = true
stmt_flag (Returned v) = false

abbrev pub turn_flag : Option Leaving → Bool
turn_flag None = true
turn_flag (Some l) = stmt_flag l

pub back_clean : (l : Leaving) → Spaced (stmt_flag l) (same false) (come_back l)
back_clean Next = spaced_begun true (same false) (pure 0) (λ s. quiet {A = ℕ} false (same false) 0 s (λ e. e))
back_clean Broke = spaced_begun true (same false) (pure 0) (λ s. quiet {A = ℕ} false (same false) 0 s (λ e. e))
back_clean Continued = spaced_begun true (same false) (pure 0) (λ s. quiet {A = ℕ} false (same false) 0 s (λ e. e))
back_clean (Returned v) = λ s. quiet {A = ℕ} false (same false) v s (λ e. e)

-- ---- what typings say

abbrev pub is_output : ExprLayer → Bool
is_output (ExprKind-F.Output e) = true
is_output _ = false

pub value_typed : (t : Typing) → has_value t ≡ true → is_some t ≡ true
value_typed None e = cc
value_typed (Some t) e = refl

pub type_value : (ty : Ty) (t : Typing) → has_type ty t ≡ true → has_value t ≡ true
type_value ty None e = cc
type_value ty (Some None) e = cc
type_value ty (Some (Some other)) e = refl

pub value_holds : (b : Bool) (ty : Ty) → is_some (value_if b ty) ≡ true → b ≡ true
value_holds true ty e = refl
value_holds false ty e = cc

pub void_holds : (b : Bool) → is_some (void_if b) ≡ true → b ≡ true
void_holds true e = refl
void_holds false e = cc

pub or_holds : (a b : Bool) → (a || b) ≡ true → (a ≡ true) ⊎ (b ≡ true)
or_holds true b e = inl refl
or_holds false b e = inr e

pub if_holds : (c a b : Bool) → (if c then a else b) ≡ true → (a ≡ true) ⊎ (b ≡ true)
if_holds true a b e = inl e
if_holds false a b e = inr e

pub promoted_value : (t : Typing) → has_promoted t ≡ true → has_value t ≡ true
promoted_value t e = by_or (or_holds (has_type I16 t) (has_type U16 t) e)
  where
    by_or : ((has_type I16 t ≡ true) ⊎ (has_type U16 t ≡ true)) → has_value t ≡ true
    by_or (inl h) = type_value I16 t h
    by_or (inr h) = type_value U16 t h

common_values : (a b : Typing) → have_common a b ≡ true → (has_value a ≡ true) × (has_value b ≡ true)
common_values a b e = by_or (or_holds (has_type I16 a && has_type I16 b) (has_type U16 a && has_type U16 b) e)
  where
    by_or : (((has_type I16 a && has_type I16 b) ≡ true) ⊎ ((has_type U16 a && has_type U16 b) ≡ true)) → (has_value a ≡ true) × (has_value b ≡ true)
    by_or (inl h) = (type_value I16 a (and_left (has_type I16 a) (has_type I16 b) h), type_value I16 b (and_right (has_type I16 a) (has_type I16 b) h))
    by_or (inr h) = (type_value U16 a (and_left (has_type U16 a) (has_type U16 b) h), type_value U16 b (and_right (has_type U16 a) (has_type U16 b) h))

pub binary_values : (op : BinaryOp) (a b : Typing) (ty : Ty) → binary_fits op a b ty ≡ true → (has_value a ≡ true) × (has_value b ≡ true)
binary_values op a b ty e = by_test (if_holds (is_test op) _ _ e)
  where
    Goal : Type 0
    Goal = (has_value a ≡ true) × (has_value b ≡ true)

    typed : (is_promoted ty && (has_type ty a && has_type ty b)) ≡ true → Goal
    typed h = let i : (has_type ty a && has_type ty b) ≡ true = and_right (is_promoted ty) (has_type ty a && has_type ty b) h in
        (type_value ty a (and_left (has_type ty a) (has_type ty b) i), type_value ty b (and_right (has_type ty a) (has_type ty b) i))

    by_comparison : (((have_common a b && same_type ty I16) ≡ true) ⊎ ((is_promoted ty && (has_type ty a && has_type ty b)) ≡ true)) → Goal
    by_comparison (inl h) = common_values a b (and_left (have_common a b) (same_type ty I16) h)
    by_comparison (inr h) = typed h

    by_shift : (((is_promoted ty && (has_type ty a && has_promoted b)) ≡ true) ⊎ ((if is_comparison op then (have_common a b && same_type ty I16) else (is_promoted ty && (has_type ty a && has_type ty b))) ≡ true)) → Goal
    by_shift (inl h) = let i : (has_type ty a && has_promoted b) ≡ true = and_right (is_promoted ty) (has_type ty a && has_promoted b) h in
        (type_value ty a (and_left (has_type ty a) (has_promoted b) i), promoted_value b (and_right (has_type ty a) (has_promoted b) i))
    by_shift (inr h) = by_comparison (if_holds (is_comparison op) _ _ h)

    by_test : (((has_value a && (has_value b && same_type ty I16)) ≡ true) ⊎ ((if is_shift op then (is_promoted ty && (has_type ty a && has_promoted b)) else (if is_comparison op then (have_common a b && same_type ty I16) else (is_promoted ty && (has_type ty a && has_type ty b)))) ≡ true)) → Goal
    by_test (inl h) = (and_left (has_value a) (has_value b && same_type ty I16) h, and_left (has_value b) (same_type ty I16) (and_right (has_value a) (has_value b && same_type ty I16) h))
    by_test (inr h) = by_shift (if_holds (is_shift op) _ _ h)

pub unary_value : (op : UnaryOp) (a : Typing) (ty : Ty) → unary_fits op a ty ≡ true → has_value a ≡ true
unary_value unary.Not a ty e = and_left (has_value a) (same_type ty I16) e
unary_value unary.Plus a ty e = type_value ty a (and_right (is_promoted ty) (has_type ty a) e)
unary_value unary.Minus a ty e = type_value ty a (and_right (is_promoted ty) (has_type ty a) e)
unary_value unary.Inv a ty e = type_value ty a (and_right (is_promoted ty) (has_type ty a) e)
