-- Where no bracket was read last, nothing that nests has begun at a token that fits nothing.
use Rattle.std.proofs.Common.{◌≡◌, ◌<◌, ◌≤◌, ℕ, zero, suc, List, [], ◌∷◌, Option, Some, None, Bool, true, false, not, ◌&&◌, ◌||◌, refl, sym, ap, subst, ◌∙◌, ◌+◌, arith}
use Rattle.std.proofs.lemmas.Grind.{common_steps}
use Rattle.c_parse.specs.declared.class.Class.{Class}
use Rattle.c_parse.specs.declared.raw.Raw.{Raw}
use Rattle.c_parse.specs.declared.form.Wait.{Wait}
use Rattle.c_parse.specs.Grammar.{in_body, in_switch, in_loop, Form, block, statement, action, target, subscripted, expr, chosen, binary, unary, operand, cast_type, primary, grouped, passed, Symbol, token, sub, alternatives, weight, Word, Nested, nested_at}
use Rattle.c_parse.specs.Machine.{want, close, undecided, judged, Delay, opened, called, named, begun, indexed, Choice, refuse, take_on, defer, judge, is_chosen, choose, nth, wants, Frame, frame, readings, first_of, Telling, reading, onward, tell, nth_reading, opens, late_symbols, verdict, late_rest, State, at, is_spliced, unfolded, turn_taken, turn_chosen, turn_read, turn_told, turn, level, turns, shift}
use Rattle.c_parse.specs.Steps.{Stuck}
use Rattle.c_parse.proofs.Beginnings.{begins}
use Rattle.c_parse.proofs.EachClass.{number_of, numbered, classes, class_at, every, every_look, same_class, each_class, each_look}
use Rattle.c_parse.proofs.Truth.{implies, same_number, number_is, implied, both_left, both_right}
use Rattle.c_parse.proofs.Sound.{level_wants, no_deeper}
use Rattle.c_parse.proofs.Viable.{Good, deep, deep_some}
use Rattle.c_parse.proofs.Depth.{is_inside}
use Rattle.c_parse.proofs.Bracketed.{spaced}

-- forms that begin only with a token with which they go on
abbrev pub is_sure : Form → Bool
is_sure (statement _) = true
is_sure (block _) = true
is_sure action = true
is_sure target = true
is_sure expr = true
is_sure binary = true
is_sure unary = true
is_sure operand = true
is_sure primary = true
is_sure _ = false

abbrev begins_first : Class → List Symbol → Bool
begins_first class [] = false
begins_first class (token other ∷ _) = same_class other class
begins_first class (sub form ∷ _) = is_sure form && begins form class

abbrev first_at : Option (List Symbol) → Class → Bool
first_at None class = false
first_at (Some ss) class = begins_first class ss

abbrev promised_by : Form → Class → Choice → Bool
promised_by form class (take_on n) = first_at (nth (alternatives form) n) class
promised_by form class (defer delay) = begins_first class (first_of delay ∷ [])
promised_by form class _ = false

abbrev sure_fits : Form → Bool
sure_fits form = every (λ class. implies (begins form class) (promised_by form class (choose form (Some class))))

sure_fitting : (form : Form) → is_sure form ≡ true → sure_fits form ≡ true
sure_fitting (statement in_body) e = refl
sure_fitting (statement in_switch) e = refl
sure_fitting (statement in_loop) e = refl
sure_fitting (block _) e = refl
sure_fitting action e = refl
sure_fitting target e = refl
sure_fitting expr e = refl
sure_fitting binary e = refl
sure_fitting unary e = refl
sure_fitting operand e = refl
sure_fitting primary e = refl
sure_fitting _ e = cc

-- forms that nest and stand behind no bracket
abbrev is_begun : Form → Bool
is_begun (statement _) = true
is_begun operand = true
is_begun _ = false

abbrev begins_look : Form → Option Class → Bool
begins_look form None = false
begins_look form (Some class) = begins form class

-- They are chosen only at a token with which they begin.
abbrev chosen_fits : Form → Bool
chosen_fits form = every_look (λ look. implies (is_chosen (choose form look)) (begins_look form look))

chosen_fitting : (form : Form) → is_begun form ≡ true → chosen_fits form ≡ true
chosen_fitting (statement in_body) e = refl
chosen_fitting (statement in_switch) e = refl
chosen_fitting (statement in_loop) e = refl
chosen_fitting operand e = refl
chosen_fitting _ e = cc

begun_sure : (form : Form) → is_begun form ≡ true → is_sure form ≡ true
begun_sure (statement _) e = refl
begun_sure operand e = refl
begun_sure _ e = cc

light_else : (form : Form) → is_begun form ≡ false → is_inside form ≡ false → weight form ≡ 0
light_else (statement _) e f = cc
light_else operand e f = cc
light_else grouped e f = cc
light_else subscripted e f = cc
light_else passed e f = cc
light_else cast_type e f = cc
light_else chosen e f = cc
light_else _ e f = refl

-- A token of this class is read next.
abbrev pub promised : Class → List Wait → Bool
promised class (want (token other) ∷ _) = same_class other class
promised class (want (sub form) ∷ _) = is_sure form && begins form class
promised class _ = false

-- No deeper than this, or a token of this class is read next.
pub data Bounded (base : ℕ) (class : Class) (c : List Wait) : Type 0 where
  low : level c ≤ base → Bounded base class c
  due : promised class c ≡ true → Bounded base class c

bounded_lands : (base : ℕ) (class : Class) (c : List Wait) (vs : List (List Raw)) (c2 : List Wait) (vs2 : List (List Raw)) → Some (at c vs) ≡ Some (at c2 vs2) → Bounded base class c → Bounded base class c2
bounded_lands base class c vs c2 vs2 e g =
    let s : at c vs ≡ at c2 vs2 = cc in
    let P : State → Type 0 = λ x. Bounded base class x.waits in subst P s g

promised_wants : (class : Class) (ss : List Symbol) (c : List Wait) → begins_first class ss ≡ true → promised class (wants ss c) ≡ true
promised_wants class [] c e = cc
promised_wants class (token other ∷ ss) c e = e
promised_wants class (sub form ∷ ss) c e = e

due_unfolded : (b : Bool) (base : ℕ) (class : Class) (form : Form) (ss : List Symbol) (c : List Wait) (vs : List (List Raw)) → begins_first class ss ≡ true → Bounded base class (unfolded b form ss c vs).waits
due_unfolded true base class form ss c vs e = due (promised_wants class ss c e)
due_unfolded false base class form ss c vs e = due (promised_wants class ss (close form ∷ c) e)

due_taken : (base : ℕ) (class : Class) (told : Option (List Symbol)) (form : Form) (c : List Wait) (vs : List (List Raw)) (c2 : List Wait) (vs2 : List (List Raw)) → first_at told class ≡ true
    → turn_taken told form c vs ≡ Some (at c2 vs2) → Bounded base class c2
due_taken base class None form c vs c2 vs2 p e = cc
due_taken base class (Some ss) form c vs c2 vs2 p e = bounded_lands base class _ _ c2 vs2 e (due_unfolded (is_spliced form) base class form ss c vs p)

due_chosen : (base : ℕ) (class : Class) (told : Choice) (form : Form) (c : List Wait) (vs : List (List Raw)) (c2 : List Wait) (vs2 : List (List Raw)) → promised_by form class told ≡ true
    → turn_chosen told form c vs ≡ Some (at c2 vs2) → Bounded base class c2
due_chosen base class refuse form c vs c2 vs2 p e = cc
due_chosen base class (take_on n) form c vs c2 vs2 p e = due_taken base class (nth (alternatives form) n) form c vs c2 vs2 p e
due_chosen base class (defer delay) form c vs c2 vs2 p e = bounded_lands base class _ _ c2 vs2 e (due (promised_wants class (first_of delay ∷ []) (undecided delay ∷ c) p))
due_chosen base class (judge late) form c vs c2 vs2 p e = cc

promise : (form : Form) (class : Class) → is_sure form ≡ true → begins form class ≡ true → promised_by form class (choose form (Some class)) ≡ true
promise form class sure e =
    implied (begins form class) (promised_by form class (choose form (Some class)))
    (each_class (λ k. implies (begins form k) (promised_by form k (choose form (Some k)))) (sure_fitting form sure) class) e

due_turn : (base : ℕ) (class : Class) (c : List Wait) (vs : List (List Raw)) (c2 : List Wait) (vs2 : List (List Raw)) → promised class c ≡ true → turn c vs (Some class) ≡ Some (at c2 vs2) → Bounded base class c2
due_turn base class (want (sub form) ∷ c) vs c2 vs2 p e =
    due_chosen base class (choose form (Some class)) form c vs c2 vs2 (promise form class (both_left (is_sure form) (begins form class) p) (both_right (is_sure form) (begins form class) p)) e
due_turn base class _ vs c2 vs2 p e = cc

low_unfolded : (b : Bool) (base : ℕ) (class : Class) (form : Form) (ss : List Symbol) (c : List Wait) (vs : List (List Raw)) → weight form ≡ 0 → level c ≤ base → Bounded base class (unfolded b form ss c vs).waits
low_unfolded true base class form ss c vs light le = low (let e : level (wants ss c) ≡ level c = level_wants ss c in omega arith)
low_unfolded false base class form ss c vs light le =
    low (let e : level (wants ss (close form ∷ c)) ≡ level c = level_wants ss (close form ∷ c) ∙ sym (no_deeper (level c) form light) in omega arith)

low_taken : (base : ℕ) (class : Class) (told : Option (List Symbol)) (form : Form) (c : List Wait) (vs : List (List Raw)) (c2 : List Wait) (vs2 : List (List Raw)) → weight form ≡ 0 → level c ≤ base
    → turn_taken told form c vs ≡ Some (at c2 vs2) → Bounded base class c2
low_taken base class None form c vs c2 vs2 light le e = cc
low_taken base class (Some ss) form c vs c2 vs2 light le e = bounded_lands base class _ _ c2 vs2 e (low_unfolded (is_spliced form) base class form ss c vs light le)

low_chosen : (base : ℕ) (class : Class) (told : Choice) (form : Form) (c : List Wait) (vs : List (List Raw)) (c2 : List Wait) (vs2 : List (List Raw)) → weight form ≡ 0 → level c ≤ base
    → turn_chosen told form c vs ≡ Some (at c2 vs2) → Bounded base class c2
low_chosen base class refuse form c vs c2 vs2 light le e = cc
low_chosen base class (take_on n) form c vs c2 vs2 light le e = low_taken base class (nth (alternatives form) n) form c vs c2 vs2 light le e
low_chosen base class (defer delay) form c vs c2 vs2 light le e = bounded_lands base class _ _ c2 vs2 e (low le)
low_chosen base class (judge late) form c vs c2 vs2 light le e =
    bounded_lands base class _ _ c2 vs2 e (low (let same : level (wants (late_symbols late) (judged late ∷ c)) ≡ level c = level_wants (late_symbols late) (judged late ∷ c) in omega arith))

chosen_so : (told : Choice) (form : Form) (c : List Wait) (vs : List (List Raw)) (c2 : List Wait) (vs2 : List (List Raw)) → turn_chosen told form c vs ≡ Some (at c2 vs2) → is_chosen told ≡ true
chosen_so refuse form c vs c2 vs2 e = cc
chosen_so (take_on n) form c vs c2 vs2 e = refl
chosen_so (defer delay) form c vs c2 vs2 e = refl
chosen_so (judge late) form c vs c2 vs2 e = refl

low_form : (b : Bool) (base : ℕ) (class : Class) (form : Form) (c : List Wait) (vs : List (List Raw)) (c2 : List Wait) (vs2 : List (List Raw)) → is_begun form ≡ b → is_inside form ≡ false → level c ≤ base
    → turn_chosen (choose form (Some class)) form c vs ≡ Some (at c2 vs2) → Bounded base class c2
low_form true base class form c vs c2 vs2 is apart le e =
    let starts_so : begins form class ≡ true =
    implied (is_chosen (choose form (Some class))) (begins form class)
    (each_look (λ look. implies (is_chosen (choose form look)) (begins_look form look)) (chosen_fitting form is) (Some class)) (chosen_so (choose form (Some class)) form c vs c2 vs2 e) in
    due_chosen base class (choose form (Some class)) form c vs c2 vs2 (promise form class (begun_sure form is) starts_so) e
low_form false base class form c vs c2 vs2 is apart le e = low_chosen base class (choose form (Some class)) form c vs c2 vs2 (light_else form is apart) le e

abbrev frames_light : List Frame → Bool
frames_light [] = true
frames_light (frame form rest ∷ frames) = same_number (weight form) 0 && frames_light frames

abbrev all_light : List (List Frame) → Bool
all_light [] = true
all_light (frames ∷ others) = frames_light frames && all_light others

readings_light : (delay : Delay) → all_light (readings delay) ≡ true
readings_light opened = refl
readings_light called = refl
readings_light named = refl
readings_light begun = refl
readings_light indexed = refl

light_at : (list : List (List Frame)) (n : ℕ) (frames : List Frame) → all_light list ≡ true → nth_reading list n ≡ Some frames → frames_light frames ≡ true
light_at [] n frames e is = cc
light_at (first ∷ others) zero frames e is = let same : first ≡ frames = cc in ap frames_light (sym same) ∙ both_left (frames_light first) (all_light others) e
light_at (first ∷ others) (suc n) frames e is = light_at others n frames (both_right (frames_light first) (all_light others) e) is

opens_level : (frames : List Frame) (c : List Wait) → frames_light frames ≡ true → level (opens frames c) ≡ level c
opens_level [] c e = refl
opens_level (frame form rest ∷ frames) c e =
    let light : weight form ≡ 0 = number_is (weight form) 0 (both_left (same_number (weight form) 0) (frames_light frames) e) in
    level_wants rest (close form ∷ opens frames c) ∙ sym (no_deeper (level (opens frames c)) form light) ∙ opens_level frames c (both_right (same_number (weight form) 0) (frames_light frames) e)

-- The readings of a delayed choice nest nothing.
pub reading_level : (delay : Delay) (n : ℕ) (frames : List Frame) (c : List Wait) → nth_reading (readings delay) n ≡ Some frames → level (opens frames c) ≡ level c
reading_level delay n frames c is = opens_level frames c (light_at (readings delay) n frames (readings_light delay) is)

low_read : (base : ℕ) (class : Class) (told : Option (List Frame)) (n : ℕ) (delay : Delay) (c : List Wait) (parts : List Raw) (vs : List (List Raw)) (c2 : List Wait) (vs2 : List (List Raw)) → nth_reading (readings delay) n ≡ told
    → turn_read told c parts vs ≡ Some (at c2 vs2) → level c ≤ base → Bounded base class c2
low_read base class None n delay c parts vs c2 vs2 is e le = cc
low_read base class (Some frames) n delay c parts vs c2 vs2 is e le = bounded_lands base class _ _ c2 vs2 e (low (let same : level (opens frames c) ≡ level c = reading_level delay n frames c is in omega arith))

low_told : (base : ℕ) (class : Class) (told : Telling) (delay : Delay) (c : List Wait) (parts : List Raw) (vs : List (List Raw)) (c2 : List Wait) (vs2 : List (List Raw)) → turn_told told delay c parts vs ≡ Some (at c2 vs2)
    → level c ≤ base → Bounded base class c2
low_told base class (reading n) delay c parts vs c2 vs2 e le = low_read base class (nth_reading (readings delay) n) n delay c parts vs c2 vs2 refl e le
low_told base class (onward next) delay c parts vs c2 vs2 e le = bounded_lands base class _ _ c2 vs2 e (low le)

apart_first : (form : Form) (c : List Wait) → spaced false (want (sub form) ∷ c) ≡ true → is_inside form ≡ false
apart_first form c e = not_bare (is_inside form) (both_left (not (is_inside form) || false) (spaced false c) e)
  where
    not_bare : (b : Bool) → (not b || false) ≡ true → b ≡ false
    not_bare true e = cc
    not_bare false e = refl

low_turn : (base : ℕ) (class : Class) (c : List Wait) (vs : List (List Raw)) (c2 : List Wait) (vs2 : List (List Raw)) → level c ≤ base → spaced false c ≡ true → turn c vs (Some class) ≡ Some (at c2 vs2) → Bounded base class c2
low_turn base class (want (sub form) ∷ c) vs c2 vs2 le apart e = low_form (is_begun form) base class form c vs c2 vs2 refl (apart_first form c apart) le e
low_turn base class (close form ∷ c) (parts ∷ top ∷ vs) c2 vs2 le apart e = bounded_lands base class _ _ c2 vs2 e (low (let q : level c + weight form ≤ base = le in omega arith))
low_turn base class (undecided delay ∷ c) (parts ∷ vs) c2 vs2 le apart e = low_told base class (tell delay (Some class)) delay c parts vs c2 vs2 e le
low_turn base class (judged late ∷ c) (parts ∷ top ∷ vs) c2 vs2 le apart e =
    bounded_lands base class _ _ c2 vs2 e (low (let same : level (wants (late_rest late (verdict late parts)) c) ≡ level c = level_wants (late_rest late (verdict late parts)) c in omega arith))
low_turn base class _ vs c2 vs2 le apart e = cc

pub bounded_turn : (base : ℕ) (class : Class) (c : List Wait) (vs : List (List Raw)) (c2 : List Wait) (vs2 : List (List Raw)) → Bounded base class c → spaced false c ≡ true → turn c vs (Some class) ≡ Some (at c2 vs2) → Bounded base class c2
bounded_turn base class c vs c2 vs2 (low le) apart e = low_turn base class c vs c2 vs2 le apart e
bounded_turn base class c vs c2 vs2 (due p) apart e = due_turn base class c vs c2 vs2 p e

pub same_is : (a b : Class) → same_class a b ≡ true → a ≡ b
same_is a b e =
    let n : number_of a ≡ number_of b = grind (arith, common_steps, e) in
    let s : Some a ≡ Some b = sym (numbered a) ∙ ap (class_at classes) n ∙ numbered b in
    cc

record Turned (told : Choice) (form : Form) (c : List Wait) (vs : List (List Raw)) : Type 0 where
  state : State
  is : turn_chosen told form c vs ≡ Some (at state.waits state.builds)

turned_taken : (told : Option (List Symbol)) (n : ℕ) (form : Form) (class : Class) (c : List Wait) (vs : List (List Raw)) → nth (alternatives form) n ≡ told → first_at told class ≡ true → Turned (take_on n) form c vs
turned_taken None n form class c vs is e = cc
turned_taken (Some ss) n form class c vs is e = record { state = unfolded (is_spliced form) form ss c vs; is = ap (λ t. turn_taken t form c vs) is }

turned : (told : Choice) (form : Form) (class : Class) (c : List Wait) (vs : List (List Raw)) → promised_by form class told ≡ true → Turned told form c vs
turned refuse form class c vs e = cc
turned (take_on n) form class c vs e = turned_taken (nth (alternatives form) n) n form class c vs refl e
turned (defer delay) form class c vs e = record { state = at (want (first_of delay) ∷ undecided delay ∷ c) ([] ∷ vs); is = refl }
turned (judge late) form class c vs e = cc

-- Where a token of the word's class is read next, the machine isn't stuck at it.
pub not_stuck : (word : Word) (c : List Wait) (vs : List (List Raw)) → Good c vs → promised word.class c ≡ true → ((depth : ℕ) (rest : List Nested) → Stuck c vs (nested_at depth word ∷ rest)) → ⊥
not_stuck word (want (token other) ∷ c) [] good p stuck = let some : 0 < deep c = deep_some c in let d : deep c ≡ 0 = good.depth in absurd (omega arith)
not_stuck word (want (token other) ∷ c) (top ∷ vs) good p stuck = stuck (level c) [] _ _ _ (shift other (nested_at (level c) word) c top vs [] (sym (same_is other word.class p)) refl)
not_stuck word (want (sub form) ∷ c) vs good p stuck =
    let t : Turned (choose form (Some word.class)) form c vs =
    turned (choose form (Some word.class)) form word.class c vs (promise form word.class (both_left (is_sure form) (begins form word.class) p) (both_right (is_sure form) (begins form word.class) p)) in
    stuck 0 [] t.state.waits t.state.builds (nested_at 0 word ∷ []) (turns (want (sub form) ∷ c) vs t.state.waits t.state.builds (nested_at 0 word ∷ []) t.is)
not_stuck word _ vs good p stuck = cc
