-- Which words are nested too deep: how deep the next token stands, told from what is waited for.
use Rattle.std.proofs.Common.{◌≡◌, ℕ, zero, suc, List, [], ◌∷◌, Option, Some, None, Bool, true, false, not, ◌&&◌, ◌||◌, refl, sym, ap, subst, ◌∙◌, ◌+◌, arith}
use Rattle.c_parse.specs.declared.class.Class.{Class}
use Rattle.c_parse.specs.declared.raw.Raw.{Raw}
use Rattle.c_parse.specs.declared.form.Wait.{Wait}
use Rattle.c_parse.specs.Grammar.{Form, signature, params, param_list, param, declaration, statement, for_first, label, action, target, subscripted, expr, chosen, binary, unary, operand, cast_type, primary, grouped, passed, arguments, type_name, Symbol, token, sub, alternatives, weight}
use Rattle.c_parse.specs.Machine.{want, close, undecided, judged, Delay, opened, called, named, begun, indexed, Late, of_params, of_group, Choice, refuse, take_on, defer, judge, choose, nth, wants, Frame, readings, first_of, Telling, reading, onward, begins_type, tell_opened, tell, nth_reading, late_symbols, verdict, late_rest, State, at, is_spliced, unfolded, turn_taken, turn_chosen, turn_read, turn_told, turn, level}
use Rattle.c_parse.proofs.Beginnings.{empties}
use Rattle.c_parse.proofs.Checks.{kind_fits, kind_fitting}
use Rattle.c_parse.proofs.Truth.{same_number, number_is, implied, both, both_left, both_right}
use Rattle.c_parse.proofs.Sound.{level_wants, no_deeper}

pub or_map : (a b c : Bool) → (a || b) ≡ true → (b ≡ true → c ≡ true) → (a || c) ≡ true
or_map true b c e f = refl
or_map false b c e f = f e

-- forms that stand behind a bracket and nest what it holds
abbrev pub is_inside : Form → Bool
is_inside grouped = true
is_inside subscripted = true
is_inside passed = true
is_inside cast_type = true
is_inside chosen = true
is_inside _ = false

-- forms before whose first token no form begins that nests
abbrev pub is_calm : Form → Bool
is_calm expr = true
is_calm binary = true
is_calm unary = true
is_calm primary = true
is_calm arguments = true
is_calm type_name = true
is_calm signature = true
is_calm (params _) = true
is_calm param_list = true
is_calm param = true
is_calm for_first = true
is_calm declaration = true
is_calm action = true
is_calm target = true
is_calm label = true
is_calm _ = false

abbrev pub calm_symbols : Bool → List Symbol → Bool
calm_symbols end [] = end
calm_symbols end (token class ∷ symbols) = true
calm_symbols end (sub form ∷ symbols) = is_calm form && (not (empties form) || calm_symbols end symbols)

abbrev calm_all : Bool → List (List Symbol) → Bool
calm_all end [] = true
calm_all end (symbols ∷ others) = calm_symbols end symbols && calm_all end others

calm_fitting : (form : Form) → is_calm form ≡ true → calm_all (empties form) (alternatives form) ≡ true
calm_fitting expr e = refl
calm_fitting binary e = refl
calm_fitting unary e = refl
calm_fitting primary e = refl
calm_fitting arguments e = refl
calm_fitting type_name e = refl
calm_fitting signature e = refl
calm_fitting (params _) e = refl
calm_fitting param_list e = refl
calm_fitting param e = refl
calm_fitting for_first e = refl
calm_fitting declaration e = refl
calm_fitting action e = refl
calm_fitting target e = refl
calm_fitting label e = refl
calm_fitting _ e = cc

calm_light : (form : Form) → is_calm form ≡ true → weight form ≡ 0
calm_light (statement _) e = cc
calm_light operand e = cc
calm_light grouped e = cc
calm_light subscripted e = cc
calm_light passed e = cc
calm_light cast_type e = cc
calm_light chosen e = cc
calm_light _ e = refl

calm_at : (end : Bool) (list : List (List Symbol)) (n : ℕ) (ss : List Symbol) → calm_all end list ≡ true → nth list n ≡ Some ss → calm_symbols end ss ≡ true
calm_at end [] n ss e is = cc
calm_at end (first ∷ others) zero ss e is = let same : first ≡ ss = cc in ap (calm_symbols end) (sym same) ∙ both_left (calm_symbols end first) (calm_all end others) e
calm_at end (first ∷ others) (suc n) ss e is = calm_at end others n ss (both_right (calm_symbols end first) (calm_all end others) e) is

-- A token is read before a form begins that nests, or one ends.
abbrev pub calm : List Wait → Bool
calm [] = false
calm (want (token class) ∷ c) = true
calm (want (sub form) ∷ c) = is_calm form && (not (empties form) || calm c)
calm (close form ∷ c) = same_number (weight form) 0 && calm c
calm (judged of_params ∷ c) = true
calm (_ ∷ c) = false

pub calm_wants : (end : Bool) (ss : List Symbol) (c : List Wait) → calm_symbols end ss ≡ true → (end ≡ true → calm c ≡ true) → calm (wants ss c) ≡ true
calm_wants end [] c e f = f e
calm_wants end (token class ∷ ss) c e f = refl
calm_wants end (sub form ∷ ss) c e f =
    both (is_calm form) (not (empties form) || calm (wants ss c)) (both_left (is_calm form) (not (empties form) || calm_symbols end ss) e)
    (or_map (not (empties form)) (calm_symbols end ss) (calm (wants ss c)) (both_right (is_calm form) (not (empties form) || calm_symbols end ss) e) (λ x. calm_wants end ss c x f))

pub record Calm (c : List Wait) (n : ℕ) : Type 0 where
  pub calmly : calm c ≡ true
  pub deep : n ≡ level c

calm_lands : (n : ℕ) (c : List Wait) (vs : List (List Raw)) (c2 : List Wait) (vs2 : List (List Raw)) → Some (at c vs) ≡ Some (at c2 vs2) → Calm c n → Calm c2 n
calm_lands n c vs c2 vs2 e g =
    let s : at c vs ≡ at c2 vs2 = cc in
    let P : State → Type 0 = λ x. Calm x.waits n in subst P s g

zero_weight : (form : Form) → weight form ≡ 0 → same_number (weight form) 0 ≡ true
zero_weight form e = ap (λ w. same_number w 0) e

calm_unfolded : (b : Bool) (form : Form) (ss : List Symbol) (c : List Wait) (vs : List (List Raw)) → is_calm form ≡ true → calm_symbols (empties form) ss ≡ true → (empties form ≡ true → calm c ≡ true)
    → Calm (unfolded b form ss c vs).waits (level c)
calm_unfolded true form ss c vs is e f = record { calmly = calm_wants (empties form) ss c e f; deep = sym (level_wants ss c) }
calm_unfolded false form ss c vs is e f = record {
  calmly = calm_wants (empties form) ss (close form ∷ c) e (λ x. both (same_number (weight form) 0) (calm c) (zero_weight form (calm_light form is)) (f x));
  deep = no_deeper (level c) form (calm_light form is) ∙ sym (level_wants ss (close form ∷ c));
}

calm_taken : (told : Option (List Symbol)) (n : ℕ) (form : Form) (c : List Wait) (vs : List (List Raw)) (c2 : List Wait) (vs2 : List (List Raw)) → nth (alternatives form) n ≡ told → turn_taken told form c vs ≡ Some (at c2 vs2)
    → is_calm form ≡ true → (empties form ≡ true → calm c ≡ true) → Calm c2 (level c)
calm_taken None n form c vs c2 vs2 is e calm_is f = cc
calm_taken (Some ss) n form c vs c2 vs2 is e calm_is f =
    calm_lands (level c) _ _ c2 vs2 e (calm_unfolded (is_spliced form) form ss c vs calm_is (calm_at (empties form) (alternatives form) n ss (calm_fitting form calm_is) is) f)

calm_first : (delay : Delay) (form : Form) (c : List Wait) → kind_fits form (defer delay) ≡ true → calm (want (first_of delay) ∷ undecided delay ∷ c) ≡ true
calm_first opened form c e = refl
calm_first called form c e = refl
calm_first named form c e = refl
calm_first begun form c e = refl
calm_first indexed form c e = cc

calm_late : (late : Late) (c : List Wait) → Calm (wants (late_symbols late) (judged late ∷ c)) (level c)
calm_late of_params c = record { calmly = refl; deep = refl }
calm_late (of_group within) c = record { calmly = refl; deep = refl }

calm_chosen : (told : Choice) (form : Form) (c : List Wait) (vs : List (List Raw)) (c2 : List Wait) (vs2 : List (List Raw)) → kind_fits form told ≡ true → turn_chosen told form c vs ≡ Some (at c2 vs2)
    → is_calm form ≡ true → (empties form ≡ true → calm c ≡ true) → Calm c2 (level c)
calm_chosen refuse form c vs c2 vs2 fit e is f = cc
calm_chosen (take_on n) form c vs c2 vs2 fit e is f = calm_taken (nth (alternatives form) n) n form c vs c2 vs2 refl e is f
calm_chosen (defer delay) form c vs c2 vs2 fit e is f = calm_lands (level c) _ _ c2 vs2 e (record { calmly = calm_first delay form c fit; deep = refl })
calm_chosen (judge late) form c vs c2 vs2 fit e is f = calm_lands (level c) _ _ c2 vs2 e (calm_late late c)

calm_turn : (c : List Wait) (vs : List (List Raw)) (look : Option Class) (c2 : List Wait) (vs2 : List (List Raw)) → turn c vs look ≡ Some (at c2 vs2) → calm c ≡ true → Calm c2 (level c)
calm_turn (want (sub form) ∷ c) vs look c2 vs2 e is =
    calm_chosen (choose form look) form c vs c2 vs2 (kind_fitting form look) e (both_left (is_calm form) (not (empties form) || calm c) is) (implied (empties form) (calm c) (both_right (is_calm form) (not (empties form) || calm c) is))
calm_turn (close form ∷ c) (parts ∷ top ∷ vs) look c2 vs2 e is =
    let light : weight form ≡ 0 = number_is (weight form) 0 (both_left (same_number (weight form) 0) (calm c) is) in
    calm_lands (level c + weight form) _ _ c2 vs2 e (record { calmly = both_right (same_number (weight form) 0) (calm c) is; deep = sym (no_deeper (level c) form light) })
calm_turn (judged of_params ∷ c) (parts ∷ top ∷ vs) look c2 vs2 e is = calm_lands (level c) _ _ c2 vs2 e (record { calmly = refl; deep = sym (level_wants (late_rest of_params (verdict of_params parts)) c) })
calm_turn _ vs look c2 vs2 e is = cc

-- What a form behind a bracket is.
pub record Inside (form : Form) : Type 0 where
  pub taken : (look : Option Class) → choose form look ≡ take_on 0
  pub symbols : List Symbol
  pub first : nth (alternatives form) 0 ≡ Some symbols
  pub quiet : calm_symbols false symbols ≡ true
  pub heavy : weight form ≡ 1
  pub bound : is_spliced form ≡ false

pub inside_of : (form : Form) → is_inside form ≡ true → Inside form
inside_of grouped e = record { taken = λ look. refl; symbols = _; first = refl; quiet = refl; heavy = refl; bound = refl }
inside_of subscripted e = record { taken = λ look. refl; symbols = _; first = refl; quiet = refl; heavy = refl; bound = refl }
inside_of passed e = record { taken = λ look. refl; symbols = _; first = refl; quiet = refl; heavy = refl; bound = refl }
inside_of cast_type e = record { taken = λ look. refl; symbols = _; first = refl; quiet = refl; heavy = refl; bound = refl }
inside_of chosen e = record { taken = λ look. refl; symbols = _; first = refl; quiet = refl; heavy = refl; bound = refl }
inside_of _ e = cc

pub inside_turn : (form : Form) (c : List Wait) (vs : List (List Raw)) (look : Option Class) (i : Inside form) → turn (want (sub form) ∷ c) vs look ≡ Some (at (wants i.symbols (close form ∷ c)) ([] ∷ vs))
inside_turn form c vs look i =
    ap (λ t. turn_chosen t form c vs) (i.taken look) ∙ ap (λ t. turn_taken t form c vs) i.first ∙ ap (λ b. Some (unfolded b form i.symbols c vs)) i.bound

-- The next token, whichever it is, stands this deep.
pub data Ready (c : List Wait) (n : ℕ) : Type 0 where
  inside : (form : Form) (rest : List Wait) → is_inside form ≡ true → c ≡ want (sub form) ∷ rest → n ≡ level rest + 1 → Ready c n
  unopened : (rest : List Wait) → c ≡ undecided opened ∷ rest → n ≡ level rest + 1 → Ready c n
  calmly : Calm c n → Ready c n

ready_lands : (n : ℕ) (c : List Wait) (vs : List (List Raw)) (c2 : List Wait) (vs2 : List (List Raw)) → Some (at c vs) ≡ Some (at c2 vs2) → Ready c n → Ready c2 n
ready_lands n c vs c2 vs2 e g =
    let s : at c vs ≡ at c2 vs2 = cc in
    let P : State → Type 0 = λ x. Ready x.waits n in subst P s g

ready_inside : (form : Form) (c : List Wait) (vs : List (List Raw)) (look : Option Class) (c2 : List Wait) (vs2 : List (List Raw)) → is_inside form ≡ true → turn (want (sub form) ∷ c) vs look ≡ Some (at c2 vs2) → Ready c2 (level c + 1)
ready_inside form c vs look c2 vs2 e is =
    let i : Inside form = inside_of form e in
    let deeper : level c + 1 ≡ level (wants i.symbols (close form ∷ c)) = ap (λ w. level c + w) (sym i.heavy) ∙ sym (level_wants i.symbols (close form ∷ c)) in
    ready_lands (level c + 1) (wants i.symbols (close form ∷ c)) ([] ∷ vs) c2 vs2 (sym (inside_turn form c vs look i) ∙ is)
    (calmly (record { calmly = calm_wants false i.symbols (close form ∷ c) i.quiet (λ x. cc); deep = deeper }))

ready_reading : (told : Option (List Frame)) (n : ℕ) (c : List Wait) (parts : List Raw) (vs : List (List Raw)) (c2 : List Wait) (vs2 : List (List Raw)) → nth_reading (readings opened) n ≡ told
    → turn_read told c parts vs ≡ Some (at c2 vs2) → Ready c2 (level c + 1)
ready_reading told zero c parts vs c2 vs2 is e =
    let same : turn_read told c parts vs ≡ turn_read (nth_reading (readings opened) 0) c parts vs = ap (λ t. turn_read t c parts vs) (sym is) in
    ready_lands (level c + 1) _ _ c2 vs2 (sym same ∙ e) (inside cast_type (want (sub operand) ∷ close unary ∷ c) refl refl (omega arith))
ready_reading told (suc zero) c parts vs c2 vs2 is e =
    let same : turn_read told c parts vs ≡ turn_read (nth_reading (readings opened) 1) c parts vs = ap (λ t. turn_read t c parts vs) (sym is) in
    ready_lands (level c + 1) _ _ c2 vs2 (sym same ∙ e) (inside grouped (close primary ∷ close unary ∷ c) refl refl (omega arith))
ready_reading told (suc (suc n)) c parts vs c2 vs2 is e = cc

ready_told : (told : Telling) (look : Option Class) (c : List Wait) (parts : List Raw) (vs : List (List Raw)) (c2 : List Wait) (vs2 : List (List Raw)) → tell opened look ≡ told → turn_told told opened c parts vs ≡ Some (at c2 vs2) → Ready c2 (level c + 1)
ready_told (reading n) look c parts vs c2 vs2 is e = ready_reading (nth_reading (readings opened) n) n c parts vs c2 vs2 refl e
ready_told (onward next) look c parts vs c2 vs2 is e = absurd (no_onward (begins_type look) next is)
  where
    no_onward : (b : Bool) (next : Delay) → tell_opened b ≡ onward next → ⊥
    no_onward true next e = cc
    no_onward false next e = cc

ready_opened : (c : List Wait) (vs : List (List Raw)) (look : Option Class) (c2 : List Wait) (vs2 : List (List Raw)) → turn (undecided opened ∷ c) vs look ≡ Some (at c2 vs2) → Ready c2 (level c + 1)
ready_opened c [] look c2 vs2 e = cc
ready_opened c (parts ∷ vs) look c2 vs2 e = ready_told (tell opened look) look c parts vs c2 vs2 refl e

pub ready_turn : (n : ℕ) (c : List Wait) (vs : List (List Raw)) (look : Option Class) (c2 : List Wait) (vs2 : List (List Raw)) → Ready c n → turn c vs look ≡ Some (at c2 vs2) → Ready c2 n
ready_turn n c vs look c2 vs2 (inside form rest e is deep) t =
    let P : ℕ → Type 0 = λ m. Ready c2 m in
    subst P (sym deep) (ready_inside form rest vs look c2 vs2 e (sym (ap (λ w. turn w vs look) is) ∙ t))
ready_turn n c vs look c2 vs2 (unopened rest is deep) t =
    let P : ℕ → Type 0 = λ m. Ready c2 m in
    subst P (sym deep) (ready_opened rest vs look c2 vs2 (sym (ap (λ w. turn w vs look) is) ∙ t))
ready_turn n c vs look c2 vs2 (calmly so) t =
    let P : ℕ → Type 0 = λ m. Calm c2 m in
    calmly (subst P (sym so.deep) (calm_turn c vs look c2 vs2 t so.calmly))
