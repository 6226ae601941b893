-- How many turns are left at most before a token is read: each turn leaves fewer.
use Rattle.std.proofs.Common.{◌≡◌, ◌<◌, ◌≤◌, ◌+◌, ℕ, zero, suc, List, [], ◌∷◌, Option, Some, Bool, true, false, ◌&&◌, cond, refl, subst, arith}
use Rattle.c_parse.specs.declared.class.Class.{Class}
use Rattle.c_parse.specs.declared.class.Class.TheVariants.{Open, Equals}
use Rattle.c_parse.specs.declared.raw.Raw.{Raw}
use Rattle.c_parse.specs.declared.form.Wait.{Wait}
use Rattle.c_parse.specs.Grammar.{in_body, in_switch, in_loop, Form, program, externals, external, unstatic, titled, signature, ending, params, param_list, param, declarators, next_value, items, item, declaration, statement, returned, for_first, tested, stepped, groups, group, labelled, action, expr, binary, unary, operand, grouped, subscripted, cast_type, chosen, arguments, passed, Symbol, token, sub, alternatives}
use Rattle.c_parse.specs.Machine.{begins_type, Choice, refuse, take_on, defer, judge, choose, nth, want, close, undecided, judged, Delay, opened, called, named, begun, indexed, of_params, of_group, wants, readings, nth_reading, Telling, reading, onward, tell_call, tell_opened, tell_indexed, tell, State, at, is_spliced, unfolded, turn_taken, turn_chosen, turn_read, turn_told, turn}
use Rattle.c_parse.proofs.Beginnings.{empties}
use Rattle.c_parse.proofs.Checks.{vanish, is_judging, kind_fits, kind_fitting}
use Rattle.c_parse.proofs.Truth.{below, implies, both_left, both_right}

-- How many turns a form takes at most to its first token, twice over.
abbrev pub rank : Form → ℕ
rank program = 10
rank externals = 8
rank external = 6
rank unstatic = 4
rank titled = 6
rank signature = 10
rank (ending _) = 4
rank (params _) = 8
rank param_list = 6
rank param = 4
rank declarators = 4
rank next_value = 10
rank (items _) = 16
rank (item _) = 14
rank declaration = 4
rank (statement _) = 12
rank returned = 10
rank for_first = 12
rank tested = 10
rank stepped = 12
rank (groups _ _) = 10
rank (group _ _) = 4
rank (labelled _) = 16
rank action = 10
rank expr = 8
rank binary = 6
rank unary = 4
rank operand = 6
rank grouped = 10
rank subscripted = 10
rank cast_type = 4
rank chosen = 10
rank arguments = 10
rank passed = 12
rank _ = 2

-- the same of symbols, to their first token
abbrev pub weight : List Symbol → ℕ
weight [] = 0
weight (token _ ∷ symbols) = 0
weight (sub form ∷ symbols) = rank form + cond (empties form) (weight symbols) 0

abbrev pub ranked_one : Form → List Symbol → Bool
ranked_one form symbols = below (1 + weight symbols) (rank form) && implies (vanish symbols) (empties form)

abbrev pub ranked_all : Form → List (List Symbol) → Bool
ranked_all form [] = true
ranked_all form (symbols ∷ others) = ranked_one form symbols && ranked_all form others

ranked : (form : Form) → ranked_all form (alternatives form) ≡ true
ranked (ending true) = refl
ranked (ending false) = refl
ranked (statement in_body) = refl
ranked (statement in_switch) = refl
ranked (statement in_loop) = refl
ranked (groups within true) = refl
ranked (groups within false) = refl
ranked _ = refl

abbrev pub effort : List Wait → ℕ
effort [] = 0
effort (want (token _) ∷ c) = 0
effort (want (sub form) ∷ c) = rank form + cond (empties form) (effort c) 0
effort (close _ ∷ c) = 1 + effort c
effort (undecided begun ∷ c) = 40 + effort c
effort (undecided _ ∷ c) = 20 + effort c
effort (judged of_params ∷ c) = 1
effort (judged (of_group _) ∷ c) = 20 + effort c

below_less : (m n : ℕ) → below m n ≡ true → m < n
below_less m zero e = cc
below_less zero (suc n) e = omega arith
below_less (suc m) (suc n) e = let less : m < n = below_less m n e in omega arith

weighs : (symbols : List Symbol) (c : List Wait) → effort (wants symbols c) ≡ weight symbols + cond (vanish symbols) (effort c) 0
weighs [] c = omega arith
weighs (token _ ∷ symbols) c = refl
weighs (sub form ∷ symbols) c = by_first (empties form) (vanish symbols) (rank form) (effort (wants symbols c)) (weight symbols) (effort c) (weighs symbols c)
  where
    by_first : (empty left : Bool) (r e w x : ℕ) → e ≡ w + cond left x 0 → r + cond empty e 0 ≡ (r + cond empty w 0) + cond (empty && left) x 0
    by_first true left r e w x is = omega arith
    by_first false left r e w x is = omega arith

less_by : (left empty : Bool) (w r x y : ℕ) → 1 + w < r → implies left empty ≡ true → y ≤ 1 + x → w + cond left y 0 < r + cond empty x 0
less_by true true w r x y less e le = omega arith
less_by true false w r x y less e le = cc
less_by false true w r x y less e le = omega arith
less_by false false w r x y less e le = omega arith

less_unfolded : (splices : Bool) (form : Form) (symbols : List Symbol) (c : List Wait) (vs : List (List Raw)) → ranked_one form symbols ≡ true
    → effort (unfolded splices form symbols c vs).waits < rank form + cond (empties form) (effort c) 0
less_unfolded true form symbols c vs fit =
    let less : 1 + weight symbols < rank form = below_less _ _ (both_left _ _ fit) in
    rw (weighs symbols c) (less_by (vanish symbols) (empties form) (weight symbols) (rank form) (effort c) (effort c) less (both_right _ _ fit) (omega arith))
less_unfolded false form symbols c vs fit =
    let less : 1 + weight symbols < rank form = below_less _ _ (both_left _ _ fit) in
    rw (weighs symbols (close form ∷ c)) (less_by (vanish symbols) (empties form) (weight symbols) (rank form) (effort c) (1 + effort c) less (both_right _ _ fit) (omega arith))

less_lands : (s : State) (c2 : List Wait) (vs2 : List (List Raw)) (n : ℕ) → Some s ≡ Some (at c2 vs2) → effort s.waits < n → effort c2 < n
less_lands s c2 vs2 n e less = let same : s ≡ at c2 vs2 = cc in let P : State → Type 0 = λ x. effort x.waits < n in subst P same less

less_nth : (form : Form) (list : List (List Symbol)) (n : ℕ) (c : List Wait) (vs : List (List Raw)) (c2 : List Wait) (vs2 : List (List Raw))
    → ranked_all form list ≡ true → turn_taken (nth list n) form c vs ≡ Some (at c2 vs2) → effort c2 < rank form + cond (empties form) (effort c) 0
less_nth form [] n c vs c2 vs2 fit e = cc
less_nth form (symbols ∷ others) zero c vs c2 vs2 fit e =
    less_lands (unfolded (is_spliced form) form symbols c vs) c2 vs2 _ e (less_unfolded (is_spliced form) form symbols c vs (both_left _ _ fit))
less_nth form (symbols ∷ others) (suc n) c vs c2 vs2 fit e = less_nth form others n c vs c2 vs2 (both_right (ranked_one form symbols) _ fit) e

rank_some : (form : Form) → 0 < rank form
rank_some program = omega arith
rank_some _ = omega arith

judging_rank : (form : Form) → is_judging form ≡ true → 9 < rank form
judging_rank signature e = omega arith
judging_rank (groups within true) e = omega arith
judging_rank _ e = cc

some_less : (r x : ℕ) (b : Bool) → 0 < r → 0 < r + cond b x 0
some_less r x true less = omega arith
some_less r x false less = omega arith

nine_less : (r x n : ℕ) (b : Bool) → 9 < r → n ≤ 9 → n < r + cond b x 0
nine_less r x n true less le = omega arith
nine_less r x n false less le = omega arith

less_chosen : (told : Choice) (form : Form) (c : List Wait) (vs : List (List Raw)) (c2 : List Wait) (vs2 : List (List Raw))
    → kind_fits form told ≡ true → turn_chosen told form c vs ≡ Some (at c2 vs2) → effort c2 < rank form + cond (empties form) (effort c) 0
less_chosen refuse form c vs c2 vs2 fit e = cc
less_chosen (take_on n) form c vs c2 vs2 fit e = less_nth form (alternatives form) n c vs c2 vs2 (ranked form) e
less_chosen (defer opened) form c vs c2 vs2 fit e = less_lands _ c2 vs2 _ e (some_less (rank form) (effort c) (empties form) (rank_some form))
less_chosen (defer called) form c vs c2 vs2 fit e = less_lands _ c2 vs2 _ e (some_less (rank form) (effort c) (empties form) (rank_some form))
less_chosen (defer named) form c vs c2 vs2 fit e = less_lands _ c2 vs2 _ e (some_less (rank form) (effort c) (empties form) (rank_some form))
less_chosen (defer begun) form c vs c2 vs2 fit e = less_lands _ c2 vs2 _ e (some_less (rank form) (effort c) (empties form) (rank_some form))
less_chosen (defer indexed) form c vs c2 vs2 fit e = cc
less_chosen (judge of_params) form c vs c2 vs2 fit e = less_lands _ c2 vs2 _ e (nine_less (rank form) (effort c) 7 (empties form) (judging_rank form fit) (omega arith))
less_chosen (judge (of_group within)) form c vs c2 vs2 fit e = less_lands _ c2 vs2 _ e (nine_less (rank form) (effort c) 2 (empties form) (judging_rank form fit) (omega arith))

-- A reading leaves fewer, whichever it is.
less_read : (delay : Delay) (n : ℕ) (c : List Wait) (parts : List Raw) (vs : List (List Raw)) (c2 : List Wait) (vs2 : List (List Raw))
    → turn_read (nth_reading (readings delay) n) c parts vs ≡ Some (at c2 vs2) → effort c2 < 20 + effort c
less_read opened zero c parts vs c2 vs2 e = less_lands _ c2 vs2 _ e (omega arith)
less_read opened (suc zero) c parts vs c2 vs2 e = less_lands _ c2 vs2 _ e (omega arith)
less_read opened (suc (suc n)) c parts vs c2 vs2 e = cc
less_read called zero c parts vs c2 vs2 e = less_lands _ c2 vs2 _ e (omega arith)
less_read called (suc zero) c parts vs c2 vs2 e = less_lands _ c2 vs2 _ e (omega arith)
less_read called (suc (suc n)) c parts vs c2 vs2 e = cc
less_read named zero c parts vs c2 vs2 e = less_lands _ c2 vs2 _ e (omega arith)
less_read named (suc zero) c parts vs c2 vs2 e = less_lands _ c2 vs2 _ e (omega arith)
less_read named (suc (suc n)) c parts vs c2 vs2 e = cc
less_read begun zero c parts vs c2 vs2 e = less_lands _ c2 vs2 _ e (omega arith)
less_read begun (suc zero) c parts vs c2 vs2 e = less_lands _ c2 vs2 _ e (omega arith)
less_read begun (suc (suc zero)) c parts vs c2 vs2 e = less_lands _ c2 vs2 _ e (omega arith)
less_read begun (suc (suc (suc zero))) c parts vs c2 vs2 e = less_lands _ c2 vs2 _ e (omega arith)
less_read begun (suc (suc (suc (suc n)))) c parts vs c2 vs2 e = cc
less_read indexed zero c parts vs c2 vs2 e = less_lands _ c2 vs2 _ e (omega arith)
less_read indexed (suc zero) c parts vs c2 vs2 e = less_lands _ c2 vs2 _ e (omega arith)
less_read indexed (suc (suc zero)) c parts vs c2 vs2 e = less_lands _ c2 vs2 _ e (omega arith)
less_read indexed (suc (suc (suc n))) c parts vs c2 vs2 e = cc

-- Only an action's name is followed by its index before it is told.
abbrev leads_on : Delay → Telling → Bool
leads_on delay (reading n) = true
leads_on begun (onward indexed) = true
leads_on _ _ = false

call_leads : (delay : Delay) (call : ℕ) (other : Telling) (look : Option Class) → leads_on delay other ≡ true → leads_on delay (tell_call call other look) ≡ true
call_leads delay call other (Some Open) e = refl
call_leads delay call other _ e = e

opened_leads : (b : Bool) → leads_on opened (tell_opened b) ≡ true
opened_leads true = refl
opened_leads false = refl

indexed_leads : (look : Option Class) → leads_on indexed (tell_indexed look) ≡ true
indexed_leads (Some Equals) = refl
indexed_leads _ = refl

told_leads : (delay : Delay) (look : Option Class) → leads_on delay (tell delay look) ≡ true
told_leads opened look = opened_leads (begins_type look)
told_leads called look = call_leads called 1 (reading 0) look refl
told_leads named look = call_leads named 0 (reading 1) look refl
told_leads begun look = call_leads begun 3 (onward indexed) look refl
told_leads indexed look = indexed_leads look

room_left : (delay : Delay) (c : List Wait) (n : ℕ) → n < 20 + effort c → n < effort (undecided delay ∷ c)
room_left begun c n less = omega arith
room_left _ c n less = less

less_told : (delay : Delay) (told : Telling) (c : List Wait) (parts : List Raw) (vs : List (List Raw)) (c2 : List Wait) (vs2 : List (List Raw))
    → leads_on delay told ≡ true → turn_told told delay c parts vs ≡ Some (at c2 vs2) → effort c2 < effort (undecided delay ∷ c)
less_told delay (reading n) c parts vs c2 vs2 leads e = room_left delay c _ (less_read delay n c parts vs c2 vs2 e)
less_told begun (onward indexed) c parts vs c2 vs2 leads e = less_lands _ c2 vs2 _ e (omega arith)
less_told _ _ c parts vs c2 vs2 leads e = cc

-- Each turn leaves fewer.
pub less_turn : (c : List Wait) (vs : List (List Raw)) (look : Option Class) (c2 : List Wait) (vs2 : List (List Raw)) → turn c vs look ≡ Some (at c2 vs2) → effort c2 < effort c
less_turn (want (sub form) ∷ c) vs look c2 vs2 e = less_chosen (choose form look) form c vs c2 vs2 (kind_fitting form look) e
less_turn (close form ∷ c) (parts ∷ top ∷ vs) look c2 vs2 e = less_lands _ c2 vs2 _ e (omega arith)
less_turn (undecided delay ∷ c) (parts ∷ vs) look c2 vs2 e = less_told delay (tell delay look) c parts vs c2 vs2 (told_leads delay look) e
less_turn (judged of_params ∷ c) (parts ∷ top ∷ vs) look c2 vs2 e = less_lands _ c2 vs2 _ e (omega arith)
less_turn (judged (of_group within) ∷ c) (parts ∷ top ∷ vs) look c2 vs2 e = less_lands _ c2 vs2 _ e (omega arith)
less_turn _ _ look c2 vs2 e = cc
