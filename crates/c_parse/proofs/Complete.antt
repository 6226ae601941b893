-- The machine reads each text of the grammar.
use Rattle.std.proofs.Common.{◌≡◌, ℕ, zero, suc, List, [], ◌∷◌, ◌++◌, Option, Some, None, Bool, true, false, not, ◌&&◌, cond, refl, sym, ap, subst, ◌∙◌, ◌+◌, map, append_assoc, append-nil, arith}
use Rattle.c_parse.specs.declared.class.Class.{Class}
use Rattle.c_parse.specs.declared.class.Class.TheVariants.{Name, Number, Plus, Minus, Complement, Open, Increment}
use Rattle.c_parse.specs.declared.raw.Raw.{Raw}
use Rattle.c_parse.specs.declared.form.Wait.{Wait}
use Rattle.c_parse.specs.Endings.{ends_in_jump, have_names}
use Rattle.c_parse.specs.Grammar.{shape_of, make, Form, program, titled, statement, action, target, subscript, subscripted, assign, expr, chosen, unary, operand, cast_type, primary, grouped, passed, Symbol, token, sub, alternatives, OneOf, here, there, same_answer, allows, weight, Nested, ahead, Derives, leaf, node, DeriveAll, none, more}
use Rattle.c_parse.specs.Machine.{want, close, undecided, judged, Delay, opened, called, named, begun, indexed, Late, of_params, of_group, Choice, refuse, take_on, defer, judge, choose, choose_unary, choose_primary, choose_titled, choose_action, nth, wants, Frame, frame, operand_of_action, readings, first_of, Telling, reading, onward, tell, nth_reading, opens, blanks, without_first, late_form, late_symbols, verdict, late_rest, State, at, is_spliced, unfolded, turn_taken, turn_chosen, turn_read, turn_told, level, Move, turns, shift, Moves, stay, go}
use Rattle.c_parse.proofs.Beginnings.{begins, empties}
use Rattle.c_parse.proofs.Checks.{starts, vanish, comes, may_follow, parted, is_judged, plain, agrees, settled, kind_fits, kind_fitting, rank, is_solid, solid_one, solid_all, solid_fitting, come_in, frames_come, form_of, told_right, tells_reading, tells_from, telling, lefts_of, lefts, all_opened, all_called, all_named, all_begun}
use Rattle.c_parse.proofs.EachClass.{every_look, same_class, each_look, same_self}
use Rattle.c_parse.proofs.Stops.{stops}
use Rattle.c_parse.proofs.Truth.{implies, below, same_number, both_left, both_right, number_is, implied, or_first, or_second, either, both, not_true}
use Rattle.c_parse.proofs.Sound.{ahead_append, Reads, this, later, Deferred, at_open, at_operand, at_title, at_action, deferred_so, Judging, at_signature, at_groups, judging_so, Onward, only_onward, made_spliced, level_wants, no_deeper, spliced_light, late_light}
use Rattle.c_parse.proofs.Fits.{FitsAt, Listed, listed, Begun, Leads, lead_more, told_at, begun_so, leads_so, part_follows, told_empty}

pub then : {c : List Wait} {vs : List (List Raw)} {ts : List Nested} {c2 : List Wait} {vs2 : List (List Raw)} {ts2 : List Nested} {c3 : List Wait} {vs3 : List (List Raw)} {ts3 : List Nested}
    → Moves c vs ts c2 vs2 ts2 → Moves c2 vs2 ts2 c3 vs3 ts3 → Moves c vs ts c3 vs3 ts3
then (stay _ _ _) others = others
then (go c vs ts c2 vs2 ts2 _ _ _ first more_moves) others = go c vs ts c2 vs2 ts2 _ _ _ first (then more_moves others)

pub first : {c : List Wait} {vs : List (List Raw)} {ts : List Nested} {c2 : List Wait} {vs2 : List (List Raw)} {ts2 : List Nested} {c3 : List Wait} {vs3 : List (List Raw)} {ts3 : List Nested}
    → Move c vs ts c2 vs2 ts2 → Moves c2 vs2 ts2 c3 vs3 ts3 → Moves c vs ts c3 vs3 ts3
first move others = go _ _ _ _ _ _ _ _ _ move others

pub one : {c : List Wait} {vs : List (List Raw)} {ts : List Nested} {c2 : List Wait} {vs2 : List (List Raw)} {ts2 : List Nested}
    → Move c vs ts c2 vs2 ts2 → Moves c vs ts c2 vs2 ts2
one move = go _ _ _ _ _ _ _ _ _ move (stay _ _ _)

closes : (form : Form) (c : List Wait) (parts top : List Raw) (vs : List (List Raw)) (ts : List Nested)
    → Move (close form ∷ c) (parts ∷ top ∷ vs) ts c ((top ++ make form parts) ∷ vs) ts
closes form c parts top vs ts = turns (close form ∷ c) (parts ∷ top ∷ vs) c ((top ++ make form parts) ∷ vs) ts refl

-- From wherever the symbol is waited for at this level, the machine reads these words and builds these trees.
pub record Passes (depth : ℕ) (symbol : Symbol) (raws : List Raw) (front : List Nested) (next : Option Class) : Type 0 where
  pub moves : (c : List Wait) (top : List Raw) (vs : List (List Raw)) (rest : List Nested) → level c ≡ depth → ahead rest None ≡ next
      → Moves (want symbol ∷ c) (top ∷ vs) (front ++ rest) c ((top ++ raws) ∷ vs) rest

pub record PassAll (depth : ℕ) (symbols : List Symbol) (raws : List Raw) (front : List Nested) (next : Option Class) : Type 0 where
  pub moves : (c : List Wait) (top : List Raw) (vs : List (List Raw)) (rest : List Nested) → level c ≡ depth → ahead rest None ≡ next
      → Moves (wants symbols c) (top ∷ vs) (front ++ rest) c ((top ++ raws) ∷ vs) rest

pub data PassList : ℕ → List Symbol → List Raw → List Nested → Option Class → Type 0 where
  pass_end : (depth : ℕ) (next : Option Class) → PassList depth [] [] [] next
  pass_on : (depth : ℕ) (symbol : Symbol) (ss : List Symbol) (raws parts all : List Raw) (front rest words : List Nested) (next : Option Class)
      → Begun symbol front → Passes depth symbol raws front (ahead rest next) → PassList depth ss parts rest next → all ≡ raws ++ parts → words ≡ front ++ rest → PassList depth (symbol ∷ ss) all words next

pass_leaf : (depth : ℕ) (class : Class) (word : Nested) (next : Option Class) → word.class ≡ class → word.level ≡ depth → Passes depth (token class) (word.leaf ∷ []) (word ∷ []) next
pass_leaf depth class word next e deep = record { moves = λ c top vs rest stands is. one (shift class word c top vs rest e (deep ∙ sym stands)) }

pass_none : (depth : ℕ) (next : Option Class) → PassAll depth [] [] [] next
pass_none depth next = record { moves = way }
  where
    way : (c : List Wait) (top : List Raw) (vs : List (List Raw)) (rest : List Nested) → level c ≡ depth → ahead rest None ≡ next → Moves c (top ∷ vs) rest c ((top ++ []) ∷ vs) rest
    way c top vs rest stands is = rw (append-nil top) (stay c (top ∷ vs) rest)

pass_more : (depth : ℕ) (symbol : Symbol) (symbols : List Symbol) (raws parts all : List Raw) (front rest words : List Nested) (next : Option Class)
    → all ≡ raws ++ parts → words ≡ front ++ rest → Passes depth symbol raws front (ahead rest next) → PassAll depth symbols parts rest next → PassAll depth (symbol ∷ symbols) all words next
pass_more depth symbol symbols raws parts all front rest words next e1 e2 p ps = record { moves = way }
  where
    way : (c : List Wait) (top : List Raw) (vs : List (List Raw)) (after : List Nested) → level c ≡ depth → ahead after None ≡ next
        → Moves (want symbol ∷ wants symbols c) (top ∷ vs) (words ++ after) c ((top ++ all) ∷ vs) after
    way c top vs after stands is =
        let text : words ++ after ≡ front ++ (rest ++ after) = ap (λ t. t ++ after) e2 ∙ append_assoc front rest after in
        let parts_are : top ++ all ≡ (top ++ raws) ++ parts = ap (λ r. top ++ r) e1 ∙ sym (append_assoc top raws parts) in
        let ahead_is : ahead (rest ++ after) None ≡ ahead rest next = ahead_append rest after None ∙ ap (λ n. ahead rest n) is in
        let moves : Moves (want symbol ∷ wants symbols c) (top ∷ vs) (front ++ (rest ++ after)) c (((top ++ raws) ++ parts) ∷ vs) after =
        then (p.moves (wants symbols c) top vs (rest ++ after) (level_wants symbols c ∙ stands) ahead_is) (ps.moves c (top ++ raws) vs after stands is) in
        rw (text, parts_are) moves

pub pass_all : (depth : ℕ) (ss : List Symbol) (raws : List Raw) (words : List Nested) (next : Option Class) → PassList depth ss raws words next → PassAll depth ss raws words next
pass_all _ _ _ _ _ (pass_end depth next) = pass_none depth next
pass_all _ _ _ _ _ (pass_on depth symbol ss raws parts all front rest words next b p ps e1 e2) = pass_more depth symbol ss raws parts all front rest words next e1 e2 p (pass_all depth ss parts rest next ps)

pub list_leads : (depth : ℕ) (ss : List Symbol) (raws : List Raw) (words : List Nested) (next : Option Class) → PassList depth ss raws words next → Leads ss words
list_leads _ _ _ _ _ (pass_end depth next) = refl
list_leads _ _ _ _ _ (pass_on depth symbol ss raws parts all front rest words next b p ps e1 e2) =
    let P : List Nested → Type 0 = λ t. Leads (symbol ∷ ss) t in subst P (sym e2) (lead_more symbol ss front rest b (list_leads depth ss parts rest next ps))

ahead_is : (front rest : List Nested) (next : Option Class) → ahead rest None ≡ next → ahead (front ++ rest) None ≡ ahead front next
ahead_is front rest next is = ahead_append front rest None ∙ ap (λ n. ahead front n) is

-- These parts stand in the innermost form; the words read all frames to their ends. None of the forms nests what it holds.
pub data Runs : ℕ → List Frame → List Raw → List Raw → List Nested → Option Class → Type 0 where
  runs_last : (depth : ℕ) (form : Form) (rest : List Symbol) (parts more_parts raws : List Raw) (words : List Nested) (next : Option Class)
      → PassList depth rest more_parts words next → raws ≡ make form (parts ++ more_parts) → weight form ≡ 0 → Runs depth (frame form rest ∷ []) parts raws words next
  runs_out : (depth : ℕ) (form : Form) (rest : List Symbol) (parts more_parts inner : List Raw) (f : Frame) (fs : List Frame) (raws : List Raw) (front back words : List Nested) (next : Option Class)
      → PassList depth rest more_parts front (ahead back next) → inner ≡ make form (parts ++ more_parts) → weight form ≡ 0 → Runs depth (f ∷ fs) inner raws back next → words ≡ front ++ back
      → Runs depth (frame form rest ∷ f ∷ fs) parts raws words next

runs_level : (depth : ℕ) (frames : List Frame) (parts raws : List Raw) (words : List Nested) (next : Option Class) → Runs depth frames parts raws words next → (c : List Wait) → level (opens frames c) ≡ level c
runs_level _ _ _ _ _ _ (runs_last depth form rest parts more_parts raws words next list made light) c = level_wants rest (close form ∷ c) ∙ sym (no_deeper (level c) form light)
runs_level _ _ _ _ _ _ (runs_out depth form rest parts more_parts inner f fs raws front back words next list made light others e) c =
    level_wants rest (close form ∷ opens (f ∷ fs) c) ∙ sym (no_deeper (level (opens (f ∷ fs) c)) form light) ∙ runs_level depth (f ∷ fs) inner raws back next others c

pub run : (depth : ℕ) (frames : List Frame) (parts raws : List Raw) (words : List Nested) (next : Option Class) → Runs depth frames parts raws words next
    → (c : List Wait) (top : List Raw) (vs : List (List Raw)) (rest : List Nested) → level c ≡ depth → ahead rest None ≡ next
    → Moves (opens frames c) (parts ∷ blanks (without_first frames) (top ∷ vs)) (words ++ rest) c ((top ++ raws) ∷ vs) rest
run _ _ _ _ _ _ (runs_last depth form ss parts more_parts raws words next list made light) c top vs rest stands is =
    let all : PassAll depth ss more_parts words next = pass_all depth ss more_parts words next list in
    let P : List Raw → Type 0 = λ r. Moves (opens (frame form ss ∷ []) c) (parts ∷ top ∷ vs) (words ++ rest) c ((top ++ r) ∷ vs) rest in
    subst P (sym made) (then (all.moves (close form ∷ c) parts (top ∷ vs) rest (sym (no_deeper (level c) form light) ∙ stands) is) (one (closes form c (parts ++ more_parts) top vs rest)))
run _ _ _ _ _ _ (runs_out depth form ss parts more_parts inner f fs raws front back words next list made light others e) c top vs rest stands is =
    let all : PassAll depth ss more_parts front (ahead back next) = pass_all depth ss more_parts front (ahead back next) list in
    let inner_at : level (opens (f ∷ fs) c) ≡ depth = runs_level depth (f ∷ fs) inner raws back next others c ∙ stands in
    let text : words ++ rest ≡ front ++ (back ++ rest) = ap (λ t. t ++ rest) e ∙ append_assoc front back rest in
    let P : List Nested → Type 0 = λ t. Moves (opens (frame form ss ∷ f ∷ fs) c) (parts ∷ [] ∷ blanks fs (top ∷ vs)) t c ((top ++ raws) ∷ vs) rest in
    let Q : List Raw → Type 0 = λ r. Moves (opens (f ∷ fs) c) (r ∷ blanks fs (top ∷ vs)) (back ++ rest) c ((top ++ raws) ∷ vs) rest in
    subst P (sym text)
    (then (all.moves (close form ∷ opens (f ∷ fs) c) parts ([] ∷ blanks fs (top ∷ vs)) (back ++ rest) (sym (no_deeper (level (opens (f ∷ fs) c)) form light) ∙ inner_at) (ahead_is back rest next is))
    (first (closes form (opens (f ∷ fs) c) (parts ++ more_parts) [] (blanks fs (top ∷ vs)) (back ++ rest))
    (subst Q made (run depth (f ∷ fs) inner raws back next others c top vs rest stands is))))

come_first : (rest : List Symbol) (after : Bool) (words : List Nested) (next : Option Class) → Leads rest words → (words ≡ [] → after ≡ true) → come_in rest after (ahead words next) ≡ true
come_first rest after [] None l e = both (vanish rest) after l (e refl)
come_first rest after [] (Some k) l e = or_second (starts rest k) (vanish rest && after) (both (vanish rest) after l (e refl))
come_first rest after (word ∷ words) next l e = or_first (starts rest word.class) (vanish rest && after) l

-- What comes next is what may come in these frames.
pub come_runs : (depth : ℕ) (frames : List Frame) (parts raws : List Raw) (words : List Nested) (next : Option Class) (form : Form) → Runs depth frames parts raws words next → stops form next ≡ true
    → frames_come frames (stops form (ahead words next)) (ahead words next) ≡ true
come_runs _ _ _ _ _ _ whole (runs_last depth form ss parts more_parts raws words next list made light) s =
    come_first ss (stops whole (ahead words next)) words next (list_leads depth ss more_parts words next list)
    (λ gone. let P : List Nested → Type 0 = λ t. stops whole (ahead t next) ≡ true in subst P (sym gone) s)
come_runs _ _ _ _ _ _ whole (runs_out depth form ss parts more_parts inner f fs raws front back words next list made light others e) s =
    let rec : frames_come (f ∷ fs) (stops whole (ahead back next)) (ahead back next) ≡ true = come_runs depth (f ∷ fs) inner raws back next whole others s in
    let is : ahead words next ≡ ahead front (ahead back next) = ap (λ t. ahead t next) e ∙ ahead_append front back next in
    let P : Option Class → Type 0 = λ look. come_in ss (frames_come (f ∷ fs) (stops whole look) look) look ≡ true in
    subst P (sym is)
    (come_first ss (frames_come (f ∷ fs) (stops whole (ahead front (ahead back next))) (ahead front (ahead back next))) front (ahead back next) (list_leads depth ss more_parts front (ahead back next) list)
    (λ gone. let R : List Nested → Type 0 = λ t. frames_come (f ∷ fs) (stops whole (ahead t (ahead back next))) (ahead t (ahead back next)) ≡ true in subst R (sym gone) rec))

-- One more frame round the others.
pub run_out : (depth : ℕ) (frames : List Frame) (parts inner raws : List Raw) (front back words : List Nested) (middle next : Option Class) (form : Form) (ss : List Symbol) (more_parts : List Raw)
    → Runs depth frames parts inner front middle → middle ≡ ahead back next → PassList depth ss more_parts back next → raws ≡ make form (inner ++ more_parts) → weight form ≡ 0 → words ≡ front ++ back
    → Runs depth (frames ++ frame form ss ∷ []) parts raws words next
run_out _ _ _ inner raws _ back words _ next form ss more_parts (runs_last depth form1 ss1 parts more1 _ front middle list1 made1 light1) is list made light e =
    let P : Option Class → Type 0 = λ n. PassList depth ss1 more1 front n in
    runs_out depth form1 ss1 parts more1 inner (frame form ss) [] raws front back words next (subst P is list1) made1 light1 (runs_last depth form ss inner more_parts raws back next list made light) e
run_out _ _ _ inner raws _ back words _ next form ss more_parts (runs_out depth form1 ss1 parts more1 inner1 f fs _ front1 front2 front middle list1 made1 light1 others e1) is list made light e =
    let P : Option Class → Type 0 = λ n. PassList depth ss1 more1 front1 n in
    runs_out depth form1 ss1 parts more1 inner1 f (fs ++ frame form ss ∷ []) raws front1 (front2 ++ back) words next
    (subst P (ap (ahead front2) is ∙ sym (ahead_append front2 back next)) list1) made1 light1
    (run_out depth (f ∷ fs) inner1 inner raws front2 back (front2 ++ back) middle next form ss more_parts others is list made light refl)
    (e ∙ ap (λ t. t ++ back) e1 ∙ append_assoc front1 front2 back)

-- The forms with which this one begins, at this token.
pub record Spined (depth : ℕ) (form : Form) (word : Nested) (raws : List Raw) (ts : List Nested) (next : Option Class) : Type 0 where
  pub frames : List Frame
  pub among : (n : ℕ) → below (rank form) n ≡ true → Reads frames (lefts n form word.class)
  pub runs : Runs depth frames (word.leaf ∷ []) raws ts next
  pub deep : word.level ≡ depth

-- A form that is judged, with its parts.
pub record Body (depth : ℕ) (form : Form) (raws : List Raw) (words : List Nested) (next : Option Class) : Type 0 where
  pub symbols : List Symbol
  pub parts : List Raw
  pub alternative : OneOf symbols (alternatives form)
  pub ok : allows form symbols parts next ≡ true
  pub made : raws ≡ make form parts
  pub list : plain symbols ≡ true → PassList (depth + weight form) symbols parts words next

pub data Got : ℕ → Symbol → List Raw → List Nested → Option Class → Type 0 where
  got_token : (depth : ℕ) (class : Class) (word : Nested) (next : Option Class) → word.class ≡ class → word.level ≡ depth → Got depth (token class) (word.leaf ∷ []) (word ∷ []) next
  got_form : (depth : ℕ) (form : Form) (raws : List Raw) (words : List Nested) (next : Option Class)
      → (is_judged form ≡ false → Passes depth (sub form) raws words next)
      → ((word : Nested) (ts : List Nested) → words ≡ word ∷ ts → is_solid form ≡ true → Spined depth form word raws ts next)
      → Body depth form raws words next → Got depth (sub form) raws words next

pub data GotAll : ℕ → List Symbol → List Raw → List Nested → Option Class → Type 0 where
  got_none : (depth : ℕ) (next : Option Class) → GotAll depth [] [] [] next
  got_more : (depth : ℕ) (symbol : Symbol) (ss : List Symbol) (raws parts all : List Raw) (front rest words : List Nested) (next : Option Class)
      → Begun symbol front → Got depth symbol raws front (ahead rest next) → GotAll depth ss parts rest next → all ≡ raws ++ parts → words ≡ front ++ rest → GotAll depth (symbol ∷ ss) all words next

plain_first : (form : Form) (ss : List Symbol) → plain (sub form ∷ ss) ≡ true → is_judged form ≡ false
plain_first form ss e = not_true (is_judged form) (both_left (not (is_judged form)) (plain ss) e)

plain_rest : (symbol : Symbol) (ss : List Symbol) → plain (symbol ∷ ss) ≡ true → plain ss ≡ true
plain_rest (token class) ss e = e
plain_rest (sub form) ss e = both_right (not (is_judged form)) (plain ss) e

got_passes : (depth : ℕ) (symbol : Symbol) (ss : List Symbol) (raws : List Raw) (words : List Nested) (next : Option Class) → Got depth symbol raws words next → plain (symbol ∷ ss) ≡ true → Passes depth symbol raws words next
got_passes _ _ ss _ _ _ (got_token depth class word next is deep) e = pass_leaf depth class word next is deep
got_passes _ _ ss _ _ _ (got_form depth form raws words next passes spine body) e = passes (plain_first form ss e)

pub pass_list : (depth : ℕ) (ss : List Symbol) (raws : List Raw) (words : List Nested) (next : Option Class) → GotAll depth ss raws words next → plain ss ≡ true → PassList depth ss raws words next
pass_list _ _ _ _ _ (got_none depth next) e = pass_end depth next
pass_list _ _ _ _ _ (got_more depth symbol ss raws parts all front rest words next b got others e1 e2) e =
    pass_on depth symbol ss raws parts all front rest words next b (got_passes depth symbol ss raws front (ahead rest next) got e) (pass_list depth ss parts rest next others (plain_rest symbol ss e)) e1 e2

reads_behind : (frames : List Frame) (list list2 : List (List Frame)) → Reads frames list2 → Reads frames (list ++ list2)
reads_behind frames [] list2 r = r
reads_behind frames (other ∷ others) list2 r = later _ _ (reads_behind frames others list2 r)

-- what a form of this kind begins with is in the list
reads_cond : (b : Bool) (frames other : List Frame) (list : List (List Frame)) → Reads frames list → Reads frames (cond b (other ∷ list) list)
reads_cond true frames other list r = later other list r
reads_cond false frames other list r = r

cond_reads : (b : Bool) (frames : List Frame) (list : List (List Frame)) → b ≡ true → Reads frames (cond b (frames ∷ list) list)
cond_reads true frames list e = this list
cond_reads false frames list e = cc

lefts_token : (go_in : Form → List (List Frame)) (form : Form) (class : Class) (rest : List Symbol) (list : List (List Symbol)) → OneOf (token class ∷ rest) list
    → Reads (frame form rest ∷ []) (lefts_of go_in form class list)
lefts_token go_in form class rest _ (here others) = cond_reads (same_class class class) (frame form rest ∷ []) (lefts_of go_in form class others) (same_self class)
lefts_token go_in form class rest _ (there [] others one) = lefts_token go_in form class rest others one
lefts_token go_in form class rest _ (there (token other ∷ symbols) others one) = reads_cond (same_class other class) (frame form rest ∷ []) (frame form symbols ∷ []) _ (lefts_token go_in form class rest others one)
lefts_token go_in form class rest _ (there (sub inner ∷ symbols) others one) = reads_behind _ _ _ (lefts_token go_in form class rest others one)

reads_before : (frames : List Frame) (list list2 : List (List Frame)) → Reads frames list → Reads frames (list ++ list2)
reads_before frames _ list2 (this others) = this _
reads_before frames _ list2 (later other others r) = later _ _ (reads_before frames others list2 r)

reads_map : (f : List Frame → List Frame) (frames : List Frame) (list : List (List Frame)) → Reads frames list → Reads (f frames) (map f list)
reads_map f frames _ (this others) = this _
reads_map f frames _ (later other others r) = later _ _ (reads_map f frames others r)

lefts_form : (go_in : Form → List (List Frame)) (form inner : Form) (class : Class) (rest : List Symbol) (frames : List Frame) (list : List (List Symbol)) → OneOf (sub inner ∷ rest) list → Reads frames (go_in inner)
    → Reads (frames ++ frame form rest ∷ []) (lefts_of go_in form class list)
lefts_form go_in form inner class rest frames _ (here others) r = reads_before _ _ _ (reads_map (λ fs. fs ++ frame form rest ∷ []) frames (go_in inner) r)
lefts_form go_in form inner class rest frames _ (there [] others one) r = lefts_form go_in form inner class rest frames others one r
lefts_form go_in form inner class rest frames _ (there (token other ∷ symbols) others one) r = reads_cond (same_class other class) _ (frame form symbols ∷ []) _ (lefts_form go_in form inner class rest frames others one r)
lefts_form go_in form inner class rest frames _ (there (sub other ∷ symbols) others one) r = reads_behind _ _ _ (lefts_form go_in form inner class rest frames others one r)

solid_in : (form : Form) (ss : List Symbol) (list : List (List Symbol)) → solid_all form list ≡ true → OneOf ss list → solid_one form ss ≡ true
solid_in form ss _ e (here others) = both_left (solid_one form ss) (solid_all form others) e
solid_in form ss _ e (there other others one) = solid_in form ss others (both_right (solid_one form other) (solid_all form others) e) one

solid_at : (form : Form) (ss : List Symbol) → is_solid form ≡ true → OneOf ss (alternatives form) → solid_one form ss ≡ true
solid_at form ss solid one = solid_in form ss (alternatives form) (implied (is_solid form) (solid_all form (alternatives form)) (solid_fitting form) solid) one

-- Such forms nest nothing.
solid_light : (form : Form) → is_solid form ≡ true → weight form ≡ 0
solid_light (statement _) e = cc
solid_light operand e = cc
solid_light grouped e = cc
solid_light subscripted e = cc
solid_light passed e = cc
solid_light cast_type e = cc
solid_light chosen e = cc
solid_light _ e = refl

below_on : (a b m : ℕ) → below a b ≡ true → below b (suc m) ≡ true → below a m ≡ true
below_on a zero m e f = cc
below_on zero (suc b) zero e f = cc
below_on zero (suc b) (suc m) e f = refl
below_on (suc a) (suc b) zero e f = cc
below_on (suc a) (suc b) (suc m) e f = below_on a b m e f

token_among : (form : Form) (class : Class) (ss : List Symbol) → OneOf (token class ∷ ss) (alternatives form) → (n : ℕ) → below (rank form) n ≡ true → Reads (frame form ss ∷ []) (lefts n form class)
token_among form class ss one zero e = cc
token_among form class ss one (suc m) e = lefts_token (λ inner. lefts m inner class) form class ss (alternatives form) one

form_among : (form inner : Form) (class : Class) (ss : List Symbol) (frames : List Frame) → OneOf (sub inner ∷ ss) (alternatives form) → below (rank inner) (rank form) ≡ true
    → ((n : ℕ) → below (rank inner) n ≡ true → Reads frames (lefts n inner class)) → (n : ℕ) → below (rank form) n ≡ true → Reads (frames ++ frame form ss ∷ []) (lefts n form class)
form_among form inner class ss frames one lt among zero e = cc
form_among form inner class ss frames one lt among (suc m) e =
    lefts_form (λ i. lefts m i class) form inner class ss frames (alternatives form) one (among m (below_on (rank inner) (rank form) m lt e))

respined : (depth : ℕ) (form : Form) (w word : Nested) (raws : List Raw) (us ts words : List Nested) (next : Option Class) → words ≡ w ∷ us → words ≡ word ∷ ts → Spined depth form w raws us next → Spined depth form word raws ts next
respined depth form w word raws us ts words next e1 e2 s =
    let same : w ≡ word = cc in
    let rest : us ≡ ts = cc in
    let P : Nested → Type 0 = λ x. Spined depth form x raws us next in
    let Q : List Nested → Type 0 = λ t. Spined depth form word raws t next in
    subst Q rest (subst P same s)

spine_token : (depth : ℕ) (form : Form) (class : Class) (w : Nested) (ss : List Symbol) (parts all raws : List Raw) (rest : List Nested) (next : Option Class) → w.class ≡ class → w.level ≡ depth → OneOf (token class ∷ ss) (alternatives form) → plain ss ≡ true → weight form ≡ 0
    → GotAll depth ss parts rest next → all ≡ w.leaf ∷ parts → raws ≡ make form all → Spined depth form w raws rest next
spine_token depth form class w ss parts all raws rest next is deep one plainly light others e1 made =
    let P : Class → Type 0 = λ c. OneOf (token c ∷ ss) (alternatives form) in
    record {
      frames = frame form ss ∷ [];
      among = token_among form w.class ss (subst P (sym is) one);
      runs = runs_last depth form ss (w.leaf ∷ []) parts raws rest next (pass_list depth ss parts rest next others plainly) (made ∙ ap (make form) e1) light;
      deep = deep;
    }

spine_form : (depth : ℕ) (form inner : Form) (w : Nested) (ss : List Symbol) (raws1 parts all raws : List Raw) (ts1 rest : List Nested) (next : Option Class) → OneOf (sub inner ∷ ss) (alternatives form)
    → plain ss ≡ true → weight form ≡ 0 → below (rank inner) (rank form) ≡ true → Spined depth inner w raws1 ts1 (ahead rest next) → GotAll depth ss parts rest next → all ≡ raws1 ++ parts → raws ≡ make form all → Spined depth form w raws (ts1 ++ rest) next
spine_form depth form inner w ss raws1 parts all raws ts1 rest next one plainly light lt s others e1 made = record {
  frames = s.frames ++ frame form ss ∷ [];
  among = form_among form inner w.class ss s.frames one lt s.among;
  runs = run_out depth s.frames (w.leaf ∷ []) raws1 raws ts1 rest (ts1 ++ rest) (ahead rest next) next form ss parts s.runs refl (pass_list depth ss parts rest next others plainly) (made ∙ ap (make form) e1) light refl;
  deep = s.deep;
}

no_front : (inner form : Form) (ss : List Symbol) → solid_one form (sub inner ∷ ss) ≡ true → empties inner ≡ true → ⊥
no_front inner form ss solid e =
    let e2 : (not (empties inner) && (not (is_judged inner) && (plain ss && below (rank inner) (rank form)))) ≡ true = both_right (is_solid inner) _ solid in
    let e3 : not (empties inner) ≡ true = both_left (not (empties inner)) (not (is_judged inner) && (plain ss && below (rank inner) (rank form))) e2 in
    let e4 : empties inner ≡ false = not_true (empties inner) e3 in cc (e, e4)

spine_inner : (depth : ℕ) (form inner : Form) (ss : List Symbol) (raws1 parts all raws : List Raw) (front rest words : List Nested) (next : Option Class) → OneOf (sub inner ∷ ss) (alternatives form) → solid_one form (sub inner ∷ ss) ≡ true → weight form ≡ 0
    → Begun (sub inner) front → ((word : Nested) (ts : List Nested) → front ≡ word ∷ ts → is_solid inner ≡ true → Spined depth inner word raws1 ts (ahead rest next))
    → GotAll depth ss parts rest next → all ≡ raws1 ++ parts → raws ≡ make form all → words ≡ front ++ rest → (word : Nested) (ts : List Nested) → words ≡ word ∷ ts → Spined depth form word raws ts next
spine_inner depth form inner ss raws1 parts all raws [] rest words next one solid light b spine others e1 made e2 word ts e = absurd (no_front inner form ss solid b)
spine_inner depth form inner ss raws1 parts all raws (w ∷ ts1) rest words next one solid light b spine others e1 made e2 word ts e =
    let s1 : is_solid inner ≡ true = both_left (is_solid inner) (not (empties inner) && (not (is_judged inner) && (plain ss && below (rank inner) (rank form)))) solid in
    let s2 : (not (empties inner) && (not (is_judged inner) && (plain ss && below (rank inner) (rank form)))) ≡ true = both_right (is_solid inner) _ solid in
    let s3 : (not (is_judged inner) && (plain ss && below (rank inner) (rank form))) ≡ true = both_right (not (empties inner)) _ s2 in
    let s4 : (plain ss && below (rank inner) (rank form)) ≡ true = both_right (not (is_judged inner)) _ s3 in
    let plainly : plain ss ≡ true = both_left (plain ss) (below (rank inner) (rank form)) s4 in
    let lt : below (rank inner) (rank form) ≡ true = both_right (plain ss) (below (rank inner) (rank form)) s4 in
    respined depth form w word raws (ts1 ++ rest) ts words next e2 e
    (spine_form depth form inner w ss raws1 parts all raws ts1 rest next one plainly light lt (spine w ts1 refl s1) others e1 made)

spine_of : (depth : ℕ) (form : Form) (ss : List Symbol) (parts raws : List Raw) (words : List Nested) (next : Option Class) → OneOf ss (alternatives form) → solid_one form ss ≡ true → weight form ≡ 0 → raws ≡ make form parts → GotAll depth ss parts words next
    → (word : Nested) (ts : List Nested) → words ≡ word ∷ ts → Spined depth form word raws ts next
spine_of _ form _ _ raws _ _ one solid light made (got_none depth next) word ts e = cc
spine_of _ form _ _ raws _ _ one solid light made (got_more depth _ ss _ parts all _ rest words next b (got_token _ class w _ is deep) others e1 e2) word ts e =
    respined depth form w word raws rest ts words next e2 e (spine_token depth form class w ss parts all raws rest next is deep one solid light others e1 made)
spine_of _ form _ _ raws _ _ one solid light made (got_more depth _ ss _ parts all _ rest words next b (got_form _ inner raws1 front _ passes spine body) others e1 e2) word ts e =
    spine_inner depth form inner ss raws1 parts all raws front rest words next one solid light b spine others e1 made e2 word ts e

inside : (b : Bool) (depth : ℕ) (form : Form) (ss : List Symbol) (parts : List Raw) (front : List Nested) (next : Option Class) → is_spliced form ≡ b → PassAll (depth + weight form) ss parts front next
    → (c : List Wait) (top : List Raw) (vs : List (List Raw)) (rest : List Nested) → level c ≡ depth → ahead rest None ≡ next
    → Moves (unfolded b form ss c (top ∷ vs)).waits (unfolded b form ss c (top ∷ vs)).builds (front ++ rest) c ((top ++ make form parts) ∷ vs) rest
inside true depth form ss parts front next shape ps c top vs rest stands is =
    let P : List Raw → Type 0 = λ r. Moves (wants ss c) (top ∷ vs) (front ++ rest) c ((top ++ r) ∷ vs) rest in
    subst P (made_spliced (shape_of form) parts shape) (ps.moves c top vs rest (stands ∙ no_deeper depth form (spliced_light form shape)) is)
inside false depth form ss parts front next shape ps c top vs rest stands is =
    then (ps.moves (close form ∷ c) [] (top ∷ vs) rest (ap (λ d. d + weight form) stands) is) (one (closes form c parts top vs rest))

-- The next token tells the alternative.
pass_taken : (depth : ℕ) (form : Form) (ss : List Symbol) (n : ℕ) (parts : List Raw) (front : List Nested) (next : Option Class) → choose form (ahead front next) ≡ take_on n → nth (alternatives form) n ≡ Some ss
    → PassAll (depth + weight form) ss parts front next → Passes depth (sub form) (make form parts) front next
pass_taken depth form ss n parts front next told_is at_n ps = record { moves = way }
  where
    way : (c : List Wait) (top : List Raw) (vs : List (List Raw)) (rest : List Nested) → level c ≡ depth → ahead rest None ≡ next
        → Moves (want (sub form) ∷ c) (top ∷ vs) (front ++ rest) c ((top ++ make form parts) ∷ vs) rest
    way c top vs rest stands is =
        first (turns _ _ (unfolded (is_spliced form) form ss c (top ∷ vs)).waits (unfolded (is_spliced form) form ss c (top ∷ vs)).builds (front ++ rest)
        (ap (λ t. turn_chosen t form c (top ∷ vs)) (ap (choose form) (ahead_is front rest next is) ∙ told_is) ∙ ap (λ t. turn_taken t form c (top ∷ vs)) at_n))
        (inside (is_spliced form) depth form ss parts front next refl ps c top vs rest stands is)

-- where a reading stands, and what was checked of it
record Reading (delay : Delay) (frames : List Frame) (list : List (List Frame)) (k : ℕ) : Type 0 where
  place : ℕ
  number : ℕ
  is : number ≡ k + place
  at_it : nth_reading list place ≡ Some frames
  test : tells_reading delay number frames ≡ true

reading_in : (delay : Delay) (frames : List Frame) (list : List (List Frame)) (k : ℕ) → tells_from delay k list ≡ true → Reads frames list → Reading delay frames list k
reading_in delay frames _ k e (this others) =
    let q : k ≡ k + 0 = omega arith in
    let t : tells_reading delay k frames ≡ true = both_left (tells_reading delay k frames) (tells_from delay (suc k) others) e in
    record { place = 0; number = k; is = q; at_it = refl; test = t }
reading_in delay frames _ k e (later other others reads) =
    let r : Reading delay frames others (suc k) = reading_in delay frames others (suc k) (both_right (tells_reading delay k other) (tells_from delay (suc k) others) e) reads in
    let q : r.number ≡ suc k + r.place = r.is in
    let q2 : r.number ≡ k + suc r.place = omega arith in
    record { place = suc r.place; number = r.number; is = q2; at_it = r.at_it; test = r.test }

record Right (delay : Delay) (frames : List Frame) (look : Option Class) : Type 0 where
  n : ℕ
  at_it : nth_reading (readings delay) n ≡ Some frames
  right : told_right n (tell delay look) ≡ true

right_of : (delay : Delay) (frames : List Frame) (look : Option Class) → Reads frames (readings delay) → frames_come frames (stops (form_of delay) look) look ≡ true → Right delay frames look
right_of delay frames look reads come =
    let r : Reading delay frames (readings delay) 0 = reading_in delay frames (readings delay) 0 (telling delay) reads in
    let same : r.number ≡ r.place = let q : r.number ≡ 0 + r.place = r.is in omega arith in
    let P : ℕ → Type 0 = λ m. tells_reading delay m frames ≡ true in
    let test : tells_reading delay r.place frames ≡ true = subst P same r.test in
    record {
      n = r.place;
      at_it = r.at_it;
      right = implied (frames_come frames (stops (form_of delay) look) look) (told_right r.place (tell delay look))
          (each_look (λ l. implies (frames_come frames (stops (form_of delay) l) l) (told_right r.place (tell delay l))) test look) come;
    }

-- What the machine does where a delayed choice is told.
settle_by : (depth : ℕ) (told : Telling) (delay : Delay) (n : ℕ) (frames : List Frame) (parts raws : List Raw) (words : List Nested) (next : Option Class)
    → tell delay (ahead words next) ≡ told → nth_reading (readings delay) n ≡ Some frames → told_right n told ≡ true → Runs depth frames parts raws words next
    → (c : List Wait) (top : List Raw) (vs : List (List Raw)) (rest : List Nested) → level c ≡ depth → ahead rest None ≡ next
    → ((other : Delay) → told ≡ onward other → Moves (undecided delay ∷ c) (parts ∷ top ∷ vs) (words ++ rest) c ((top ++ raws) ∷ vs) rest)
    → Moves (undecided delay ∷ c) (parts ∷ top ∷ vs) (words ++ rest) c ((top ++ raws) ∷ vs) rest
settle_by depth (reading m) delay n frames parts raws words next e at_n right runs c top vs rest stands is other =
    let same : nth_reading (readings delay) m ≡ Some frames = ap (nth_reading (readings delay)) (number_is m n right) ∙ at_n in
    first (turns (undecided delay ∷ c) (parts ∷ top ∷ vs) (opens frames c) (parts ∷ blanks (without_first frames) (top ∷ vs)) (words ++ rest)
    (ap (λ t. turn_told t delay c parts (top ∷ vs)) (ap (tell delay) (ahead_is words rest next is) ∙ e) ∙ ap (λ t. turn_read t c parts (top ∷ vs)) same))
    (run depth frames parts raws words next runs c top vs rest stands is)
settle_by depth (onward d) delay n frames parts raws words next e at_n right runs c top vs rest stands is other = other d refl

record Peeled (depth : ℕ) (s : Symbol) (form : Form) (ss : List Symbol) (fs : List Frame) (parts raws : List Raw) (words : List Nested) (next : Option Class) : Type 0 where
  raws1 : List Raw
  front : List Nested
  back : List Nested
  passes : Passes depth s raws1 front (ahead back next)
  runs : Runs depth (frame form ss ∷ fs) (parts ++ raws1) raws back next
  split : words ≡ front ++ back

peel_last : (depth : ℕ) (s : Symbol) (form : Form) (ss : List Symbol) (parts more_parts raws : List Raw) (words : List Nested) (next : Option Class) → PassList depth (s ∷ ss) more_parts words next → raws ≡ make form (parts ++ more_parts) → weight form ≡ 0
    → Peeled depth s form ss [] parts raws words next
peel_last _ _ form _ parts _ raws _ _ (pass_on depth s ss raws1 parts1 all front rest words next b p ps e1 e2) made light = record {
  raws1 = raws1;
  front = front;
  back = rest;
  passes = p;
  runs = runs_last depth form ss (parts ++ raws1) parts1 raws rest next ps (made ∙ ap (make form) (ap (λ x. parts ++ x) e1 ∙ sym (append_assoc parts raws1 parts1))) light;
  split = e2;
}

peel_out : (depth : ℕ) (s : Symbol) (form : Form) (ss : List Symbol) (parts more_parts inner : List Raw) (f : Frame) (fs : List Frame) (raws : List Raw) (words1 back words : List Nested) (middle next : Option Class)
    → PassList depth (s ∷ ss) more_parts words1 middle → middle ≡ ahead back next → inner ≡ make form (parts ++ more_parts) → weight form ≡ 0 → Runs depth (f ∷ fs) inner raws back next → words ≡ words1 ++ back
    → Peeled depth s form ss (f ∷ fs) parts raws words next
peel_out _ _ form _ parts _ inner f fs raws _ back words _ next (pass_on depth s ss raws1 parts1 all front rest words1 middle b p ps e1 e2) is made light others e =
    let P : Option Class → Type 0 = λ n. Passes depth s raws1 front n in
    let Q : Option Class → Type 0 = λ n. PassList depth ss parts1 rest n in
    record {
      raws1 = raws1;
      front = front;
      back = rest ++ back;
      passes = subst P (ap (ahead rest) is ∙ sym (ahead_append rest back next)) p;
      runs = runs_out depth form ss (parts ++ raws1) parts1 inner f fs raws rest back (rest ++ back) next (subst Q is ps)
          (made ∙ ap (make form) (ap (λ x. parts ++ x) e1 ∙ sym (append_assoc parts raws1 parts1))) light others refl;
      split = e ∙ ap (λ t. t ++ back) e2 ∙ append_assoc front rest back;
    }

peel : (depth : ℕ) (s : Symbol) (form : Form) (ss : List Symbol) (fs : List Frame) (parts raws : List Raw) (words : List Nested) (next : Option Class) → Runs depth (frame form (s ∷ ss) ∷ fs) parts raws words next → Peeled depth s form ss fs parts raws words next
peel _ s form ss _ _ _ _ _ (runs_last depth _ _ parts more_parts raws words next list made light) = peel_last depth s form ss parts more_parts raws words next list made light
peel _ s form ss _ _ _ _ _ (runs_out depth _ _ parts more_parts inner f fs raws front back words next list made light others e) = peel_out depth s form ss parts more_parts inner f fs raws front back words (ahead back next) next list refl made light others e

record Indexable (frames : List Frame) : Type 0 where
  form : Form
  ss : List Symbol
  fs : List Frame
  is : frames ≡ frame form (sub subscript ∷ ss) ∷ fs
  reads : Reads (frame form ss ∷ fs) (readings indexed)

indexable : (n : ℕ) (frames : List Frame) → nth_reading (readings begun) n ≡ Some frames → below n 3 ≡ true → Indexable frames
indexable zero frames e lt = record { form = target; ss = []; fs = _; is = let q : frame target (sub subscript ∷ []) ∷ frame action (sub assign ∷ sub expr ∷ []) ∷ [] ≡ frames = cc in sym q; reads = this _ }
indexable (suc zero) frames e lt = record { form = target; ss = []; fs = _; is = let q : frame target (sub subscript ∷ []) ∷ frame action (token Increment ∷ []) ∷ [] ≡ frames = cc in sym q; reads = later _ _ (this _) }
indexable (suc (suc zero)) frames e lt = record { form = primary; ss = []; fs = _; is = let q : frame primary (sub subscript ∷ []) ∷ operand_of_action ≡ frames = cc in sym q; reads = later _ _ (later _ _ (this _)) }
indexable (suc (suc (suc n))) frames e lt = cc

settle_indexed : (depth : ℕ) (frames : List Frame) (parts raws : List Raw) (words : List Nested) (next : Option Class) → Reads frames (readings indexed) → Runs depth frames parts raws words next → stops action next ≡ true
    → (c : List Wait) (top : List Raw) (vs : List (List Raw)) (rest : List Nested) → level c ≡ depth → ahead rest None ≡ next
    → Moves (undecided indexed ∷ c) (parts ∷ top ∷ vs) (words ++ rest) c ((top ++ raws) ∷ vs) rest
settle_indexed depth frames parts raws words next reads runs s c top vs rest stands is =
    let r : Right indexed frames (ahead words next) = right_of indexed frames (ahead words next) reads (come_runs depth frames parts raws words next action runs s) in
    settle_by depth (tell indexed (ahead words next)) indexed r.n frames parts raws words next refl r.at_it r.right runs c top vs rest stands is
    (λ other e. let o : Onward indexed other = only_onward indexed (ahead words next) other e in let q : indexed ≡ begun = o.from in cc)

settle : (depth : ℕ) (delay : Delay) (frames : List Frame) (parts raws : List Raw) (words : List Nested) (next : Option Class) → Reads frames (readings delay) → Runs depth frames parts raws words next → stops (form_of delay) next ≡ true
    → (c : List Wait) (top : List Raw) (vs : List (List Raw)) (rest : List Nested) → level c ≡ depth → ahead rest None ≡ next
    → Moves (undecided delay ∷ c) (parts ∷ top ∷ vs) (words ++ rest) c ((top ++ raws) ∷ vs) rest
settle depth delay frames parts raws words next reads runs s c top vs rest stands is =
    let r : Right delay frames (ahead words next) = right_of delay frames (ahead words next) reads (come_runs depth frames parts raws words next (form_of delay) runs s) in
    settle_by depth (tell delay (ahead words next)) delay r.n frames parts raws words next refl r.at_it r.right runs c top vs rest stands is
    (λ other e.
    let o : Onward delay other = only_onward delay (ahead words next) other e in
    let lt : below r.n 3 ≡ true = let q : told_right r.n (onward other) ≡ true = ap (told_right r.n) (sym e) ∙ r.right in q in
    let P : Delay → Type 0 = λ d. nth_reading (readings d) r.n ≡ Some frames in
    let x : Indexable frames = indexable r.n frames (subst P o.from r.at_it) lt in
    let Q : List Frame → Type 0 = λ f. Runs depth f parts raws words next in
    let peeled : Peeled depth (sub subscript) x.form x.ss x.fs parts raws words next = peel depth (sub subscript) x.form x.ss x.fs parts raws words next (subst Q x.is runs) in
    let R : Delay → Type 0 = λ d. stops (form_of d) next ≡ true in
    let text : words ++ rest ≡ peeled.front ++ (peeled.back ++ rest) = ap (λ t. t ++ rest) peeled.split ∙ append_assoc peeled.front peeled.back rest in
    let D : Delay → Type 0 = λ d. Moves (want (first_of d) ∷ undecided d ∷ c) (parts ∷ top ∷ vs) (words ++ rest) c ((top ++ raws) ∷ vs) rest in
    let T : List Nested → Type 0 = λ t. Moves (want (sub subscript) ∷ undecided indexed ∷ c) (parts ∷ top ∷ vs) t c ((top ++ raws) ∷ vs) rest in
    first (turns (undecided delay ∷ c) (parts ∷ top ∷ vs) (want (first_of other) ∷ undecided other ∷ c) (parts ∷ top ∷ vs) (words ++ rest)
    (ap (λ t. turn_told t delay c parts (top ∷ vs)) (ap (tell delay) (ahead_is words rest next is) ∙ e)))
    (subst D (sym o.to)
    (subst T (sym text)
    (then (peeled.passes.moves (undecided indexed ∷ c) parts (top ∷ vs) (peeled.back ++ rest) stands (ahead_is peeled.back rest next is))
    (settle_indexed depth (frame x.form x.ss ∷ x.fs) (parts ++ peeled.raws1) raws peeled.back next x.reads peeled.runs (subst R o.from s) c top vs rest stands is)))))

pass_key : (depth : ℕ) (form : Form) (delay : Delay) (key : Class) (word : Nested) (raws : List Raw) (ts : List Nested) (next : Option Class) (frames : List Frame) → first_of delay ≡ token key → word.class ≡ key → word.level ≡ depth → form_of delay ≡ form
    → choose form (Some word.class) ≡ defer delay → Reads frames (readings delay) → Runs depth frames (word.leaf ∷ []) raws ts next → stops form next ≡ true → Passes depth (sub form) raws (word ∷ ts) next
pass_key depth form delay key word raws ts next frames e1 e2 deep e3 told_is reads runs s = record { moves = way }
  where
    way : (c : List Wait) (top : List Raw) (vs : List (List Raw)) (rest : List Nested) → level c ≡ depth → ahead rest None ≡ next
        → Moves (want (sub form) ∷ c) (top ∷ vs) (word ∷ (ts ++ rest)) c ((top ++ raws) ∷ vs) rest
    way c top vs rest stands is =
        let S : Form → Type 0 = λ f. stops f next ≡ true in
        let F : Symbol → Type 0 = λ symbol. Moves (want symbol ∷ undecided delay ∷ c) ([] ∷ top ∷ vs) (word ∷ (ts ++ rest)) c ((top ++ raws) ∷ vs) rest in
        first (turns (want (sub form) ∷ c) (top ∷ vs) (want (first_of delay) ∷ undecided delay ∷ c) ([] ∷ top ∷ vs) (word ∷ (ts ++ rest)) (ap (λ t. turn_chosen t form c (top ∷ vs)) told_is))
        (subst F (sym e1)
        (first (shift key word (undecided delay ∷ c) [] (top ∷ vs) (ts ++ rest) e2 (deep ∙ sym stands))
        (settle depth delay frames (word.leaf ∷ []) raws ts next reads runs (subst S (sym e3) s) c top vs rest stands is)))

unary_key : (look : Option Class) → choose_unary look ≡ defer opened → look ≡ Some Open
unary_key (Some Open) e = refl
unary_key _ e = cc

primary_key : (look : Option Class) → choose_primary look ≡ defer called → look ≡ Some Name
primary_key (Some Name) e = refl
primary_key _ e = cc

titled_key : (look : Option Class) → choose_titled look ≡ defer named → look ≡ Some Name
titled_key (Some Name) e = refl
titled_key _ e = cc

action_key : (look : Option Class) → choose_action look ≡ defer begun → look ≡ Some Name
action_key (Some Name) e = refl
action_key (Some Plus) e = cc
action_key (Some Minus) e = cc
action_key (Some Complement) e = cc
action_key (Some Open) e = cc
action_key (Some Number) e = cc
action_key _ e = cc

same_key : (a b : Class) → Some a ≡ Some b → a ≡ b
same_key a b e = cc

pass_deferred : (depth : ℕ) (form : Form) (delay : Delay) (word : Nested) (raws : List Raw) (ts : List Nested) (next : Option Class) → Deferred form delay → choose form (Some word.class) ≡ defer delay
    → Spined depth form word raws ts next → stops form next ≡ true → Passes depth (sub form) raws (word ∷ ts) next
pass_deferred depth _ _ word raws ts next at_open told_is s st =
    let is : word.class ≡ Open = same_key word.class Open (unary_key (Some word.class) told_is) in
    let P : Class → Type 0 = λ c. Reads s.frames (lefts 6 unary c) in
    let Q : List (List Frame) → Type 0 = λ l. Reads s.frames l in
    pass_key depth unary opened Open word raws ts next s.frames refl is s.deep refl told_is (subst Q all_opened (subst P is (s.among 6 refl))) s.runs st
pass_deferred depth _ _ word raws ts next at_operand told_is s st =
    let is : word.class ≡ Name = same_key word.class Name (primary_key (Some word.class) told_is) in
    let P : Class → Type 0 = λ c. Reads s.frames (lefts 6 primary c) in
    let Q : List (List Frame) → Type 0 = λ l. Reads s.frames l in
    pass_key depth primary called Name word raws ts next s.frames refl is s.deep refl told_is (subst Q all_called (subst P is (s.among 6 refl))) s.runs st
pass_deferred depth _ _ word raws ts next at_title told_is s st =
    let is : word.class ≡ Name = same_key word.class Name (titled_key (Some word.class) told_is) in
    let P : Class → Type 0 = λ c. Reads s.frames (lefts 6 titled c) in
    let Q : List (List Frame) → Type 0 = λ l. Reads s.frames l in
    pass_key depth titled named Name word raws ts next s.frames refl is s.deep refl told_is (subst Q all_named (subst P is (s.among 6 refl))) s.runs st
pass_deferred depth _ _ word raws ts next at_action told_is s st =
    let is : word.class ≡ Name = same_key word.class Name (action_key (Some word.class) told_is) in
    let P : Class → Type 0 = λ c. Reads s.frames (lefts 6 action c) in
    let Q : List (List Frame) → Type 0 = λ l. Reads s.frames l in
    pass_key depth action begun Name word raws ts next s.frames refl is s.deep refl told_is (subst Q all_begun (subst P is (s.among 6 refl))) s.runs st

deferred_solid : (form : Form) (delay : Delay) → Deferred form delay → is_solid form ≡ true
deferred_solid _ _ at_open = refl
deferred_solid _ _ at_operand = refl
deferred_solid _ _ at_title = refl
deferred_solid _ _ at_action = refl

-- an alternative without judged parts, by what is told
pass_told : (depth : ℕ) (told : Choice) (form : Form) (ss : List Symbol) (n : ℕ) (parts raws : List Raw) (words : List Nested) (next : Option Class) → choose form (ahead words next) ≡ told → nth (alternatives form) n ≡ Some ss
    → agrees true form n told ≡ true → is_judged form ≡ false → raws ≡ make form parts → PassAll (depth + weight form) ss parts words next
    → ((delay : Delay) → choose form (ahead words next) ≡ defer delay → Passes depth (sub form) raws words next) → Passes depth (sub form) raws words next
pass_told depth refuse form ss n parts raws words next e at_n agree free made ps deferred = let f : false ≡ true = either (is_judged form) false agree free in cc
pass_told depth (judge late) form ss n parts raws words next e at_n agree free made ps deferred = let f : false ≡ true = either (is_judged form) false agree free in cc
pass_told depth (take_on m) form ss n parts raws words next e at_n agree free made ps deferred =
    let same : m ≡ n = number_is m n (either (is_judged form) (same_number m n) agree free) in
    let P : List Raw → Type 0 = λ r. Passes depth (sub form) r words next in
    subst P (sym made) (pass_taken depth form ss m parts words next e (ap (nth (alternatives form)) same ∙ at_n) ps)
pass_told depth (defer delay) form ss n parts raws words next e at_n agree free made ps deferred = deferred delay e

record Graded (form : Form) (late : Late) (ss : List Symbol) : Type 0 where
  answer : Bool
  is : ss ≡ sub (late_form late answer) ∷ late_rest late answer

graded : (form : Form) (late : Late) (ss : List Symbol) → Judging form late → OneOf ss (alternatives form) → plain ss ≡ false → Graded form late ss
graded _ _ _ at_signature (here _) e = record { answer = true; is = refl }
graded _ _ _ at_signature (there _ _ (here _)) e = record { answer = false; is = refl }
graded _ _ _ at_signature (there _ _ (there _ _ x)) e = elim x [ ]
graded _ _ _ (at_groups within) (here _) e = cc
graded _ _ _ (at_groups within) (there _ _ (here _)) e = record { answer = true; is = refl }
graded _ _ _ (at_groups within) (there _ _ (there _ _ (here _))) e = record { answer = false; is = refl }
graded _ _ _ (at_groups within) (there _ _ (there _ _ (there _ _ x))) e = elim x [ ]

late_only : (late : Late) (answer : Bool) (ss : List Symbol) → OneOf ss (alternatives (late_form late answer)) → ss ≡ late_symbols late
late_only of_params answer _ (here _) = refl
late_only of_params answer _ (there _ _ x) = elim x [ ]
late_only (of_group within) answer _ (here _) = refl
late_only (of_group within) answer _ (there _ _ x) = elim x [ ]

late_plain : (late : Late) → plain (late_symbols late) ≡ true
late_plain of_params = refl
late_plain (of_group within) = refl

late_rest_plain : (late : Late) (answer : Bool) → plain (late_rest late answer) ≡ true
late_rest_plain of_params answer = refl
late_rest_plain (of_group within) answer = refl

answers_same : (answer told : Bool) → same_answer answer told ≡ true → told ≡ answer
answers_same true told e = e
answers_same false told e = not_true told e

late_answer : (late : Late) (answer : Bool) (ss : List Symbol) (parts : List Raw) (next : Option Class) → allows (late_form late answer) ss parts next ≡ true → verdict late parts ≡ answer
late_answer of_params answer ss parts next e = answers_same answer (have_names parts) e
late_answer (of_group within) answer ss parts next e = answers_same answer (ends_in_jump parts) e

body_of : (depth : ℕ) (form : Form) (raws : List Raw) (words : List Nested) (next : Option Class) → Got depth (sub form) raws words next → Body depth form raws words next
body_of _ _ _ _ _ (got_form depth form raws words next passes spine body) = body

pass_judged : (depth : ℕ) (form : Form) (late : Late) (answer : Bool) (raws1 parts all : List Raw) (front rest words : List Nested) (next : Option Class) → choose form (ahead words next) ≡ judge late
    → Body depth (late_form late answer) raws1 front (ahead rest next) → PassAll depth (late_rest late answer) parts rest next → all ≡ raws1 ++ parts → words ≡ front ++ rest → Passes depth (sub form) all words next
pass_judged depth form late answer raws1 parts all front rest words next told_is body ps e1 e2 = record { moves = way }
  where
    way : (c : List Wait) (top : List Raw) (vs : List (List Raw)) (after : List Nested) → level c ≡ depth → ahead after None ≡ next → Moves (want (sub form) ∷ c) (top ∷ vs) (words ++ after) c ((top ++ all) ∷ vs) after
    way c top vs after at_depth is =
        let only : body.symbols ≡ late_symbols late = late_only late answer body.symbols body.alternative in
        let plainly : plain body.symbols ≡ true = ap plain only ∙ late_plain late in
        let L : List Symbol → Type 0 = λ s. PassList (depth + weight (late_form late answer)) s body.parts front (ahead rest next) in
        let D : ℕ → Type 0 = λ d. PassList d (late_symbols late) body.parts front (ahead rest next) in
        let inner : PassAll depth (late_symbols late) body.parts front (ahead rest next) =
        pass_all depth (late_symbols late) body.parts front (ahead rest next) (subst D (sym (no_deeper depth (late_form late answer) (late_light late answer))) (subst L only (body.list plainly))) in
        let told : verdict late body.parts ≡ answer = late_answer late answer body.symbols body.parts (ahead rest next) body.ok in
        let text : words ++ after ≡ front ++ (rest ++ after) = ap (λ t. t ++ after) e2 ∙ append_assoc front rest after in
        let parts_are : top ++ all ≡ (top ++ raws1) ++ parts = ap (λ r. top ++ r) e1 ∙ sym (append_assoc top raws1 parts) in
        let ahead_rest : ahead (rest ++ after) None ≡ ahead rest next = ahead_is rest after next is in
        let M : Bool → State = λ b. at (wants (late_rest late b) c) ((top ++ make (late_form late b) body.parts) ∷ vs) in
        let R : List Raw → Type 0 = λ r. Moves (judged late ∷ c) (body.parts ∷ top ∷ vs) (rest ++ after) (wants (late_rest late answer) c) ((top ++ r) ∷ vs) (rest ++ after) in
        let judging : Moves (judged late ∷ c) (body.parts ∷ top ∷ vs) (rest ++ after) (wants (late_rest late answer) c) ((top ++ make (late_form late answer) body.parts) ∷ vs) (rest ++ after) =
        one (turns (judged late ∷ c) (body.parts ∷ top ∷ vs) (wants (late_rest late answer) c) ((top ++ make (late_form late answer) body.parts) ∷ vs) (rest ++ after) (ap (λ b. Some (M b)) told)) in
        let moves : Moves (want (sub form) ∷ c) (top ∷ vs) (front ++ (rest ++ after)) c (((top ++ raws1) ++ parts) ∷ vs) after =
        first (turns (want (sub form) ∷ c) (top ∷ vs) (wants (late_symbols late) (judged late ∷ c)) ([] ∷ top ∷ vs) (front ++ (rest ++ after))
        (ap (λ t. turn_chosen t form c (top ∷ vs)) (ap (choose form) (ahead_append front (rest ++ after) None ∙ ap (ahead front) ahead_rest ∙ sym (ap (λ t. ahead t next) e2 ∙ ahead_append front rest next)) ∙ told_is)))
        (then (inner.moves (judged late ∷ c) [] (top ∷ vs) (rest ++ after) at_depth ahead_rest)
        (then (subst R (sym body.made) judging) (ps.moves c (top ++ raws1) vs after at_depth is))) in
        rw (text, parts_are) moves

pass_graded : (depth : ℕ) (form : Form) (late : Late) (answer : Bool) (ss : List Symbol) (parts : List Raw) (words : List Nested) (next : Option Class) → choose form (ahead words next) ≡ judge late
    → ss ≡ sub (late_form late answer) ∷ late_rest late answer → GotAll depth ss parts words next → Passes depth (sub form) parts words next
pass_graded _ form late answer _ _ _ next told_is is (got_none _ _) = cc
pass_graded _ form late answer _ _ _ next told_is is (got_more depth symbol ss raws1 parts all front rest words _ b got others e1 e2) =
    let s1 : symbol ≡ sub (late_form late answer) = cc in
    let s2 : ss ≡ late_rest late answer = cc in
    let P : Symbol → Type 0 = λ s. Got depth s raws1 front (ahead rest next) in
    let Q : List Symbol → Type 0 = λ s. GotAll depth s parts rest next in
    pass_judged depth form late answer raws1 parts all front rest words next told_is (body_of depth (late_form late answer) raws1 front (ahead rest next) (subst P s1 got))
    (pass_all depth (late_rest late answer) parts rest next (pass_list depth (late_rest late answer) parts rest next (subst Q s2 others) (late_rest_plain late answer))) e1 e2

judged_spliced_is : (form : Form) (late : Late) → Judging form late → is_spliced form ≡ true
judged_spliced_is _ _ at_signature = refl
judged_spliced_is _ _ (at_groups within) = refl

pass_not_plain : (depth : ℕ) (told : Choice) (form : Form) (ss : List Symbol) (n : ℕ) (parts raws : List Raw) (words : List Nested) (next : Option Class) → choose form (ahead words next) ≡ told → OneOf ss (alternatives form) → plain ss ≡ false
    → agrees false form n told ≡ true → raws ≡ make form parts → GotAll (depth + weight form) ss parts words next → Passes depth (sub form) raws words next
pass_not_plain depth refuse form ss n parts raws words next e alternative not_plain agree made all = cc
pass_not_plain depth (take_on m) form ss n parts raws words next e alternative not_plain agree made all = cc
pass_not_plain depth (defer d) form ss n parts raws words next e alternative not_plain agree made all = cc
pass_not_plain depth (judge late) form ss n parts raws words next e alternative not_plain agree made all =
    let fit : kind_fits form (judge late) ≡ true = ap (kind_fits form) (sym e) ∙ kind_fitting form (ahead words next) in
    let j : Judging form late = judging_so form (ahead words next) late fit e in
    let g : Graded form late ss = graded form late ss j alternative not_plain in
    let P : List Raw → Type 0 = λ r. Passes depth (sub form) r words next in
    let D : ℕ → Type 0 = λ d. GotAll d ss parts words next in
    let same : raws ≡ parts = made ∙ sym (made_spliced (shape_of form) parts (judged_spliced_is form late j)) in
    subst P (sym same) (pass_graded depth form late g.answer ss parts words next e g.is (subst D (sym (no_deeper depth form (spliced_light form (judged_spliced_is form late j)))) all))

agrees_word : (form : Form) (ss : List Symbol) (n : ℕ) (word : Nested) → FitsAt form ss n → starts ss word.class ≡ true → agrees (plain ss) form n (choose form (Some word.class)) ≡ true
agrees_word form ss n word f l = both_right (begins form word.class) (agrees (plain ss) form n (choose form (Some word.class))) (told_at form ss n word f l)

agrees_at : (form : Form) (ss : List Symbol) (n : ℕ) (parts : List Raw) (words : List Nested) (next : Option Class) → FitsAt form ss n → OneOf ss (alternatives form) → allows form ss parts next ≡ true → Leads ss words → stops form next ≡ true
    → agrees (plain ss) form n (choose form (ahead words next)) ≡ true
agrees_at form ss n parts [] next f alternative ok l s = both_right (settled (choose form next)) (agrees (plain ss) form n (choose form next)) (told_empty form ss parts n next f alternative ok l s)
agrees_at form ss n parts (word ∷ ts) next f alternative ok l s = agrees_word form ss n word f l

settled_not : (told : Choice) (delay : Delay) → settled told ≡ true → told ≡ defer delay → ⊥
settled_not told delay e is = let q : settled told ≡ false = ap settled is in cc (e, q)

pass_delayed : (depth : ℕ) (form : Form) (ss : List Symbol) (n : ℕ) (parts raws : List Raw) (words : List Nested) (next : Option Class) → FitsAt form ss n → OneOf ss (alternatives form) → allows form ss parts next ≡ true → Leads ss words → stops form next ≡ true
    → ((word : Nested) (ts : List Nested) → words ≡ word ∷ ts → is_solid form ≡ true → Spined depth form word raws ts next)
    → (delay : Delay) → choose form (ahead words next) ≡ defer delay → Passes depth (sub form) raws words next
pass_delayed depth form ss n parts raws [] next f alternative ok l s spine delay e =
    absurd (settled_not (choose form next) delay (both_left (settled (choose form next)) (agrees (plain ss) form n (choose form next)) (told_empty form ss parts n next f alternative ok l s)) e)
pass_delayed depth form ss n parts raws (word ∷ ts) next f alternative ok l s spine delay e =
    let fit : kind_fits form (defer delay) ≡ true = ap (kind_fits form) (sym e) ∙ kind_fitting form (Some word.class) in
    let d : Deferred form delay = deferred_so form delay fit in
    pass_deferred depth form delay word raws ts next d e (spine word ts refl (deferred_solid form delay d)) s

pass_by : (b : Bool) (depth : ℕ) (form : Form) (ss : List Symbol) (parts raws : List Raw) (words : List Nested) (next : Option Class) → plain ss ≡ b → Listed form ss → OneOf ss (alternatives form) → allows form ss parts next ≡ true
    → raws ≡ make form parts → GotAll (depth + weight form) ss parts words next → Leads ss words → stops form next ≡ true
    → ((word : Nested) (ts : List Nested) → words ≡ word ∷ ts → is_solid form ≡ true → Spined depth form word raws ts next)
    → is_judged form ≡ false → Passes depth (sub form) raws words next
pass_by true depth form ss parts raws words next plainly f alternative ok made all l s spine free =
    let P : Bool → Type 0 = λ b. agrees b form f.n (choose form (ahead words next)) ≡ true in
    pass_told depth (choose form (ahead words next)) form ss f.n parts raws words next refl f.at (subst P plainly (agrees_at form ss f.n parts words next f.fit alternative ok l s)) free made
    (pass_all (depth + weight form) ss parts words next (pass_list (depth + weight form) ss parts words next all plainly))
    (pass_delayed depth form ss f.n parts raws words next f.fit alternative ok l s spine)
pass_by false depth form ss parts raws words next not_plain f alternative ok made all l s spine free =
    let P : Bool → Type 0 = λ b. agrees b form f.n (choose form (ahead words next)) ≡ true in
    pass_not_plain depth (choose form (ahead words next)) form ss f.n parts raws words next refl alternative not_plain (subst P not_plain (agrees_at form ss f.n parts words next f.fit alternative ok l s)) made all

got_node : (depth : ℕ) (form : Form) (ss : List Symbol) (parts raws : List Raw) (words : List Nested) (next : Option Class) → Listed form ss → OneOf ss (alternatives form) → allows form ss parts next ≡ true
    → raws ≡ make form parts → GotAll (depth + weight form) ss parts words next → Leads ss words → stops form next ≡ true → Got depth (sub form) raws words next
got_node depth form ss parts raws words next f alternative ok made all l s =
    let D : ℕ → Type 0 = λ d. GotAll d ss parts words next in
    let spine : (word : Nested) (ts : List Nested) → words ≡ word ∷ ts → is_solid form ≡ true → Spined depth form word raws ts next =
    λ word ts e solid. spine_of depth form ss parts raws words next alternative (solid_at form ss solid alternative) (solid_light form solid) made (subst D (sym (no_deeper depth form (solid_light form solid))) all) word ts e in
    got_form depth form raws words next (pass_by (plain ss) depth form ss parts raws words next refl f alternative ok made all l s spine) spine
    (record { symbols = ss; parts = parts; alternative = alternative; ok = ok; made = made; list = λ plainly. pass_list (depth + weight form) ss parts words next all plainly })

mutual
  pub complete : (depth : ℕ) (symbol : Symbol) (raws : List Raw) (words : List Nested) (next : Option Class) → Derives depth symbol raws words next → may_follow symbol next ≡ true → Got depth symbol raws words next
  complete _ _ _ _ _ (leaf depth class word next is deep) s = got_token depth class word next is deep
  complete _ _ _ _ _ (node depth form ss parts raws words next alternative ok made all) s =
      let f : Listed form ss = listed form ss alternative in
      got_node depth form ss parts raws words next f alternative ok made (complete_all (depth + weight form) ss parts words next form all f.fit.parts s) (leads_so (depth + weight form) ss parts words next all) s

  pub complete_all : (depth : ℕ) (ss : List Symbol) (parts : List Raw) (words : List Nested) (next : Option Class) (form : Form) → DeriveAll depth ss parts words next → parted ss form ≡ true → stops form next ≡ true → GotAll depth ss parts words next
  complete_all _ _ _ _ _ form (none depth next) p s = got_none depth next
  complete_all _ _ _ _ _ form (more depth symbol ss raws parts all front rest words next first_part others e1 e2) p s =
      got_more depth symbol ss raws parts all front rest words next (begun_so depth symbol raws front (ahead rest next) first_part)
      (complete depth symbol raws front (ahead rest next) first_part (part_follows symbol ss form rest next p (leads_so depth ss parts rest next others) s))
      (complete_all depth ss parts rest next form others (both_right (every_look (λ look. implies (comes ss form look) (may_follow symbol look))) (parted ss form) p) s) e1 e2

-- The machine reads a text of the grammar to its end.
pub read_whole : (words : List Nested) (raws : List Raw) → Derives 0 (sub program) raws words None → Moves (want (sub program) ∷ []) ([] ∷ []) words [] (raws ∷ []) []
read_whole words raws derives = from_got (complete 0 (sub program) raws words None derives refl)
  where
    from_passes : Passes 0 (sub program) raws words None → Moves (want (sub program) ∷ []) ([] ∷ []) words [] (raws ∷ []) []
    from_passes p = let P : List Nested → Type 0 = λ t. Moves (want (sub program) ∷ []) ([] ∷ []) t [] (raws ∷ []) [] in subst P (append-nil words) (p.moves [] [] [] [] refl refl)

    from_got : Got 0 (sub program) raws words None → Moves (want (sub program) ∷ []) ([] ∷ []) words [] (raws ∷ []) []
    from_got got = from_passes (got_passes 0 (sub program) [] raws words None got refl)
