-- At a word that the machine refuses, what it waits for tells whether the word is nested too deep.
use Rattle.std.proofs.Common.{◌≡◌, ◌<◌, ◌≤◌, ℕ, suc, List, [], ◌∷◌, ◌++◌, length, Option, Some, None, Bool, true, false, refl, sym, ap, subst, ◌∙◌, append_assoc, append-nil, arith}
use Rattle.std.specs.Prelude.{All}
use Rattle.std.proofs.lemmas.List.Elements.{All-head, All-tail}
use Rattle.c_parse.specs.declared.class.Class.{Class}
use Rattle.c_parse.specs.declared.raw.Raw.{Raw}
use Rattle.c_parse.specs.declared.form.Wait.{Wait}
use Rattle.c_parse.specs.Grammar.{program, Form, token, sub, Word, Nested, word_at, nested_at, bare, IsText, IsReal, Begins, IsOpen, StandsAt, ends_in_bracket, IsTooDeep, in_text, in_bracket, one_operator_more, ahead}
use Rattle.c_parse.specs.Machine.{want, undecided, opened, begins_type, tell_opened, turn_told, State, at, turn, level, Move, turns, shift, Moves, stay, go}
use Rattle.c_parse.specs.Steps.{Stuck, Reaches, Refuses, Stands}
use Rattle.c_parse.proofs.EachClass.{same_class, same_self}
use Rattle.c_parse.proofs.Complete.{then, one, read_whole}
use Rattle.c_parse.proofs.Viable.{Good, deep, deep_some, good_moves}
use Rattle.c_parse.proofs.Whole.{good_start, goes_onward, ended_stuck, read_levels, begins_so, text_behind, Parting, part, not_so, same_nested}
use Rattle.c_parse.proofs.Depth.{calm, Ready, inside, unopened, calmly, ready_turn, Inside, inside_of, inside_turn}
use Rattle.c_parse.proofs.Bracketed.{IsReady, spaced, spaced_turn, Kept, kept_start, kept_moves, after, after_all}
use Rattle.c_parse.proofs.Begun.{Bounded, low, due, bounded_turn, same_is, not_stuck}
use Rattle.c_parse.proofs.Inside.{bare_append}

shrinks : (c : List Wait) (vs : List (List Raw)) (ts : List Nested) (c2 : List Wait) (vs2 : List (List Raw)) (us : List Nested) → Moves c vs ts c2 vs2 us → length us ≤ length ts
shrinks _ _ _ _ _ _ (stay c vs ts) = omega arith
shrinks _ _ _ _ _ _ (go _ _ _ _ _ _ c3 vs3 ts3 (turns c vs c2 vs2 ts is) others) = shrinks c2 vs2 ts c3 vs3 ts3 others
shrinks _ _ _ _ _ _ (go _ _ _ _ _ _ c3 vs3 ts3 (shift class word c top vs ts is lies) others) = let le : length ts3 ≤ length ts = shrinks c ((top ++ word.leaf ∷ []) ∷ vs) ts c3 vs3 ts3 others in omega arith

-- What turns keep holds of each state that is reached before a token is read.
keeps : (P : List Wait → Type 0) (look : Option Class) → ((c : List Wait) (vs : List (List Raw)) (c2 : List Wait) (vs2 : List (List Raw)) → turn c vs look ≡ Some (at c2 vs2) → P c → P c2)
    → (c : List Wait) (vs : List (List Raw)) (ts : List Nested) (c2 : List Wait) (vs2 : List (List Raw)) (us : List Nested) → Moves c vs ts c2 vs2 us → length ts ≤ length us → ahead ts None ≡ look → P c → P c2
keeps P look f _ _ _ _ _ _ (stay c vs ts) le is p = p
keeps P look f _ _ _ _ _ _ (go _ _ _ _ _ _ c3 vs3 ts3 (turns c vs c2 vs2 ts e) others) le is p = keeps P look f c2 vs2 ts c3 vs3 ts3 others le is (f c vs c2 vs2 (ap (turn c vs) (sym is) ∙ e) p)
keeps P look f _ _ _ _ _ _ (go _ _ _ _ _ _ c3 vs3 ts3 (shift class word c top vs ts e lies) others) le is p =
    let fewer : length ts3 ≤ length ts = shrinks c ((top ++ word.leaf ∷ []) ∷ vs) ts c3 vs3 ts3 others in absurd (omega arith)

record Opening (c : List Wait) (parts : List Raw) (vs : List (List Raw)) (b : Bool) : Type 0 where
  state : State
  is : turn_told (tell_opened b) opened c parts vs ≡ Some (at state.waits state.builds)

opening : (c : List Wait) (parts : List Raw) (vs : List (List Raw)) (b : Bool) → Opening c parts vs b
opening c parts vs true = record { state = _; is = refl }
opening c parts vs false = record { state = _; is = refl }

-- No move leads on with this word, at whatever level.
abbrev Halts : Word → List Wait → List (List Raw) → Type 0
Halts word c vs = (depth : ℕ) (rest : List Nested) → Stuck c vs (nested_at depth word ∷ rest)

opened_goes : (word : Word) (c : List Wait) (vs : List (List Raw)) → Good (undecided opened ∷ c) vs → Halts word (undecided opened ∷ c) vs → ⊥
opened_goes word c [] good halts = let d : suc (deep c) ≡ 0 = good.depth in absurd (omega arith)
opened_goes word c (parts ∷ vs) good halts =
    let o : Opening c parts vs (begins_type (Some word.class)) = opening c parts vs (begins_type (Some word.class)) in
    halts 0 [] o.state.waits o.state.builds (nested_at 0 word ∷ []) (turns (undecided opened ∷ c) (parts ∷ vs) o.state.waits o.state.builds (nested_at 0 word ∷ []) o.is)

inside_goes : (word : Word) (form : Form) (c : List Wait) (vs : List (List Raw)) → Inside form → Halts word (want (sub form) ∷ c) vs → ⊥
inside_goes word form c vs i halts = halts 0 [] _ _ (nested_at 0 word ∷ []) (turns (want (sub form) ∷ c) vs _ _ (nested_at 0 word ∷ []) (inside_turn form c vs (Some word.class) i))

-- Where the machine halts, the level of the next token is that of what is waited for.
ready_halts : (word : Word) (n : ℕ) (c : List Wait) (vs : List (List Raw)) → Good c vs → Ready c n → Halts word c vs → n ≡ level c
ready_halts word n c vs good (inside form rest e is lies) halts = let P : List Wait → Type 0 = λ w. Halts word w vs in absurd (inside_goes word form rest vs (inside_of form e) (subst P is halts))
ready_halts word n c vs good (unopened rest is lies) halts =
    let P : List Wait → Type 0 = λ w. Halts word w vs in
    let Q : List Wait → Type 0 = λ w. Good w vs in absurd (opened_goes word rest vs (subst Q is good) (subst P is halts))
ready_halts word n c vs good (calmly so) halts = so.deep

record Next (ts : List Nested) (n : ℕ) : Type 0 where
  first : Nested
  rest : List Nested
  is : ts ≡ first ∷ rest
  lies : first.level ≡ n

not_ended : (n : ℕ) (c : List Wait) → Ready c n → c ≡ [] → ⊥
not_ended n c (inside form rest e is lies) e2 = cc
not_ended n c (unopened rest is lies) e2 = cc
not_ended n c (calmly so) e2 = let q : calm c ≡ false = ap calm e2 in cc (so.calmly, q)

shift_level : (n : ℕ) (class : Class) (c : List Wait) (waits : List Wait) → Ready waits n → waits ≡ want (token class) ∷ c → n ≡ level c
shift_level n class c waits (inside form rest e is lies) e2 = cc
shift_level n class c waits (unopened rest is lies) e2 = cc
shift_level n class c waits (calmly so) e2 = so.deep ∙ ap level e2

-- What is read next where the level is known.
next_level : (n : ℕ) (c : List Wait) (vs : List (List Raw)) (ts : List Nested) (c2 : List Wait) (vs2 : List (List Raw)) (us : List Nested) → Ready c n → Moves c vs ts c2 vs2 us → c2 ≡ [] → Next ts n
next_level n _ _ _ _ _ _ r (stay c vs ts) e = absurd (not_ended n c r e)
next_level n _ _ _ _ _ _ r (go _ _ _ _ _ _ c3 vs3 ts3 (turns c vs c2 vs2 ts is) others) e = next_level n c2 vs2 ts c3 vs3 ts3 (ready_turn n c vs (ahead ts None) c2 vs2 r is) others e
next_level n _ _ _ _ _ _ r (go _ _ _ _ _ _ c3 vs3 ts3 (shift class word c top vs ts is lies) others) e =
    record { first = word; rest = ts; is = refl; lies = lies ∙ sym (shift_level n class c (want (token class) ∷ c) r refl) }

pub kept_so : (front : List Word) (c : List Wait) (vs : List (List Raw)) → Stands front c vs → Kept (ends_in_bracket front) c
kept_so front c vs s =
    let k : Kept (after false (s.text ++ [])) c = kept_moves false _ _ _ _ _ _ (s.moves []) refl kept_start in
    let P : Bool → Type 0 = λ b. Kept b c in
    subst P (ap (after false) (append-nil s.text) ∙ after_all s.text ∙ ap ends_in_bracket s.are) k

reached_good : (front : List Word) (word : Word) (c : List Wait) (vs : List (List Raw)) (c2 : List Wait) (vs2 : List (List Raw)) → Stands front c vs → Reaches word c vs c2 vs2 → Good c2 vs2
reached_good front word c vs c2 vs2 s reaches = good_moves _ _ _ _ _ _ (then (s.moves (nested_at 0 word ∷ [])) (reaches.moves 0 [])) good_start

reached_keeps : (P : List Wait → Type 0) (word : Word) (c : List Wait) (vs : List (List Raw)) (c2 : List Wait) (vs2 : List (List Raw)) → Reaches word c vs c2 vs2
    → ((d : List Wait) (ws : List (List Raw)) (d2 : List Wait) (ws2 : List (List Raw)) → turn d ws (Some word.class) ≡ Some (at d2 ws2) → P d → P d2) → P c → P c2
reached_keeps P word c vs c2 vs2 reaches f p = keeps P (Some word.class) f c vs (nested_at 0 word ∷ []) c2 vs2 (nested_at 0 word ∷ []) (reaches.moves 0 []) (omega arith) refl p

-- the token is read as it stands where this is waited for
abbrev wants_it : Class → List Wait → Bool
wants_it class (want (token other) ∷ c) = same_class other class
wants_it class _ = false

unwanted : (word : Word) (c : List Wait) (vs : List (List Raw)) (ts : List Nested) (c2 : List Wait) (vs2 : List (List Raw)) (us : List Nested) (depth : ℕ) (rest : List Nested) → Move c vs ts c2 vs2 us → ts ≡ nested_at depth word ∷ rest
    → wants_it word.class c ≡ false → ((d : ℕ) (others : List Nested) → d ≤ 64 → Stuck c vs (nested_at d word ∷ others)) → ⊥
unwanted word _ _ _ _ _ _ depth rest (turns c vs c2 vs2 ts is) e apart stuck =
    stuck 0 [] (omega arith) c2 vs2 (nested_at 0 word ∷ []) (turns c vs c2 vs2 (nested_at 0 word ∷ []) (ap (turn c vs) (sym (ap (λ t. ahead t None) e)) ∙ is))
unwanted word _ _ _ _ _ _ depth rest (shift class w c top vs ts is lies) e apart stuck =
    let first : w ≡ nested_at depth word = cc in
    let classes_same : class ≡ word.class = sym is ∙ ap (λ n. n.class) first in
    let yes : same_class class word.class ≡ true = ap (same_class class) (sym classes_same) ∙ same_self class in
    cc (apart, yes)

shallow_halts : (word : Word) (c : List Wait) (vs : List (List Raw)) (ts : List Nested) (c2 : List Wait) (vs2 : List (List Raw)) (us : List Nested) (depth : ℕ) (rest : List Nested) → Move c vs ts c2 vs2 us → ts ≡ nested_at depth word ∷ rest
    → level c ≤ 64 → ((d : ℕ) (others : List Nested) → d ≤ 64 → Stuck c vs (nested_at d word ∷ others)) → ⊥
shallow_halts word _ _ _ _ _ _ depth rest (turns c vs c2 vs2 ts is) e le stuck =
    stuck 0 [] (omega arith) c2 vs2 (nested_at 0 word ∷ []) (turns c vs c2 vs2 (nested_at 0 word ∷ []) (ap (turn c vs) (sym (ap (λ t. ahead t None) e)) ∙ is))
shallow_halts word _ _ _ _ _ _ depth rest (shift class w c top vs ts is lies) e le stuck =
    let first : w ≡ nested_at depth word = cc in
    let same_class_is : word.class ≡ class = sym (ap (λ n. n.class) first) ∙ is in
    stuck (level c) [] le _ _ _ (shift class (nested_at (level c) word) c top vs [] same_class_is refl)

-- Where the token could be read if it were nested less deep, a text goes on with it there.
deep_shift : (front : List Word) (word : Word) (c : List Wait) (vs : List (List Raw)) (c2 : List Wait) (vs2 : List (List Raw)) → Stands front c vs → Reaches word c vs c2 vs2 → Good c2 vs2 → wants_it word.class c2 ≡ true → 64 < level c2
    → IsTooDeep front word
deep_shift front word c vs (want (token other) ∷ c2) [] s reaches good is lies = let some : 0 < deep c2 = deep_some c2 in let d : deep c2 ≡ 0 = good.depth in absurd (omega arith)
deep_shift front word c vs (want (token other) ∷ c2) (top ∷ vs2) s reaches good is lies =
    let n : Nested = nested_at (level c2) word in
    let over : (rest : List Nested) → Moves (want (sub program) ∷ []) ([] ∷ []) ((s.text ++ n ∷ []) ++ rest) c2 ((top ++ word.leaf ∷ []) ∷ vs2) rest =
    λ rest.
    let P : List Nested → Type 0 = λ t. Moves (want (sub program) ∷ []) ([] ∷ []) t c2 ((top ++ word.leaf ∷ []) ∷ vs2) rest in
    subst P (sym (append_assoc s.text (n ∷ []) rest)) (then (s.moves (n ∷ rest)) (then (reaches.moves (level c2) rest) (one (shift other n c2 top vs2 rest (sym (same_is other word.class is)) refl)))) in
    in_text (level c2) lies (record { front = s.text; are = s.are; begins = begins_so (s.text ++ n ∷ []) c2 ((top ++ word.leaf ∷ []) ∷ vs2) over })
deep_shift front word c vs _ vs2 s reaches good is lies = cc

pub not_open : (front : List Word) (word : Word) (c : List Wait) (vs : List (List Raw)) (c2 : List Wait) (vs2 : List (List Raw)) → Stands front c vs → Reaches word c vs c2 vs2 → Halts word c2 vs2 → IsOpen (front ++ word ∷ []) → ⊥
not_open front word c vs c2 vs2 s reaches halts was =
    let p : Parting was.front front word = part front word was.front was.are in
    not_so front word c vs c2 vs2 s reaches was.front was.begins p (λ rest. halts p.last.level rest)

-- a text that goes on behind what was read
whole_from : (front : List Word) (c : List Wait) (vs : List (List Raw)) (s : Stands front c vs) (more : List Nested) (raw : Raw) → IsText (s.text ++ more) raw → Moves c vs more [] ((raw ∷ []) ∷ []) []
whole_from front c vs s more raw text = goes_onward _ _ _ _ _ _ _ _ _ (s.moves more) (read_whole (s.text ++ more) (raw ∷ []) text) (ended_stuck ((raw ∷ []) ∷ []) [])

deep_in_bracket : (front : List Word) (word : Word) (c : List Wait) (vs : List (List Raw)) (c2 : List Wait) (vs2 : List (List Raw)) → Stands front c vs → Reaches word c vs c2 vs2 → Good c2 vs2 → Halts word c2 vs2 → 64 < level c2
    → ends_in_bracket front ≡ true → IsReady c → IsTooDeep front word
deep_in_bracket front word c vs c2 vs2 s reaches good halts lies bracket r =
    let P : List Wait → Type 0 = λ w. Ready w r.next in
    let there_too : Ready c2 r.next = reached_keeps P word c vs c2 vs2 reaches (λ d ws d2 ws2 e k. ready_turn r.next d ws (Some word.class) d2 ws2 k e) r.ready in
    let same : r.next ≡ level c2 = ready_halts word r.next c2 vs2 good there_too halts in
    let b : Begins s.text = begins_so s.text c vs s.moves in
    let n : Next b.more r.next = next_level r.next c vs b.more [] ((b.raw ∷ []) ∷ []) [] r.ready (whole_from front c vs s b.more b.raw b.text) refl in
    let first_is : n.first ≡ nested_at (level c2) (word_at n.first) = same_nested n.first (nested_at (level c2) (word_at n.first)) refl (n.lies ∙ same) in
    let Q : List Nested → Type 0 = λ t. IsText t b.raw in
    let text : IsText ((s.text ++ nested_at (level c2) (word_at n.first) ∷ []) ++ n.rest) b.raw =
    subst Q (ap (λ t. s.text ++ t) n.is ∙ ap (λ x. s.text ++ x ∷ n.rest) first_is ∙ sym (append_assoc s.text (nested_at (level c2) (word_at n.first) ∷ []) n.rest)) b.text in
    let all : All IsReal (n.first ∷ n.rest) = subst (All IsReal) n.is b.real in
    in_bracket (level c2) (word_at n.first) (All-head IsReal n.first n.rest all) lies (not_open front word c vs c2 vs2 s reaches halts) bracket
    (record { front = s.text; are = s.are; begins = record { more = n.rest; real = All-tail IsReal n.first n.rest all; raw = b.raw; text = text } })

record Held (base : ℕ) (class : Class) (c : List Wait) : Type 0 where
  bounded : Bounded base class c
  apart : spaced false c ≡ true

held_turn : (base : ℕ) (class : Class) (d : List Wait) (ws : List (List Raw)) (d2 : List Wait) (ws2 : List (List Raw)) → turn d ws (Some class) ≡ Some (at d2 ws2) → Held base class d → Held base class d2
held_turn base class d ws d2 ws2 e h = record { bounded = bounded_turn base class d ws d2 ws2 h.bounded h.apart e; apart = spaced_turn false d ws (Some class) d2 ws2 e h.apart }

bounded_halts : (base : ℕ) (word : Word) (c : List Wait) (vs : List (List Raw)) → Good c vs → Bounded base word.class c → Halts word c vs → level c ≤ base
bounded_halts base word c vs good (low le) halts = le
bounded_halts base word c vs good (due p) halts = absurd (not_stuck word c vs good p halts)

-- Behind any other token nothing has begun that isn't open before it.
no_deeper_there : (front : List Word) (word : Word) (c : List Wait) (vs : List (List Raw)) (c2 : List Wait) (vs2 : List (List Raw)) → Reaches word c vs c2 vs2 → Good c2 vs2 → Halts word c2 vs2 → Kept false c → level c2 ≤ level c
no_deeper_there front word c vs c2 vs2 reaches good halts k =
    let h : Held (level c) word.class c2 =
    reached_keeps (Held (level c) word.class) word c vs c2 vs2 reaches (λ d ws d2 ws2 e p. held_turn (level c) word.class d ws d2 ws2 e p) (record { bounded = low (omega arith); apart = k.apart }) in
    bounded_halts (level c) word c2 vs2 good h.bounded halts

deep_by : (b : Bool) (front : List Word) (word : Word) (c : List Wait) (vs : List (List Raw)) (c2 : List Wait) (vs2 : List (List Raw)) → Stands front c vs → Reaches word c vs c2 vs2 → Good c2 vs2 → Halts word c2 vs2 → 64 < level c2
    → ends_in_bracket front ≡ b → Kept b c → IsTooDeep front word
deep_by true front word c vs c2 vs2 s reaches good halts lies is k = deep_in_bracket front word c vs c2 vs2 s reaches good halts lies is (k.ready refl)
deep_by false front word c vs c2 vs2 s reaches good halts lies is k =
    let le : level c2 ≤ level c = no_deeper_there front word c vs c2 vs2 reaches good halts k in
    let le2 : level c ≤ 64 = s.deep in absurd (omega arith)

deep_where : (b : Bool) (front : List Word) (word : Word) (c : List Wait) (vs : List (List Raw)) (s : Stands front c vs) (r : Refuses word c vs) → wants_it word.class r.waits ≡ b → 64 < level r.waits → IsTooDeep front word
deep_where true front word c vs s r is lies = deep_shift front word c vs r.waits r.builds s r.reaches (reached_good front word c vs r.waits r.builds s r.reaches) is lies
deep_where false front word c vs s r is lies =
    deep_by (ends_in_bracket front) front word c vs r.waits r.builds s r.reaches (reached_good front word c vs r.waits r.builds s r.reaches)
    (λ depth rest d ws us move. unwanted word r.waits r.builds (nested_at depth word ∷ rest) d ws us depth rest move refl is r.stuck) lies refl (kept_so front c vs s)

-- A word that is refused is nested too deep where more than 64 forms that nest are open.
pub deep_refusal : (front : List Word) (word : Word) (c : List Wait) (vs : List (List Raw)) (s : Stands front c vs) (r : Refuses word c vs) → 64 < level r.waits → IsTooDeep front word
deep_refusal front word c vs s r lies = deep_where (wants_it word.class r.waits) front word c vs s r refl lies

pub not_at : (front : List Word) (word : Word) (c : List Wait) (vs : List (List Raw)) (s : Stands front c vs) (r : Refuses word c vs) → level r.waits ≤ 64 → Halts word r.waits r.builds
not_at front word c vs s r le depth rest d ws us move = shallow_halts word r.waits r.builds (nested_at depth word ∷ rest) d ws us depth rest move refl le r.stuck

pub stands_where : (before : List Word) (level_is : ℕ) (word : Word) → StandsAt level_is before word → IsOpen (before ++ word ∷ [])
stands_where before level_is word st = record { front = st.front ++ nested_at level_is word ∷ []; are = bare_last st.front (nested_at level_is word) ∙ ap (λ t. t ++ word ∷ []) st.are; begins = st.begins }
  where
    bare_last : (a : List Nested) (n : Nested) → bare (a ++ n ∷ []) ≡ bare a ++ word_at n ∷ []
    bare_last [] n = refl
    bare_last (x ∷ a) n = ap (λ t. word_at x ∷ t) (bare_last a n)

other_level : (front : List Word) (c : List Wait) (vs : List (List Raw)) (s : Stands front c vs) (n level_is : ℕ) (other : Word) → Ready c n → StandsAt level_is front other → level_is ≡ n
other_level front c vs s n level_is other r st =
    let same : s.text ≡ st.front =
    read_levels front c vs s st.front (nested_at level_is other ∷ st.begins.more) st.begins.raw (text_behind st.front (nested_at level_is other) st.begins) (sym st.are) in
    let P : List Nested → Type 0 = λ t. IsText t st.begins.raw in
    let text : IsText (s.text ++ nested_at level_is other ∷ st.begins.more) st.begins.raw =
    subst P (append_assoc st.front (nested_at level_is other ∷ []) st.begins.more ∙ ap (λ t. t ++ nested_at level_is other ∷ st.begins.more) (sym same)) st.begins.text in
    let next : Next (nested_at level_is other ∷ st.begins.more) n =
    next_level n c vs (nested_at level_is other ∷ st.begins.more) [] ((st.begins.raw ∷ []) ∷ []) [] r (whole_from front c vs s (nested_at level_is other ∷ st.begins.more) st.begins.raw text) refl in
    let first_is : next.first ≡ nested_at level_is other = let q : nested_at level_is other ∷ st.begins.more ≡ next.first ∷ next.rest = next.is in cc in
    sym (ap (λ x. x.level) first_is) ∙ next.lies

pub flat_bracket : (b : Bool) (front : List Word) (word : Word) (c : List Wait) (vs : List (List Raw)) (s : Stands front c vs) (r : Refuses word c vs) (level_is : ℕ) (other : Word) → level r.waits ≤ 64 → 64 < level_is → b ≡ true → StandsAt level_is front other → Kept b c → ⊥
flat_bracket b front word c vs s r level_is other le lies is st k =
    let ready : IsReady c = k.ready is in
    let P : List Wait → Type 0 = λ w. Ready w ready.next in
    let there_too : Ready r.waits ready.next = reached_keeps P word c vs r.waits r.builds r.reaches (λ d ws d2 ws2 e x. ready_turn ready.next d ws (Some word.class) d2 ws2 x e) ready.ready in
    let same : ready.next ≡ level r.waits = ready_halts word ready.next r.waits r.builds (reached_good front word c vs r.waits r.builds s r.reaches) there_too (not_at front word c vs s r le) in
    let same2 : level_is ≡ ready.next = other_level front c vs s ready.next level_is other ready.ready st in
    absurd (omega arith)

pub over_open : (front : List Word) (word : Word) (before : List Nested) (last : Nested) → Begins (before ++ last ∷ []) → bare before ≡ front → word_at last ≡ word → IsOpen (front ++ word ∷ [])
over_open front word before last b are is =
    record { front = before ++ last ∷ []; are = bare_append before (last ∷ []) ∙ ap (λ t. t ++ word_at last ∷ []) are ∙ ap (λ w. front ++ w ∷ []) is; begins = b }

-- Where no more are open it isn't.
pub flat_refusal : (front : List Word) (word : Word) (c : List Wait) (vs : List (List Raw)) (s : Stands front c vs) (r : Refuses word c vs) → level r.waits ≤ 64 → IsTooDeep front word → ⊥
flat_refusal front word c vs s r le (in_text level_is lies st) = not_open front word c vs r.waits r.builds s r.reaches (not_at front word c vs s r le) (stands_where front level_is word st)
flat_refusal front word c vs s r le (in_bracket level_is other real lies shut bracket st) = flat_bracket (ends_in_bracket front) front word c vs s r level_is other le lies bracket st (kept_so front c vs s)
flat_refusal front word c vs s r le (one_operator_more before last b are is many) = not_open front word c vs r.waits r.builds s r.reaches (not_at front word c vs s r le) (over_open front word before last b are is)
