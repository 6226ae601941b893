-- Right behind a bracket it is known how deep the next token stands, and only there a form begins that nests what a bracket holds.
use Rattle.std.proofs.Common.{◌≡◌, ℕ, zero, suc, List, [], ◌∷◌, ◌++◌, Option, Some, None, Bool, true, false, not, ◌&&◌, ◌||◌, refl, sym, ap, subst, ◌∙◌, ◌+◌}
use Rattle.c_parse.specs.declared.class.Class.{Class}
use Rattle.c_parse.specs.declared.raw.Raw.{Raw}
use Rattle.c_parse.specs.declared.form.Wait.{Wait}
use Rattle.c_parse.specs.Grammar.{in_body, in_switch, in_loop, Form, program, ending, statement, groups, Symbol, token, sub, alternatives, Nested, bare, is_bracket, ends_in_bracket, ahead}
use Rattle.c_parse.specs.Machine.{want, close, undecided, judged, Delay, opened, called, named, begun, indexed, Late, of_params, of_group, Choice, refuse, take_on, defer, judge, choose, nth, wants, Frame, frame, readings, first_of, Telling, reading, onward, tell, nth_reading, opens, late_symbols, verdict, late_rest, State, at, is_spliced, unfolded, turn_taken, turn_chosen, turn_read, turn_told, turn, level, turns, shift, Moves, stay, go}
use Rattle.c_parse.proofs.Truth.{implied, or_second, both, both_left, both_right}
use Rattle.c_parse.proofs.Depth.{or_map, is_inside, calm_symbols, calm, calm_wants, Ready, inside, unopened, calmly, ready_turn}

abbrev ready_symbols : List Symbol → Bool
ready_symbols [] = false
ready_symbols (token class ∷ ss) = true
ready_symbols (sub form ∷ ss) = is_inside form || calm_symbols false (sub form ∷ ss)

-- how deep the next token stands is known
abbrev ready_waits : List Wait → Bool
ready_waits (want (sub form) ∷ c) = is_inside form || calm (want (sub form) ∷ c)
ready_waits (undecided opened ∷ c) = true
ready_waits c = calm c

pub record IsReady (c : List Wait) : Type 0 where
  pub next : ℕ
  pub ready : Ready c next

ready_form : (b : Bool) (form : Form) (c : List Wait) → is_inside form ≡ b → (b || calm (want (sub form) ∷ c)) ≡ true → IsReady (want (sub form) ∷ c)
ready_form true form c is e = record { next = level c + 1; ready = inside form c is refl refl }
ready_form false form c is e = record { next = level c; ready = calmly (record { calmly = e; deep = refl }) }

ready_so : (c : List Wait) → ready_waits c ≡ true → IsReady c
ready_so (want (sub form) ∷ c) e = ready_form (is_inside form) form c refl e
ready_so (undecided opened ∷ c) e = record { next = level c + 1; ready = unopened c refl refl }
ready_so c e = record { next = level c; ready = calmly (record { calmly = e; deep = refl }) }

ready_wants : (ss : List Symbol) (c : List Wait) → ready_symbols ss ≡ true → ready_waits (wants ss c) ≡ true
ready_wants [] c e = cc
ready_wants (token class ∷ ss) c e = refl
ready_wants (sub form ∷ ss) c e =
    or_map (is_inside form) (calm_symbols false (sub form ∷ ss)) (calm (want (sub form) ∷ wants ss c)) e (λ x. calm_wants false (sub form ∷ ss) c x (λ y. cc))

abbrev is_opened : Delay → Bool
is_opened opened = true
is_opened _ = false

-- Behind each bracket that is waited for the next level is known, and nowhere else a form begins that nests what a bracket holds; the flag says whether a bracket was read last.
abbrev pub spaced : Bool → List Wait → Bool
spaced b [] = true
spaced b (want (token class) ∷ c) = (not (is_bracket class) || ready_waits c) && spaced (is_bracket class) c
spaced b (want (sub form) ∷ c) = (not (is_inside form) || b) && spaced false c
spaced b (undecided delay ∷ c) = (not (is_opened delay) || b) && spaced false c
spaced b (close form ∷ c) = spaced false c
spaced b (judged late ∷ c) = spaced false c

spaced_more : (c : List Wait) → spaced false c ≡ true → spaced true c ≡ true
spaced_more [] e = refl
spaced_more (want (token class) ∷ c) e = e
spaced_more (want (sub form) ∷ c) e = both (not (is_inside form) || true) (spaced false c) (or_second (not (is_inside form)) true refl) (both_right (not (is_inside form) || false) (spaced false c) e)
spaced_more (undecided delay ∷ c) e = both (not (is_opened delay) || true) (spaced false c) (or_second (not (is_opened delay)) true refl) (both_right (not (is_opened delay) || false) (spaced false c) e)
spaced_more (close form ∷ c) e = e
spaced_more (judged late ∷ c) e = e

spaced_any : (b : Bool) (c : List Wait) → spaced false c ≡ true → spaced b c ≡ true
spaced_any true c e = spaced_more c e
spaced_any false c e = e

spaced_as : (a b : Bool) (c : List Wait) → (not a || b) ≡ true → spaced a c ≡ true → spaced b c ≡ true
spaced_as true true c e s = s
spaced_as true false c e s = cc
spaced_as false b c e s = spaced_any b c s

abbrev symbols_spaced : Bool → List Symbol → Bool
symbols_spaced b [] = not b
symbols_spaced b (token class ∷ ss) = (not (is_bracket class) || ready_symbols ss) && symbols_spaced (is_bracket class) ss
symbols_spaced b (sub form ∷ ss) = (not (is_inside form) || b) && symbols_spaced false ss

spaced_wants : (b : Bool) (ss : List Symbol) (c : List Wait) → symbols_spaced b ss ≡ true → spaced false c ≡ true → spaced b (wants ss c) ≡ true
spaced_wants true [] c e f = cc
spaced_wants false [] c e f = f
spaced_wants b (token class ∷ ss) c e f =
    both (not (is_bracket class) || ready_waits (wants ss c)) (spaced (is_bracket class) (wants ss c))
    (or_map (not (is_bracket class)) (ready_symbols ss) (ready_waits (wants ss c)) (both_left (not (is_bracket class) || ready_symbols ss) (symbols_spaced (is_bracket class) ss) e) (ready_wants ss c))
    (spaced_wants (is_bracket class) ss c (both_right (not (is_bracket class) || ready_symbols ss) (symbols_spaced (is_bracket class) ss) e) f)
spaced_wants b (sub form ∷ ss) c e f =
    both (not (is_inside form) || b) (spaced false (wants ss c)) (both_left (not (is_inside form) || b) (symbols_spaced false ss) e)
    (spaced_wants false ss c (both_right (not (is_inside form) || b) (symbols_spaced false ss) e) f)

abbrev all_spaced : List (List Symbol) → Bool
all_spaced [] = true
all_spaced (ss ∷ others) = symbols_spaced false ss && all_spaced others

spacing : (form : Form) → all_spaced (alternatives form) ≡ true
spacing (ending true) = refl
spacing (ending false) = refl
spacing (statement in_body) = refl
spacing (statement in_switch) = refl
spacing (statement in_loop) = refl
spacing (groups within true) = refl
spacing (groups within false) = refl
spacing _ = refl

spaced_at : (list : List (List Symbol)) (n : ℕ) (ss : List Symbol) → all_spaced list ≡ true → nth list n ≡ Some ss → symbols_spaced false ss ≡ true
spaced_at [] n ss e is = cc
spaced_at (first ∷ others) zero ss e is = let same : first ≡ ss = cc in ap (symbols_spaced false) (sym same) ∙ both_left (symbols_spaced false first) (all_spaced others) e
spaced_at (first ∷ others) (suc n) ss e is = spaced_at others n ss (both_right (symbols_spaced false first) (all_spaced others) e) is

abbrev frames_spaced : Bool → List Frame → Bool
frames_spaced b [] = true
frames_spaced b (frame form rest ∷ frames) = symbols_spaced b rest && frames_spaced false frames

abbrev all_frames : Bool → List (List Frame) → Bool
all_frames b [] = true
all_frames b (frames ∷ others) = frames_spaced b frames && all_frames b others

readings_spaced : (delay : Delay) → all_frames (is_opened delay) (readings delay) ≡ true
readings_spaced opened = refl
readings_spaced called = refl
readings_spaced named = refl
readings_spaced begun = refl
readings_spaced indexed = refl

frames_at : (b : Bool) (list : List (List Frame)) (n : ℕ) (frames : List Frame) → all_frames b list ≡ true → nth_reading list n ≡ Some frames → frames_spaced b frames ≡ true
frames_at b [] n frames e is = cc
frames_at b (first ∷ others) zero frames e is = let same : first ≡ frames = cc in ap (frames_spaced b) (sym same) ∙ both_left (frames_spaced b first) (all_frames b others) e
frames_at b (first ∷ others) (suc n) frames e is = frames_at b others n frames (both_right (frames_spaced b first) (all_frames b others) e) is

spaced_opens : (b : Bool) (frames : List Frame) (c : List Wait) → frames_spaced b frames ≡ true → spaced false c ≡ true → spaced b (opens frames c) ≡ true
spaced_opens b [] c e f = spaced_any b c f
spaced_opens b (frame form rest ∷ frames) c e f =
    spaced_wants b rest (close form ∷ opens frames c) (both_left (symbols_spaced b rest) (frames_spaced false frames) e) (spaced_opens false frames c (both_right (symbols_spaced b rest) (frames_spaced false frames) e) f)

spaced_lands : (b : Bool) (c : List Wait) (vs : List (List Raw)) (c2 : List Wait) (vs2 : List (List Raw)) → Some (at c vs) ≡ Some (at c2 vs2) → spaced b c ≡ true → spaced b c2 ≡ true
spaced_lands b c vs c2 vs2 e g =
    let s : at c vs ≡ at c2 vs2 = cc in
    let P : State → Type 0 = λ x. spaced b x.waits ≡ true in subst P s g

spaced_first : (b : Bool) (delay : Delay) (c : List Wait) → spaced false c ≡ true → spaced b (want (first_of delay) ∷ undecided delay ∷ c) ≡ true
spaced_first b opened c e = e
spaced_first b called c e = e
spaced_first b named c e = e
spaced_first b begun c e = e
spaced_first b indexed c e = e

spaced_late : (b : Bool) (late : Late) (c : List Wait) → spaced false c ≡ true → spaced b (wants (late_symbols late) (judged late ∷ c)) ≡ true
spaced_late b of_params c e = e
spaced_late b (of_group within) c e = e

spaced_rest : (late : Late) (answer : Bool) → symbols_spaced false (late_rest late answer) ≡ true
spaced_rest of_params answer = refl
spaced_rest (of_group within) answer = refl

spaced_unfolded : (b d : Bool) (form : Form) (ss : List Symbol) (c : List Wait) (vs : List (List Raw)) → symbols_spaced false ss ≡ true → spaced false c ≡ true → spaced b (unfolded d form ss c vs).waits ≡ true
spaced_unfolded b true form ss c vs e f = spaced_any b (wants ss c) (spaced_wants false ss c e f)
spaced_unfolded b false form ss c vs e f = spaced_any b (wants ss (close form ∷ c)) (spaced_wants false ss (close form ∷ c) e f)

spaced_taken : (b : Bool) (told : Option (List Symbol)) (n : ℕ) (form : Form) (c : List Wait) (vs : List (List Raw)) (c2 : List Wait) (vs2 : List (List Raw)) → nth (alternatives form) n ≡ told
    → turn_taken told form c vs ≡ Some (at c2 vs2) → spaced false c ≡ true → spaced b c2 ≡ true
spaced_taken b None n form c vs c2 vs2 is e f = cc
spaced_taken b (Some ss) n form c vs c2 vs2 is e f =
    spaced_lands b _ _ c2 vs2 e (spaced_unfolded b (is_spliced form) form ss c vs (spaced_at (alternatives form) n ss (spacing form) is) f)

spaced_chosen : (b : Bool) (told : Choice) (form : Form) (c : List Wait) (vs : List (List Raw)) (c2 : List Wait) (vs2 : List (List Raw)) → turn_chosen told form c vs ≡ Some (at c2 vs2) → spaced false c ≡ true → spaced b c2 ≡ true
spaced_chosen b refuse form c vs c2 vs2 e f = cc
spaced_chosen b (take_on n) form c vs c2 vs2 e f = spaced_taken b (nth (alternatives form) n) n form c vs c2 vs2 refl e f
spaced_chosen b (defer delay) form c vs c2 vs2 e f = spaced_lands b _ _ c2 vs2 e (spaced_first b delay c f)
spaced_chosen b (judge late) form c vs c2 vs2 e f = spaced_lands b _ _ c2 vs2 e (spaced_late b late c f)

spaced_read : (b : Bool) (told : Option (List Frame)) (n : ℕ) (delay : Delay) (c : List Wait) (parts : List Raw) (vs : List (List Raw)) (c2 : List Wait) (vs2 : List (List Raw)) → nth_reading (readings delay) n ≡ told
    → turn_read told c parts vs ≡ Some (at c2 vs2) → (not (is_opened delay) || b) ≡ true → spaced false c ≡ true → spaced b c2 ≡ true
spaced_read b None n delay c parts vs c2 vs2 is e first_so f = cc
spaced_read b (Some frames) n delay c parts vs c2 vs2 is e first_so f =
    spaced_lands b _ _ c2 vs2 e (spaced_as (is_opened delay) b (opens frames c) first_so (spaced_opens (is_opened delay) frames c (frames_at (is_opened delay) (readings delay) n frames (readings_spaced delay) is) f))

spaced_told : (b : Bool) (told : Telling) (delay : Delay) (c : List Wait) (parts : List Raw) (vs : List (List Raw)) (c2 : List Wait) (vs2 : List (List Raw))
    → turn_told told delay c parts vs ≡ Some (at c2 vs2) → (not (is_opened delay) || b) ≡ true → spaced false c ≡ true → spaced b c2 ≡ true
spaced_told b (reading n) delay c parts vs c2 vs2 e first_so f = spaced_read b (nth_reading (readings delay) n) n delay c parts vs c2 vs2 refl e first_so f
spaced_told b (onward next) delay c parts vs c2 vs2 e first_so f = spaced_lands b _ _ c2 vs2 e (spaced_first b next c f)

pub spaced_turn : (b : Bool) (c : List Wait) (vs : List (List Raw)) (look : Option Class) (c2 : List Wait) (vs2 : List (List Raw)) → turn c vs look ≡ Some (at c2 vs2) → spaced b c ≡ true → spaced b c2 ≡ true
spaced_turn b (want (sub form) ∷ c) vs look c2 vs2 e s = spaced_chosen b (choose form look) form c vs c2 vs2 e (both_right (not (is_inside form) || b) (spaced false c) s)
spaced_turn b (close form ∷ c) (parts ∷ top ∷ vs) look c2 vs2 e s = spaced_lands b _ _ c2 vs2 e (spaced_any b c s)
spaced_turn b (undecided delay ∷ c) (parts ∷ vs) look c2 vs2 e s =
    spaced_told b (tell delay look) delay c parts vs c2 vs2 e (both_left (not (is_opened delay) || b) (spaced false c) s) (both_right (not (is_opened delay) || b) (spaced false c) s)
spaced_turn b (judged late ∷ c) (parts ∷ top ∷ vs) look c2 vs2 e s =
    spaced_lands b _ _ c2 vs2 e (spaced_any b (wants (late_rest late (verdict late parts)) c) (spaced_wants false (late_rest late (verdict late parts)) c (spaced_rest late (verdict late parts)) s))
spaced_turn b _ vs look c2 vs2 e s = cc

-- What holds of each state that the machine reaches, where the flag says whether a bracket was read last.
pub record Kept (b : Bool) (c : List Wait) : Type 0 where
  pub apart : spaced b c ≡ true
  pub ready : b ≡ true → IsReady c

pub kept_start : Kept false (want (sub program) ∷ [])
kept_start = record { apart = refl; ready = λ e. cc }

kept_turn : (b : Bool) (c : List Wait) (vs : List (List Raw)) (look : Option Class) (c2 : List Wait) (vs2 : List (List Raw)) → turn c vs look ≡ Some (at c2 vs2) → Kept b c → Kept b c2
kept_turn b c vs look c2 vs2 e k = record {
  apart = spaced_turn b c vs look c2 vs2 e k.apart;
  ready = λ is. let r : IsReady c = k.ready is in record { next = r.next; ready = ready_turn r.next c vs look c2 vs2 r.ready e };
}

kept_shift : (b : Bool) (class : Class) (word : Nested) (c : List Wait) → word.class ≡ class → Kept b (want (token class) ∷ c) → Kept (is_bracket word.class) c
kept_shift b class word c is k =
    let P : Class → Type 0 = λ k2. Kept (is_bracket k2) c in
    subst P (sym is)
    (record {
      apart = both_right (not (is_bracket class) || ready_waits c) (spaced (is_bracket class) c) k.apart;
      ready = λ e. ready_so c (implied (is_bracket class) (ready_waits c) (both_left (not (is_bracket class) || ready_waits c) (spaced (is_bracket class) c) k.apart) e);
    })

-- whether a bracket was read last, behind these tokens
abbrev pub after : Bool → List Nested → Bool
after b [] = b
after b (word ∷ words) = after (is_bracket word.class) words

pub kept_moves : (b : Bool) (c : List Wait) (vs : List (List Raw)) (ts : List Nested) (c2 : List Wait) (vs2 : List (List Raw)) (us : List Nested) → Moves c vs ts c2 vs2 us → us ≡ [] → Kept b c → Kept (after b ts) c2
kept_moves b _ _ _ _ _ _ (stay c vs ts) e k = let P : List Nested → Type 0 = λ t. Kept (after b t) c in subst P (sym e) k
kept_moves b _ _ _ _ _ _ (go _ _ _ _ _ _ c3 vs3 ts3 (turns c vs c2 vs2 ts is) others) e k = kept_moves b c2 vs2 ts c3 vs3 ts3 others e (kept_turn b c vs (ahead ts None) c2 vs2 is k)
kept_moves b _ _ _ _ _ _ (go _ _ _ _ _ _ c3 vs3 ts3 (shift class word c top vs ts is deep) others) e k =
    kept_moves (is_bracket word.class) c ((top ++ word.leaf ∷ []) ∷ vs) ts c3 vs3 ts3 others e (kept_shift b class word c is k)

after_last : (word : Nested) (words : List Nested) → after (is_bracket word.class) words ≡ ends_in_bracket (bare (word ∷ words))
after_last word [] = refl
after_last word (next ∷ words) = after_last next words

pub after_all : (words : List Nested) → after false words ≡ ends_in_bracket (bare words)
after_all [] = refl
after_all (word ∷ words) = after_last word words
