-- Over a text the tally counts the binary operators of each expression that is part of no other.
use Rattle.std.proofs.Common.{◌≡◌, ◌≤◌, ◌<◌, ◌⊎◌, inl, inr, length, take, get_or, ℕ, zero, suc, List, [], ◌∷◌, ◌++◌, Option, None, Bool, true, false, not, ◌||◌, ◌&&◌, cond, refl, sym, ap, subst, ◌∙◌, ◌+◌, append_assoc, append-nil, arith}
use Rattle.c_parse.specs.declared.class.Class.{Class}
use Rattle.c_parse.specs.declared.class.Class.TheVariants.{Name, Number, Plus, Minus, Star, Divide, Shift, Relation, Equality, Ampersand, Caret, Bar, AndAnd, BarBar, Complement, Question, Colon, Comma, Open, Close, OpenIndex, CloseIndex, Char, Sign, Short, Int, Fixed, If, While, For, Switch}
use Rattle.c_parse.specs.declared.raw.Raw.{Raw}
use Rattle.c_parse.specs.declared.tally.Last.{Last}
use Rattle.c_parse.specs.declared.tally.Last.TheVariants.{Operand, TypeWord, Head, Other}
use Rattle.c_parse.specs.declared.tally.Tally.{Tally}
use Rattle.c_parse.specs.Grammar.{in_body, in_switch, in_loop, Form, program, titled, signature, ending, params, param_list, more_params, param, param_name, declarators, more_declarators, declarator, initial, list_initial, more_values, next_value, block, statement, returned, tested, stepped, groups, action, target, subscript, subscripted, assign, expr, choice, chosen, binary, operations, unary, operand, cast_type, primary, grouped, passed, arguments, more_arguments, type_name, after_char, after_sign, after_short, after_int, after_sign_short, after_sign_int, after_short_int, Symbol, token, sub, alternatives, OneOf, here, there, weight, Nested, word_at, bare, ahead, Derives, leaf, node, DeriveAll, none, more, is_expression, marks_all, Piece, apart, whole, piece_of, pieces, pieces_all, one, counted_from, operator_counts, IsText, counts_in, Word}
use Rattle.c_parse.specs.Tally.{outside, counted, tally_of}
use Rattle.c_parse.proofs.Truth.{same_number, both, both_left, both_right, either}
use Rattle.c_parse.proofs.Inside.{tally_at, is_operand, is_head, is_other, is_some, height_after, last_after, is_part, starts_at, ends_at, needs, leaves, each_last, last_at, part_fits, tally_append, bare_append, Runs, done, step, Inside, inside_all}

-- Over these words the tally counts, at each token of an expression, the binary operators that the expression has so far, and no more at another.
data Counts : Tally → List Piece → List Word → Tally → Type 0 where
  nothing : (tally : Tally) → Counts tally [] [] tally
  aside : (tally : Tally) (parts : List Piece) (word : Word) (words : List Word) (end : Tally) → (counted tally word.class).operators ≤ tally.operators → Counts (counted tally word.class) parts words end
      → Counts tally (apart ∷ parts) (word ∷ words) end
  expression : (tally : Tally) (marks_are : List Bool) (parts : List Piece) (front rest words : List Word) (m : ℕ) (end : Tally)
      → Runs 0 marks_are tally front m → Counts (tally_of tally front) parts rest end → words ≡ front ++ rest → Counts tally (whole marks_are ∷ parts) words end

-- outside expressions none of these stands
abbrev is_sign : Class → Bool
is_sign Plus = true
is_sign Minus = true
is_sign Star = true
is_sign Divide = true
is_sign Shift = true
is_sign Relation = true
is_sign Equality = true
is_sign Ampersand = true
is_sign Caret = true
is_sign Bar = true
is_sign AndAnd = true
is_sign BarBar = true
is_sign _ = false

-- The tally begins anew.
abbrev resets : Class → ℕ → Last → Bool
resets Name h l = false
resets Number h l = false
resets Complement h l = false
resets Question h l = false
resets OpenIndex h l = false
resets Char h l = false
resets Sign h l = false
resets Short h l = false
resets Int h l = false
resets Fixed h l = false
resets Open h l = is_head l
resets Close h l = not (is_some h)
resets CloseIndex h l = not (is_some h)
resets Colon h l = not (is_some h)
resets Comma h l = not (is_some h)
resets _ h l = true

abbrev last_reset : Class → Last
last_reset If = Head
last_reset While = Head
last_reset For = Head
last_reset Switch = Head
last_reset _ = Other

abbrev height_out : Class → ℕ → Last → ℕ
height_out class h l = cond (resets class h l) 0 (height_after class h)

abbrev last_out : Class → ℕ → Last → Last
last_out class h l = cond (resets class h l) (last_reset class) (last_after class l)

abbrev count_out : Class → ℕ → Last → ℕ → ℕ
count_out class h l n = cond (resets class h l) 0 n

abbrev zero_out : Class → ℕ → Last → Bool → Bool
zero_out class h l z = resets class h l || z

deeper_out : (n h : ℕ) → tally_at (h + 1) n Other ≡ tally_at (suc h) n Other
deeper_out n h = let higher : h + 1 ≡ suc h = omega arith in ap (λ x. tally_at x n Other) higher

token_out : (class : Class) (n h : ℕ) (l : Last) → is_sign class ≡ false → counted (tally_at h n l) class ≡ tally_at (height_out class h l) (count_out class h l n) (last_out class h l)
token_out Plus n h l e = cc
token_out Minus n h l e = cc
token_out Star n h l e = cc
token_out Divide n h l e = cc
token_out Shift n h l e = cc
token_out Relation n h l e = cc
token_out Equality n h l e = cc
token_out Ampersand n h l e = cc
token_out Caret n h l e = cc
token_out Bar n h l e = cc
token_out AndAnd n h l e = cc
token_out BarBar n h l e = cc
token_out Question n h l e = deeper_out n h
token_out OpenIndex n h l e = deeper_out n h
token_out Open n h Operand e = deeper_out n h
token_out Open n h TypeWord e = deeper_out n h
token_out Open n h Head e = refl
token_out Open n h Other e = deeper_out n h
token_out Close n zero l e = refl
token_out Close n (suc h) l e = refl
token_out CloseIndex n zero l e = refl
token_out CloseIndex n (suc h) l e = refl
token_out Colon n zero l e = refl
token_out Colon n (suc h) l e = refl
token_out Comma n zero l e = refl
token_out Comma n (suc h) l e = refl
token_out _ n h l e = refl

zero_kept : (b z : Bool) (n : ℕ) → (z ≡ true → n ≡ 0) → (b || z) ≡ true → cond b 0 n ≡ 0
zero_kept true z n f e = refl
zero_kept false z n f e = f e

kept_less : (b : Bool) (n : ℕ) → cond b 0 n ≤ n
kept_less true n = omega arith
kept_less false n = omega arith

-- at most one bracket is open
abbrev is_low : ℕ → Bool
is_low zero = true
is_low (suc zero) = true
is_low (suc (suc n)) = false

abbrev Test : Type 0
Test = ℕ → Last → Bool → Bool

-- as where a text begins
abbrev clean : Test
clean h l z = same_number h 0 && (is_other l && z)

-- forms outside expressions, some of which are parts of an expression too
abbrev is_plain : Form → Bool
is_plain expr = false
is_plain choice = false
is_plain chosen = false
is_plain binary = false
is_plain operations = false
is_plain unary = false
is_plain operand = false
is_plain cast_type = false
is_plain primary = false
is_plain grouped = false
is_plain passed = false
is_plain arguments = false
is_plain more_arguments = false
is_plain _ = true

-- where they begin: how many brackets are open, what the last token was, and whether no operator is counted
abbrev before : Form → Test
before expr h l z = is_other l && z
before titled h l z = same_number h 0 && z
before signature h l z = same_number h 1 && (is_other l && z)
before (params _) h l z = same_number h 1 && (is_other l && z)
before param_list h l z = same_number h 1 && (is_other l && z)
before more_params h l z = z
before param h l z = is_other l && z
before param_name h l z = z
before (ending _) h l z = same_number h 0
before (block _) h l z = same_number h 0
before declarators h l z = same_number h 0 && z
before declarator h l z = same_number h 0 && z
before more_declarators h l z = same_number h 0
before initial h l z = same_number h 0 && (is_operand l && z)
before list_initial h l z = same_number h 0
before more_values h l z = same_number h 0
before type_name h l z = z
before after_char h l z = z
before after_sign h l z = z
before after_short h l z = z
before after_int h l z = z
before after_sign_short h l z = z
before after_sign_int h l z = z
before after_short_int h l z = z
before subscript h l z = same_number h 0 && (is_operand l && z)
before subscripted h l z = same_number h 1 && (is_other l && z)
before assign h l z = same_number h 0
before _ h l z = clean h l z

-- where they end, by the brackets that were open
abbrev behind_form : Form → ℕ → Test
behind_form expr h h2 l z = same_number h h2 && is_operand l
behind_form type_name h h2 l z = same_number h h2 && z
behind_form after_char h h2 l z = same_number h h2 && z
behind_form after_sign h h2 l z = same_number h h2 && z
behind_form after_short h h2 l z = same_number h h2 && z
behind_form after_int h h2 l z = same_number h h2 && z
behind_form after_sign_short h h2 l z = same_number h h2 && z
behind_form after_sign_int h h2 l z = same_number h h2 && z
behind_form after_short_int h h2 l z = same_number h h2 && z
behind_form (params _) h h2 l z = z
behind_form param_list h h2 l z = z
behind_form more_params h h2 l z = z
behind_form param h h2 l z = z
behind_form param_name h h2 l z = z
behind_form tested h h2 l z = same_number h2 0
behind_form returned h h2 l z = same_number h2 0
behind_form stepped h h2 l z = same_number h2 0
behind_form action h h2 l z = same_number h2 0
behind_form target h h2 l z = same_number h2 0
behind_form subscript h h2 l z = same_number h2 0
behind_form subscripted h h2 l z = same_number h2 0
behind_form declarators h h2 l z = same_number h2 0
behind_form more_declarators h h2 l z = same_number h2 0
behind_form declarator h h2 l z = same_number h2 0
behind_form initial h h2 l z = same_number h2 0
behind_form list_initial h h2 l z = same_number h2 0
behind_form more_values h h2 l z = same_number h2 0
behind_form next_value h h2 l z = same_number h2 0
behind_form _ h h2 l z = clean h2 l z

abbrev each_spot : Test → Bool
each_spot test = each_last (λ l. (test 0 l true && test 0 l false) && (test 1 l true && test 1 l false))

spot_at : (test : Test) (h : ℕ) (l : Last) (z : Bool) → each_spot test ≡ true → is_low h ≡ true → test h l z ≡ true
spot_at test h l z e low = at_height h z (last_at (λ x. (test 0 x true && test 0 x false) && (test 1 x true && test 1 x false)) l e) low
  where
    at_height : (h : ℕ) (z : Bool) → ((test 0 l true && test 0 l false) && (test 1 l true && test 1 l false)) ≡ true → is_low h ≡ true → test h l z ≡ true
    at_height zero true f low = both_left (test 0 l true) (test 0 l false) (both_left (test 0 l true && test 0 l false) (test 1 l true && test 1 l false) f)
    at_height zero false f low = both_right (test 0 l true) (test 0 l false) (both_left (test 0 l true && test 0 l false) (test 1 l true && test 1 l false) f)
    at_height (suc zero) true f low = both_left (test 1 l true) (test 1 l false) (both_right (test 0 l true && test 0 l false) (test 1 l true && test 1 l false) f)
    at_height (suc zero) false f low = both_right (test 1 l true) (test 1 l false) (both_right (test 0 l true && test 0 l false) (test 1 l true && test 1 l false) f)
    at_height (suc (suc n)) z f low = cc

abbrev fits_out : ℕ → Last → Bool → List Symbol → Test → Bool
fits_out h l z [] post = post h l z
fits_out h l z (token class ∷ symbols) post =
    (not (is_sign class) && is_low (height_out class h l)) && fits_out (height_out class h l) (last_out class h l) (zero_out class h l z) symbols post
fits_out h l z (sub form ∷ symbols) post =
    ((is_expression form || is_plain form) && before form h l z) && each_spot (λ h2 l2 z2. elim (behind_form form h h2 l2 z2) [ true ↦ fits_out h2 l2 z2 symbols post | false ↦ true ])

abbrev fits_lists : ℕ → Last → Bool → List (List Symbol) → Test → Bool
fits_lists h l z [] post = true
fits_lists h l z (symbols ∷ others) post = fits_out h l z symbols post && fits_lists h l z others post

abbrev fits_plain : Form → Bool
fits_plain form = each_spot (λ h l z. elim (before form h l z) [ true ↦ fits_lists h l z (alternatives form) (behind_form form h) | false ↦ true ])

plain_fitting : (form : Form) → is_plain form ≡ true → fits_plain form ≡ true
plain_fitting expr e = cc
plain_fitting choice e = cc
plain_fitting chosen e = cc
plain_fitting binary e = cc
plain_fitting operations e = cc
plain_fitting unary e = cc
plain_fitting operand e = cc
plain_fitting cast_type e = cc
plain_fitting primary e = cc
plain_fitting grouped e = cc
plain_fitting passed e = cc
plain_fitting arguments e = cc
plain_fitting more_arguments e = cc
plain_fitting (ending true) e = refl
plain_fitting (ending false) e = refl
plain_fitting (statement in_body) e = refl
plain_fitting (statement in_switch) e = refl
plain_fitting (statement in_loop) e = refl
plain_fitting (groups within true) e = refl
plain_fitting (groups within false) e = refl
plain_fitting _ e = refl

taken : (b x : Bool) → elim b as (λ c. Bool) [ true ↦ x | false ↦ true ] ≡ true → b ≡ true → x ≡ true
taken true x e is = e
taken false x e is = cc

fits_in : (h : ℕ) (l : Last) (z : Bool) (symbols : List Symbol) (list : List (List Symbol)) (post : Test) → OneOf symbols list → fits_lists h l z list post ≡ true → fits_out h l z symbols post ≡ true
fits_in h l z symbols _ post (here others) e = both_left (fits_out h l z symbols post) (fits_lists h l z others post) e
fits_in h l z symbols _ post (there other others one_is) e = fits_in h l z symbols others post one_is (both_right (fits_out h l z other post) (fits_lists h l z others post) e)

plain_fits : (form : Form) (h : ℕ) (l : Last) (z : Bool) (symbols : List Symbol) → is_plain form ≡ true → before form h l z ≡ true → is_low h ≡ true → OneOf symbols (alternatives form) → fits_out h l z symbols (behind_form form h) ≡ true
plain_fits form h l z symbols plain at_it low one_is =
    fits_in h l z symbols (alternatives form) (behind_form form h) one_is
    (taken (before form h l z) (fits_lists h l z (alternatives form) (behind_form form h))
    (spot_at (λ h l z. elim (before form h l z) [ true ↦ fits_lists h l z (alternatives form) (behind_form form h) | false ↦ true ]) h l z (plain_fitting form plain) low) at_it)

counts_append : (t : Tally) (ps : List Piece) (xs : List Word) (u : Tally) (qs : List Piece) (ys : List Word) (v : Tally) → Counts t ps xs u → Counts u qs ys v → Counts t (ps ++ qs) (xs ++ ys) v
counts_append _ _ _ _ qs ys v (nothing t) second = second
counts_append _ _ _ _ qs ys v (aside t ps word words end less first) second = aside t (ps ++ qs) word (words ++ ys) v less (counts_append (counted t word.class) ps words end qs ys v first second)
counts_append _ _ _ _ qs ys v (expression t marks_are ps front rest words m end runs first split) second =
    expression t marks_are (ps ++ qs) front (rest ++ ys) (words ++ ys) m v runs (counts_append (tally_of t front) ps rest end qs ys v first second) (ap (λ x. x ++ ys) split ∙ append_assoc front rest ys)

-- What comes of the tally over words outside expressions and over expressions.
record Outcome (n h : ℕ) (l : Last) (ps : List Piece) (words : List Word) (post : Test) : Type 0 where
  brackets : ℕ
  operators : ℕ
  last : Last
  free : Bool
  low : is_low brackets ≡ true
  ends : tally_of (tally_at h n l) words ≡ tally_at brackets operators last
  is_zero : free ≡ true → operators ≡ 0
  fits : post brackets last free ≡ true
  counts : Counts (tally_at h n l) ps words (tally_at brackets operators last)

outcome_none : (n h : ℕ) (l : Last) (z : Bool) (post : Test) → post h l z ≡ true → is_low h ≡ true → (z ≡ true → n ≡ 0) → Outcome n h l [] [] post
outcome_none n h l z post e low f = record { brackets = h; operators = n; last = l; free = z; low = low; ends = refl; is_zero = f; fits = e; counts = nothing (tally_at h n l) }

outcome_token : (n h : ℕ) (l : Last) (class : Class) (word : Nested) (ps : List Piece) (rest words : List Nested) (post : Test) → word.class ≡ class → is_sign class ≡ false → words ≡ (word ∷ []) ++ rest
    → Outcome (count_out class h l n) (height_out class h l) (last_out class h l) ps (bare rest) post → Outcome n h l (apart ∷ ps) (bare words) post
outcome_token n h l class word ps rest words post is plain split i =
    let t : counted (tally_at h n l) word.class ≡ tally_at (height_out class h l) (count_out class h l n) (last_out class h l) = ap (counted (tally_at h n l)) is ∙ token_out class n h l plain in
    let less : (counted (tally_at h n l) word.class).operators ≤ n = subst (λ (x : Tally). x.operators ≤ n) (sym t) (kept_less (resets class h l) n) in
    let P : Tally → Type 0 = λ x. Counts x ps (bare rest) (tally_at i.brackets i.operators i.last) in
    let Q : List Word → Type 0 = λ x. Counts (tally_at h n l) (apart ∷ ps) x (tally_at i.brackets i.operators i.last) in
    record {
      brackets = i.brackets;
      operators = i.operators;
      last = i.last;
      free = i.free;
      low = i.low;
      ends = ap (tally_of (tally_at h n l)) (ap bare split) ∙ ap (λ x. tally_of x (bare rest)) t ∙ i.ends;
      is_zero = i.is_zero;
      fits = i.fits;
      counts = subst Q (sym (ap bare split)) (aside (tally_at h n l) ps (word_at word) (bare rest) (tally_at i.brackets i.operators i.last) less (subst P (sym t) i.counts));
    }

outcome_more : (n h : ℕ) (l : Last) (ps qs : List Piece) (front rest words : List Nested) (between post : Test) → words ≡ front ++ rest → (i : Outcome n h l ps (bare front) between)
    → Outcome i.operators i.brackets i.last qs (bare rest) post → Outcome n h l (ps ++ qs) (bare words) post
outcome_more n h l ps qs front rest words between post is i j =
    let t : Tally = tally_at h n l in
    let split : bare words ≡ bare front ++ bare rest = ap bare is ∙ bare_append front rest in
    let Q : List Word → Type 0 = λ x. Counts t (ps ++ qs) x (tally_at j.brackets j.operators j.last) in
    record {
      brackets = j.brackets;
      operators = j.operators;
      last = j.last;
      free = j.free;
      low = j.low;
      ends = ap (tally_of t) split ∙ tally_append t (bare front) (bare rest) ∙ ap (λ x. tally_of x (bare rest)) i.ends ∙ j.ends;
      is_zero = j.is_zero;
      fits = j.fits;
      counts = subst Q (sym split) (counts_append t ps (bare front) (tally_at i.brackets i.operators i.last) qs (bare rest) (tally_at j.brackets j.operators j.last) i.counts j.counts);
    }

expr_is : (form : Form) → is_expression form ≡ true → form ≡ expr
expr_is expr e = refl
expr_is _ e = cc

same_self : (n : ℕ) → same_number n n ≡ true
same_self zero = refl
same_self (suc n) = same_self n

other_is : (l : Last) → is_other l ≡ true → l ≡ Other
other_is Other e = refl
other_is _ e = cc

-- An expression that is part of no other.
outcome_whole : (n h s end : ℕ) (l : Last) (bs : List Bool) (words : List Word) (post : Last → Bool) (form : Form) → form ≡ expr → s ≡ 0 → end ≡ 0 → ((x : Last) → post x ≡ true → is_operand x ≡ true) → n ≡ 0 → is_low h ≡ true
    → Inside h n s l bs words end post → Outcome n h l (whole bs ∷ []) words (behind_form form h)
outcome_whole n h s end l bs words post form is s_is end_is f n_is low i =
    let at_start : h + s ≡ h = omega arith in
    let at_end : h + end ≡ h = omega arith in
    let t : Tally = tally_at h n l in
    let ends_so : tally_of t words ≡ tally_at h i.operators i.last = ap (λ x. tally_of (tally_at x n l) words) (sym at_start) ∙ i.ends ∙ ap (λ x. tally_at x i.operators i.last) at_end in
    let P : ℕ → Type 0 = λ x. Runs n bs (tally_at x n l) words i.operators in
    let Q : ℕ → Type 0 = λ x. Runs x bs t words i.operators in
    let R : Tally → Type 0 = λ x. Counts t (whole bs ∷ []) words x in
    let T : Form → Type 0 = λ x. behind_form x h h i.last false ≡ true in
    record {
      brackets = h;
      operators = i.operators;
      last = i.last;
      free = false;
      low = low;
      ends = ends_so;
      is_zero = λ e. cc;
      fits = subst T (sym is) (both (same_number h h) (is_operand i.last) (same_self h) (f i.last i.fits));
      counts = subst R ends_so (expression t bs [] words [] words i.operators (tally_of t words) (subst Q n_is (subst P at_start i.runs)) (nothing (tally_of t words)) (sym (append-nil words)));
    }

out_by : (b : Bool) (depth : ℕ) (form : Form) (symbols : List Symbol) (parts : List Raw) (words : List Nested) (next : Option Class) (all : DeriveAll (depth + weight form) symbols parts words next) (ps : List Piece) (n h : ℕ) (l : Last) (z : Bool)
    → is_expression form ≡ b → OneOf symbols (alternatives form) → ((is_expression form || is_plain form) && before form h l z) ≡ true → is_low h ≡ true → (z ≡ true → n ≡ 0)
    → (is_plain form ≡ true → before form h l z ≡ true → Outcome n h l ps (bare words) (behind_form form h)) → Outcome n h l (piece_of b (marks_all form (depth + weight form) symbols parts words next all) ps) (bare words) (behind_form form h)
out_by true depth form symbols parts words next all ps n h l z is one_is e low f plain =
    let same : form ≡ expr = expr_is form is in
    let T : Form → Type 0 = λ x. before x h l z ≡ true in
    let at_it : (is_other l && z) ≡ true = subst T same (both_right (is_expression form || is_plain form) (before form h l z) e) in
    let need : needs form l ≡ true = ap (λ x. needs x l) same ∙ both_left (is_other l) z at_it in
    outcome_whole n h (starts_at form) (ends_at form) l _ (bare words) (leaves form) form same (ap starts_at same) (ap ends_at same) (λ x y. ap (λ g. leaves g x) (sym same) ∙ y) (f (both_right (is_other l) z at_it)) low
    (inside_all (depth + weight form) symbols parts words next all form h n (starts_at form) l (ends_at form) (leaves form) (part_fits form l symbols (ap is_part same) need one_is))
out_by false depth form symbols parts words next all ps n h l z is one_is e low f plain =
    plain (either (is_expression form) (is_plain form) (both_left (is_expression form || is_plain form) (before form h l z) e) is) (both_right (is_expression form || is_plain form) (before form h l z) e)

not_sign : (b : Bool) → not b ≡ true → b ≡ false
not_sign true e = cc
not_sign false e = refl

mutual
  out_all : (depth : ℕ) (symbols : List Symbol) (raws : List Raw) (words : List Nested) (next : Option Class) (d : DeriveAll depth symbols raws words next) (n h : ℕ) (l : Last) (z : Bool) (post : Test)
      → fits_out h l z symbols post ≡ true → is_low h ≡ true → (z ≡ true → n ≡ 0) → Outcome n h l (pieces_all depth symbols raws words next d) (bare words) post
  out_all _ _ _ _ _ (none depth next) n h l z post e low f = outcome_none n h l z post e low f
  out_all _ _ _ _ _ (more _ _ symbols _ parts all _ rest words next (leaf depth class word _ is lies) others e1 e2) n h l z post e low f =
      let here_so : (not (is_sign class) && is_low (height_out class h l)) ≡ true =
      both_left (not (is_sign class) && is_low (height_out class h l)) (fits_out (height_out class h l) (last_out class h l) (zero_out class h l z) symbols post) e in
      outcome_token n h l class word _ rest words post is (not_sign (is_sign class) (both_left (not (is_sign class)) (is_low (height_out class h l)) here_so)) e2
      (out_all depth symbols parts rest next others (count_out class h l n) (height_out class h l) (last_out class h l) (zero_out class h l z) post
      (both_right (not (is_sign class) && is_low (height_out class h l)) (fits_out (height_out class h l) (last_out class h l) (zero_out class h l z) symbols post) e)
      (both_right (not (is_sign class)) (is_low (height_out class h l)) here_so) (zero_kept (resets class h l) z n f))
  out_all _ _ _ _ _ (more _ _ symbols _ parts all _ rest words next (node depth form inner_symbols inner raws front _ one_is ok made inside) others e1 e2) n h l z post e low f =
      let on : Test = λ h2 l2 z2. elim (behind_form form h h2 l2 z2) [ true ↦ fits_out h2 l2 z2 symbols post | false ↦ true ] in
      let here_so : ((is_expression form || is_plain form) && before form h l z) ≡ true = both_left ((is_expression form || is_plain form) && before form h l z) (each_spot on) e in
      let i : Outcome n h l (piece_of (is_expression form) (marks_all form (depth + weight form) inner_symbols inner front (ahead rest next) inside) (pieces_all (depth + weight form) inner_symbols inner front (ahead rest next) inside)) (bare front) (behind_form form h) =
      out_by (is_expression form) depth form inner_symbols inner front (ahead rest next) inside _ n h l z refl one_is here_so low f
      (λ plain at_it. out_all (depth + weight form) inner_symbols inner front (ahead rest next) inside n h l z (behind_form form h) (plain_fits form h l z inner_symbols plain at_it low one_is) low f) in
      outcome_more n h l _ _ front rest words (behind_form form h) post e2 i
      (out_all depth symbols parts rest next others i.operators i.brackets i.last i.free post
      (taken (behind_form form h i.brackets i.last i.free) (fits_out i.brackets i.last i.free symbols post)
      (spot_at on i.brackets i.last i.free (both_right ((is_expression form || is_plain form) && before form h l z) (each_spot on) e) i.low) i.fits) i.low i.is_zero)

record Ended (ps : List Piece) (words : List Word) : Type 0 where
  end : Tally
  counts : Counts (outside Other) ps words end

-- Where a text begins nothing is counted.
out_whole : (depth : ℕ) (symbol : Symbol) (raws : List Raw) (words : List Nested) (next : Option Class) (d : Derives depth symbol raws words next) → symbol ≡ sub program → Ended (pieces depth symbol raws words next d) (bare words)
out_whole _ _ _ _ _ (leaf depth class word next is lies) same = cc
out_whole _ _ _ _ _ (node depth form symbols parts raws words next one_is ok made all) same =
    let form_is : form ≡ program = cc in
    let T : Form → Type 0 = λ x. ((is_expression x || is_plain x) && before x 0 Other true) ≡ true in
    let i : Outcome 0 0 Other (pieces depth (sub form) raws words next (node depth form symbols parts raws words next one_is ok made all)) (bare words) (behind_form form 0) =
    out_by (is_expression form) depth form symbols parts words next all (pieces_all (depth + weight form) symbols parts words next all) 0 0 Other true refl one_is (subst T (sym form_is) refl) refl (λ e. refl)
    (λ plain at_it. out_all (depth + weight form) symbols parts words next all 0 0 Other true (behind_form form 0) (plain_fits form 0 Other true symbols plain at_it refl one_is) refl (λ e. refl)) in
    record { end = tally_at i.brackets i.operators i.last; counts = i.counts }

-- How the numbers at the tokens and the tally agree.
pub record Points (t : Tally) (counts : List ℕ) (words : List Word) : Type 0 where
  pub most : (i : ℕ) → get_or counts i 0 ≤ (tally_of t (take (suc i) words)).operators
  pub least : (i : ℕ) → i < length words → ((tally_of t (take (suc i) words)).operators ≡ get_or counts i 0) ⊎ ((tally_of t (take (suc i) words)).operators ≤ (tally_of t (take i words)).operators)

points_none : (t : Tally) → Points t [] []
points_none t = record { most = λ i. at_most i; least = λ i lt. absurd (omega (arith, lt)) }
  where
    at_most : (i : ℕ) → get_or [] i 0 ≤ (tally_of t (take (suc i) [])).operators
    at_most zero = omega arith
    at_most (suc i) = omega arith

points_more : (t : Tally) (n : ℕ) (counts : List ℕ) (word : Word) (words : List Word) → n ≤ (counted t word.class).operators → ((counted t word.class).operators ≡ n) ⊎ ((counted t word.class).operators ≤ t.operators)
    → Points (counted t word.class) counts words → Points t (n ∷ counts) (word ∷ words)
points_more t n counts word words le or p = record { most = λ i. at_most i; least = λ i lt. at_least i lt }
  where
    at_most : (i : ℕ) → get_or (n ∷ counts) i 0 ≤ (tally_of t (take (suc i) (word ∷ words))).operators
    at_most zero = le
    at_most (suc i) = p.most i

    at_least : (i : ℕ) → i < length (word ∷ words)
        → ((tally_of t (take (suc i) (word ∷ words))).operators ≡ get_or (n ∷ counts) i 0) ⊎ ((tally_of t (take (suc i) (word ∷ words))).operators ≤ (tally_of t (take i (word ∷ words))).operators)
    at_least zero lt = or
    at_least (suc i) lt = p.least i (omega (arith, lt))

points_run : (n : ℕ) (bs : List Bool) (t : Tally) (front : List Word) (m : ℕ) (counts : List ℕ) (rest : List Word) → Runs n bs t front m → Points (tally_of t front) counts rest → Points t (counted_from n bs ++ counts) (front ++ rest)
points_run _ _ _ _ _ counts rest (done n t) p = p
points_run _ _ _ _ _ counts rest (step n b bs t word words m is first) p =
    points_more t (n + one b) (counted_from (n + one b) bs ++ counts) word (words ++ rest) (omega (arith, is)) (inl is) (points_run (n + one b) bs (counted t word.class) words m counts rest first p)

points_counts : (t : Tally) (ps : List Piece) (words : List Word) (end : Tally) → Counts t ps words end → Points t (operator_counts ps) words
points_counts _ _ _ _ (nothing t) = points_none t
points_counts _ _ _ _ (aside t ps word words end less others) = points_more t 0 (operator_counts ps) word words (omega arith) (inr less) (points_counts (counted t word.class) ps words end others)
points_counts _ _ _ _ (expression t bs ps front rest words m end runs others split) =
    let P : List Word → Type 0 = λ x. Points t (counted_from 0 bs ++ operator_counts ps) x in
    subst P (sym split) (points_run 0 bs t front m (operator_counts ps) rest runs (points_counts (tally_of t front) ps rest end others))

-- Over a whole text.
pub points_text : (text : List Nested) (raw : Raw) (derives : IsText text raw) → Points (outside Other) (counts_in text raw derives) (bare text)
points_text text raw derives =
    let e : Ended (pieces 0 (sub program) (raw ∷ []) text None derives) (bare text) = out_whole 0 (sub program) (raw ∷ []) text None derives refl in
    points_counts (outside Other) (pieces 0 (sub program) (raw ∷ []) text None derives) (bare text) e.end e.counts
