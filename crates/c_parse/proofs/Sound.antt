-- What the machine built and what it waits for is a text of the grammar: soundness, and that each state can be completed.
use Rattle.std.proofs.Common.{◌≡◌, ℕ, zero, suc, List, [], ◌∷◌, ◌++◌, Option, Some, None, Bool, true, false, refl, sym, ap, subst, ◌∙◌, ◌+◌, append_assoc, append-nil, arith}
use Rattle.c_parse.specs.declared.class.Class.{Class}
use Rattle.c_parse.specs.declared.class.Class.TheVariants.{Name, Semicolon, Open, Equals, Compound, Increment, Else, Case, Default}
use Rattle.c_parse.specs.declared.raw.Raw.{Raw}
use Rattle.c_parse.specs.declared.form.Wait.{Wait}
use Rattle.c_parse.specs.Endings.{ends_in_jump, have_names}
use Rattle.c_parse.specs.Grammar.{Shape, spliced, held, noded, levelled, shape_of, shaped, make, Within, Form, program, titled, signature, params, declarators, more_declarators, declarator, initial, statement, else_part, groups, group, labelled, label, action, target, subscript, subscripted, assign, expr, choice, chosen, binary, operations, unary, operand, cast_type, primary, grouped, passed, Symbol, token, sub, alternatives, OneOf, here, there, same_answer, allows_else, allows_labels, allows, weight, Nested, ahead, Derives, leaf, node, DeriveAll, none, more}
use Rattle.c_parse.specs.Machine.{want, close, undecided, judged, Delay, opened, called, named, begun, indexed, Late, of_params, of_group, begins_type, Choice, refuse, take_on, defer, judge, choose, choose_groups, choose_labelled, on_else, nth, wants, Frame, frame, operand_of_action, readings, first_of, Telling, reading, onward, tell_call, tell_opened, tell_indexed, tell, nth_reading, opens, blanks, without_first, late_form, late_symbols, verdict, late_rest, State, at, spliced_shape, is_spliced, unfolded, turn_taken, turn_chosen, turn_read, turn_told, turn, level, Move, turns, shift, Moves, stay, go}
use Rattle.c_parse.proofs.Checks.{is_unary, is_primary, is_titled, is_action, is_judging, kind_fits, kind_fitting}

-- one of these readings
pub data Reads (frames : List Frame) : List (List Frame) → Type 0 where
  this : (others : List (List Frame)) → Reads frames (frames ∷ others)
  later : (other : List Frame) (others : List (List Frame)) → Reads frames others → Reads frames (other ∷ others)

-- These words complete what is waited for, and then the trees stand there.
pub data Completes : List Wait → List (List Raw) → List Nested → List Raw → Type 0 where
  ended : (raws : List Raw) → Completes [] (raws ∷ []) [] raws
  wanted : (symbol : Symbol) (c : List Wait) (top : List Raw) (vs : List (List Raw)) (raws : List Raw) (front rest words : List Nested) (out : List Raw)
      → Derives (level c) symbol raws front (ahead rest None) → Completes c ((top ++ raws) ∷ vs) rest out → words ≡ front ++ rest
      → Completes (want symbol ∷ c) (top ∷ vs) words out
  closed : (form : Form) (c : List Wait) (parts top : List Raw) (vs : List (List Raw)) (words : List Nested) (out : List Raw)
      → Completes c ((top ++ make form parts) ∷ vs) words out → Completes (close form ∷ c) (parts ∷ top ∷ vs) words out
  read_as : (delay : Delay) (frames : List Frame) (c : List Wait) (parts : List Raw) (vs : List (List Raw)) (words : List Nested) (out : List Raw)
      → Reads frames (readings delay) → Completes (opens frames c) (parts ∷ blanks (without_first frames) vs) words out
      → Completes (undecided delay ∷ c) (parts ∷ vs) words out
  read_on : (c : List Wait) (parts : List Raw) (vs : List (List Raw)) (words : List Nested) (out : List Raw)
      → Completes (want (sub subscript) ∷ undecided indexed ∷ c) (parts ∷ vs) words out
      → Completes (undecided begun ∷ c) (parts ∷ vs) words out
  judged_so : (late : Late) (c : List Wait) (parts top : List Raw) (vs : List (List Raw)) (words : List Nested) (out : List Raw)
      → Completes (wants (late_rest late (verdict late parts)) c) ((top ++ make (late_form late (verdict late parts)) parts) ∷ vs) words out
      → Completes (judged late ∷ c) (parts ∷ top ∷ vs) words out

-- What is waited for holds nothing yet.
pub level_wants : (ss : List Symbol) (c : List Wait) → level (wants ss c) ≡ level c
level_wants [] c = refl
level_wants (s ∷ ss) c = level_wants ss c

-- a form that nests nothing
pub no_deeper : (depth : ℕ) (form : Form) → weight form ≡ 0 → depth ≡ depth + weight form
no_deeper depth form e = omega arith

-- Forms without a rule whose parts go straight to the list that is being built nest nothing.
pub spliced_light : (form : Form) → is_spliced form ≡ true → weight form ≡ 0
spliced_light (statement _) e = cc
spliced_light operand e = cc
spliced_light grouped e = cc
spliced_light subscripted e = cc
spliced_light passed e = cc
spliced_light cast_type e = cc
spliced_light chosen e = cc
spliced_light _ e = refl

pub late_light : (late : Late) (answer : Bool) → weight (late_form late answer) ≡ 0
late_light of_params answer = refl
late_light (of_group within) answer = refl

pub ahead_append : (front rest : List Nested) (next : Option Class) → ahead (front ++ rest) next ≡ ahead front (ahead rest next)
ahead_append [] rest next = refl
ahead_append (k ∷ front) rest next = refl

-- The symbols' trees, and the rest.
pub record Collected (symbols : List Symbol) (c : List Wait) (parts : List Raw) (vs : List (List Raw)) (words : List Nested) (out : List Raw) : Type 0 where
  pub front : List Nested
  pub rest : List Nested
  pub raws : List Raw
  pub derive : DeriveAll (level c) symbols raws front (ahead rest None)
  pub after : Completes c ((parts ++ raws) ∷ vs) rest out
  pub split : words ≡ front ++ rest

pub collect : (symbols : List Symbol) (c : List Wait) (parts : List Raw) (vs : List (List Raw)) (words : List Nested) (out : List Raw)
    → Completes (wants symbols c) (parts ∷ vs) words out → Collected symbols c parts vs words out
collect [] c parts vs words out completes = record {
  front = [];
  rest = words;
  raws = [];
  derive = none (level c) (ahead words None);
  after = rw (append-nil parts) completes;
  split = refl;
}
collect (symbol ∷ symbols) c parts vs words out (wanted _ _ _ _ raws front rest _ _ first others is) =
    let more_of : Collected symbols c (parts ++ raws) vs rest out = collect symbols c (parts ++ raws) vs rest out others in
    let next : ahead rest None ≡ ahead more_of.front (ahead more_of.rest None) = ap (λ ts. ahead ts None) more_of.split ∙ ahead_append more_of.front more_of.rest None in
    let P : Option Class → Type 0 = λ n. Derives (level c) symbol raws front n in
    let D : ℕ → Type 0 = λ d. Derives d symbol raws front (ahead rest None) in
    let Q : List Raw → Type 0 = λ r. Completes c (r ∷ vs) more_of.rest out in
    record {
      front = front ++ more_of.front;
      rest = more_of.rest;
      raws = raws ++ more_of.raws;
      derive = more (level c) symbol symbols raws more_of.raws (raws ++ more_of.raws) front more_of.front (front ++ more_of.front) (ahead more_of.rest None) (subst P next (subst D (level_wants symbols c) first)) more_of.derive refl refl;
      after = subst Q (append_assoc parts raws more_of.raws) more_of.after;
      split = is ∙ ap (λ ts. front ++ ts) more_of.split ∙ sym (append_assoc front more_of.front more_of.rest);
    }

-- What a number names is one of them.
pub one_of : (list : List (List Symbol)) (n : ℕ) (ss : List Symbol) → nth list n ≡ Some ss → OneOf ss list
one_of [] n ss e = cc
one_of (first ∷ others) zero ss e = let P : List Symbol → Type 0 = λ s. OneOf s (first ∷ others) in let same : first ≡ ss = cc in subst P same (here others)
one_of (first ∷ others) (suc n) ss e = there first others (one_of others n ss e)

pub reads_one : (list : List (List Frame)) (n : ℕ) (frames : List Frame) → nth_reading list n ≡ Some frames → Reads frames list
reads_one [] n frames e = cc
reads_one (first ∷ others) zero frames e = let P : List Frame → Type 0 = λ s. Reads s (first ∷ others) in let same : first ≡ frames = cc in subst P same (this others)
reads_one (first ∷ others) (suc n) frames e = later first others (reads_one others n frames e)

wrap : (form : Form) (c : List Wait) (parts : List Raw) (vs : List (List Raw)) (front rest words : List Nested) (out : List Raw)
    → Completes (close form ∷ c) (parts ∷ vs) rest out → Derives (level c) (sub form) (make form parts) front (ahead rest None) → words ≡ front ++ rest
    → Completes (want (sub form) ∷ c) vs words out
wrap form c parts _ front rest words out (closed _ _ _ top vs _ _ after) derives is = wanted (sub form) c top vs (make form parts) front rest words out derives after is

empty_front : (depth : ℕ) (raws : List Raw) (front : List Nested) (next : Option Class) → DeriveAll depth [] raws front next → front ≡ []
empty_front _ _ _ next (none _ _) = refl

pub nothing_read : (depth : ℕ) (ss : List Symbol) (raws : List Raw) (front rest words : List Nested) → ss ≡ [] → DeriveAll depth ss raws front (ahead rest None) → words ≡ front ++ rest → ahead words None ≡ ahead rest None
nothing_read depth ss raws front rest words gone derive is =
    let P : List Symbol → Type 0 = λ s. DeriveAll depth s raws front (ahead rest None) in
    let e : front ≡ [] = empty_front depth raws front (ahead rest None) (subst P gone derive) in
    ap (λ ts. ahead ts None) (is ∙ ap (λ f. f ++ rest) e)

-- what an alternative has to meet besides its symbols, where it is told_is at this token
Meets : Form → List Symbol → List Nested → Type 0
Meets form ss words = (parts : List Raw) (next : Option Class) → (ss ≡ [] → ahead words None ≡ next) → allows form ss parts next ≡ true

-- The parts of an alternative are read, and its form ends.
pub finish : (form : Form) (ss : List Symbol) (c : List Wait) (vs : List (List Raw)) (words : List Nested) (out : List Raw)
    → OneOf ss (alternatives form) → ((parts : List Raw) (next : Option Class) → (ss ≡ [] → ahead words None ≡ next) → allows form ss parts next ≡ true)
    → Completes (wants ss (close form ∷ c)) ([] ∷ vs) words out → Completes (want (sub form) ∷ c) vs words out
finish form ss c vs words out one ok completes =
    let all : Collected ss (close form ∷ c) [] vs words out = collect ss (close form ∷ c) [] vs words out completes in
    let same : ss ≡ [] → ahead words None ≡ ahead all.rest None = λ gone. nothing_read (level (close form ∷ c)) ss all.raws all.front all.rest words gone all.derive all.split in
    wrap form c all.raws vs all.front all.rest words out all.after
    (node (level c) form ss all.raws (make form all.raws) all.front (ahead all.rest None) one (ok all.raws (ahead all.rest None) same) refl all.derive) all.split

not_bare : (c : List Wait) (words : List Nested) (out : List Raw) → Completes c [] words out → ⊥
not_bare c words out completes = elim completes [ ]

pub made_spliced : (shape : Shape) (raws : List Raw) → spliced_shape shape ≡ true → raws ≡ shaped shape raws
made_spliced spliced raws e = refl
made_spliced held raws e = cc
made_spliced (noded rule) raws e = cc
made_spliced levelled raws e = cc

-- A form without a rule: its parts go to the list that is being built.
pub splice : (form : Form) (ss : List Symbol) (c : List Wait) (vs : List (List Raw)) (words : List Nested) (out : List Raw) → is_spliced form ≡ true
    → OneOf ss (alternatives form) → ((parts : List Raw) (next : Option Class) → (ss ≡ [] → ahead words None ≡ next) → allows form ss parts next ≡ true)
    → Completes (wants ss c) vs words out → Completes (want (sub form) ∷ c) vs words out
splice form ss c [] words out shape one ok completes = absurd (not_bare (wants ss c) words out completes)
splice form ss c (top ∷ vs) words out shape one ok completes =
    let all : Collected ss c top vs words out = collect ss c top vs words out completes in
    let same : ss ≡ [] → ahead words None ≡ ahead all.rest None = λ gone. nothing_read (level c) ss all.raws all.front all.rest words gone all.derive all.split in
    let D : ℕ → Type 0 = λ d. DeriveAll d ss all.raws all.front (ahead all.rest None) in
    wanted (sub form) c top vs all.raws all.front all.rest words out
    (node (level c) form ss all.raws all.raws all.front (ahead all.rest None) one (ok all.raws (ahead all.rest None) same) (made_spliced (shape_of form) all.raws shape)
    (subst D (no_deeper (level c) form (spliced_light form shape)) all.derive))
    all.after all.split

-- a word that was read
pub reread : (class : Class) (word : Nested) (c : List Wait) (top : List Raw) (vs : List (List Raw)) (ts : List Nested) (out : List Raw) → word.class ≡ class → word.level ≡ level c
    → Completes c ((top ++ word.leaf ∷ []) ∷ vs) ts out → Completes (want (token class) ∷ c) (top ∷ vs) (word ∷ ts) out
reread class word c top vs ts out is deep done = wanted (token class) c top vs (word.leaf ∷ []) (word ∷ []) ts (word ∷ ts) out (leaf (level c) class word (ahead ts None) is deep) done refl

-- The frames are alternatives inside one another, the innermost behind these symbols, the outermost of this form; none of them nests what it holds.
pub data Spinal : List Symbol → List Frame → Form → Type 0 where
  last : (prefix : List Symbol) (form : Form) (rest : List Symbol) → OneOf (prefix ++ rest) (alternatives form)
      → ((parts : List Raw) (next : Option Class) → allows form (prefix ++ rest) parts next ≡ true) → weight form ≡ 0 → Spinal prefix (frame form rest ∷ []) form
  outer : (prefix : List Symbol) (form : Form) (rest : List Symbol) (frames : List Frame) (whole : Form) → OneOf (prefix ++ rest) (alternatives form)
      → ((parts : List Raw) (next : Option Class) → allows form (prefix ++ rest) parts next ≡ true) → weight form ≡ 0 → Spinal (sub form ∷ []) frames whole → Spinal prefix (frame form rest ∷ frames) whole

blank_first : (prefix : List Symbol) (frames : List Frame) (whole : Form) (vs : List (List Raw)) → Spinal prefix frames whole → blanks frames vs ≡ [] ∷ blanks (without_first frames) vs
blank_first _ _ _ vs (last _ _ _ _ _ _) = refl
blank_first _ _ _ vs (outer _ _ _ _ _ _ _ _ _) = refl

spine_level : (prefix : List Symbol) (frames : List Frame) (whole : Form) (c : List Wait) → Spinal prefix frames whole → level (opens frames c) ≡ level c
spine_level _ _ _ c (last prefix form rest one ok light) = level_wants rest (close form ∷ c) ∙ sym (no_deeper (level c) form light)
spine_level _ _ _ c (outer prefix form rest frames whole one ok light spine) =
    level_wants rest (close form ∷ opens frames c) ∙ sym (no_deeper (level (opens frames c)) form light) ∙ spine_level (sub form ∷ []) frames whole c spine

-- Parts behind parts.
append_to : (depth : ℕ) (ss ss2 : List Symbol) (raws raws2 : List Raw) (front front2 : List Nested) (between next : Option Class)
    → DeriveAll depth ss raws front between → between ≡ ahead front2 next → DeriveAll depth ss2 raws2 front2 next → DeriveAll depth (ss ++ ss2) (raws ++ raws2) (front ++ front2) next
append_to _ _ ss2 _ raws2 _ front2 _ next (none _ _) is second = second
append_to _ _ ss2 _ raws2 _ front2 _ next (more depth symbol symbols raws parts all front rest words between first others e1 e2) is second =
    let P : Option Class → Type 0 = λ n. Derives depth symbol raws front n in
    more depth symbol (symbols ++ ss2) raws (parts ++ raws2) (all ++ raws2) front (rest ++ front2) (words ++ front2) next (subst P (ap (ahead rest) is ∙ sym (ahead_append rest front2 next)) first)
    (append_to depth symbols ss2 parts raws2 rest front2 between next others is second)
    (ap (λ r. r ++ raws2) e1 ∙ append_assoc raws parts raws2) (ap (λ t. t ++ front2) e2 ∙ append_assoc front rest front2)

pub append_all : (depth : ℕ) (ss ss2 : List Symbol) (raws raws2 : List Raw) (front front2 : List Nested) (next : Option Class)
    → DeriveAll depth ss raws front (ahead front2 next) → DeriveAll depth ss2 raws2 front2 next → DeriveAll depth (ss ++ ss2) (raws ++ raws2) (front ++ front2) next
append_all depth ss ss2 raws raws2 front front2 next first second = append_to depth ss ss2 raws raws2 front front2 (ahead front2 next) next first refl second

pub one_symbol : (depth : ℕ) (symbol : Symbol) (raws : List Raw) (front : List Nested) (next : Option Class) → Derives depth symbol raws front next → DeriveAll depth (symbol ∷ []) raws front next
one_symbol depth symbol raws front next derives = more depth symbol [] raws [] raws front [] front next derives (none depth next) (sym (append-nil raws)) (sym (append-nil front))

record Inner (c : List Wait) (made : List Raw) (vs : List (List Raw)) (words : List Nested) (out : List Raw) : Type 0 where
  after : Completes c (made ∷ vs) words out

unclose : (form : Form) (c : List Wait) (parts top : List Raw) (vs : List (List Raw)) (words : List Nested) (out : List Raw) → Completes (close form ∷ c) (parts ∷ top ∷ vs) words out → Inner c (top ++ make form parts) vs words out
unclose _ _ _ _ _ _ out (closed form c parts top vs words _ after) = record { after = after }

-- Where the frames are completed, so is their outermost form.
pub close_spine : (prefix : List Symbol) (frames : List Frame) (whole : Form) (c : List Wait) (parts : List Raw) (vs : List (List Raw)) (front ts words : List Nested) (out : List Raw)
    → Spinal prefix frames whole → DeriveAll (level c) prefix parts front (ahead ts None) → words ≡ front ++ ts
    → Completes (opens frames c) (parts ∷ blanks (without_first frames) vs) ts out → Completes (want (sub whole) ∷ c) vs words out
close_spine _ _ _ c parts vs front ts words out (last prefix form rest one ok light) derive is done =
    let all : Collected rest (close form ∷ c) parts vs ts out = collect rest (close form ∷ c) parts vs ts out done in
    let P : Option Class → Type 0 = λ n. DeriveAll (level c) prefix parts front n in
    let D : ℕ → Type 0 = λ d. DeriveAll d prefix parts front (ahead all.front (ahead all.rest None)) in
    let first : DeriveAll (level c + weight form) prefix parts front (ahead all.front (ahead all.rest None)) =
    subst D (no_deeper (level c) form light) (subst P (ap (λ t. ahead t None) all.split ∙ ahead_append all.front all.rest None) derive) in
    let whole_derive : DeriveAll (level c + weight form) (prefix ++ rest) (parts ++ all.raws) (front ++ all.front) (ahead all.rest None) =
    append_all (level c + weight form) prefix rest parts all.raws front all.front (ahead all.rest None) first all.derive in
    wrap form c (parts ++ all.raws) vs (front ++ all.front) all.rest words out all.after
    (node (level c) form (prefix ++ rest) (parts ++ all.raws) (make form (parts ++ all.raws)) (front ++ all.front) (ahead all.rest None) one (ok _ _) refl whole_derive)
    (is ∙ ap (λ t. front ++ t) all.split ∙ sym (append_assoc front all.front all.rest))
close_spine _ _ _ c parts vs front ts words out (outer prefix form rest frames whole one ok light spine) derive is done =
    let B : List (List Raw) → Type 0 = λ b. Completes (wants rest (close form ∷ opens frames c)) (parts ∷ b) ts out in
    let all : Collected rest (close form ∷ opens frames c) parts ([] ∷ blanks (without_first frames) vs) ts out =
    collect rest (close form ∷ opens frames c) parts ([] ∷ blanks (without_first frames) vs) ts out (subst B (blank_first (sub form ∷ []) frames whole vs spine) done) in
    let P : Option Class → Type 0 = λ n. DeriveAll (level c) prefix parts front n in
    let D : ℕ → Type 0 = λ d. DeriveAll d prefix parts front (ahead all.front (ahead all.rest None)) in
    let E : ℕ → Type 0 = λ d. DeriveAll (d + weight form) rest all.raws all.front (ahead all.rest None) in
    let first : DeriveAll (level c + weight form) prefix parts front (ahead all.front (ahead all.rest None)) =
    subst D (no_deeper (level c) form light) (subst P (ap (λ t. ahead t None) all.split ∙ ahead_append all.front all.rest None) derive) in
    let whole_derive : DeriveAll (level c + weight form) (prefix ++ rest) (parts ++ all.raws) (front ++ all.front) (ahead all.rest None) =
    append_all (level c + weight form) prefix rest parts all.raws front all.front (ahead all.rest None) first (subst E (spine_level (sub form ∷ []) frames whole c spine) all.derive) in
    let inner : Inner (opens frames c) (make form (parts ++ all.raws)) (blanks (without_first frames) vs) all.rest out = unclose form (opens frames c) (parts ++ all.raws) [] (blanks (without_first frames) vs) all.rest out all.after in
    close_spine (sub form ∷ []) frames whole c (make form (parts ++ all.raws)) vs (front ++ all.front) all.rest words out spine
    (one_symbol (level c) (sub form) _ _ _ (node (level c) form (prefix ++ rest) (parts ++ all.raws) (make form (parts ++ all.raws)) (front ++ all.front) (ahead all.rest None) one (ok _ _) refl whole_derive))
    (is ∙ ap (λ t. front ++ t) all.split ∙ sym (append_assoc front all.front all.rest)) inner.after

spine_operand : Spinal (sub primary ∷ []) operand_of_action action
spine_operand =
    outer (sub primary ∷ []) unary [] _ action (there _ _ (there _ _ (there _ _ (there _ _ (here []))))) (λ parts next. refl) refl
    (outer (sub unary ∷ []) binary (sub operations ∷ []) _ action (here []) (λ parts next. refl) refl
    (outer (sub binary ∷ []) expr (sub choice ∷ []) _ action (here []) (λ parts next. refl) refl
    (last (sub expr ∷ []) action [] (there _ _ (there _ _ (there _ _ (here [])))) (λ parts next. refl) refl)))

spine_assigned : Spinal (sub target ∷ []) (frame action (sub assign ∷ sub expr ∷ []) ∷ []) action
spine_assigned = last (sub target ∷ []) action (sub assign ∷ sub expr ∷ []) (here _) (λ parts next. refl) refl

spine_raised : Spinal (sub target ∷ []) (frame action (token Increment ∷ []) ∷ []) action
spine_raised = last (sub target ∷ []) action (token Increment ∷ []) (there _ _ (here _)) (λ parts next. refl) refl

one_variable : OneOf (token Name ∷ sub subscript ∷ []) (alternatives primary)
one_variable = there _ _ (here _)

one_call : OneOf (token Name ∷ token Open ∷ sub passed ∷ []) (alternatives primary)
one_call = there _ _ (there _ _ (here _))

spine_opened : (frames : List Frame) → Reads frames (readings opened) → Spinal (token Open ∷ []) frames unary
spine_opened _ (this _) = last (token Open ∷ []) unary (sub cast_type ∷ sub operand ∷ []) (there _ _ (there _ _ (there _ _ (here _)))) (λ parts next. refl) refl
spine_opened _ (later _ _ (this _)) = outer (token Open ∷ []) primary (sub grouped ∷ []) _ unary (there _ _ (there _ _ (there _ _ (here [])))) (λ parts next. refl) refl
    (last (sub primary ∷ []) unary [] (there _ _ (there _ _ (there _ _ (there _ _ (here []))))) (λ parts next. refl) refl)
spine_opened _ (later _ _ (later _ _ x)) = elim x [ ]

spine_called : (frames : List Frame) → Reads frames (readings called) → Spinal (token Name ∷ []) frames primary
spine_called _ (this _) = last (token Name ∷ []) primary (sub subscript ∷ []) one_variable (λ parts next. refl) refl
spine_called _ (later _ _ (this _)) = last (token Name ∷ []) primary (token Open ∷ sub passed ∷ []) one_call (λ parts next. refl) refl
spine_called _ (later _ _ (later _ _ x)) = elim x [ ]

spine_named : (frames : List Frame) → Reads frames (readings named) → Spinal (token Name ∷ []) frames titled
spine_named _ (this _) = last (token Name ∷ []) titled (token Open ∷ sub signature ∷ []) (here _) (λ parts next. refl) refl
spine_named _ (later _ _ (this _)) =
    outer (token Name ∷ []) declarator (sub initial ∷ []) _ titled (here []) (λ parts next. refl) refl
    (outer (sub declarator ∷ []) declarators (sub more_declarators ∷ []) _ titled (here []) (λ parts next. refl) refl
    (last (sub declarators ∷ []) titled (token Semicolon ∷ []) (there _ _ (here [])) (λ parts next. refl) refl))
spine_named _ (later _ _ (later _ _ x)) = elim x [ ]

spine_begun : (frames : List Frame) → Reads frames (readings begun) → Spinal (token Name ∷ []) frames action
spine_begun _ (this _) = outer (token Name ∷ []) target (sub subscript ∷ []) _ action (here []) (λ parts next. refl) refl spine_assigned
spine_begun _ (later _ _ (this _)) = outer (token Name ∷ []) target (sub subscript ∷ []) _ action (here []) (λ parts next. refl) refl spine_raised
spine_begun _ (later _ _ (later _ _ (this _))) = outer (token Name ∷ []) primary (sub subscript ∷ []) _ action one_variable (λ parts next. refl) refl spine_operand
spine_begun _ (later _ _ (later _ _ (later _ _ (this _)))) = outer (token Name ∷ []) primary (token Open ∷ sub passed ∷ []) _ action one_call (λ parts next. refl) refl spine_operand
spine_begun _ (later _ _ (later _ _ (later _ _ (later _ _ x)))) = elim x [ ]

spine_indexed : (frames : List Frame) → Reads frames (readings indexed) → Spinal (token Name ∷ sub subscript ∷ []) frames action
spine_indexed _ (this _) = outer (token Name ∷ sub subscript ∷ []) target [] _ action (here []) (λ parts next. refl) refl spine_assigned
spine_indexed _ (later _ _ (this _)) = outer (token Name ∷ sub subscript ∷ []) target [] _ action (here []) (λ parts next. refl) refl spine_raised
spine_indexed _ (later _ _ (later _ _ (this _))) = outer (token Name ∷ sub subscript ∷ []) primary [] _ action one_variable (λ parts next. refl) refl spine_operand
spine_indexed _ (later _ _ (later _ _ (later _ _ x))) = elim x [ ]

one_leaf : (depth : ℕ) (class : Class) (word : Nested) (ts : List Nested) → word.class ≡ class → word.level ≡ depth → DeriveAll depth (token class ∷ []) (word.leaf ∷ []) (word ∷ []) (ahead ts None)
one_leaf depth class word ts is deep = one_symbol depth (token class) (word.leaf ∷ []) (word ∷ []) (ahead ts None) (leaf depth class word (ahead ts None) is deep)

back_opened : (c : List Wait) (vs : List (List Raw)) (word : Nested) (ts words : List Nested) (out : List Raw) → word.class ≡ Open → word.level ≡ level c → words ≡ word ∷ ts
    → Completes (undecided opened ∷ c) ((word.leaf ∷ []) ∷ vs) ts out → Completes (want (sub unary) ∷ c) vs words out
back_opened _ _ word _ words out is deep e (read_as opened frames c _ vs ts _ reads done) =
    close_spine (token Open ∷ []) frames unary c (word.leaf ∷ []) vs (word ∷ []) ts words out (spine_opened frames reads) (one_leaf (level c) Open word ts is deep) e done

back_called : (c : List Wait) (vs : List (List Raw)) (word : Nested) (ts words : List Nested) (out : List Raw) → word.class ≡ Name → word.level ≡ level c → words ≡ word ∷ ts
    → Completes (undecided called ∷ c) ((word.leaf ∷ []) ∷ vs) ts out → Completes (want (sub primary) ∷ c) vs words out
back_called _ _ word _ words out is deep e (read_as called frames c _ vs ts _ reads done) =
    close_spine (token Name ∷ []) frames primary c (word.leaf ∷ []) vs (word ∷ []) ts words out (spine_called frames reads) (one_leaf (level c) Name word ts is deep) e done

back_titled : (c : List Wait) (vs : List (List Raw)) (word : Nested) (ts words : List Nested) (out : List Raw) → word.class ≡ Name → word.level ≡ level c → words ≡ word ∷ ts
    → Completes (undecided named ∷ c) ((word.leaf ∷ []) ∷ vs) ts out → Completes (want (sub titled) ∷ c) vs words out
back_titled _ _ word _ words out is deep e (read_as named frames c _ vs ts _ reads done) =
    close_spine (token Name ∷ []) frames titled c (word.leaf ∷ []) vs (word ∷ []) ts words out (spine_named frames reads) (one_leaf (level c) Name word ts is deep) e done

back_indexed : (c : List Wait) (vs : List (List Raw)) (parts : List Raw) (front ts words : List Nested) (out : List Raw)
    → DeriveAll (level c) (token Name ∷ sub subscript ∷ []) parts front (ahead ts None) → words ≡ front ++ ts
    → Completes (undecided indexed ∷ c) (parts ∷ vs) ts out → Completes (want (sub action) ∷ c) vs words out
back_indexed _ _ _ front _ words out derive e (read_as indexed frames c parts vs ts _ reads done) =
    close_spine (token Name ∷ sub subscript ∷ []) frames action c parts vs front ts words out (spine_indexed frames reads) derive e done

back_subscript : (c : List Wait) (vs : List (List Raw)) (word : Nested) (ts words : List Nested) (out : List Raw) → word.class ≡ Name → word.level ≡ level c → words ≡ word ∷ ts
    → Completes (want (sub subscript) ∷ undecided indexed ∷ c) ((word.leaf ∷ []) ∷ vs) ts out → Completes (want (sub action) ∷ c) vs words out
back_subscript c vs word _ words out is deep e (wanted _ _ _ _ raws front rest ts _ first done e2) =
    back_indexed c vs (word.leaf ∷ raws) (word ∷ front) rest words out
    (more (level c) (token Name) (sub subscript ∷ []) (word.leaf ∷ []) raws (word.leaf ∷ raws) (word ∷ []) front (word ∷ front) (ahead rest None)
    (leaf (level c) Name word (ahead front (ahead rest None)) is deep) (one_symbol (level c) (sub subscript) raws front (ahead rest None) first) refl refl)
    (e ∙ ap (λ t. word ∷ t) e2) done

back_begun : (c : List Wait) (vs : List (List Raw)) (word : Nested) (ts words : List Nested) (out : List Raw) → word.class ≡ Name → word.level ≡ level c → words ≡ word ∷ ts
    → Completes (undecided begun ∷ c) ((word.leaf ∷ []) ∷ vs) ts out → Completes (want (sub action) ∷ c) vs words out
back_begun _ _ word _ words out is deep e (read_as begun frames c _ vs ts _ reads done) =
    close_spine (token Name ∷ []) frames action c (word.leaf ∷ []) vs (word ∷ []) ts words out (spine_begun frames reads) (one_leaf (level c) Name word ts is deep) e done
back_begun _ _ word _ words out is deep e (read_on c _ vs ts _ done) = back_subscript c vs word ts words out is deep e done

-- which form's choice is delayed so, at its first token
pub data Deferred : Form → Delay → Type 0 where
  at_open : Deferred unary opened
  at_operand : Deferred primary called
  at_title : Deferred titled named
  at_action : Deferred action begun

pub back_deferred : (form : Form) (delay : Delay) (c : List Wait) (vs : List (List Raw)) (words : List Nested) (out : List Raw) → Deferred form delay
    → Completes (want (first_of delay) ∷ undecided delay ∷ c) ([] ∷ vs) words out → Completes (want (sub form) ∷ c) vs words out
back_deferred _ _ c vs words out at_open (wanted _ _ _ _ _ _ rest _ _ (leaf _ _ word _ is deep) done e) = back_opened c vs word rest words out is deep e done
back_deferred _ _ c vs words out at_operand (wanted _ _ _ _ _ _ rest _ _ (leaf _ _ word _ is deep) done e) = back_called c vs word rest words out is deep e done
back_deferred _ _ c vs words out at_title (wanted _ _ _ _ _ _ rest _ _ (leaf _ _ word _ is deep) done e) = back_titled c vs word rest words out is deep e done
back_deferred _ _ c vs words out at_action (wanted _ _ _ _ _ _ rest _ _ (leaf _ _ word _ is deep) done e) = back_begun c vs word rest words out is deep e done

unary_only : (form : Form) → is_unary form ≡ true → Deferred form opened
unary_only unary e = at_open
unary_only _ e = cc

primary_only : (form : Form) → is_primary form ≡ true → Deferred form called
primary_only primary e = at_operand
primary_only _ e = cc

titled_only : (form : Form) → is_titled form ≡ true → Deferred form named
titled_only titled e = at_title
titled_only _ e = cc

action_only : (form : Form) → is_action form ≡ true → Deferred form begun
action_only action e = at_action
action_only _ e = cc

pub deferred_so : (form : Form) (delay : Delay) → kind_fits form (defer delay) ≡ true → Deferred form delay
deferred_so form opened e = unary_only form e
deferred_so form called e = primary_only form e
deferred_so form named e = titled_only form e
deferred_so form begun e = action_only form e
deferred_so form indexed e = cc

-- in which form a part is judged
pub data Judging : Form → Late → Type 0 where
  at_signature : Judging signature of_params
  at_groups : (within : Within) → Judging (groups within true) (of_group within)

groups_judge : (within : Within) (look : Option Class) (late : Late) → choose_groups within true look ≡ judge late → Judging (groups within true) late
groups_judge within (Some Case) late e = let P : Late → Type 0 = λ l. Judging (groups within true) l in let same : of_group within ≡ late = cc in subst P same (at_groups within)
groups_judge within (Some Default) late e = let P : Late → Type 0 = λ l. Judging (groups within true) l in let same : of_group within ≡ late = cc in subst P same (at_groups within)
groups_judge within _ late e = cc

pub judging_so : (form : Form) (look : Option Class) (late : Late) → is_judging form ≡ true → choose form look ≡ judge late → Judging form late
judging_so signature look late e is = let P : Late → Type 0 = λ l. Judging signature l in let same : of_params ≡ late = cc in subst P same at_signature
judging_so (groups within true) look late e is = groups_judge within look late is
judging_so _ look late e is = cc

judged_one : (form : Form) (late : Late) (answer : Bool) → Judging form late → OneOf (sub (late_form late answer) ∷ late_rest late answer) (alternatives form)
judged_one _ _ true at_signature = here _
judged_one _ _ false at_signature = there _ _ (here [])
judged_one _ _ true (at_groups within) = there _ _ (here _)
judged_one _ _ false (at_groups within) = there _ _ (there _ _ (here []))

late_one : (late : Late) (answer : Bool) → OneOf (late_symbols late) (alternatives (late_form late answer))
late_one of_params answer = here []
late_one (of_group within) answer = here []

same_answers : (b : Bool) → same_answer b b ≡ true
same_answers true = refl
same_answers false = refl

late_allows : (late : Late) (symbols : List Symbol) (parts : List Raw) (next : Option Class) → allows (late_form late (verdict late parts)) symbols parts next ≡ true
late_allows of_params symbols parts next = same_answers (have_names parts)
late_allows (of_group within) symbols parts next = same_answers (ends_in_jump parts)

judging_allows : (form : Form) (late : Late) (symbols : List Symbol) (parts : List Raw) (next : Option Class) → Judging form late → allows form symbols parts next ≡ true
judging_allows _ _ symbols parts next at_signature = refl
judging_allows _ _ symbols parts next (at_groups within) = refl

judging_spliced : (form : Form) (late : Late) → Judging form late → is_spliced form ≡ true
judging_spliced _ _ at_signature = refl
judging_spliced _ _ (at_groups within) = refl

after_verdict : (form : Form) (late : Late) (c : List Wait) (raws : List Raw) (vs : List (List Raw)) (front ts words : List Nested) (out : List Raw) → Judging form late
    → DeriveAll (level c) (late_symbols late) raws front (ahead ts None) → words ≡ front ++ ts
    → Completes (judged late ∷ c) (raws ∷ vs) ts out → Completes (want (sub form) ∷ c) vs words out
after_verdict form _ _ _ _ front _ words out at derive e (judged_so late c raws top vs ts _ done) =
    let answer : Bool = verdict late raws in
    let made : List Raw = make (late_form late answer) raws in
    let all : Collected (late_rest late answer) c (top ++ made) vs ts out = collect (late_rest late answer) c (top ++ made) vs ts out done in
    let D : ℕ → Type 0 = λ d. DeriveAll d (late_symbols late) raws front (ahead ts None) in
    let part : Derives (level c) (sub (late_form late answer)) made front (ahead ts None) =
    node (level c) (late_form late answer) (late_symbols late) raws made front (ahead ts None) (late_one late answer) (late_allows late (late_symbols late) raws (ahead ts None)) refl
    (subst D (no_deeper (level c) (late_form late answer) (late_light late answer)) derive) in
    let P : Option Class → Type 0 = λ n. Derives (level c) (sub (late_form late answer)) made front n in
    let E : ℕ → Type 0 = λ d. DeriveAll d (sub (late_form late answer) ∷ late_rest late answer) (made ++ all.raws) (front ++ all.front) (ahead all.rest None) in
    let Q : List Raw → Type 0 = λ r. Completes c (r ∷ vs) all.rest out in
    wanted (sub form) c top vs (made ++ all.raws) (front ++ all.front) all.rest words out
    (node (level c) form (sub (late_form late answer) ∷ late_rest late answer) (made ++ all.raws) (made ++ all.raws) (front ++ all.front) (ahead all.rest None)
    (judged_one form late answer at) (judging_allows form late _ _ _ at) (made_spliced (shape_of form) (made ++ all.raws) (judging_spliced form late at))
    (subst E (no_deeper (level c) form (spliced_light form (judging_spliced form late at)))
    (more (level c) (sub (late_form late answer)) (late_rest late answer) made all.raws (made ++ all.raws) front all.front (front ++ all.front) (ahead all.rest None)
    (subst P (ap (λ t. ahead t None) all.split ∙ ahead_append all.front all.rest None) part) all.derive refl refl)))
    (subst Q (append_assoc top made all.raws) all.after)
    (e ∙ ap (λ t. front ++ t) all.split ∙ sym (append_assoc front all.front all.rest))

back_judged : (form : Form) (late : Late) (c : List Wait) (vs : List (List Raw)) (words : List Nested) (out : List Raw) → Judging form late
    → Completes (wants (late_symbols late) (judged late ∷ c)) ([] ∷ vs) words out → Completes (want (sub form) ∷ c) vs words out
back_judged form late c vs words out at done =
    let all : Collected (late_symbols late) (judged late ∷ c) [] vs words out = collect (late_symbols late) (judged late ∷ c) [] vs words out done in
    after_verdict form late c all.raws vs all.front all.rest words out at all.derive all.split all.after

else_allowed : (within : Within) (look next : Option Class) (n : ℕ) (ss : List Symbol) → on_else look ≡ take_on n → nth (alternatives (else_part within)) n ≡ Some ss
    → (ss ≡ [] → look ≡ next) → allows_else ss next ≡ true
else_allowed within (Some Else) next n ss e is same =
    let one : 1 ≡ n = cc in
    let second : Some (token Else ∷ sub (statement within) ∷ []) ≡ Some ss = ap (nth (alternatives (else_part within))) one ∙ is in
    let P : List Symbol → Type 0 = λ s. allows_else s next ≡ true in
    let such : token Else ∷ sub (statement within) ∷ [] ≡ ss = cc in subst P such refl
else_allowed within look next n ss e is same =
    let none_is : 0 ≡ n = cc in
    let first : Some [] ≡ Some ss = ap (nth (alternatives (else_part within))) none_is ∙ is in
    let such : [] ≡ ss = cc in
    let P : List Symbol → Type 0 = λ s. allows_else s next ≡ true in
    let Q : Option Class → Type 0 = λ l. allows_else [] l ≡ true in
    subst P such (subst Q (same (sym such)) refl)

labels_allowed : (within : Within) (look next : Option Class) (n : ℕ) (ss : List Symbol) → choose_labelled look ≡ take_on n → nth (alternatives (labelled within)) n ≡ Some ss
    → (ss ≡ [] → look ≡ next) → allows_labels ss next ≡ true
labels_allowed within look next n [] e is same =
    let P : Option Class → Type 0 = λ l. allows_labels [] l ≡ true in subst P (same refl) (empty_labels within look n e is)
  where
    empty_labels : (within : Within) (look : Option Class) (n : ℕ) → choose_labelled look ≡ take_on n → nth (alternatives (labelled within)) n ≡ Some [] → allows_labels [] look ≡ true
    empty_labels within (Some Case) n e is = let one : 1 ≡ n = cc in let second : Some (sub label ∷ sub (labelled within) ∷ []) ≡ Some [] = ap (nth (alternatives (labelled within))) one ∙ is in cc
    empty_labels within (Some Default) n e is = let one : 1 ≡ n = cc in let second : Some (sub label ∷ sub (labelled within) ∷ []) ≡ Some [] = ap (nth (alternatives (labelled within))) one ∙ is in cc
    empty_labels within _ n e is = refl
labels_allowed within look next n (s ∷ ss) e is same = refl

-- An alternative that is told_is meets what else is asked of it.
allowed : (form : Form) (look next : Option Class) (n : ℕ) (ss : List Symbol) (parts : List Raw) → choose form look ≡ take_on n → nth (alternatives form) n ≡ Some ss
    → (ss ≡ [] → look ≡ next) → allows form ss parts next ≡ true
allowed (else_part within) look next n ss parts e is same = else_allowed within look next n ss e is same
allowed (labelled within) look next n ss parts e is same = labels_allowed within look next n ss e is same
allowed (params _) look next n ss parts e is same = cc
allowed (group _ _) look next n ss parts e is same = cc
allowed _ look next n ss parts e is same = refl

pub landed : (c : List Wait) (vs : List (List Raw)) (c2 : List Wait) (vs2 : List (List Raw)) (ts : List Nested) (out : List Raw) → Some (at c vs) ≡ Some (at c2 vs2) → Completes c2 vs2 ts out → Completes c vs ts out
landed c vs c2 vs2 ts out e done =
    let s : at c vs ≡ at c2 vs2 = cc in
    let P : State → Type 0 = λ x. Completes x.waits x.builds ts out in subst P (sym s) done

back_unfolded : (b : Bool) (form : Form) (ss : List Symbol) (c : List Wait) (vs : List (List Raw)) (ts : List Nested) (out : List Raw) → is_spliced form ≡ b
    → OneOf ss (alternatives form) → ((parts : List Raw) (next : Option Class) → (ss ≡ [] → ahead ts None ≡ next) → allows form ss parts next ≡ true)
    → Completes (unfolded b form ss c vs).waits (unfolded b form ss c vs).builds ts out → Completes (want (sub form) ∷ c) vs ts out
back_unfolded true form ss c vs ts out is one ok done = splice form ss c vs ts out is one ok done
back_unfolded false form ss c vs ts out is one ok done = finish form ss c vs ts out one ok done

back_taken : (told : Option (List Symbol)) (n : ℕ) (form : Form) (c : List Wait) (vs : List (List Raw)) (ts : List Nested) (c2 : List Wait) (vs2 : List (List Raw)) (out : List Raw)
    → choose form (ahead ts None) ≡ take_on n → nth (alternatives form) n ≡ told → turn_taken told form c vs ≡ Some (at c2 vs2) → Completes c2 vs2 ts out → Completes (want (sub form) ∷ c) vs ts out
back_taken None n form c vs ts c2 vs2 out told_is is e done = cc
back_taken (Some ss) n form c vs ts c2 vs2 out told_is is e done =
    back_unfolded (is_spliced form) form ss c vs ts out refl (one_of (alternatives form) n ss is) (λ parts next same. allowed form (ahead ts None) next n ss parts told_is is same)
    (landed (unfolded (is_spliced form) form ss c vs).waits (unfolded (is_spliced form) form ss c vs).builds c2 vs2 ts out e done)

back_chosen : (told : Choice) (form : Form) (c : List Wait) (vs : List (List Raw)) (ts : List Nested) (c2 : List Wait) (vs2 : List (List Raw)) (out : List Raw)
    → choose form (ahead ts None) ≡ told → turn_chosen told form c vs ≡ Some (at c2 vs2) → Completes c2 vs2 ts out → Completes (want (sub form) ∷ c) vs ts out
back_chosen refuse form c vs ts c2 vs2 out is e done = cc
back_chosen (take_on n) form c vs ts c2 vs2 out is e done = back_taken (nth (alternatives form) n) n form c vs ts c2 vs2 out is refl e done
back_chosen (defer delay) form c vs ts c2 vs2 out is e done =
    let fit : kind_fits form (defer delay) ≡ true = ap (kind_fits form) (sym is) ∙ kind_fitting form (ahead ts None) in
    back_deferred form delay c vs ts out (deferred_so form delay fit) (landed _ _ c2 vs2 ts out e done)
back_chosen (judge late) form c vs ts c2 vs2 out is e done =
    let fit : kind_fits form (judge late) ≡ true = ap (kind_fits form) (sym is) ∙ kind_fitting form (ahead ts None) in
    back_judged form late c vs ts out (judging_so form (ahead ts None) late fit is) (landed _ _ c2 vs2 ts out e done)

back_read : (told : Option (List Frame)) (n : ℕ) (delay : Delay) (c : List Wait) (parts : List Raw) (vs : List (List Raw)) (ts : List Nested) (c2 : List Wait) (vs2 : List (List Raw)) (out : List Raw)
    → nth_reading (readings delay) n ≡ told → turn_read told c parts vs ≡ Some (at c2 vs2) → Completes c2 vs2 ts out → Completes (undecided delay ∷ c) (parts ∷ vs) ts out
back_read None n delay c parts vs ts c2 vs2 out is e done = cc
back_read (Some frames) n delay c parts vs ts c2 vs2 out is e done =
    read_as delay frames c parts vs ts out (reads_one (readings delay) n frames is) (landed _ _ c2 vs2 ts out e done)

pub record Onward (delay next : Delay) : Type 0 where
  pub from : delay ≡ begun
  pub to : next ≡ indexed

call_onward : (look : Option Class) (next : Delay) → tell_call 3 (onward indexed) look ≡ onward next → next ≡ indexed
call_onward (Some Open) next e = cc
call_onward _ next e = cc

no_call_onward : (call other : ℕ) (look : Option Class) (next : Delay) → tell_call call (reading other) look ≡ onward next → ⊥
no_call_onward call other (Some Open) next e = cc
no_call_onward call other _ next e = cc

no_open_onward : (b : Bool) (next : Delay) → tell_opened b ≡ onward next → ⊥
no_open_onward true next e = cc
no_open_onward false next e = cc

no_index_onward : (look : Option Class) (next : Delay) → tell_indexed look ≡ onward next → ⊥
no_index_onward (Some Equals) next e = cc
no_index_onward (Some Compound) next e = cc
no_index_onward (Some Increment) next e = cc
no_index_onward _ next e = cc

pub only_onward : (delay : Delay) (look : Option Class) (next : Delay) → tell delay look ≡ onward next → Onward delay next
only_onward opened look next e = absurd (no_open_onward (begins_type look) next e)
only_onward called look next e = absurd (no_call_onward 1 0 look next e)
only_onward named look next e = absurd (no_call_onward 0 1 look next e)
only_onward begun look next e = record { from = refl; to = call_onward look next e }
only_onward indexed look next e = absurd (no_index_onward look next e)

back_onward : (delay next : Delay) (c : List Wait) (parts : List Raw) (vs : List (List Raw)) (ts : List Nested) (out : List Raw) → Onward delay next
    → Completes (want (first_of next) ∷ undecided next ∷ c) (parts ∷ vs) ts out → Completes (undecided delay ∷ c) (parts ∷ vs) ts out
back_onward delay next c parts vs ts out o done =
    let P : Delay → Type 0 = λ d. Completes (want (first_of d) ∷ undecided d ∷ c) (parts ∷ vs) ts out in
    let Q : Delay → Type 0 = λ d. Completes (undecided d ∷ c) (parts ∷ vs) ts out in
    subst Q (sym o.from) (read_on c parts vs ts out (subst P o.to done))

back_told : (told : Telling) (delay : Delay) (c : List Wait) (parts : List Raw) (vs : List (List Raw)) (ts : List Nested) (c2 : List Wait) (vs2 : List (List Raw)) (out : List Raw)
    → tell delay (ahead ts None) ≡ told → turn_told told delay c parts vs ≡ Some (at c2 vs2) → Completes c2 vs2 ts out → Completes (undecided delay ∷ c) (parts ∷ vs) ts out
back_told (reading n) delay c parts vs ts c2 vs2 out is e done = back_read (nth_reading (readings delay) n) n delay c parts vs ts c2 vs2 out refl e done
back_told (onward next) delay c parts vs ts c2 vs2 out is e done = back_onward delay next c parts vs ts out (only_onward delay (ahead ts None) next is) (landed _ _ c2 vs2 ts out e done)

back_turn : (c : List Wait) (vs : List (List Raw)) (ts : List Nested) (c2 : List Wait) (vs2 : List (List Raw)) (out : List Raw)
    → turn c vs (ahead ts None) ≡ Some (at c2 vs2) → Completes c2 vs2 ts out → Completes c vs ts out
back_turn (want (sub form) ∷ c) vs ts c2 vs2 out e done = back_chosen (choose form (ahead ts None)) form c vs ts c2 vs2 out refl e done
back_turn (close form ∷ c) (parts ∷ top ∷ vs) ts c2 vs2 out e done = closed form c parts top vs ts out (landed _ _ c2 vs2 ts out e done)
back_turn (undecided delay ∷ c) (parts ∷ vs) ts c2 vs2 out e done = back_told (tell delay (ahead ts None)) delay c parts vs ts c2 vs2 out refl e done
back_turn (judged late ∷ c) (parts ∷ top ∷ vs) ts c2 vs2 out e done = judged_so late c parts top vs ts out (landed _ _ c2 vs2 ts out e done)
back_turn _ _ ts c2 vs2 out e done = cc

-- What completes the state behind a move completes the state before it.
pub back : (c : List Wait) (vs : List (List Raw)) (ts : List Nested) (c2 : List Wait) (vs2 : List (List Raw)) (ts2 : List Nested) (out : List Raw)
    → Move c vs ts c2 vs2 ts2 → Completes c2 vs2 ts2 out → Completes c vs ts out
back _ _ _ _ _ _ out (turns c vs c2 vs2 ts e) done = back_turn c vs ts c2 vs2 out e done
back _ _ _ _ _ _ out (shift class word c top vs ts is deep) done = reread class word c top vs ts out is deep done

pub back_all : (c : List Wait) (vs : List (List Raw)) (ts : List Nested) (c2 : List Wait) (vs2 : List (List Raw)) (ts2 : List Nested) (out : List Raw)
    → Moves c vs ts c2 vs2 ts2 → Completes c2 vs2 ts2 out → Completes c vs ts out
back_all _ _ _ _ _ _ out (stay c vs ts) done = done
back_all _ _ _ _ _ _ out (go c vs ts c2 vs2 ts2 c3 vs3 ts3 first others) done = back c vs ts c2 vs2 ts2 out first (back_all c2 vs2 ts2 c3 vs3 ts3 out others done)

-- What the machine reads to the end derives.
pub sound : (words : List Nested) (raws : List Raw) → Completes (want (sub program) ∷ []) ([] ∷ []) words raws → Derives 0 (sub program) raws words None
sound _ _ (wanted _ _ _ _ raws front rest words _ derives (ended _) is) =
    let P : List Nested → Type 0 = λ ts. Derives 0 (sub program) raws ts None in subst P (sym (is ∙ append-nil front)) derives
