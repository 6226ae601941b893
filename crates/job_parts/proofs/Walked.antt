-- `clap`'s walk over the words, for the command of two options and any number of words.
use Rattle.std.proofs.Common.{◌≡◌, ◌∙◌, ◌<◌, ◌&&◌, ◌||◌, ◌==◌, ℕ, Bool, true, false, List, [], ◌∷◌, ◌++◌, Option, Some, None, is_some, refl, sym, ap, unwrap_or, inl, inr, append_assoc, append-nil, true≢false, length, codes, ◌⊎◌, arith}
use Rattle.std.specs.Prelude.{if◌then◌else◌, option_and_then, slice_get, encode_utf8_all, fold, IsUtf8}
use Rattle.std.specs.List.{AllByRecursion}
use Rattle.std.specs.Option.{option_map_or}
use Rattle.std.proofs.lemmas.Bool.{cases_Bool}
use Rattle.std.proofs.lemmas.Bool.Decides.{Decides-eqb}
use Rattle.std.proofs.lemmas.Str.{IsUtf8-past_char, encodes-chars}
use Rattle.std.proofs.Common.{subst, ◌⊎◌, arith}
use Rattle.std.specs.Str.{bytes_eq, chars}
use Rattle.std.specs.Char.{encode_utf8}
use Rattle.clap.specs.Lexer.{long_of, short_of}
use Rattle.clap.specs.Walk.{Held, Row, Rule, Step, Text, Waiting, Walk, after_step, all_of, arg_by_long, has_row, idle, long_or_other, option as awaiting, positional, used, reading_by, settled, settled_rows, is_pending, pushed, short_or_plain, trailing, used, walked, without, walk, walk_from, nothing_held, finished, with_default}
use Rattle.clap.specs.Simple.{App, Shape, built, entered, matches_of}
use Rattle.clap.specs.Faults.{bundle_fault, bundle_step_fault, flag_word_fault, long_fault, settle_fault, step_fault, turn_fault, walk_fault, default_fault, fault_of, flags_fault, defaults_fault, level_fault, entered_fault}
use Rattle.clap.specs.Kinds.{Kinds, or_else}
use Rattle.clap.specs.declared.builder.action.ArgAction.TheVariants.{Set}
use Rattle.clap.specs.declared.builder.value_parser.ValueParser.TheVariants as vp
use Rattle.clap.specs.declared.error.kind.ErrorKind.TheVariants as kind
use Rattle.clap.specs.declared.parser.matches.ValueSource.TheVariants.{CommandLine}
use Rattle.job_parts.specs.Words.{Word, Setting, budget, steps, Form, ends, option, strange, plain as plain_form, form_of, named, dashed_form, name_in, value_in}
use Rattle.job_parts.specs.Command.{command_app, option_rule, words_rule}
use Rattle.job_parts.specs.Found.{Texts, texts_of}
use Rattle.job_parts.proofs.Rows.{same_text, has_row-all_of, without-other, with_values-other, with_values-more, without-none}

-- ---- the command as it is built

abbrev name_of : Setting → Text
name_of budget = codes "budget"
name_of steps = codes "steps"

abbrev filled_option : Text → Rule
filled_option name = record (option_rule name) { action = Some Set; parser = Some vp.String; range = Some (record { start_inclusive = 1; end_inclusive = 1 }) }

abbrev filled_words : Rule
filled_words = record words_rule { index = Some 1; parser = Some vp.String; range = Some (record { start_inclusive = 1; end_inclusive = 1 }) }

abbrev rules : List Rule
rules = filled_option (codes "budget") ∷ filled_option (codes "steps") ∷ filled_words ∷ []

abbrev shape : Shape
shape = record command_app.top { rules = rules; is_built = true; disable_help_subcommand = true }

abbrev built_app : App
built_app = record { top = shape; subs = [] }

built_is : built command_app ≡ built_app
built_is = refl

-- ---- the same reading of the words, with texts for values

abbrev pub no_texts : Texts
no_texts = record { budget = None; steps = None; rest = [] }

abbrev pub text_slot : Setting → Texts → Option (List Text)
text_slot budget g = g.budget
text_slot steps g = g.steps

abbrev pub with_text : Setting → Text → Texts → Texts
with_text budget v g = record g { budget = Some (v ∷ []) }
with_text steps v g = record g { steps = Some (v ∷ []) }

abbrev pub put_text : Setting → Text → Texts → Option Texts
put_text s v g = if is_some (text_slot s g) then None else Some (with_text s v g)

abbrev pub with_rest : List Text → Texts → Texts
with_rest ws g = record g { rest = g.rest ++ ws }

-- a word that is to be an option's value
abbrev pub value_turn : Form → Setting → Word → Texts → (Option Setting → Texts → Option Texts) → Option Texts
value_turn plain_form s v g next = option_and_then (next None) (put_text s v g)
value_turn _ s v g next = None

abbrev pub text_turn : Form → Word → List Word → Texts → (Option Setting → Texts → Option Texts) → Option Texts
text_turn ends w ws g next = Some (with_rest ws g)
text_turn (option s None) w ws g next = next (Some s) g
text_turn (option s (Some v)) w ws g next = option_and_then (next None) (put_text s v g)
text_turn strange w ws g next = None
text_turn plain_form w ws g next = next None (with_rest (w ∷ []) g)

unfoldable pub texts_from : Option Setting → Texts → List Word → Option Texts
texts_from None g [] = Some g
texts_from (Some s) g [] = None
texts_from (Some s) g (v ∷ ws) = value_turn (form_of v) s v g (λ s h. texts_from s h ws)
texts_from None g (w ∷ ws) = text_turn (form_of w) w ws g (λ s h. texts_from s h ws)

-- ---- one use

texts-word : (x : Text) (rows : List Row) → texts_of (used filled_words (x ∷ []) rows) ≡ with_rest (x ∷ []) (texts_of rows)
texts-word x rows =
    let b = with_values-other (codes "words") (codes "budget") refl (reading_by filled_words) CommandLine (x ∷ []) rows in
    let s = with_values-other (codes "words") (codes "steps") refl (reading_by filled_words) CommandLine (x ∷ []) rows in
    let w = with_values-more (codes "words") refl (reading_by filled_words) CommandLine (x ∷ []) rows in
    λ i. record { budget = b i; steps = s i; rest = unwrap_or (w i) [] }

no_value : (o : Option (List Text)) → is_some o ≡ false → o ≡ None
no_value None e = refl
no_value (Some v) e = absurd (true≢false e)

-- the values of an id that had none
given_first : (id : Text) → bytes_eq id id ≡ true → (v : Text) (rows : List Row) → has_row id rows ≡ false → all_of id (used (filled_option id) (v ∷ []) rows) ≡ Some (v ∷ [])
given_first id self v rows h =
    with_values-more id self (reading_by (filled_option id)) CommandLine (v ∷ []) (without id rows)
    ∙ ap (λ (o : Option (List Text)). Some (unwrap_or o [] ++ v ∷ []))
    (ap (all_of id) (without-none id self (reading_by (filled_option id)) CommandLine rows h) ∙ no_value _ (sym (has_row-all_of id rows) ∙ h))

texts-option : (s : Setting) (v : Text) (rows : List Row) → has_row (name_of s) rows ≡ false → texts_of (used (filled_option (name_of s)) (v ∷ []) rows) ≡ with_text s v (texts_of rows)
texts-option budget v rows h =
    let b = given_first (codes "budget") refl v rows h in
    let s = with_values-other (codes "budget") (codes "steps") refl (reading_by (filled_option (codes "budget"))) CommandLine (v ∷ []) (without (codes "budget") rows) ∙ without-other (codes "budget") (codes "steps") refl rows in
    let w = with_values-other (codes "budget") (codes "words") refl (reading_by (filled_option (codes "budget"))) CommandLine (v ∷ []) (without (codes "budget") rows) ∙ without-other (codes "budget") (codes "words") refl rows in
    λ i. record { budget = b i; steps = s i; rest = unwrap_or (w i) [] }
texts-option steps v rows h =
    let b = with_values-other (codes "steps") (codes "budget") refl (reading_by (filled_option (codes "steps"))) CommandLine (v ∷ []) (without (codes "steps") rows) ∙ without-other (codes "steps") (codes "budget") refl rows in
    let s = given_first (codes "steps") refl v rows h in
    let w = with_values-other (codes "steps") (codes "words") refl (reading_by (filled_option (codes "steps"))) CommandLine (v ∷ []) (without (codes "steps") rows) ∙ without-other (codes "steps") (codes "words") refl rows in
    λ i. record { budget = b i; steps = s i; rest = unwrap_or (w i) [] }

-- ---- a word, by its form

-- how `clap` sees a word of the form
abbrev Looks : Word → Form → Type 0
Looks x ends = bytes_eq x (45 ∷ 45 ∷ []) ≡ true
Looks x (option s v) = (bytes_eq x (45 ∷ 45 ∷ []) ≡ false) × (long_of x ≡ Some (name_of s, v))
Looks x strange = (bytes_eq x (45 ∷ 45 ∷ []) ≡ false)
    × (((p : Text × Option Text) × (long_of x ≡ Some p) × (arg_by_long rules p.0 ≡ None))
    ⊎ ((long_of x ≡ None) × ((flags : Text) × (short_of x ≡ Some flags) × ((c : ℕ) × (slice_get (chars flags) 0 ≡ Some c)) × (0 < length flags))))
Looks x plain_form = (bytes_eq x (45 ∷ 45 ∷ []) ≡ false) × (long_of x ≡ None) × (short_of x ≡ None)

looks-named : (w n : Word) (v : Option Word) → bytes_eq w (45 ∷ 45 ∷ []) ≡ false → long_of w ≡ Some (n, v) → Looks w (named n v)
looks-named w n v dd long = elim (cases_Bool (bytes_eq (codes "budget") n)) [
  | inl b ↦ let is : named n v ≡ option budget v = rw b in
      subst (Looks w) (sym is) (dd, long ∙ ap (λ (m : Text). Some (m, v)) (sym (same_text (codes "budget") n b)))
  | inr b ↦ elim (cases_Bool (bytes_eq (codes "steps") n)) [
    | inl s ↦ let is : named n v ≡ option steps v = rw (b, s) in
        subst (Looks w) (sym is) (dd, long ∙ ap (λ (m : Text). Some (m, v)) (sym (same_text (codes "steps") n s)))
    | inr s ↦ let is : named n v ≡ strange = rw (b, s) in
        let unknown : arg_by_long rules n ≡ None = rw (b, s) in
        subst (Looks w) (sym is) (dd, inl ((n, v), long, unknown))
  ]
]

looks-dashed : (x y : ℕ) (t : Word) → (x == 45) ≡ true → (y == 45) ≡ true → Looks (x ∷ y ∷ t) (dashed_form t)
looks-dashed x y [] e f = rw (e, f)
looks-dashed x y (z ∷ u) e f =
    let dd : bytes_eq (x ∷ y ∷ z ∷ u) (45 ∷ 45 ∷ []) ≡ false = rw (e, f) in
    let long : long_of (x ∷ y ∷ z ∷ u) ≡ Some (name_in (z ∷ u), value_in (z ∷ u)) = rw (e, f) in
    looks-named (x ∷ y ∷ z ∷ u) (name_in (z ∷ u)) (value_in (z ∷ u)) dd long

first_char : (cs : List ℕ) (y : ℕ) (t : Word) → encode_utf8_all cs ≡ y ∷ t → (c : ℕ) × (slice_get cs 0 ≡ Some c)
first_char [] y t e = cc
first_char (c ∷ cs) y t e = (c, refl)

looks-short : (x y : ℕ) (t : Word) → IsUtf8 (x ∷ y ∷ t) → (x == 45) ≡ true → (y == 45) ≡ false → Looks (x ∷ y ∷ t) strange
unfolding encode_utf8
looks-short x y t text e f =
    let dd : bytes_eq (x ∷ y ∷ t) (45 ∷ 45 ∷ []) ≡ false = rw (e, f) in
    let long : long_of (x ∷ y ∷ t) ≡ None = rw (e, f) in
    let short : short_of (x ∷ y ∷ t) ≡ Some (y ∷ t) = rw (e, f) in
    let is : x ≡ 45 = (Decides-eqb x 45).0 e in
    let rest = IsUtf8-past_char (x ∷ y ∷ t) (y ∷ t) 45 text (ap (λ (n : ℕ). n ∷ y ∷ t) is) in
    (dd, inr (long, (y ∷ t, short, first_char (chars (y ∷ t)) y t (encodes-chars (y ∷ t) rest), omega arith)))

looks-plain : (x y : ℕ) (t : Word) → (x == 45) ≡ false → Looks (x ∷ y ∷ t) plain_form
looks-plain x y t e =
    let dd : bytes_eq (x ∷ y ∷ t) (45 ∷ 45 ∷ []) ≡ false = rw e in
    let long : long_of (x ∷ y ∷ t) ≡ None = rw e in
    let short : short_of (x ∷ y ∷ t) ≡ None = rw e in
    (dd, long, short)

looks-one : (x : ℕ) → Looks (x ∷ []) plain_form
looks-one x = elim (cases_Bool (x == 45)) [
  | inl e ↦
      let dd : bytes_eq (x ∷ []) (45 ∷ 45 ∷ []) ≡ false = rw e in
      let long : long_of (x ∷ []) ≡ None = rw e in
      let short : short_of (x ∷ []) ≡ None = rw e in
      (dd, long, short)
  | inr e ↦
      let dd : bytes_eq (x ∷ []) (45 ∷ 45 ∷ []) ≡ false = rw e in
      let long : long_of (x ∷ []) ≡ None = rw e in
      let short : short_of (x ∷ []) ≡ None = rw e in
      (dd, long, short)
]

looks : (x : Word) → IsUtf8 x → Looks x (form_of x)
looks [] text = (refl, refl, refl)
looks (x ∷ []) text = looks-one x
looks (x ∷ y ∷ t) text = elim (cases_Bool (x == 45)) [
  | inl e ↦ elim (cases_Bool (y == 45)) [
    | inl f ↦ let is : form_of (x ∷ y ∷ t) ≡ dashed_form t = rw (e, f) in subst (Looks (x ∷ y ∷ t)) (sym is) (looks-dashed x y t e f)
    | inr f ↦ let is : form_of (x ∷ y ∷ t) ≡ strange = rw (e, f) in subst (Looks (x ∷ y ∷ t)) (sym is) (looks-short x y t text e f)
  ]
  | inr e ↦ let is : form_of (x ∷ y ∷ t) ≡ plain_form = rw e in subst (Looks (x ∷ y ∷ t)) (sym is) (looks-plain x y t e)
]

-- ---- one word of the walk

abbrev held : List Row → Option (Text × List Text) → Held
held rows pending = record { rows = rows; pending = pending; skip = 0 }

-- the walk between two words, before `--`
abbrev at : Waiting → List Row → Option (Text × List Text) → Walk
at waiting rows pending = record { held = held rows pending; waiting = waiting; position = 1; is_trailing = false; stopped = None }

-- the walk behind `--`
abbrev behind : Waiting → List Row → Option (Text × List Text) → Walk
behind waiting rows pending = record { held = held rows pending; waiting = waiting; position = 1; is_trailing = true; stopped = None }

-- what a word comes to, by how it looks
abbrev met_at : Waiting → Text → Bool → Option (Text × Option Text) → Held → Held × Step
met_at waiting x b o h = if b then (h, trailing 1) else long_or_other rules waiting x o h

abbrev fault_at : Waiting → Text → Bool → Option (Text × Option Text) → Held → Kinds
fault_at waiting x b o h =
    or_else (if b then [] else flag_word_fault rules false o x h) (step_fault shape 1 (met_at waiting x b o h).0 (met_at waiting x b o h).1)

abbrev next_at : Waiting → Text → Bool → Option (Text × Option Text) → List Row → Option (Text × List Text) → Walk
next_at waiting x b o rows pending = after_step rules x (at waiting rows pending) (met_at waiting x b o (held rows pending)).0 (met_at waiting x b o (held rows pending)).1

turn_is : (waiting : Waiting) (x : Text) (rows : List Row) (pending : Option (Text × List Text))
    → turn_fault shape [] (at waiting rows pending) x ≡ fault_at waiting x (bytes_eq x (45 ∷ 45 ∷ [])) (long_of x) (held rows pending)
turn_is idle x rows pending = refl
turn_is (awaiting id) x rows pending = refl
turn_is positional x rows pending = refl

walked_is : (waiting : Waiting) (x : Text) (rows : List Row) (pending : Option (Text × List Text))
    → walked rules [] (at waiting rows pending) x ≡ next_at waiting x (bytes_eq x (45 ∷ 45 ∷ [])) (long_of x) rows pending
unfolding walked
walked_is idle x rows pending = refl
walked_is (awaiting id) x rows pending = refl
walked_is positional x rows pending = refl

-- ---- the walk over all words, and what it comes to

abbrev pub unless : {A : Type 0} → Kinds → Option A → Option A
unless [] o = o
unless (k ∷ ks) o = None

unless-then : {A B : Type 0} (ks : Kinds) (a : A) (f : A → Option B) → unless ks (f a) ≡ option_and_then f (unless ks (Some a))
unless-then [] a f = refl
unless-then (k ∷ ks) a f = refl

unless-or : {A : Type 0} (a b : Kinds) (o : Option A) → unless (or_else a b) o ≡ unless a (unless b o)
unless-or [] b o = refl
unless-or (k ∷ ks) b o = refl

or_none : (ks : Kinds) → or_else ks [] ≡ ks
or_none [] = refl
or_none (k ∷ ks) = refl

abbrev settling : List Row → Option (Text × List Text) → Kinds
settling rows pending = settle_fault rules false (held rows pending)

abbrev left : List Row → Option (Text × List Text) → List Row
left rows pending = settled_rows rules pending rows

abbrev finish : List Row → Option (Text × List Text) → Option Texts
finish rows pending = unless (settling rows pending) (Some (texts_of (left rows pending)))

outcome : Walk → List Word → Option Texts
outcome w [] = finish w.held.rows w.held.pending
outcome w (x ∷ xs) = unless (turn_fault shape [] w x) (outcome (walked rules [] w x) xs)

-- a word, by how it looks
outcome-looks : (waiting : Waiting) (x : Text) (xs : List Word) (rows : List Row) (pending : Option (Text × List Text)) (b : Bool) (o : Option (Text × Option Text))
    → bytes_eq x (45 ∷ 45 ∷ []) ≡ b → long_of x ≡ o
    → outcome (at waiting rows pending) (x ∷ xs) ≡ unless (fault_at waiting x b o (held rows pending)) (outcome (next_at waiting x b o rows pending) xs)
unfolding outcome
outcome-looks waiting x xs rows pending b o dd long =
    (λ i. unless (turn_is waiting x rows pending i) (outcome (walked_is waiting x rows pending i) xs))
    ∙ (λ i. unless (fault_at waiting x (dd i) (long i) (held rows pending)) (outcome (next_at waiting x (dd i) (long i) rows pending) xs))

abbrev short_fault_at : Waiting → Text → Option Text → Held → Kinds
short_fault_at waiting x f h =
    or_else (option_map_or (λ flags. bundle_fault rules false flags h) f []) (step_fault shape 1 (short_or_plain rules waiting x f h).0 (short_or_plain rules waiting x f h).1)

abbrev short_next_at : Waiting → Text → Option Text → List Row → Option (Text × List Text) → Walk
short_next_at waiting x f rows pending =
    after_step rules x (at waiting rows pending) (short_or_plain rules waiting x f (held rows pending)).0 (short_or_plain rules waiting x f (held rows pending)).1

outcome-short : (waiting : Waiting) (x : Text) (xs : List Word) (rows : List Row) (pending : Option (Text × List Text)) (f : Option Text)
    → bytes_eq x (45 ∷ 45 ∷ []) ≡ false → long_of x ≡ None → short_of x ≡ f
    → outcome (at waiting rows pending) (x ∷ xs) ≡ unless (short_fault_at waiting x f (held rows pending)) (outcome (short_next_at waiting x f rows pending) xs)
outcome-short waiting x xs rows pending f dd long short =
    outcome-looks waiting x xs rows pending false None dd long
    ∙ (λ i. unless (short_fault_at waiting x (short i) (held rows pending)) (outcome (short_next_at waiting x (short i) rows pending) xs))

-- a bundle of flags, of which the command has none
bundle_strange : (flags : Text) (c : ℕ) (rows : List Row) (pending : Option (Text × List Text)) → 0 < length flags → slice_get (chars flags) 0 ≡ Some c
    → bundle_fault rules false flags (held rows pending) ≡ kind.UnknownArgument ∷ []
unfolding flags_fault
bundle_strange [] c rows pending some e = absurd (omega arith)
bundle_strange (y ∷ t) c rows pending some e =
    ap (λ (o : Option ℕ). bundle_step_fault rules false o (y ∷ t) 0 (held rows pending) (flags_fault rules false (length t))) e

outcome-strange : (waiting : Waiting) (x : Text) (xs : List Word) (rows : List Row) (pending : Option (Text × List Text)) → Looks x strange
    → outcome (at waiting rows pending) (x ∷ xs) ≡ None
outcome-strange waiting x xs rows pending (dd, inl (p, long, unknown)) =
    let h = held rows pending in
    outcome-looks waiting x xs rows pending false (Some p) dd long
    ∙ (λ i. unless (or_else (long_fault rules false (unknown i) p.1 h) (step_fault shape 1 (met_at waiting x false (Some p) h).0 (met_at waiting x false (Some p) h).1))
    (outcome (next_at waiting x false (Some p) rows pending) xs))
outcome-strange waiting x xs rows pending (dd, inr (long, (flags, short, (c, char), some))) =
    let h = held rows pending in
    outcome-short waiting x xs rows pending (Some flags) dd long short
    ∙ (λ i. unless (or_else (bundle_strange flags c rows pending some char i) (step_fault shape 1 (short_or_plain rules waiting x (Some flags) h).0 (short_or_plain rules waiting x (Some flags) h).1))
    (outcome (short_next_at waiting x (Some flags) rows pending) xs))

-- ---- words behind `--`

and_false : (b : Bool) → (b && false) ≡ false
and_false true = refl
and_false false = refl

-- a word that goes to the files
abbrev file_fault : Bool → List Row → Option (Text × List Text) → Kinds
file_fault b rows pending = if b then [] else settling rows pending

abbrev file_walk : Bool → Bool → Text → List Row → Option (Text × List Text) → Walk
file_walk is_trailing b x rows pending = record {
  held = pushed (codes "words") x (if b then held rows pending else settled rules (held rows pending));
  waiting = positional;
  position = 1;
  is_trailing = is_trailing;
  stopped = None;
}

more_files : (xs : List Word) (x : Text) (rows : List Row) → with_rest xs (texts_of (used filled_words (x ∷ []) rows)) ≡ with_rest (x ∷ xs) (texts_of rows)
more_files xs x rows =
    ap (with_rest xs) (texts-word x rows) ∙ ap (λ (r : List Text). record (texts_of rows) { rest = r }) (append_assoc (texts_of rows).rest (x ∷ []) xs)

outcome-behind : (waiting : Waiting) (rows : List Row) (pending : Option (Text × List Text)) (words : List Word)
    → outcome (behind waiting rows pending) words ≡ option_and_then (λ g. Some (with_rest words g)) (finish rows pending)
unfolding outcome walked
outcome-behind waiting rows pending [] =
    ap (λ (r : List Text). unless (settling rows pending) (Some (record (texts_of (left rows pending)) { rest = r }))) (sym (append-nil (texts_of (left rows pending)).rest))
    ∙ unless-then (settling rows pending) (texts_of (left rows pending)) (λ g. Some (with_rest [] g))
outcome-behind waiting rows pending (x ∷ xs) =
    let e = and_false (is_pending filled_words pending) in
    (λ i. unless (file_fault (e i) rows pending) (outcome (file_walk true (e i) x rows pending) xs))
    ∙ ap (unless (settling rows pending)) (outcome-behind positional (left rows pending) (Some (codes "words", x ∷ [])) xs ∙ ap (λ (g : Texts). Some g) (more_files xs x (left rows pending)))
    ∙ unless-then (settling rows pending) (texts_of (left rows pending)) (λ g. Some (with_rest (x ∷ xs) g))

-- ---- words before `--`

-- what is being read where no option waits for its value
pub data Pending : Type 0 where
  none : Pending
  given : Setting → Text → Pending
  file : Text → Pending

abbrev pending_of : Pending → Option (Text × List Text)
pending_of none = None
pending_of (given s v) = Some (name_of s, v ∷ [])
pending_of (file v) = Some (codes "words", v ∷ [])

abbrev calm : Bool → Waiting
calm true = idle
calm false = positional

abbrev repeat : Bool → Kinds
repeat b = or_else (if b && true then kind.ArgumentConflict ∷ [] else []) []

-- a use of an option, where its id has a row or none
used_once : (s : Setting) (v : Text) (rows : List Row) (b : Bool) → has_row (name_of s) rows ≡ b
    → unless (repeat b) (Some (texts_of (used (filled_option (name_of s)) (v ∷ []) rows))) ≡ (if b then None else Some (with_text s v (texts_of rows)))
used_once s v rows true h = refl
used_once s v rows false h = ap (λ (g : Texts). Some g) (texts-option s v rows h)

slot_is : (s : Setting) (rows : List Row) → has_row (name_of s) rows ≡ is_some (text_slot s (texts_of rows))
slot_is budget rows = has_row-all_of (codes "budget") rows
slot_is steps rows = has_row-all_of (codes "steps") rows

put_is : (s : Setting) (v : Text) (rows : List Row)
    → unless (repeat (has_row (name_of s) rows)) (Some (texts_of (used (filled_option (name_of s)) (v ∷ []) rows))) ≡ put_text s v (texts_of rows)
put_is s v rows = used_once s v rows (has_row (name_of s) rows) refl ∙ ap (λ (b : Bool). if b then None else Some (with_text s v (texts_of rows))) (slot_is s rows)

finish-given : (s : Setting) (v : Text) (rows : List Row) → finish rows (pending_of (given s v)) ≡ put_text s v (texts_of rows)
finish-given budget v rows = put_is budget v rows
finish-given steps v rows = put_is steps v rows

-- the reading that is to be shown, where no option waits
abbrev Reads : Waiting → List Row → Option (Text × List Text) → List Word → Type 0
Reads waiting rows pending words = outcome (at waiting rows pending) words ≡ option_and_then (λ g. texts_from None g words) (finish rows pending)

-- and where one does
abbrev Awaits : Setting → List Row → List Word → Type 0
Awaits s rows words = outcome (at (awaiting (name_of s)) rows (Some (name_of s, []))) words ≡ texts_from (Some s) (texts_of rows) words

file_step : (calm_is : Bool) (rows : List Row) (p : Pending) (x : Text) (xs : List Word) → Looks x plain_form
    → Reads positional (left rows (pending_of p)) (pending_of (file x)) xs
    → outcome (at (calm calm_is) rows (pending_of p)) (x ∷ xs) ≡ option_and_then (λ g. texts_from None (with_rest (x ∷ []) g) xs) (finish rows (pending_of p))
file_step true rows p x xs (dd, long, short) rest =
    let e = and_false (is_pending filled_words (pending_of p)) in
    outcome-short idle x xs rows (pending_of p) None dd long short
    ∙ (λ i. unless (file_fault (e i) rows (pending_of p)) (outcome (file_walk false (e i) x rows (pending_of p)) xs))
    ∙ ap (unless (settling rows (pending_of p))) (rest ∙ ap (λ (g : Texts). texts_from None g xs) (texts-word x (left rows (pending_of p))))
    ∙ unless-then (settling rows (pending_of p)) (texts_of (left rows (pending_of p))) (λ g. texts_from None (with_rest (x ∷ []) g) xs)
file_step false rows p x xs (dd, long, short) rest =
    let e = and_false (is_pending filled_words (pending_of p)) in
    outcome-short positional x xs rows (pending_of p) None dd long short
    ∙ (λ i. unless (file_fault (e i) rows (pending_of p)) (outcome (file_walk false (e i) x rows (pending_of p)) xs))
    ∙ ap (unless (settling rows (pending_of p))) (rest ∙ ap (λ (g : Texts). texts_from None g xs) (texts-word x (left rows (pending_of p))))
    ∙ unless-then (settling rows (pending_of p)) (texts_of (left rows (pending_of p))) (λ g. texts_from None (with_rest (x ∷ []) g) xs)

-- `--name`
option_step : (s : Setting) (calm_is : Bool) (rows : List Row) (p : Pending) (x : Text) (xs : List Word) → Looks x (option s None)
    → Awaits s (left rows (pending_of p)) xs
    → outcome (at (calm calm_is) rows (pending_of p)) (x ∷ xs) ≡ option_and_then (λ g. texts_from (Some s) g xs) (finish rows (pending_of p))
option_step budget calm_is rows p x xs (dd, long) rest =
    outcome-looks (calm calm_is) x xs rows (pending_of p) false _ dd long
    ∙ ap (λ (ks : Kinds). unless ks (outcome (at (awaiting (codes "budget")) (left rows (pending_of p)) (Some (codes "budget", []))) xs)) (or_none (settling rows (pending_of p)))
    ∙ ap (unless (settling rows (pending_of p))) rest
    ∙ unless-then (settling rows (pending_of p)) (texts_of (left rows (pending_of p))) (λ g. texts_from (Some budget) g xs)
option_step steps calm_is rows p x xs (dd, long) rest =
    outcome-looks (calm calm_is) x xs rows (pending_of p) false _ dd long
    ∙ ap (λ (ks : Kinds). unless ks (outcome (at (awaiting (codes "steps")) (left rows (pending_of p)) (Some (codes "steps", []))) xs)) (or_none (settling rows (pending_of p)))
    ∙ ap (unless (settling rows (pending_of p))) rest
    ∙ unless-then (settling rows (pending_of p)) (texts_of (left rows (pending_of p))) (λ g. texts_from (Some steps) g xs)

then_some : {A B : Type 0} (ks : Kinds) (a : A) (f : A → Option B) (o : Option A) → unless ks (Some a) ≡ o → unless ks (f a) ≡ option_and_then f o
then_some ks a f o e = unless-then ks a f ∙ ap (option_and_then f) e

-- `--name=value`
attached_step : (s : Setting) (v : Text) (calm_is : Bool) (rows : List Row) (p : Pending) (x : Text) (xs : List Word) → Looks x (option s (Some v))
    → Reads idle (used (filled_option (name_of s)) (v ∷ []) (left rows (pending_of p))) (pending_of none) xs
    → outcome (at (calm calm_is) rows (pending_of p)) (x ∷ xs)
    ≡ option_and_then (λ g. option_and_then (λ k. texts_from None k xs) (put_text s v g)) (finish rows (pending_of p))
attached_step budget v calm_is rows p x xs (dd, long) rest =
    let R = left rows (pending_of p) in
    let K = settling rows (pending_of p) in
    let U = repeat (has_row (codes "budget") R) in
    let after = outcome (at idle (used (filled_option (codes "budget")) (v ∷ []) R) None) xs in
    outcome-looks (calm calm_is) x xs rows (pending_of p) false _ dd long
    ∙ ap (λ (ks : Kinds). unless ks after) (or_none (or_else K U))
    ∙ unless-or K U after
    ∙ ap (unless K) (ap (unless U) rest ∙ then_some U (texts_of (used (filled_option (codes "budget")) (v ∷ []) R)) (λ k. texts_from None k xs) _ (put_is budget v R))
    ∙ unless-then K (texts_of R) (λ g. option_and_then (λ k. texts_from None k xs) (put_text budget v g))
attached_step steps v calm_is rows p x xs (dd, long) rest =
    let R = left rows (pending_of p) in
    let K = settling rows (pending_of p) in
    let U = repeat (has_row (codes "steps") R) in
    let after = outcome (at idle (used (filled_option (codes "steps")) (v ∷ []) R) None) xs in
    outcome-looks (calm calm_is) x xs rows (pending_of p) false _ dd long
    ∙ ap (λ (ks : Kinds). unless ks after) (or_none (or_else K U))
    ∙ unless-or K U after
    ∙ ap (unless K) (ap (unless U) rest ∙ then_some U (texts_of (used (filled_option (codes "steps")) (v ∷ []) R)) (λ k. texts_from None k xs) _ (put_is steps v R))
    ∙ unless-then K (texts_of R) (λ g. option_and_then (λ k. texts_from None k xs) (put_text steps v g))

none_then : {A B : Type 0} (f : A → Option B) (o : Option A) → ((a : A) → f a ≡ None) → None ≡ option_and_then f o
none_then f None e = refl
none_then f (Some a) e = sym (e a)

-- `--`
end_step : (waiting : Waiting) (rows : List Row) (pending : Option (Text × List Text)) (x : Text) (xs : List Word) → Looks x ends
    → outcome (at waiting rows pending) (x ∷ xs) ≡ option_and_then (λ g. Some (with_rest xs g)) (finish rows pending)
end_step waiting rows pending x xs dd =
    outcome-looks waiting x xs rows pending true (long_of x) dd refl ∙ outcome-behind waiting rows pending xs

-- the value of an option, in a word of its own
value_step : (s : Setting) (rows : List Row) (x : Text) (xs : List Word) → Looks x plain_form
    → Reads idle rows (pending_of (given s x)) xs
    → outcome (at (awaiting (name_of s)) rows (Some (name_of s, []))) (x ∷ xs) ≡ option_and_then (λ g. texts_from None g xs) (put_text s x (texts_of rows))
value_step budget rows x xs (dd, long, short) rest =
    outcome-short (awaiting (codes "budget")) x xs rows (Some (codes "budget", [])) None dd long short ∙ rest
    ∙ ap (option_and_then (λ g. texts_from None g xs)) (finish-given budget x rows)
value_step steps rows x xs (dd, long, short) rest =
    outcome-short (awaiting (codes "steps")) x xs rows (Some (codes "steps", [])) None dd long short ∙ rest
    ∙ ap (option_and_then (λ g. texts_from None g xs)) (finish-given steps x rows)

-- another option, where a value is wanted
refused_value : (s t : Setting) (v : Option Text) (rows : List Row) (x : Text) (xs : List Word) → Looks x (option t v)
    → outcome (at (awaiting (name_of s)) rows (Some (name_of s, []))) (x ∷ xs) ≡ None
refused_value budget budget None rows x xs (dd, long) = outcome-looks (awaiting (codes "budget")) x xs rows (Some (codes "budget", [])) false _ dd long
refused_value budget budget (Some v) rows x xs (dd, long) = outcome-looks (awaiting (codes "budget")) x xs rows (Some (codes "budget", [])) false _ dd long
refused_value budget steps None rows x xs (dd, long) = outcome-looks (awaiting (codes "budget")) x xs rows (Some (codes "budget", [])) false _ dd long
refused_value budget steps (Some v) rows x xs (dd, long) = outcome-looks (awaiting (codes "budget")) x xs rows (Some (codes "budget", [])) false _ dd long
refused_value steps budget None rows x xs (dd, long) = outcome-looks (awaiting (codes "steps")) x xs rows (Some (codes "steps", [])) false _ dd long
refused_value steps budget (Some v) rows x xs (dd, long) = outcome-looks (awaiting (codes "steps")) x xs rows (Some (codes "steps", [])) false _ dd long
refused_value steps steps None rows x xs (dd, long) = outcome-looks (awaiting (codes "steps")) x xs rows (Some (codes "steps", [])) false _ dd long
refused_value steps steps (Some v) rows x xs (dd, long) = outcome-looks (awaiting (codes "steps")) x xs rows (Some (codes "steps", [])) false _ dd long

abbrev AllReads : List Word → Type 0
AllReads words = (calm_is : Bool) (rows : List Row) (p : Pending) → Reads (calm calm_is) rows (pending_of p) words

abbrev AllAwait : List Word → Type 0
AllAwait words = (s : Setting) (rows : List Row) → Awaits s rows words

calm_form : (f : Form) (calm_is : Bool) (rows : List Row) (p : Pending) (x : Word) (xs : List Word) → Looks x f → AllReads xs → AllAwait xs
    → outcome (at (calm calm_is) rows (pending_of p)) (x ∷ xs) ≡ option_and_then (λ g. text_turn f x xs g (λ s h. texts_from s h xs)) (finish rows (pending_of p))
calm_form ends calm_is rows p x xs look reads awaits = end_step (calm calm_is) rows (pending_of p) x xs look
calm_form (option s None) calm_is rows p x xs look reads awaits = option_step s calm_is rows p x xs look (awaits s (left rows (pending_of p)))
calm_form (option s (Some v)) calm_is rows p x xs look reads awaits =
    attached_step s v calm_is rows p x xs look (reads true (used (filled_option (name_of s)) (v ∷ []) (left rows (pending_of p))) none)
calm_form strange calm_is rows p x xs look reads awaits =
    outcome-strange (calm calm_is) x xs rows (pending_of p) look ∙ none_then (λ g. None) (finish rows (pending_of p)) (λ g. refl)
calm_form plain_form calm_is rows p x xs look reads awaits = file_step calm_is rows p x xs look (reads false (left rows (pending_of p)) (file x))

waiting_form : (f : Form) (s : Setting) (rows : List Row) (x : Word) (xs : List Word) → Looks x f → AllReads xs
    → outcome (at (awaiting (name_of s)) rows (Some (name_of s, []))) (x ∷ xs) ≡ value_turn f s x (texts_of rows) (λ s h. texts_from s h xs)
waiting_form ends budget rows x xs look reads = end_step (awaiting (codes "budget")) rows (Some (codes "budget", [])) x xs look
waiting_form ends steps rows x xs look reads = end_step (awaiting (codes "steps")) rows (Some (codes "steps", [])) x xs look
waiting_form (option t v) s rows x xs look reads = refused_value s t v rows x xs look
waiting_form strange s rows x xs look reads = outcome-strange (awaiting (name_of s)) x xs rows (Some (name_of s, [])) look
waiting_form plain_form s rows x xs look reads = value_step s rows x xs look (reads true rows (given s x))

no_value_left : (s : Setting) (rows : List Row) → Awaits s rows []
unfolding outcome texts_from
no_value_left budget rows = refl
no_value_left steps rows = refl

all_read : (words : List Word) → AllByRecursion IsUtf8 words → AllReads words × AllAwait words
unfolding outcome texts_from
all_read [] text = (
  λ calm_is rows p. elim calm_is as (λ b. Reads (calm b) rows (pending_of p) []) [
    | true ↦ unless-then (settling rows (pending_of p)) (texts_of (left rows (pending_of p))) (λ g. texts_from None g [])
    | false ↦ unless-then (settling rows (pending_of p)) (texts_of (left rows (pending_of p))) (λ g. texts_from None g [])
  ],
  no_value_left,
)
all_read (x ∷ xs) (text, rest) =
    let more = all_read xs rest in (
      λ calm_is rows p. calm_form (form_of x) calm_is rows p x xs (looks x text) more.0 more.1,
      λ s rows. waiting_form (form_of x) s rows x xs (looks x text) more.0,
    )

-- ---- after the walk

cond_same : {A : Type 0} (b : Bool) (a : A) → (if b then a else a) ≡ a
cond_same true a = refl
cond_same false a = refl

or_true : {A : Type 0} (b : Bool) (x y : A) → (if b || true then x else y) ≡ x
or_true true x y = refl
or_true false x y = refl

option_free : (id : Text) (rows : List Row) → default_fault rows (filled_option id) ≡ []
option_free id rows = or_true (has_row id rows) [] _

words_free : (rows : List Row) → default_fault rows filled_words ≡ []
words_free rows = or_true (has_row (codes "words") rows) [] _

no_defaults : (rows : List Row) → defaults_fault rows rules ≡ []
unfolding defaults_fault
no_defaults rows =
    let more = with_default rows (filled_option (codes "budget")) in
    λ i. or_else (option_free (codes "budget") rows i)
    (or_else (option_free (codes "steps") more i) (or_else (words_free (with_default more (filled_option (codes "steps"))) i) []))

finished_is : (h : Held) → finished rules h ≡ (settled rules h).rows
finished_is h =
    let rows = (settled rules h).rows in
    let same = λ (id : Text). cond_same (has_row id rows) rows in
    (λ i. with_default (with_default (same (codes "budget") i) (filled_option (codes "steps"))) filled_words)
    ∙ (λ i. with_default (same (codes "steps") i) filled_words) ∙ same (codes "words")

unless-three : {A : Type 0} (a b c : Kinds) (o : Option A) → unless a (unless (or_else b c) o) ≡ unless (or_else (or_else a b) c) o
unless-three [] b c o = refl
unless-three (k ∷ ks) b c o = refl

abbrev last_of : Walk → List Word → Held
last_of w words = (fold (walked rules []) w words).held

abbrev last_fault : Walk → List Word → Kinds
last_fault w words = settle_fault rules false (last_of w words)

walk_outcome : (w : Walk) (words : List Word)
    → outcome w words ≡ unless (or_else (walk_fault shape [] w words) (last_fault w words)) (Some (texts_of (settled rules (last_of w words)).rows))
unfolding outcome walk_fault
walk_outcome w [] = refl
walk_outcome w (x ∷ xs) =
    ap (unless (turn_fault shape [] w x)) (walk_outcome (walked rules [] w x) xs) ∙ unless-three (turn_fault shape [] w x) (walk_fault shape [] (walked rules [] w x) xs) (last_fault (walked rules [] w x) xs) _

plain_level : (words : List Word)
    → level_fault shape [] nothing_held words false [] ≡ or_else (walk_fault shape [] (walk_from nothing_held) words) (last_fault (walk_from nothing_held) words)
plain_level words =
    let W = walk_fault shape [] (walk_from nothing_held) words in
    let S = last_fault (walk_from nothing_held) words in
    (λ i. or_else W (or_else S (or_else (no_defaults (settled rules (last_of (walk_from nothing_held) words)).rows i) []))) ∙ ap (or_else W) (or_none S)

by_stop : (stop : Option (Text × List Text)) (words : List Word)
    → level_fault shape [] nothing_held words (is_some (entered built_app stop)) (entered_fault built_app stop)
    ≡ or_else (walk_fault shape [] (walk_from nothing_held) words) (last_fault (walk_from nothing_held) words)
by_stop None words = plain_level words
by_stop (Some p) words = plain_level words

abbrev last_stop : List Word → Option (Text × List Text)
last_stop words = (walk rules [] nothing_held words).stopped

fault_is : (words : List Word) → fault_of command_app words ≡ or_else (walk_fault shape [] (walk_from nothing_held) words) (last_fault (walk_from nothing_held) words)
fault_is words = by_stop (last_stop words) words

-- `clap`'s own definitions read the words as they are read here
pub clap_reads : (words : List Word) → AllByRecursion IsUtf8 words
    → unless (fault_of command_app words) (Some (texts_of (matches_of command_app words))) ≡ texts_from None no_texts words
clap_reads words text =
    (λ i. unless (fault_is words i) (Some (texts_of (finished_is (last_of (walk_from nothing_held) words) i))))
    ∙ sym (walk_outcome (walk_from nothing_held) words) ∙ (all_read words text).0 true [] none
