-- The pushdown machine over the grammar: what it waits for, what it built, and its moves.
use Rattle.std.specs.Prelude.{◌≡◌, ℕ, zero, suc, List, [], ◌∷◌, ◌++◌, Option, Some, None, Bool, true, false, cond, ◌+◌}
use Rattle.c_parse.specs.declared.class.Class.{Class}
use Rattle.c_parse.specs.declared.class.Class.TheVariants.{Name, Number, Plus, Minus, Star, Divide, Shift, Relation, Equality, Ampersand, Caret, Bar, AndAnd, BarBar, Complement, Question, Semicolon, Comma, Open, Close, OpenIndex, OpenBrace, CloseBrace, Equals, Compound, Increment, Static, Const, Void, Char, Sign, Short, Int, Fixed, Break, Continue, Return, If, Else, While, Do, For, Switch, Case, Default}
use Rattle.c_parse.specs.declared.raw.Raw.{Raw}
use Rattle.c_parse.specs.Endings.{ends_in_jump, have_names}
use Rattle.c_parse.specs.Grammar.{Within, in_switch, in_loop, Form, program, externals, external, unstatic, titled, signature, ending, params, param_list, more_params, param, param_name, declarators, more_declarators, declarator, initial, list_initial, more_values, next_value, block, items, item, declaration, statement, else_part, returned, for_first, tested, stepped, groups, group, labelled, label, action, target, subscript, subscripted, assign, expr, choice, chosen, binary, operations, unary, operand, cast_type, primary, grouped, passed, arguments, more_arguments, type_name, after_char, after_sign, after_short, after_int, after_sign_short, after_sign_int, after_short_int, Symbol, token, sub, alternatives, shape_of, Shape, spliced, make, weight, Nested, ahead}
use Rattle.c_parse.specs.declared.form.Wait.{Wait}
pub use Rattle.c_parse.specs.declared.form.Wait.TheVariants.{Want as want, Close as close, Choose as undecided, Judge as judged}
pub use Rattle.c_parse.specs.declared.form.Delay.{Delay}
pub use Rattle.c_parse.specs.declared.form.Delay.TheVariants.{Opened as opened, Called as called, Named as named, Begun as begun, Indexed as indexed}
pub use Rattle.c_parse.specs.declared.form.Late.{Late}
pub use Rattle.c_parse.specs.declared.form.Late.TheVariants.{Params as of_params, Group as of_group}

abbrev pub begins_type : Option Class → Bool
begins_type (Some Char) = true
begins_type (Some Sign) = true
begins_type (Some Short) = true
begins_type (Some Int) = true
begins_type (Some Fixed) = true
begins_type _ = false

abbrev pub begins_declaration : Option Class → Bool
begins_declaration (Some Const) = true
begins_declaration look = begins_type look

abbrev pub begins_unary : Option Class → Bool
begins_unary (Some Name) = true
begins_unary (Some Number) = true
begins_unary (Some Plus) = true
begins_unary (Some Minus) = true
begins_unary (Some Complement) = true
begins_unary (Some Open) = true
begins_unary _ = false

abbrev pub begins_action : Option Class → Bool
begins_action (Some Increment) = true
begins_action look = begins_unary look

-- What the next token tells of a form: no alternative, one by its number, one that is told later, or a part that is judged when it is read.
pub data Choice : Type 0 where
  refuse : Choice
  take_on : ℕ → Choice
  defer : Delay → Choice
  judge : Late → Choice

abbrev pub when : Bool → Choice → Choice
when b told = cond b told refuse

abbrev pub choose_unstatic : Option Class → Choice
choose_unstatic (Some Const) = take_on 0
choose_unstatic (Some Void) = take_on 1
choose_unstatic look = when (begins_type look) (take_on 2)

abbrev pub choose_ending : Bool → Option Class → Choice
choose_ending all (Some Semicolon) = take_on 0
choose_ending true (Some OpenBrace) = take_on 1
choose_ending all _ = refuse

abbrev pub choose_param_list : Option Class → Choice
choose_param_list (Some Close) = take_on 0
choose_param_list (Some Void) = take_on 1
choose_param_list _ = take_on 2

abbrev pub choose_declaration : Option Class → Choice
choose_declaration (Some Const) = take_on 0
choose_declaration look = when (begins_type look) (take_on 1)

abbrev pub choose_initial : Option Class → Choice
choose_initial (Some Equals) = take_on 1
choose_initial (Some OpenIndex) = take_on 2
choose_initial _ = take_on 0

abbrev pub choose_items : Option Class → Choice
choose_items (Some CloseBrace) = take_on 0
choose_items (Some Case) = take_on 0
choose_items (Some Default) = take_on 0
choose_items None = take_on 0
choose_items _ = take_on 1

abbrev pub choose_statement : Within → Option Class → Choice
choose_statement within (Some OpenBrace) = take_on 0
choose_statement within (Some Semicolon) = take_on 1
choose_statement within (Some Return) = take_on 3
choose_statement within (Some If) = take_on 4
choose_statement within (Some While) = take_on 5
choose_statement within (Some Do) = take_on 6
choose_statement within (Some For) = take_on 7
choose_statement within (Some Switch) = take_on 8
choose_statement in_switch (Some Break) = take_on 9
choose_statement in_loop (Some Break) = take_on 9
choose_statement in_loop (Some Continue) = take_on 10
choose_statement within look = when (begins_action look) (take_on 2)

abbrev pub is_chosen : Choice → Bool
is_chosen refuse = false
is_chosen _ = true

abbrev pub choose_for_first : Option Class → Choice
choose_for_first (Some Semicolon) = take_on 2
choose_for_first look = cond (begins_declaration look) (take_on 0) (when (begins_action look) (take_on 1))

abbrev pub choose_groups : Within → Bool → Option Class → Choice
choose_groups within true (Some Case) = judge (of_group within)
choose_groups within true (Some Default) = judge (of_group within)
choose_groups within ended _ = take_on 0

abbrev pub choose_label : Option Class → Choice
choose_label (Some Case) = take_on 0
choose_label (Some Default) = take_on 1
choose_label _ = refuse

abbrev pub choose_labelled : Option Class → Choice
choose_labelled (Some Case) = take_on 1
choose_labelled (Some Default) = take_on 1
choose_labelled (Some CloseBrace) = take_on 0
choose_labelled None = take_on 0
choose_labelled _ = take_on 2

abbrev pub choose_action : Option Class → Choice
choose_action (Some Name) = defer begun
choose_action (Some Increment) = take_on 2
choose_action look = when (begins_unary look) (take_on 3)

abbrev pub choose_assign : Option Class → Choice
choose_assign (Some Equals) = take_on 0
choose_assign (Some Compound) = take_on 1
choose_assign _ = refuse

abbrev pub choose_operations : Option Class → Choice
choose_operations (Some Star) = take_on 1
choose_operations (Some Divide) = take_on 2
choose_operations (Some Plus) = take_on 3
choose_operations (Some Minus) = take_on 4
choose_operations (Some Shift) = take_on 5
choose_operations (Some Relation) = take_on 6
choose_operations (Some Equality) = take_on 7
choose_operations (Some Ampersand) = take_on 8
choose_operations (Some Caret) = take_on 9
choose_operations (Some Bar) = take_on 10
choose_operations (Some AndAnd) = take_on 11
choose_operations (Some BarBar) = take_on 12
choose_operations _ = take_on 0

abbrev pub choose_unary : Option Class → Choice
choose_unary (Some Plus) = take_on 0
choose_unary (Some Minus) = take_on 1
choose_unary (Some Complement) = take_on 2
choose_unary (Some Open) = defer opened
choose_unary (Some Name) = take_on 4
choose_unary (Some Number) = take_on 4
choose_unary _ = refuse

abbrev pub choose_primary : Option Class → Choice
choose_primary (Some Number) = take_on 0
choose_primary (Some Name) = defer called
choose_primary (Some Open) = take_on 3
choose_primary _ = refuse

abbrev pub choose_type : Option Class → Choice
choose_type (Some Fixed) = take_on 0
choose_type (Some Char) = take_on 1
choose_type (Some Sign) = take_on 2
choose_type (Some Short) = take_on 3
choose_type (Some Int) = take_on 4
choose_type _ = refuse

abbrev pub choose_titled : Option Class → Choice
choose_titled (Some Name) = defer named
choose_titled _ = refuse

abbrev pub choose_after_sign : Option Class → Choice
choose_after_sign (Some Char) = take_on 1
choose_after_sign (Some Short) = take_on 2
choose_after_sign (Some Int) = take_on 3
choose_after_sign _ = take_on 0

abbrev pub choose_after_short : Option Class → Choice
choose_after_short (Some Sign) = take_on 1
choose_after_short (Some Int) = take_on 2
choose_after_short _ = take_on 0

abbrev pub choose_after_int : Option Class → Choice
choose_after_int (Some Sign) = take_on 1
choose_after_int (Some Short) = take_on 2
choose_after_int _ = take_on 0

abbrev pub on_static : Option Class → Choice
on_static (Some Static) = take_on 0
on_static _ = take_on 1

-- the second alternative where this token comes, else the first
abbrev pub on_comma : Option Class → Choice
on_comma (Some Comma) = take_on 1
on_comma _ = take_on 0

abbrev pub on_name : Option Class → Choice
on_name (Some Name) = take_on 1
on_name _ = take_on 0

abbrev pub on_equals : Option Class → Choice
on_equals (Some Equals) = take_on 1
on_equals _ = take_on 0

abbrev pub on_else : Option Class → Choice
on_else (Some Else) = take_on 1
on_else _ = take_on 0

abbrev pub on_question : Option Class → Choice
on_question (Some Question) = take_on 1
on_question _ = take_on 0

abbrev pub on_open_index : Option Class → Choice
on_open_index (Some OpenIndex) = take_on 1
on_open_index _ = take_on 0

abbrev pub on_sign : Option Class → Choice
on_sign (Some Sign) = take_on 1
on_sign _ = take_on 0

abbrev pub on_int : Option Class → Choice
on_int (Some Int) = take_on 1
on_int _ = take_on 0

abbrev pub on_short : Option Class → Choice
on_short (Some Short) = take_on 1
on_short _ = take_on 0

-- the first alternative where this token comes, else the second
abbrev pub until_close_brace : Option Class → Choice
until_close_brace (Some CloseBrace) = take_on 0
until_close_brace _ = take_on 1

abbrev pub until_semicolon : Option Class → Choice
until_semicolon (Some Semicolon) = take_on 0
until_semicolon _ = take_on 1

abbrev pub until_close : Option Class → Choice
until_close (Some Close) = take_on 0
until_close _ = take_on 1

abbrev pub until_end : Option Class → Choice
until_end None = take_on 0
until_end _ = take_on 1

abbrev pub choose : Form → Option Class → Choice
choose program look = take_on 0
choose externals look = until_end look
choose external look = on_static look
choose unstatic look = choose_unstatic look
choose titled look = choose_titled look
choose signature look = judge of_params
choose (ending all) look = choose_ending all look
choose (params all) look = refuse
choose param_list look = choose_param_list look
choose more_params look = on_comma look
choose param look = choose_declaration look
choose param_name look = on_name look
choose declarators look = take_on 0
choose more_declarators look = on_comma look
choose declarator look = take_on 0
choose initial look = choose_initial look
choose list_initial look = on_equals look
choose more_values look = on_comma look
choose next_value look = until_close_brace look
choose (block within) look = take_on 0
choose (items within) look = choose_items look
choose (item within) look = cond (begins_declaration look) (take_on 0) (when (is_chosen (choose_statement within look)) (take_on 1))
choose declaration look = choose_declaration look
choose (statement within) look = choose_statement within look
choose (else_part within) look = on_else look
choose returned look = until_semicolon look
choose for_first look = choose_for_first look
choose tested look = until_semicolon look
choose stepped look = until_close look
choose (groups within ended) look = choose_groups within ended look
choose (group within ended) look = refuse
choose (labelled within) look = choose_labelled look
choose label look = choose_label look
choose action look = choose_action look
choose target look = take_on 0
choose subscript look = on_open_index look
choose subscripted look = take_on 0
choose assign look = choose_assign look
choose expr look = when (begins_unary look) (take_on 0)
choose choice look = on_question look
choose chosen look = take_on 0
choose binary look = take_on 0
choose operations look = choose_operations look
choose unary look = choose_unary look
choose operand look = when (begins_unary look) (take_on 0)
choose cast_type look = take_on 0
choose primary look = choose_primary look
choose grouped look = take_on 0
choose passed look = take_on 0
choose arguments look = until_close look
choose more_arguments look = on_comma look
choose type_name look = choose_type look
choose after_char look = on_sign look
choose after_sign look = choose_after_sign look
choose after_short look = choose_after_short look
choose after_int look = choose_after_int look
choose after_sign_short look = on_int look
choose after_sign_int look = on_short look
choose after_short_int look = on_sign look

abbrev pub nth : List (List Symbol) → ℕ → Option (List Symbol)
nth [] n = None
nth (first ∷ others) zero = Some first
nth (first ∷ others) (suc n) = nth others n

abbrev pub wants : List Symbol → List Wait → List Wait
wants [] after = after
wants (symbol ∷ symbols) after = want symbol ∷ wants symbols after

-- A form that has begun, and the symbols that are still to come in it.
pub data Frame : Type 0 where
  frame : Form → List Symbol → Frame

-- forms that begin with one another, the innermost first
abbrev pub operand_of_action : List Frame
operand_of_action = frame unary [] ∷ frame binary (sub operations ∷ []) ∷ frame expr (sub choice ∷ []) ∷ frame action [] ∷ []

-- What a delayed choice may turn out to be, behind what was read.
abbrev pub readings : Delay → List (List Frame)
readings opened =
    (frame unary (sub cast_type ∷ sub operand ∷ []) ∷ []) ∷
    (frame primary (sub grouped ∷ []) ∷ frame unary [] ∷ []) ∷ []
readings called =
    (frame primary (sub subscript ∷ []) ∷ []) ∷
    (frame primary (token Open ∷ sub passed ∷ []) ∷ []) ∷ []
readings named =
    (frame titled (token Open ∷ sub signature ∷ []) ∷ []) ∷
    (frame declarator (sub initial ∷ []) ∷ frame declarators (sub more_declarators ∷ []) ∷ frame titled (token Semicolon ∷ []) ∷ []) ∷ []
readings begun =
    (frame target (sub subscript ∷ []) ∷ frame action (sub assign ∷ sub expr ∷ []) ∷ []) ∷
    (frame target (sub subscript ∷ []) ∷ frame action (token Increment ∷ []) ∷ []) ∷
    (frame primary (sub subscript ∷ []) ∷ operand_of_action) ∷
    (frame primary (token Open ∷ sub passed ∷ []) ∷ operand_of_action) ∷ []
readings indexed =
    (frame target [] ∷ frame action (sub assign ∷ sub expr ∷ []) ∷ []) ∷
    (frame target [] ∷ frame action (token Increment ∷ []) ∷ []) ∷
    (frame primary [] ∷ operand_of_action) ∷ []

-- the symbol that is read before the choice is told
abbrev pub first_of : Delay → Symbol
first_of opened = token Open
first_of indexed = sub subscript
first_of _ = token Name

-- What the next token says of a delayed choice: which reading it is, or that one more symbol is read first.
pub data Telling : Type 0 where
  reading : ℕ → Telling
  onward : Delay → Telling

abbrev pub tell_call : ℕ → Telling → Option Class → Telling
tell_call call other (Some Open) = reading call
tell_call call other _ = other

abbrev pub tell_opened : Bool → Telling
tell_opened true = reading 0
tell_opened false = reading 1

abbrev pub tell_indexed : Option Class → Telling
tell_indexed (Some Equals) = reading 0
tell_indexed (Some Compound) = reading 0
tell_indexed (Some Increment) = reading 1
tell_indexed _ = reading 2

abbrev pub tell : Delay → Option Class → Telling
tell opened look = tell_opened (begins_type look)
tell called look = tell_call 1 (reading 0) look
tell named look = tell_call 0 (reading 1) look
tell begun look = tell_call 3 (onward indexed) look
tell indexed look = tell_indexed look

abbrev pub nth_reading : List (List Frame) → ℕ → Option (List Frame)
nth_reading [] n = None
nth_reading (first ∷ others) zero = Some first
nth_reading (first ∷ others) (suc n) = nth_reading others n

-- what is waited for to the ends of all these forms
abbrev pub opens : List Frame → List Wait → List Wait
opens [] after = after
opens (frame form rest ∷ frames) after = wants rest (close form ∷ opens frames after)

-- an empty list for each of the outer forms
abbrev pub blanks : List Frame → List (List Raw) → List (List Raw)
blanks [] builds = builds
blanks (f ∷ frames) builds = [] ∷ blanks frames builds

abbrev pub without_first : List Frame → List Frame
without_first [] = []
without_first (f ∷ frames) = frames

-- What is judged: the form, the symbols in it, whether it meets its rule, and what may follow then.
abbrev pub late_form : Late → Bool → Form
late_form of_params answer = params answer
late_form (of_group within) answer = group within answer

abbrev pub late_symbols : Late → List Symbol
late_symbols of_params = sub param_list ∷ []
late_symbols (of_group within) = sub label ∷ sub (labelled within) ∷ []

abbrev pub verdict : Late → List Raw → Bool
verdict of_params parts = have_names parts
verdict (of_group within) parts = ends_in_jump parts

abbrev pub late_rest : Late → Bool → List Symbol
late_rest of_params answer = token Close ∷ sub (ending answer) ∷ []
late_rest (of_group within) answer = sub (groups within answer) ∷ []

-- What is waited for, the next first, and the lists of parts that are built, the innermost first.
pub record State : Type 0 where
  pub waits : List Wait
  pub builds : List (List Raw)

abbrev pub at : List Wait → List (List Raw) → State
at c vs = record { waits = c; builds = vs }

-- The parts of a form that has no rule go straight to the list that is being built.
abbrev pub spliced_shape : Shape → Bool
spliced_shape spliced = true
spliced_shape _ = false

abbrev pub is_spliced : Form → Bool
is_spliced form = spliced_shape (shape_of form)

abbrev pub unfolded : Bool → Form → List Symbol → List Wait → List (List Raw) → State
unfolded true form symbols c vs = at (wants symbols c) vs
unfolded false form symbols c vs = at (wants symbols (close form ∷ c)) ([] ∷ vs)

abbrev pub turn_taken : Option (List Symbol) → Form → List Wait → List (List Raw) → Option State
turn_taken None form c vs = None
turn_taken (Some symbols) form c vs = Some (unfolded (is_spliced form) form symbols c vs)

abbrev pub turn_chosen : Choice → Form → List Wait → List (List Raw) → Option State
turn_chosen refuse form c vs = None
turn_chosen (take_on n) form c vs = turn_taken (nth (alternatives form) n) form c vs
turn_chosen (defer delay) form c vs = Some (at (want (first_of delay) ∷ undecided delay ∷ c) ([] ∷ vs))
turn_chosen (judge late) form c vs = Some (at (wants (late_symbols late) (judged late ∷ c)) ([] ∷ vs))

abbrev pub turn_read : Option (List Frame) → List Wait → List Raw → List (List Raw) → Option State
turn_read None c parts vs = None
turn_read (Some frames) c parts vs = Some (at (opens frames c) (parts ∷ blanks (without_first frames) vs))

abbrev pub turn_told : Telling → Delay → List Wait → List Raw → List (List Raw) → Option State
turn_told (reading n) delay c parts vs = turn_read (nth_reading (readings delay) n) c parts vs
turn_told (onward next) delay c parts vs = Some (at (want (first_of next) ∷ undecided next ∷ c) (parts ∷ vs))

-- What the machine does before it reads the next token; None where it reads it, or can't go on.
abbrev pub turn : List Wait → List (List Raw) → Option Class → Option State
turn (want (sub form) ∷ c) vs look = turn_chosen (choose form look) form c vs
turn (close form ∷ c) (parts ∷ top ∷ vs) look = Some (at c ((top ++ make form parts) ∷ vs))
turn (undecided delay ∷ c) (parts ∷ vs) look = turn_told (tell delay look) delay c parts vs
turn (judged late ∷ c) (parts ∷ top ∷ vs) look = Some (at (wants (late_rest late (verdict late parts)) c) ((top ++ make (late_form late (verdict late parts)) parts) ∷ vs))
turn _ _ _ = None

-- How deep the next token is nested: what holds it is what is still to be closed.
abbrev pub level : List Wait → ℕ
level [] = 0
level (close form ∷ c) = level c + weight form
level (_ ∷ c) = level c

-- One move: from what is waited for, the lists that are built and the tokens left.
pub data Move : List Wait → List (List Raw) → List Nested → List Wait → List (List Raw) → List Nested → Type 0 where
  turns : (c : List Wait) (vs : List (List Raw)) (c2 : List Wait) (vs2 : List (List Raw)) (ts : List Nested) → turn c vs (ahead ts None) ≡ Some (at c2 vs2) → Move c vs ts c2 vs2 ts
  shift : (class : Class) (word : Nested) (c : List Wait) (top : List Raw) (vs : List (List Raw)) (ts : List Nested) → word.class ≡ class → word.level ≡ level c
      → Move (want (token class) ∷ c) (top ∷ vs) (word ∷ ts) c ((top ++ word.leaf ∷ []) ∷ vs) ts

-- any number of moves
pub data Moves : List Wait → List (List Raw) → List Nested → List Wait → List (List Raw) → List Nested → Type 0 where
  stay : (c : List Wait) (vs : List (List Raw)) (ts : List Nested) → Moves c vs ts c vs ts
  go : (c : List Wait) (vs : List (List Raw)) (ts : List Nested) (c2 : List Wait) (vs2 : List (List Raw)) (ts2 : List Nested) (c3 : List Wait) (vs3 : List (List Raw)) (ts3 : List Nested)
      → Move c vs ts c2 vs2 ts2 → Moves c2 vs2 ts2 c3 vs3 ts3 → Moves c vs ts c3 vs3 ts3
