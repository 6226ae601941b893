-- Each state that the machine reaches can be completed.
use Rattle.std.proofs.Common.{◌≡◌, ◌<◌, ℕ, zero, suc, List, [], ◌∷◌, ◌++◌, length, Option, Some, None, Bool, true, false, not, ◌&&◌, refl, sym, ap, subst, ◌∙◌, ◌+◌, arith}
use Rattle.c_parse.specs.declared.class.Class.{Class}
use Rattle.c_parse.specs.declared.class.Class.TheVariants.{Name, Number, Colon, Semicolon, Close, CloseIndex, OpenBrace, CloseBrace, Equals, Fixed, Else, Default}
use Rattle.c_parse.specs.declared.raw.Raw.{Raw}
use Rattle.base_io.specs.declared.place.Place.{Place}
use Rattle.std.specs.Prelude.{All}
use Rattle.std.proofs.lemmas.List.Elements.{All-nil, All-cons, All-append}
use Rattle.c_parse.specs.declared.form.Wait.{Wait}
use Rattle.c_parse.specs.Grammar.{make, Within, Form, program, externals, external, unstatic, titled, signature, ending, params, param_list, more_params, param, param_name, declarators, more_declarators, declarator, initial, list_initial, more_values, next_value, block, items, item, declaration, statement, else_part, returned, for_first, tested, stepped, groups, group, labelled, label, action, target, subscript, subscripted, assign, expr, choice, chosen, binary, operations, unary, operand, cast_type, primary, grouped, passed, arguments, more_arguments, type_name, after_char, after_sign, after_short, after_int, after_sign_short, after_sign_int, after_short_int, Symbol, token, sub, alternatives, OneOf, here, there, allows, weight, Nested, nested_at, IsReal, ahead, Derives, leaf, node, DeriveAll, none, more}
use Rattle.c_parse.specs.Machine.{want, close, undecided, judged, Delay, opened, called, named, begun, indexed, Late, of_params, of_group, Choice, refuse, take_on, defer, judge, choose, nth, wants, Frame, frame, readings, first_of, Telling, reading, onward, tell, nth_reading, opens, blanks, without_first, late_form, late_symbols, verdict, late_rest, State, at, is_spliced, unfolded, turn_taken, turn_chosen, turn_read, turn_told, turn, level, Move, turns, shift, Moves, stay, go}
use Rattle.c_parse.proofs.Checks.{is_judged, plain, all_plain, kind_fits, kind_fitting}
use Rattle.c_parse.proofs.Truth.{both, both_left, both_right, not_true}
use Rattle.c_parse.proofs.Spellings.{sample, sample_genuine}
use Rattle.c_parse.proofs.Sound.{Completes, ended, wanted, closed, read_as, judged_so, Reads, this}

-- Some text of the symbol, however deep it stands and whatever comes behind it.
pub record Witness (symbol : Symbol) : Type 0 where
  pub raws : List Raw
  pub front : ℕ → List Nested
  pub real : (depth : ℕ) → All IsReal (front depth)
  pub derives : (depth : ℕ) (next : Option Class) → Derives depth symbol raws (front depth) next

record WitnessAll (symbols : List Symbol) : Type 0 where
  raws : List Raw
  front : ℕ → List Nested
  real : (depth : ℕ) → All IsReal (front depth)
  derive : (depth : ℕ) (next : Option Class) → DeriveAll depth symbols raws (front depth) next

some_place : Place
some_place = record { line = 1; column = 1 }

abbrev some_token : Class → ℕ → Nested
some_token class depth = nested_at depth (sample class some_place)

w_token : (class : Class) → Witness (token class)
w_token class = record {
  raws = (sample class some_place).leaf ∷ [];
  front = λ depth. some_token class depth ∷ [];
  real = λ depth. All-cons IsReal (some_token class depth) [] (sample_genuine class some_place) (All-nil IsReal);
  derives = λ depth next. leaf depth class (some_token class depth) next refl refl;
}

w_none : WitnessAll []
w_none = record { raws = []; front = λ depth. []; real = λ depth. All-nil IsReal; derive = λ depth next. none depth next }

w_more : (symbol : Symbol) (symbols : List Symbol) → Witness symbol → WitnessAll symbols → WitnessAll (symbol ∷ symbols)
w_more symbol symbols w ws = record {
  raws = w.raws ++ ws.raws;
  front = λ depth. w.front depth ++ ws.front depth;
  real = λ depth. All-append IsReal (w.front depth) (ws.front depth) (w.real depth) (ws.real depth);
  derive = λ depth next.
      more depth symbol symbols w.raws ws.raws (w.raws ++ ws.raws) (w.front depth) (ws.front depth) (w.front depth ++ ws.front depth) next (w.derives depth (ahead (ws.front depth) next)) (ws.derive depth next) refl refl;
}

w_node : (form : Form) (ss : List Symbol) → OneOf ss (alternatives form) → ((parts : List Raw) (next : Option Class) → allows form ss parts next ≡ true) → WitnessAll ss → Witness (sub form)
w_node form ss alternative ok ws = record {
  raws = make form ws.raws;
  front = λ depth. ws.front (depth + weight form);
  real = λ depth. ws.real (depth + weight form);
  derives = λ depth next. node depth form ss ws.raws (make form ws.raws) (ws.front (depth + weight form)) next alternative (ok ws.raws next) refl (ws.derive (depth + weight form) next);
}

w_primary : Witness (sub primary)
w_primary = w_node primary (token Number ∷ []) (here _) (λ parts next. refl) (w_more (token Number) ([]) (w_token Number) w_none)

w_unary : Witness (sub unary)
w_unary = w_node unary (sub primary ∷ []) (there _ _ (there _ _ (there _ _ (there _ _ (here _))))) (λ parts next. refl) (w_more (sub primary) ([]) w_primary w_none)

w_operand : Witness (sub operand)
w_operand = w_node operand (sub unary ∷ []) (here _) (λ parts next. refl) (w_more (sub unary) ([]) w_unary w_none)

w_operations : Witness (sub operations)
w_operations = w_node operations ([]) (here _) (λ parts next. refl) w_none

w_binary : Witness (sub binary)
w_binary = w_node binary (sub unary ∷ sub operations ∷ []) (here _) (λ parts next. refl) (w_more (sub unary) (sub operations ∷ []) w_unary (w_more (sub operations) ([]) w_operations w_none))

w_choice : Witness (sub choice)
w_choice = w_node choice ([]) (here _) (λ parts next. refl) w_none

w_expr : Witness (sub expr)
w_expr = w_node expr (sub binary ∷ sub choice ∷ []) (here _) (λ parts next. refl) (w_more (sub binary) (sub choice ∷ []) w_binary (w_more (sub choice) ([]) w_choice w_none))

w_chosen : Witness (sub chosen)
w_chosen = w_node chosen (sub expr ∷ token Colon ∷ sub expr ∷ []) (here _) (λ parts next. refl) (w_more (sub expr) (token Colon ∷ sub expr ∷ []) w_expr (w_more (token Colon) (sub expr ∷ []) (w_token Colon) (w_more (sub expr) ([]) w_expr w_none)))

w_subscripted : Witness (sub subscripted)
w_subscripted = w_node subscripted (sub expr ∷ token CloseIndex ∷ []) (here _) (λ parts next. refl) (w_more (sub expr) (token CloseIndex ∷ []) w_expr (w_more (token CloseIndex) ([]) (w_token CloseIndex) w_none))

w_grouped : Witness (sub grouped)
w_grouped = w_node grouped (sub expr ∷ token Close ∷ []) (here _) (λ parts next. refl) (w_more (sub expr) (token Close ∷ []) w_expr (w_more (token Close) ([]) (w_token Close) w_none))

w_subscript : Witness (sub subscript)
w_subscript = w_node subscript ([]) (here _) (λ parts next. refl) w_none

w_target : Witness (sub target)
w_target = w_node target (token Name ∷ sub subscript ∷ []) (here _) (λ parts next. refl) (w_more (token Name) (sub subscript ∷ []) (w_token Name) (w_more (sub subscript) ([]) w_subscript w_none))

w_assign : Witness (sub assign)
w_assign = w_node assign (token Equals ∷ []) (here _) (λ parts next. refl) (w_more (token Equals) ([]) (w_token Equals) w_none)

w_action : Witness (sub action)
w_action = w_node action (sub expr ∷ []) (there _ _ (there _ _ (there _ _ (here _)))) (λ parts next. refl) (w_more (sub expr) ([]) w_expr w_none)

w_arguments : Witness (sub arguments)
w_arguments = w_node arguments ([]) (here _) (λ parts next. refl) w_none

w_passed : Witness (sub passed)
w_passed = w_node passed (sub arguments ∷ token Close ∷ []) (here _) (λ parts next. refl) (w_more (sub arguments) (token Close ∷ []) w_arguments (w_more (token Close) ([]) (w_token Close) w_none))

w_more_arguments : Witness (sub more_arguments)
w_more_arguments = w_node more_arguments ([]) (here _) (λ parts next. refl) w_none

w_after_char : Witness (sub after_char)
w_after_char = w_node after_char ([]) (here _) (λ parts next. refl) w_none

w_after_sign : Witness (sub after_sign)
w_after_sign = w_node after_sign ([]) (here _) (λ parts next. refl) w_none

w_after_short : Witness (sub after_short)
w_after_short = w_node after_short ([]) (here _) (λ parts next. refl) w_none

w_after_int : Witness (sub after_int)
w_after_int = w_node after_int ([]) (here _) (λ parts next. refl) w_none

w_after_sign_short : Witness (sub after_sign_short)
w_after_sign_short = w_node after_sign_short ([]) (here _) (λ parts next. refl) w_none

w_after_sign_int : Witness (sub after_sign_int)
w_after_sign_int = w_node after_sign_int ([]) (here _) (λ parts next. refl) w_none

w_after_short_int : Witness (sub after_short_int)
w_after_short_int = w_node after_short_int ([]) (here _) (λ parts next. refl) w_none

w_type_name : Witness (sub type_name)
w_type_name = w_node type_name (token Fixed ∷ []) (here _) (λ parts next. refl) (w_more (token Fixed) ([]) (w_token Fixed) w_none)

w_cast_type : Witness (sub cast_type)
w_cast_type = w_node cast_type (sub type_name ∷ token Close ∷ []) (here _) (λ parts next. refl) (w_more (sub type_name) (token Close ∷ []) w_type_name (w_more (token Close) ([]) (w_token Close) w_none))

w_initial : Witness (sub initial)
w_initial = w_node initial ([]) (here _) (λ parts next. refl) w_none

w_list_initial : Witness (sub list_initial)
w_list_initial = w_node list_initial ([]) (here _) (λ parts next. refl) w_none

w_more_values : Witness (sub more_values)
w_more_values = w_node more_values ([]) (here _) (λ parts next. refl) w_none

w_next_value : Witness (sub next_value)
w_next_value = w_node next_value ([]) (here _) (λ parts next. refl) w_none

w_declarator : Witness (sub declarator)
w_declarator = w_node declarator (token Name ∷ sub initial ∷ []) (here _) (λ parts next. refl) (w_more (token Name) (sub initial ∷ []) (w_token Name) (w_more (sub initial) ([]) w_initial w_none))

w_more_declarators : Witness (sub more_declarators)
w_more_declarators = w_node more_declarators ([]) (here _) (λ parts next. refl) w_none

w_declarators : Witness (sub declarators)
w_declarators = w_node declarators (sub declarator ∷ sub more_declarators ∷ []) (here _) (λ parts next. refl) (w_more (sub declarator) (sub more_declarators ∷ []) w_declarator (w_more (sub more_declarators) ([]) w_more_declarators w_none))

w_declaration : Witness (sub declaration)
w_declaration = w_node declaration (sub type_name ∷ sub declarators ∷ token Semicolon ∷ []) (there _ _ (here _)) (λ parts next. refl) (w_more (sub type_name) (sub declarators ∷ token Semicolon ∷ []) w_type_name (w_more (sub declarators) (token Semicolon ∷ []) w_declarators (w_more (token Semicolon) ([]) (w_token Semicolon) w_none)))

w_param_name : Witness (sub param_name)
w_param_name = w_node param_name ([]) (here _) (λ parts next. refl) w_none

w_param : Witness (sub param)
w_param = w_node param (sub type_name ∷ sub param_name ∷ []) (there _ _ (here _)) (λ parts next. refl) (w_more (sub type_name) (sub param_name ∷ []) w_type_name (w_more (sub param_name) ([]) w_param_name w_none))

w_more_params : Witness (sub more_params)
w_more_params = w_node more_params ([]) (here _) (λ parts next. refl) w_none

w_param_list : Witness (sub param_list)
w_param_list = w_node param_list ([]) (here _) (λ parts next. refl) w_none

w_ending : (all : Bool) → Witness (sub (ending all))
w_ending all = w_node (ending all) (token Semicolon ∷ []) (here _) (λ parts next. refl) (w_more (token Semicolon) ([]) (w_token Semicolon) w_none)

w_items : (within : Within) → Witness (sub (items within))
w_items within = w_node (items within) ([]) (here _) (λ parts next. refl) w_none

w_block : (within : Within) → Witness (sub (block within))
w_block within = w_node (block within) (token OpenBrace ∷ sub (items within) ∷ token CloseBrace ∷ []) (here _) (λ parts next. refl) (w_more (token OpenBrace) (sub (items within) ∷ token CloseBrace ∷ []) (w_token OpenBrace) (w_more (sub (items within)) (token CloseBrace ∷ []) (w_items within) (w_more (token CloseBrace) ([]) (w_token CloseBrace) w_none)))

w_statement : (within : Within) → Witness (sub (statement within))
w_statement within = w_node (statement within) (token Semicolon ∷ []) (there _ _ (here _)) (λ parts next. refl) (w_more (token Semicolon) ([]) (w_token Semicolon) w_none)

w_item : (within : Within) → Witness (sub (item within))
w_item within = w_node (item within) (sub (statement within) ∷ []) (there _ _ (here _)) (λ parts next. refl) (w_more (sub (statement within)) ([]) (w_statement within) w_none)

w_else_part : (within : Within) → Witness (sub (else_part within))
w_else_part within = w_node (else_part within) (token Else ∷ sub (statement within) ∷ []) (there _ _ (here _)) (λ parts next. refl) (w_more (token Else) (sub (statement within) ∷ []) (w_token Else) (w_more (sub (statement within)) ([]) (w_statement within) w_none))

w_labelled : (within : Within) → Witness (sub (labelled within))
w_labelled within = w_node (labelled within) (sub (item within) ∷ sub (items within) ∷ []) (there _ _ (there _ _ (here _))) (λ parts next. refl) (w_more (sub (item within)) (sub (items within) ∷ []) (w_item within) (w_more (sub (items within)) ([]) (w_items within) w_none))

w_returned : Witness (sub returned)
w_returned = w_node returned ([]) (here _) (λ parts next. refl) w_none

w_for_first : Witness (sub for_first)
w_for_first = w_node for_first (token Semicolon ∷ []) (there _ _ (there _ _ (here _))) (λ parts next. refl) (w_more (token Semicolon) ([]) (w_token Semicolon) w_none)

w_tested : Witness (sub tested)
w_tested = w_node tested ([]) (here _) (λ parts next. refl) w_none

w_stepped : Witness (sub stepped)
w_stepped = w_node stepped ([]) (here _) (λ parts next. refl) w_none

w_groups : (within : Within) → (answer : Bool) → Witness (sub (groups within answer))
w_groups within answer = w_node (groups within answer) ([]) (here _) (λ parts next. refl) w_none

w_label : Witness (sub label)
w_label = w_node label (token Default ∷ token Colon ∷ []) (there _ _ (here _)) (λ parts next. refl) (w_more (token Default) (token Colon ∷ []) (w_token Default) (w_more (token Colon) ([]) (w_token Colon) w_none))

w_externals : Witness (sub externals)
w_externals = w_node externals ([]) (here _) (λ parts next. refl) w_none

w_program : Witness (sub program)
w_program = w_node program (sub externals ∷ []) (here _) (λ parts next. refl) (w_more (sub externals) ([]) w_externals w_none)

w_titled : Witness (sub titled)
w_titled = w_node titled (sub declarators ∷ token Semicolon ∷ []) (there _ _ (here _)) (λ parts next. refl) (w_more (sub declarators) (token Semicolon ∷ []) w_declarators (w_more (token Semicolon) ([]) (w_token Semicolon) w_none))

w_unstatic : Witness (sub unstatic)
w_unstatic = w_node unstatic (sub type_name ∷ sub titled ∷ []) (there _ _ (there _ _ (here _))) (λ parts next. refl) (w_more (sub type_name) (sub titled ∷ []) w_type_name (w_more (sub titled) ([]) w_titled w_none))

w_external : Witness (sub external)
w_external = w_node external (sub unstatic ∷ []) (there _ _ (here _)) (λ parts next. refl) (w_more (sub unstatic) ([]) w_unstatic w_none)

-- behind parameters
w_signature_rest : (answer : Bool) → WitnessAll (late_rest of_params answer)
w_signature_rest answer = w_more (token Close) (sub (ending answer) ∷ []) (w_token Close) (w_more (sub (ending answer)) [] (w_ending answer) w_none)

w_params : Witness (sub (params true))
w_params = record {
  raws = make (params true) [];
  front = λ depth. [];
  real = λ depth. All-nil IsReal;
  derives = λ depth next. node depth (params true) (sub param_list ∷ []) [] (make (params true) []) [] next (here []) refl refl
      (more (depth + 0) (sub param_list) [] [] [] [] [] [] [] next (node (depth + 0) param_list [] [] [] [] next (here _) refl refl (none (depth + 0 + 0) next)) (none (depth + 0) next) refl refl);
}

w_signature : Witness (sub signature)
w_signature = w_node signature (sub (params true) ∷ token Close ∷ sub (ending true) ∷ []) (here _) (λ parts next. refl)
    (w_more (sub (params true)) (token Close ∷ sub (ending true) ∷ []) w_params (w_signature_rest true))

witness : (form : Form) → is_judged form ≡ false → Witness (sub form)
witness signature e = w_signature
witness (params _) e = cc
witness (group _ _) e = cc
witness primary e = w_primary
witness unary e = w_unary
witness operand e = w_operand
witness operations e = w_operations
witness binary e = w_binary
witness choice e = w_choice
witness expr e = w_expr
witness subscript e = w_subscript
witness chosen e = w_chosen
witness subscripted e = w_subscripted
witness grouped e = w_grouped
witness target e = w_target
witness assign e = w_assign
witness action e = w_action
witness arguments e = w_arguments
witness passed e = w_passed
witness more_arguments e = w_more_arguments
witness after_char e = w_after_char
witness after_sign e = w_after_sign
witness after_short e = w_after_short
witness after_int e = w_after_int
witness after_sign_short e = w_after_sign_short
witness after_sign_int e = w_after_sign_int
witness after_short_int e = w_after_short_int
witness type_name e = w_type_name
witness cast_type e = w_cast_type
witness initial e = w_initial
witness list_initial e = w_list_initial
witness more_values e = w_more_values
witness next_value e = w_next_value
witness declarator e = w_declarator
witness more_declarators e = w_more_declarators
witness declarators e = w_declarators
witness declaration e = w_declaration
witness param_name e = w_param_name
witness param e = w_param
witness more_params e = w_more_params
witness param_list e = w_param_list
witness (ending all) e = w_ending all
witness (items within) e = w_items within
witness (block within) e = w_block within
witness (statement within) e = w_statement within
witness (item within) e = w_item within
witness (else_part within) e = w_else_part within
witness (labelled within) e = w_labelled within
witness returned e = w_returned
witness for_first e = w_for_first
witness tested e = w_tested
witness stepped e = w_stepped
witness (groups within answer) e = w_groups within answer
witness label e = w_label
witness externals e = w_externals
witness program e = w_program
witness titled e = w_titled
witness unstatic e = w_unstatic
witness external e = w_external

witness_of : (symbol : Symbol) → plain (symbol ∷ []) ≡ true → Witness symbol
witness_of (token class) e = w_token class
witness_of (sub form) e = witness form (not_true (is_judged form) (both_left (not (is_judged form)) true e))

-- how many lists of parts the machine holds
abbrev pub deep : List Wait → ℕ
deep [] = 1
deep (want _ ∷ c) = deep c
deep (close _ ∷ c) = suc (deep c)
deep (undecided _ ∷ c) = suc (deep c)
deep (judged _ ∷ c) = suc (deep c)

-- nothing that is judged is waited for as such
abbrev pub free : List Wait → Bool
free [] = true
free (want symbol ∷ c) = plain (symbol ∷ []) && free c
free (_ ∷ c) = free c

pub record Good (c : List Wait) (vs : List (List Raw)) : Type 0 where
  pub depth : deep c ≡ length vs
  pub wanted_free : free c ≡ true

deep_wants : (ss : List Symbol) (c : List Wait) → deep (wants ss c) ≡ deep c
deep_wants [] c = refl
deep_wants (s ∷ ss) c = deep_wants ss c

plain_split : (symbol : Symbol) (ss : List Symbol) → plain (symbol ∷ ss) ≡ true → plain (symbol ∷ []) ≡ true
plain_split (token class) ss e = refl
plain_split (sub form) ss e = both (not (is_judged form)) true (both_left (not (is_judged form)) (plain ss) e) refl

plain_tail : (symbol : Symbol) (ss : List Symbol) → plain (symbol ∷ ss) ≡ true → plain ss ≡ true
plain_tail (token class) ss e = e
plain_tail (sub form) ss e = both_right (not (is_judged form)) (plain ss) e

free_wants : (ss : List Symbol) (c : List Wait) → plain ss ≡ true → free c ≡ true → free (wants ss c) ≡ true
free_wants [] c e f = f
free_wants (s ∷ ss) c e f = both (plain (s ∷ [])) (free (wants ss c)) (plain_split s ss e) (free_wants ss c (plain_tail s ss e) f)

good_lands : (c : List Wait) (vs : List (List Raw)) (c2 : List Wait) (vs2 : List (List Raw)) → Some (at c vs) ≡ Some (at c2 vs2) → Good c vs → Good c2 vs2
good_lands c vs c2 vs2 e g =
    let s : at c vs ≡ at c2 vs2 = cc in
    let P : State → Type 0 = λ x. Good x.waits x.builds in subst P s g

good_unfolded : (b : Bool) (form : Form) (ss : List Symbol) (c : List Wait) (vs : List (List Raw)) → plain ss ≡ true → Good c vs → Good (unfolded b form ss c vs).waits (unfolded b form ss c vs).builds
good_unfolded true form ss c vs e g = record { depth = deep_wants ss c ∙ g.depth; wanted_free = free_wants ss c e g.wanted_free }
good_unfolded false form ss c vs e g = record { depth = deep_wants ss (close form ∷ c) ∙ ap suc g.depth; wanted_free = free_wants ss (close form ∷ c) e g.wanted_free }

good_taken : (told : Option (List Symbol)) (form : Form) (c : List Wait) (vs : List (List Raw)) (c2 : List Wait) (vs2 : List (List Raw)) → all_plain told ≡ true → turn_taken told form c vs ≡ Some (at c2 vs2) → Good c vs → Good c2 vs2
good_taken None form c vs c2 vs2 p e g = cc
good_taken (Some ss) form c vs c2 vs2 p e g = good_lands _ _ c2 vs2 e (good_unfolded (is_spliced form) form ss c vs p g)

late_free : (late : Late) → plain (late_symbols late) ≡ true
late_free of_params = refl
late_free (of_group within) = refl

late_rest_free : (late : Late) (answer : Bool) → plain (late_rest late answer) ≡ true
late_rest_free of_params answer = refl
late_rest_free (of_group within) answer = refl

first_free : (delay : Delay) → plain (first_of delay ∷ []) ≡ true
first_free opened = refl
first_free called = refl
first_free named = refl
first_free begun = refl
first_free indexed = refl

good_chosen : (told : Choice) (form : Form) (c : List Wait) (vs : List (List Raw)) (c2 : List Wait) (vs2 : List (List Raw)) → kind_fits form told ≡ true → turn_chosen told form c vs ≡ Some (at c2 vs2) → Good c vs → Good c2 vs2
good_chosen refuse form c vs c2 vs2 fit e g = cc
good_chosen (take_on n) form c vs c2 vs2 fit e g = good_taken (nth (alternatives form) n) form c vs c2 vs2 fit e g
good_chosen (defer delay) form c vs c2 vs2 fit e g = good_lands _ _ c2 vs2 e (record { depth = ap suc g.depth; wanted_free = both (plain (first_of delay ∷ [])) (free c) (first_free delay) g.wanted_free })
good_chosen (judge late) form c vs c2 vs2 fit e g =
    good_lands _ _ c2 vs2 e (record { depth = deep_wants (late_symbols late) (judged late ∷ c) ∙ ap suc g.depth; wanted_free = free_wants (late_symbols late) (judged late ∷ c) (late_free late) g.wanted_free })

abbrev frames_free : List Frame → Bool
frames_free [] = true
frames_free (frame form rest ∷ frames) = plain rest && frames_free frames

abbrev frames_fit : List Frame → Bool
frames_fit [] = false
frames_fit frames = frames_free frames

abbrev readings_fit : List (List Frame) → Bool
readings_fit [] = true
readings_fit (frames ∷ others) = frames_fit frames && readings_fit others

readings_fitting : (delay : Delay) → readings_fit (readings delay) ≡ true
readings_fitting opened = refl
readings_fitting called = refl
readings_fitting named = refl
readings_fitting begun = refl
readings_fitting indexed = refl

fit_at : (list : List (List Frame)) (n : ℕ) (frames : List Frame) → readings_fit list ≡ true → nth_reading list n ≡ Some frames → frames_fit frames ≡ true
fit_at [] n frames e is = cc
fit_at (first ∷ others) zero frames e is = let same : first ≡ frames = cc in ap frames_fit (sym same) ∙ both_left (frames_fit first) (readings_fit others) e
fit_at (first ∷ others) (suc n) frames e is = fit_at others n frames (both_right (frames_fit first) (readings_fit others) e) is

open_deep : (frames : List Frame) (c : List Wait) (vs : List (List Raw)) → deep c ≡ length vs → deep (opens frames c) ≡ length (blanks frames vs)
open_deep [] c vs e = e
open_deep (frame form rest ∷ frames) c vs e = deep_wants rest (close form ∷ opens frames c) ∙ ap suc (open_deep frames c vs e)

open_free : (frames : List Frame) (c : List Wait) → frames_free frames ≡ true → free c ≡ true → free (opens frames c) ≡ true
open_free [] c e f = f
open_free (frame form rest ∷ frames) c e f = free_wants rest (close form ∷ opens frames c) (both_left (plain rest) (frames_free frames) e) (open_free frames c (both_right (plain rest) (frames_free frames) e) f)

good_frames : (frames : List Frame) (c : List Wait) (parts : List Raw) (vs : List (List Raw)) → frames_fit frames ≡ true → Good c vs → Good (opens frames c) (parts ∷ blanks (without_first frames) vs)
good_frames [] c parts vs e g = cc
good_frames (frame form rest ∷ frames) c parts vs e g = record {
  depth = deep_wants rest (close form ∷ opens frames c) ∙ ap suc (open_deep frames c vs g.depth);
  wanted_free = open_free (frame form rest ∷ frames) c e g.wanted_free;
}

good_read : (told : Option (List Frame)) (n : ℕ) (delay : Delay) (c : List Wait) (parts : List Raw) (vs : List (List Raw)) (c2 : List Wait) (vs2 : List (List Raw)) → nth_reading (readings delay) n ≡ told
    → turn_read told c parts vs ≡ Some (at c2 vs2) → Good c vs → Good c2 vs2
good_read None n delay c parts vs c2 vs2 is e g = cc
good_read (Some frames) n delay c parts vs c2 vs2 is e g = good_lands _ _ c2 vs2 e (good_frames frames c parts vs (fit_at (readings delay) n frames (readings_fitting delay) is) g)

good_told : (told : Telling) (delay : Delay) (c : List Wait) (parts : List Raw) (vs : List (List Raw)) (c2 : List Wait) (vs2 : List (List Raw)) → turn_told told delay c parts vs ≡ Some (at c2 vs2) → Good c vs → Good c2 vs2
good_told (reading n) delay c parts vs c2 vs2 e g = good_read (nth_reading (readings delay) n) n delay c parts vs c2 vs2 refl e g
good_told (onward next) delay c parts vs c2 vs2 e g = good_lands _ _ c2 vs2 e (record { depth = ap suc g.depth; wanted_free = both (plain (first_of next ∷ [])) (free c) (first_free next) g.wanted_free })

good_turn : (c : List Wait) (vs : List (List Raw)) (look : Option Class) (c2 : List Wait) (vs2 : List (List Raw)) → turn c vs look ≡ Some (at c2 vs2) → Good c vs → Good c2 vs2
good_turn (want (sub form) ∷ c) vs look c2 vs2 e g =
    good_chosen (choose form look) form c vs c2 vs2 (kind_fitting form look) e (record { depth = g.depth; wanted_free = both_right (plain (sub form ∷ [])) (free c) g.wanted_free })
good_turn (close form ∷ c) (parts ∷ top ∷ vs) look c2 vs2 e g = good_lands _ _ c2 vs2 e (record { depth = let d : suc (deep c) ≡ suc (suc (length vs)) = g.depth in omega arith; wanted_free = g.wanted_free })
good_turn (undecided delay ∷ c) (parts ∷ vs) look c2 vs2 e g =
    good_told (tell delay look) delay c parts vs c2 vs2 e (record { depth = let d : suc (deep c) ≡ suc (length vs) = g.depth in omega arith; wanted_free = g.wanted_free })
good_turn (judged late ∷ c) (parts ∷ top ∷ vs) look c2 vs2 e g =
    let d : suc (deep c) ≡ suc (suc (length vs)) = g.depth in
    let d2 : deep c ≡ suc (length vs) = omega arith in
    good_lands _ _ c2 vs2 e (record { depth = deep_wants (late_rest late (verdict late parts)) c ∙ d2; wanted_free = free_wants (late_rest late (verdict late parts)) c (late_rest_free late (verdict late parts)) g.wanted_free })
good_turn _ _ look c2 vs2 e g = cc

good_move : (c : List Wait) (vs : List (List Raw)) (ts : List Nested) (c2 : List Wait) (vs2 : List (List Raw)) (ts2 : List Nested) → Move c vs ts c2 vs2 ts2 → Good c vs → Good c2 vs2
good_move _ _ _ _ _ _ (turns c vs c2 vs2 ts e) g = good_turn c vs (ahead ts None) c2 vs2 e g
good_move _ _ _ _ _ _ (shift class word c top vs ts is deep) g = record { depth = g.depth; wanted_free = g.wanted_free }

pub good_moves : (c : List Wait) (vs : List (List Raw)) (ts : List Nested) (c2 : List Wait) (vs2 : List (List Raw)) (ts2 : List Nested) → Moves c vs ts c2 vs2 ts2 → Good c vs → Good c2 vs2
good_moves _ _ _ _ _ _ (stay c vs ts) g = g
good_moves _ _ _ _ _ _ (go c vs ts c2 vs2 ts2 c3 vs3 ts3 move moves) g = good_moves c2 vs2 ts2 c3 vs3 ts3 moves (good_move c vs ts c2 vs2 ts2 move g)

pub deep_some : (c : List Wait) → 0 < deep c
deep_some [] = omega arith
deep_some (want _ ∷ c) = deep_some c
deep_some (close _ ∷ c) = omega arith
deep_some (undecided _ ∷ c) = omega arith
deep_some (judged _ ∷ c) = omega arith

pub record Completion (c : List Wait) (vs : List (List Raw)) : Type 0 where
  pub rest : List Nested
  pub real : All IsReal rest
  pub out : List Raw
  pub done : Completes c vs rest out

add_wanted : (symbol : Symbol) (c : List Wait) (top : List Raw) (vs : List (List Raw)) (w : Witness symbol) → Completion c ((top ++ w.raws) ∷ vs) → Completion (want symbol ∷ c) (top ∷ vs)
add_wanted symbol c top vs w more_of = record {
  rest = w.front (level c) ++ more_of.rest;
  real = All-append IsReal (w.front (level c)) more_of.rest (w.real (level c)) more_of.real;
  out = more_of.out;
  done = wanted symbol c top vs w.raws (w.front (level c)) more_of.rest (w.front (level c) ++ more_of.rest) more_of.out (w.derives (level c) (ahead more_of.rest None)) more_of.done refl;
}

add_closed : (form : Form) (c : List Wait) (parts top : List Raw) (vs : List (List Raw)) → Completion c ((top ++ make form parts) ∷ vs) → Completion (close form ∷ c) (parts ∷ top ∷ vs)
add_closed form c parts top vs more_of = record { rest = more_of.rest; real = more_of.real; out = more_of.out; done = closed form c parts top vs more_of.rest more_of.out more_of.done }

add_wants : (ss : List Symbol) (c : List Wait) (top : List Raw) (vs : List (List Raw)) → plain ss ≡ true → ((parts : List Raw) → Completion c (parts ∷ vs)) → Completion (wants ss c) (top ∷ vs)
add_wants [] c top vs e more_of = more_of top
add_wants (s ∷ ss) c top vs e more_of = let w : Witness s = witness_of s (plain_split s ss e) in add_wanted s (wants ss c) top vs w (add_wants ss c (top ++ w.raws) vs (plain_tail s ss e) more_of)

add_frames : (frames : List Frame) (c : List Wait) (parts top : List Raw) (vs : List (List Raw)) → frames_fit frames ≡ true → ((others : List Raw) → Completion c (others ∷ vs)) → Completion (opens frames c) (parts ∷ blanks (without_first frames) (top ∷ vs))
add_frames [] c parts top vs e more_of = cc
add_frames (frame form rest ∷ []) c parts top vs e more_of =
    add_wants rest (close form ∷ c) parts (top ∷ vs) (both_left (plain rest) true e) (λ all. add_closed form c all top vs (more_of (top ++ make form all)))
add_frames (frame form rest ∷ f ∷ fs) c parts top vs e more_of =
    let inner : (p : List Raw) → Completion (opens (f ∷ fs) c) (p ∷ blanks fs (top ∷ vs)) = λ p. add_frames (f ∷ fs) c p top vs (both_right (plain rest) (frames_free (f ∷ fs)) e) more_of in
    add_wants rest (close form ∷ opens (f ∷ fs) c) parts ([] ∷ blanks fs (top ∷ vs)) (both_left (plain rest) (frames_free (f ∷ fs)) e)
    (λ all. add_closed form (opens (f ∷ fs) c) all [] (blanks fs (top ∷ vs)) (inner (make form all)))

abbrev first_reading : List (List Frame) → List Frame
first_reading [] = []
first_reading (frames ∷ others) = frames

first_fits : (delay : Delay) → frames_fit (first_reading (readings delay)) ≡ true
first_fits opened = refl
first_fits called = refl
first_fits named = refl
first_fits begun = refl
first_fits indexed = refl

first_reads : (delay : Delay) → Reads (first_reading (readings delay)) (readings delay)
first_reads opened = this _
first_reads called = this _
first_reads named = this _
first_reads begun = this _
first_reads indexed = this _

add_undecided : (delay : Delay) (c : List Wait) (parts top : List Raw) (vs : List (List Raw)) → ((others : List Raw) → Completion c (others ∷ vs)) → Completion (undecided delay ∷ c) (parts ∷ top ∷ vs)
add_undecided delay c parts top vs more_of =
    let all : Completion (opens (first_reading (readings delay)) c) (parts ∷ blanks (without_first (first_reading (readings delay))) (top ∷ vs)) =
    add_frames (first_reading (readings delay)) c parts top vs (first_fits delay) more_of in
    record { rest = all.rest; real = all.real; out = all.out; done = read_as delay (first_reading (readings delay)) c parts (top ∷ vs) all.rest all.out (first_reads delay) all.done }

add_judged : (late : Late) (c : List Wait) (parts top : List Raw) (vs : List (List Raw)) → ((others : List Raw) → Completion c (others ∷ vs)) → Completion (judged late ∷ c) (parts ∷ top ∷ vs)
add_judged late c parts top vs more_of =
    let all : Completion (wants (late_rest late (verdict late parts)) c) ((top ++ make (late_form late (verdict late parts)) parts) ∷ vs) =
    add_wants (late_rest late (verdict late parts)) c (top ++ make (late_form late (verdict late parts)) parts) vs (late_rest_free late (verdict late parts)) more_of in
    record { rest = all.rest; real = all.real; out = all.out; done = judged_so late c parts top vs all.rest all.out all.done }

complete_waits : (c : List Wait) (vs : List (List Raw)) → deep c ≡ length vs → free c ≡ true → Completion c vs
complete_waits [] [] e f = absurd (omega arith)
complete_waits [] (raws ∷ []) e f = record { rest = []; real = All-nil IsReal; out = raws; done = ended raws }
complete_waits [] (raws ∷ other ∷ vs) e f = absurd (omega arith)
complete_waits (want symbol ∷ c) [] e f = let some : 0 < deep c = deep_some c in absurd (omega arith)
complete_waits (want symbol ∷ c) (top ∷ vs) e f = add_wanted symbol c top vs (witness_of symbol (both_left (plain (symbol ∷ [])) (free c) f)) (complete_waits c _ e (both_right (plain (symbol ∷ [])) (free c) f))
complete_waits (close form ∷ c) [] e f = absurd (omega arith)
complete_waits (close form ∷ c) (parts ∷ []) e f = let some : 0 < deep c = deep_some c in absurd (omega arith)
complete_waits (close form ∷ c) (parts ∷ top ∷ vs) e f = add_closed form c parts top vs (complete_waits c _ (omega arith) f)
complete_waits (undecided delay ∷ c) [] e f = absurd (omega arith)
complete_waits (undecided delay ∷ c) (parts ∷ []) e f = let some : 0 < deep c = deep_some c in absurd (omega arith)
complete_waits (undecided delay ∷ c) (parts ∷ top ∷ vs) e f = add_undecided delay c parts top vs (λ others. complete_waits c (others ∷ vs) (omega arith) f)
complete_waits (judged late ∷ c) [] e f = absurd (omega arith)
complete_waits (judged late ∷ c) (parts ∷ []) e f = let some : 0 < deep c = deep_some c in absurd (omega arith)
complete_waits (judged late ∷ c) (parts ∷ top ∷ vs) e f = add_judged late c parts top vs (λ others. complete_waits c (others ∷ vs) (omega arith) f)

pub completable : (c : List Wait) (vs : List (List Raw)) → Good c vs → Completion c vs
completable c vs g = complete_waits c vs g.depth g.wanted_free
