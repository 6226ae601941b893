-- What may come behind a form.
use Rattle.std.proofs.Common.{Option, Some, None, Bool, true, false}
use Rattle.c_parse.specs.declared.class.Class.{Class}
use Rattle.c_parse.specs.declared.class.Class.TheVariants.{Name, Plus, Minus, Star, Divide, Shift, Relation, Equality, Ampersand, Caret, Bar, AndAnd, BarBar, Question, Semicolon, Comma, Open, Close, OpenIndex, CloseBrace, Equals, Compound, Increment, Char, Sign, Short, Int, Case, Default}
use Rattle.c_parse.specs.Grammar.{Form, program, externals, params, param_list, more_params, param, param_name, declarators, more_declarators, declarator, initial, list_initial, more_values, next_value, items, returned, tested, stepped, groups, group, labelled, action, target, subscript, expr, choice, chosen, binary, operations, unary, operand, primary, arguments, more_arguments, type_name, after_char, after_sign, after_short, after_int, after_sign_short, after_sign_int, after_short_int}

abbrev pub stops_param_name : Option Class → Bool
stops_param_name (Some Name) = false
stops_param_name _ = true

abbrev pub stops_param : Option Class → Bool
stops_param (Some Name) = false
stops_param (Some Char) = false
stops_param (Some Sign) = false
stops_param (Some Short) = false
stops_param (Some Int) = false
stops_param _ = true

abbrev pub stops_more_params : Option Class → Bool
stops_more_params (Some Comma) = false
stops_more_params (Some Name) = false
stops_more_params (Some Char) = false
stops_more_params (Some Sign) = false
stops_more_params (Some Short) = false
stops_more_params (Some Int) = false
stops_more_params _ = true

abbrev pub stops_initial : Option Class → Bool
stops_initial (Some Open) = false
stops_initial (Some OpenIndex) = false
stops_initial (Some Star) = false
stops_initial (Some Divide) = false
stops_initial (Some Plus) = false
stops_initial (Some Minus) = false
stops_initial (Some Shift) = false
stops_initial (Some Relation) = false
stops_initial (Some Equality) = false
stops_initial (Some Ampersand) = false
stops_initial (Some Caret) = false
stops_initial (Some Bar) = false
stops_initial (Some AndAnd) = false
stops_initial (Some BarBar) = false
stops_initial (Some Question) = false
stops_initial (Some Equals) = false
stops_initial _ = true

abbrev pub stops_declarator : Option Class → Bool
stops_declarator (Some Open) = false
stops_declarator (Some OpenIndex) = false
stops_declarator (Some Star) = false
stops_declarator (Some Divide) = false
stops_declarator (Some Plus) = false
stops_declarator (Some Minus) = false
stops_declarator (Some Shift) = false
stops_declarator (Some Relation) = false
stops_declarator (Some Equality) = false
stops_declarator (Some Ampersand) = false
stops_declarator (Some Caret) = false
stops_declarator (Some Bar) = false
stops_declarator (Some AndAnd) = false
stops_declarator (Some BarBar) = false
stops_declarator (Some Question) = false
stops_declarator (Some Equals) = false
stops_declarator _ = true

abbrev pub stops_more_declarators : Option Class → Bool
stops_more_declarators (Some Open) = false
stops_more_declarators (Some OpenIndex) = false
stops_more_declarators (Some Star) = false
stops_more_declarators (Some Divide) = false
stops_more_declarators (Some Plus) = false
stops_more_declarators (Some Minus) = false
stops_more_declarators (Some Shift) = false
stops_more_declarators (Some Relation) = false
stops_more_declarators (Some Equality) = false
stops_more_declarators (Some Ampersand) = false
stops_more_declarators (Some Caret) = false
stops_more_declarators (Some Bar) = false
stops_more_declarators (Some AndAnd) = false
stops_more_declarators (Some BarBar) = false
stops_more_declarators (Some Question) = false
stops_more_declarators (Some Equals) = false
stops_more_declarators (Some Comma) = false
stops_more_declarators _ = true

abbrev pub stops_declarators : Option Class → Bool
stops_declarators (Some Open) = false
stops_declarators (Some OpenIndex) = false
stops_declarators (Some Star) = false
stops_declarators (Some Divide) = false
stops_declarators (Some Plus) = false
stops_declarators (Some Minus) = false
stops_declarators (Some Shift) = false
stops_declarators (Some Relation) = false
stops_declarators (Some Equality) = false
stops_declarators (Some Ampersand) = false
stops_declarators (Some Caret) = false
stops_declarators (Some Bar) = false
stops_declarators (Some AndAnd) = false
stops_declarators (Some BarBar) = false
stops_declarators (Some Question) = false
stops_declarators (Some Equals) = false
stops_declarators (Some Comma) = false
stops_declarators _ = true

abbrev pub stops_list_initial : Option Class → Bool
stops_list_initial (Some Equals) = false
stops_list_initial _ = true

abbrev pub stops_subscript : Option Class → Bool
stops_subscript (Some OpenIndex) = false
stops_subscript _ = true

abbrev pub stops_target : Option Class → Bool
stops_target (Some OpenIndex) = false
stops_target _ = true

abbrev pub stops_primary : Option Class → Bool
stops_primary (Some Open) = false
stops_primary (Some OpenIndex) = false
stops_primary _ = true

abbrev pub stops_unary : Option Class → Bool
stops_unary (Some Open) = false
stops_unary (Some OpenIndex) = false
stops_unary _ = true

abbrev pub stops_operations : Option Class → Bool
stops_operations (Some Open) = false
stops_operations (Some OpenIndex) = false
stops_operations (Some Star) = false
stops_operations (Some Divide) = false
stops_operations (Some Plus) = false
stops_operations (Some Minus) = false
stops_operations (Some Shift) = false
stops_operations (Some Relation) = false
stops_operations (Some Equality) = false
stops_operations (Some Ampersand) = false
stops_operations (Some Caret) = false
stops_operations (Some Bar) = false
stops_operations (Some AndAnd) = false
stops_operations (Some BarBar) = false
stops_operations _ = true

abbrev pub stops_binary : Option Class → Bool
stops_binary (Some Open) = false
stops_binary (Some OpenIndex) = false
stops_binary (Some Star) = false
stops_binary (Some Divide) = false
stops_binary (Some Plus) = false
stops_binary (Some Minus) = false
stops_binary (Some Shift) = false
stops_binary (Some Relation) = false
stops_binary (Some Equality) = false
stops_binary (Some Ampersand) = false
stops_binary (Some Caret) = false
stops_binary (Some Bar) = false
stops_binary (Some AndAnd) = false
stops_binary (Some BarBar) = false
stops_binary _ = true

abbrev pub stops_choice : Option Class → Bool
stops_choice (Some Open) = false
stops_choice (Some OpenIndex) = false
stops_choice (Some Star) = false
stops_choice (Some Divide) = false
stops_choice (Some Plus) = false
stops_choice (Some Minus) = false
stops_choice (Some Shift) = false
stops_choice (Some Relation) = false
stops_choice (Some Equality) = false
stops_choice (Some Ampersand) = false
stops_choice (Some Caret) = false
stops_choice (Some Bar) = false
stops_choice (Some AndAnd) = false
stops_choice (Some BarBar) = false
stops_choice (Some Question) = false
stops_choice _ = true

abbrev pub stops_expr : Option Class → Bool
stops_expr (Some Open) = false
stops_expr (Some OpenIndex) = false
stops_expr (Some Star) = false
stops_expr (Some Divide) = false
stops_expr (Some Plus) = false
stops_expr (Some Minus) = false
stops_expr (Some Shift) = false
stops_expr (Some Relation) = false
stops_expr (Some Equality) = false
stops_expr (Some Ampersand) = false
stops_expr (Some Caret) = false
stops_expr (Some Bar) = false
stops_expr (Some AndAnd) = false
stops_expr (Some BarBar) = false
stops_expr (Some Question) = false
stops_expr _ = true

abbrev pub stops_action : Option Class → Bool
stops_action (Some Open) = false
stops_action (Some OpenIndex) = false
stops_action (Some Star) = false
stops_action (Some Divide) = false
stops_action (Some Plus) = false
stops_action (Some Minus) = false
stops_action (Some Shift) = false
stops_action (Some Relation) = false
stops_action (Some Equality) = false
stops_action (Some Ampersand) = false
stops_action (Some Caret) = false
stops_action (Some Bar) = false
stops_action (Some AndAnd) = false
stops_action (Some BarBar) = false
stops_action (Some Question) = false
stops_action (Some Equals) = false
stops_action (Some Compound) = false
stops_action (Some Increment) = false
stops_action _ = true

abbrev pub stops_more_arguments : Option Class → Bool
stops_more_arguments (Some Open) = false
stops_more_arguments (Some OpenIndex) = false
stops_more_arguments (Some Star) = false
stops_more_arguments (Some Divide) = false
stops_more_arguments (Some Plus) = false
stops_more_arguments (Some Minus) = false
stops_more_arguments (Some Shift) = false
stops_more_arguments (Some Relation) = false
stops_more_arguments (Some Equality) = false
stops_more_arguments (Some Ampersand) = false
stops_more_arguments (Some Caret) = false
stops_more_arguments (Some Bar) = false
stops_more_arguments (Some AndAnd) = false
stops_more_arguments (Some BarBar) = false
stops_more_arguments (Some Question) = false
stops_more_arguments (Some Comma) = false
stops_more_arguments _ = true

abbrev pub stops_after_char : Option Class → Bool
stops_after_char (Some Sign) = false
stops_after_char _ = true

abbrev pub stops_after_sign : Option Class → Bool
stops_after_sign (Some Char) = false
stops_after_sign (Some Short) = false
stops_after_sign (Some Int) = false
stops_after_sign _ = true

abbrev pub stops_after_short : Option Class → Bool
stops_after_short (Some Sign) = false
stops_after_short (Some Int) = false
stops_after_short _ = true

abbrev pub stops_after_int : Option Class → Bool
stops_after_int (Some Sign) = false
stops_after_int (Some Short) = false
stops_after_int _ = true

abbrev pub stops_after_sign_short : Option Class → Bool
stops_after_sign_short (Some Int) = false
stops_after_sign_short _ = true

abbrev pub stops_after_sign_int : Option Class → Bool
stops_after_sign_int (Some Short) = false
stops_after_sign_int _ = true

abbrev pub stops_after_short_int : Option Class → Bool
stops_after_short_int (Some Sign) = false
stops_after_short_int _ = true

abbrev pub stops_type_name : Option Class → Bool
stops_type_name (Some Char) = false
stops_type_name (Some Sign) = false
stops_type_name (Some Short) = false
stops_type_name (Some Int) = false
stops_type_name _ = true

abbrev pub stops_param_list : Option Class → Bool
stops_param_list (Some Close) = true
stops_param_list _ = false

abbrev pub stops_params : Option Class → Bool
stops_params (Some Close) = true
stops_params _ = false

abbrev pub stops_next_value : Option Class → Bool
stops_next_value (Some CloseBrace) = true
stops_next_value _ = false

abbrev pub stops_more_values : Option Class → Bool
stops_more_values (Some CloseBrace) = true
stops_more_values _ = false

abbrev pub stops_returned : Option Class → Bool
stops_returned (Some Semicolon) = true
stops_returned _ = false

abbrev pub stops_tested : Option Class → Bool
stops_tested (Some Semicolon) = true
stops_tested _ = false

abbrev pub stops_stepped : Option Class → Bool
stops_stepped (Some Close) = true
stops_stepped _ = false

abbrev pub stops_arguments : Option Class → Bool
stops_arguments (Some Close) = true
stops_arguments _ = false

abbrev pub stops_items : Option Class → Bool
stops_items (Some CloseBrace) = true
stops_items (Some Case) = true
stops_items (Some Default) = true
stops_items None = true
stops_items _ = false

abbrev pub stops_labelled : Option Class → Bool
stops_labelled (Some CloseBrace) = true
stops_labelled (Some Case) = true
stops_labelled (Some Default) = true
stops_labelled None = true
stops_labelled _ = false

abbrev pub stops_group : Option Class → Bool
stops_group (Some CloseBrace) = true
stops_group (Some Case) = true
stops_group (Some Default) = true
stops_group _ = false

abbrev pub stops_groups : Option Class → Bool
stops_groups (Some CloseBrace) = true
stops_groups _ = false

abbrev pub stops_externals : Option Class → Bool
stops_externals None = true
stops_externals _ = false

-- what may come behind a form
abbrev pub stops : Form → Option Class → Bool
stops param_name look = stops_param_name look
stops param look = stops_param look
stops more_params look = stops_more_params look
stops initial look = stops_initial look
stops declarator look = stops_declarator look
stops more_declarators look = stops_more_declarators look
stops declarators look = stops_declarators look
stops list_initial look = stops_list_initial look
stops subscript look = stops_subscript look
stops target look = stops_target look
stops primary look = stops_primary look
stops unary look = stops_unary look
stops operand look = stops_unary look
stops operations look = stops_operations look
stops binary look = stops_binary look
stops choice look = stops_choice look
stops chosen look = stops_choice look
stops expr look = stops_expr look
stops action look = stops_action look
stops more_arguments look = stops_more_arguments look
stops after_char look = stops_after_char look
stops after_sign look = stops_after_sign look
stops after_short look = stops_after_short look
stops after_int look = stops_after_int look
stops after_sign_short look = stops_after_sign_short look
stops after_sign_int look = stops_after_sign_int look
stops after_short_int look = stops_after_short_int look
stops type_name look = stops_type_name look
stops param_list look = stops_param_list look
stops (params _) look = stops_params look
stops next_value look = stops_next_value look
stops more_values look = stops_more_values look
stops returned look = stops_returned look
stops tested look = stops_tested look
stops stepped look = stops_stepped look
stops arguments look = stops_arguments look
stops (items _) look = stops_items look
stops (labelled _) look = stops_labelled look
stops (group _ _) look = stops_group look
stops (groups _ _) look = stops_groups look
stops program look = stops_externals look
stops externals look = stops_externals look
stops _ look = true
