-- With which tokens a form begins, and which forms may be empty.
use Rattle.std.proofs.Common.{Bool, true, false}
use Rattle.c_parse.specs.declared.class.Class.{Class}
use Rattle.c_parse.specs.declared.class.Class.TheVariants.{Name, Number, Plus, Minus, Star, Divide, Shift, Relation, Equality, Ampersand, Caret, Bar, AndAnd, BarBar, Complement, Question, Semicolon, Comma, Open, Close, OpenIndex, OpenBrace, Equals, Compound, Increment, Static, Const, Void, Char, Sign, Short, Int, Fixed, Break, Continue, Return, If, Else, While, Do, For, Switch, Case, Default}
use Rattle.c_parse.specs.Grammar.{Within, in_switch, in_loop, Form, program, externals, external, unstatic, titled, signature, ending, params, param_list, more_params, param, param_name, declarators, more_declarators, declarator, initial, list_initial, more_values, next_value, block, items, item, declaration, statement, else_part, returned, for_first, tested, stepped, groups, group, labelled, label, action, target, subscript, subscripted, assign, expr, choice, chosen, binary, operations, unary, operand, cast_type, primary, grouped, passed, arguments, more_arguments, type_name, after_char, after_sign, after_short, after_int, after_sign_short, after_sign_int, after_short_int}

abbrev pub begins_program : Class → Bool
begins_program Static = true
begins_program Const = true
begins_program Void = true
begins_program Char = true
begins_program Sign = true
begins_program Short = true
begins_program Int = true
begins_program Fixed = true
begins_program _ = false

abbrev pub begins_externals : Class → Bool
begins_externals Static = true
begins_externals Const = true
begins_externals Void = true
begins_externals Char = true
begins_externals Sign = true
begins_externals Short = true
begins_externals Int = true
begins_externals Fixed = true
begins_externals _ = false

abbrev pub begins_external : Class → Bool
begins_external Static = true
begins_external Const = true
begins_external Void = true
begins_external Char = true
begins_external Sign = true
begins_external Short = true
begins_external Int = true
begins_external Fixed = true
begins_external _ = false

abbrev pub begins_unstatic : Class → Bool
begins_unstatic Const = true
begins_unstatic Void = true
begins_unstatic Char = true
begins_unstatic Sign = true
begins_unstatic Short = true
begins_unstatic Int = true
begins_unstatic Fixed = true
begins_unstatic _ = false

abbrev pub begins_titled : Class → Bool
begins_titled Name = true
begins_titled _ = false

abbrev pub begins_signature : Class → Bool
begins_signature Void = true
begins_signature Const = true
begins_signature Close = true
begins_signature Char = true
begins_signature Sign = true
begins_signature Short = true
begins_signature Int = true
begins_signature Fixed = true
begins_signature _ = false

abbrev pub begins_params : Class → Bool
begins_params Void = true
begins_params Const = true
begins_params Char = true
begins_params Sign = true
begins_params Short = true
begins_params Int = true
begins_params Fixed = true
begins_params _ = false

abbrev pub begins_param_list : Class → Bool
begins_param_list Void = true
begins_param_list Const = true
begins_param_list Char = true
begins_param_list Sign = true
begins_param_list Short = true
begins_param_list Int = true
begins_param_list Fixed = true
begins_param_list _ = false

abbrev pub begins_more_params : Class → Bool
begins_more_params Comma = true
begins_more_params _ = false

abbrev pub begins_param : Class → Bool
begins_param Const = true
begins_param Char = true
begins_param Sign = true
begins_param Short = true
begins_param Int = true
begins_param Fixed = true
begins_param _ = false

abbrev pub begins_param_name : Class → Bool
begins_param_name Name = true
begins_param_name _ = false

abbrev pub begins_declarators : Class → Bool
begins_declarators Name = true
begins_declarators _ = false

abbrev pub begins_more_declarators : Class → Bool
begins_more_declarators Comma = true
begins_more_declarators _ = false

abbrev pub begins_declarator : Class → Bool
begins_declarator Name = true
begins_declarator _ = false

abbrev pub begins_initial : Class → Bool
begins_initial Equals = true
begins_initial OpenIndex = true
begins_initial _ = false

abbrev pub begins_list_initial : Class → Bool
begins_list_initial Equals = true
begins_list_initial _ = false

abbrev pub begins_more_values : Class → Bool
begins_more_values Comma = true
begins_more_values _ = false

abbrev pub begins_next_value : Class → Bool
begins_next_value Name = true
begins_next_value Number = true
begins_next_value Plus = true
begins_next_value Minus = true
begins_next_value Complement = true
begins_next_value Open = true
begins_next_value _ = false

abbrev pub begins_block : Class → Bool
begins_block OpenBrace = true
begins_block _ = false

abbrev pub begins_declaration : Class → Bool
begins_declaration Const = true
begins_declaration Char = true
begins_declaration Sign = true
begins_declaration Short = true
begins_declaration Int = true
begins_declaration Fixed = true
begins_declaration _ = false

abbrev pub begins_else_part : Class → Bool
begins_else_part Else = true
begins_else_part _ = false

abbrev pub begins_returned : Class → Bool
begins_returned Name = true
begins_returned Number = true
begins_returned Plus = true
begins_returned Minus = true
begins_returned Complement = true
begins_returned Open = true
begins_returned _ = false

abbrev pub begins_for_first : Class → Bool
begins_for_first Const = true
begins_for_first Semicolon = true
begins_for_first Increment = true
begins_for_first Char = true
begins_for_first Sign = true
begins_for_first Short = true
begins_for_first Int = true
begins_for_first Fixed = true
begins_for_first Name = true
begins_for_first Number = true
begins_for_first Plus = true
begins_for_first Minus = true
begins_for_first Complement = true
begins_for_first Open = true
begins_for_first _ = false

abbrev pub begins_tested : Class → Bool
begins_tested Name = true
begins_tested Number = true
begins_tested Plus = true
begins_tested Minus = true
begins_tested Complement = true
begins_tested Open = true
begins_tested _ = false

abbrev pub begins_stepped : Class → Bool
begins_stepped Increment = true
begins_stepped Name = true
begins_stepped Number = true
begins_stepped Plus = true
begins_stepped Minus = true
begins_stepped Complement = true
begins_stepped Open = true
begins_stepped _ = false

abbrev pub begins_group : Class → Bool
begins_group Case = true
begins_group Default = true
begins_group _ = false

abbrev pub begins_label : Class → Bool
begins_label Case = true
begins_label Default = true
begins_label _ = false

abbrev pub begins_action : Class → Bool
begins_action Increment = true
begins_action Name = true
begins_action Number = true
begins_action Plus = true
begins_action Minus = true
begins_action Complement = true
begins_action Open = true
begins_action _ = false

abbrev pub begins_target : Class → Bool
begins_target Name = true
begins_target _ = false

abbrev pub begins_subscript : Class → Bool
begins_subscript OpenIndex = true
begins_subscript _ = false

abbrev pub begins_assign : Class → Bool
begins_assign Equals = true
begins_assign Compound = true
begins_assign _ = false

abbrev pub begins_expr : Class → Bool
begins_expr Name = true
begins_expr Number = true
begins_expr Plus = true
begins_expr Minus = true
begins_expr Complement = true
begins_expr Open = true
begins_expr _ = false

abbrev pub begins_choice : Class → Bool
begins_choice Question = true
begins_choice _ = false

abbrev pub begins_binary : Class → Bool
begins_binary Name = true
begins_binary Number = true
begins_binary Plus = true
begins_binary Minus = true
begins_binary Complement = true
begins_binary Open = true
begins_binary _ = false

abbrev pub begins_operations : Class → Bool
begins_operations Star = true
begins_operations Divide = true
begins_operations Plus = true
begins_operations Minus = true
begins_operations Shift = true
begins_operations Relation = true
begins_operations Equality = true
begins_operations Ampersand = true
begins_operations Caret = true
begins_operations Bar = true
begins_operations AndAnd = true
begins_operations BarBar = true
begins_operations _ = false

abbrev pub begins_unary : Class → Bool
begins_unary Name = true
begins_unary Number = true
begins_unary Plus = true
begins_unary Minus = true
begins_unary Complement = true
begins_unary Open = true
begins_unary _ = false

abbrev pub begins_primary : Class → Bool
begins_primary Number = true
begins_primary Name = true
begins_primary Open = true
begins_primary _ = false

abbrev pub begins_arguments : Class → Bool
begins_arguments Name = true
begins_arguments Number = true
begins_arguments Plus = true
begins_arguments Minus = true
begins_arguments Complement = true
begins_arguments Open = true
begins_arguments _ = false

abbrev pub begins_more_arguments : Class → Bool
begins_more_arguments Comma = true
begins_more_arguments _ = false

abbrev pub begins_type_name : Class → Bool
begins_type_name Char = true
begins_type_name Sign = true
begins_type_name Short = true
begins_type_name Int = true
begins_type_name Fixed = true
begins_type_name _ = false

abbrev pub begins_subscripted : Class → Bool
begins_subscripted Name = true
begins_subscripted Number = true
begins_subscripted Plus = true
begins_subscripted Minus = true
begins_subscripted Complement = true
begins_subscripted Open = true
begins_subscripted _ = false

abbrev pub begins_chosen : Class → Bool
begins_chosen Name = true
begins_chosen Number = true
begins_chosen Plus = true
begins_chosen Minus = true
begins_chosen Complement = true
begins_chosen Open = true
begins_chosen _ = false

abbrev pub begins_operand : Class → Bool
begins_operand Name = true
begins_operand Number = true
begins_operand Plus = true
begins_operand Minus = true
begins_operand Complement = true
begins_operand Open = true
begins_operand _ = false

abbrev pub begins_grouped : Class → Bool
begins_grouped Name = true
begins_grouped Number = true
begins_grouped Plus = true
begins_grouped Minus = true
begins_grouped Complement = true
begins_grouped Open = true
begins_grouped _ = false

abbrev pub begins_cast_type : Class → Bool
begins_cast_type Char = true
begins_cast_type Sign = true
begins_cast_type Short = true
begins_cast_type Int = true
begins_cast_type Fixed = true
begins_cast_type _ = false

abbrev pub begins_passed : Class → Bool
begins_passed Name = true
begins_passed Number = true
begins_passed Plus = true
begins_passed Minus = true
begins_passed Complement = true
begins_passed Open = true
begins_passed Close = true
begins_passed _ = false

abbrev pub begins_after_char : Class → Bool
begins_after_char Sign = true
begins_after_char _ = false

abbrev pub begins_after_sign : Class → Bool
begins_after_sign Char = true
begins_after_sign Short = true
begins_after_sign Int = true
begins_after_sign _ = false

abbrev pub begins_after_short : Class → Bool
begins_after_short Sign = true
begins_after_short Int = true
begins_after_short _ = false

abbrev pub begins_after_int : Class → Bool
begins_after_int Sign = true
begins_after_int Short = true
begins_after_int _ = false

abbrev pub begins_after_sign_short : Class → Bool
begins_after_sign_short Int = true
begins_after_sign_short _ = false

abbrev pub begins_after_sign_int : Class → Bool
begins_after_sign_int Short = true
begins_after_sign_int _ = false

abbrev pub begins_after_short_int : Class → Bool
begins_after_short_int Sign = true
begins_after_short_int _ = false

abbrev pub begins_statement : Within → Class → Bool
begins_statement within OpenBrace = true
begins_statement within Semicolon = true
begins_statement within Return = true
begins_statement within If = true
begins_statement within While = true
begins_statement within Do = true
begins_statement within For = true
begins_statement within Switch = true
begins_statement within Increment = true
begins_statement within Name = true
begins_statement within Number = true
begins_statement within Plus = true
begins_statement within Minus = true
begins_statement within Complement = true
begins_statement within Open = true
begins_statement in_switch Break = true
begins_statement in_loop Break = true
begins_statement in_loop Continue = true
begins_statement _ _ = false

abbrev pub begins_item : Within → Class → Bool
begins_item within Const = true
begins_item within Char = true
begins_item within Sign = true
begins_item within Short = true
begins_item within Int = true
begins_item within Fixed = true
begins_item within class = begins_statement within class

abbrev pub begins_labelled : Within → Class → Bool
begins_labelled within Case = true
begins_labelled within Default = true
begins_labelled within class = begins_item within class

abbrev pub begins_ending : Bool → Class → Bool
begins_ending all Semicolon = true
begins_ending true OpenBrace = true
begins_ending _ _ = false

abbrev pub begins_groups : Bool → Class → Bool
begins_groups true Case = true
begins_groups true Default = true
begins_groups _ _ = false

-- with which tokens a form begins
abbrev pub begins : Form → Class → Bool
begins program class = begins_program class
begins externals class = begins_externals class
begins external class = begins_external class
begins unstatic class = begins_unstatic class
begins titled class = begins_titled class
begins signature class = begins_signature class
begins (ending all) class = begins_ending all class
begins (params _) class = begins_params class
begins param_list class = begins_param_list class
begins more_params class = begins_more_params class
begins param class = begins_param class
begins param_name class = begins_param_name class
begins declarators class = begins_declarators class
begins more_declarators class = begins_more_declarators class
begins declarator class = begins_declarator class
begins initial class = begins_initial class
begins list_initial class = begins_list_initial class
begins more_values class = begins_more_values class
begins next_value class = begins_next_value class
begins (block _) class = begins_block class
begins (items within) class = begins_item within class
begins (item within) class = begins_item within class
begins declaration class = begins_declaration class
begins (statement within) class = begins_statement within class
begins (else_part _) class = begins_else_part class
begins returned class = begins_returned class
begins for_first class = begins_for_first class
begins tested class = begins_tested class
begins stepped class = begins_stepped class
begins (groups _ ended) class = begins_groups ended class
begins (group _ _) class = begins_group class
begins (labelled within) class = begins_labelled within class
begins label class = begins_label class
begins action class = begins_action class
begins target class = begins_target class
begins subscript class = begins_subscript class
begins subscripted class = begins_subscripted class
begins assign class = begins_assign class
begins expr class = begins_expr class
begins choice class = begins_choice class
begins chosen class = begins_chosen class
begins binary class = begins_binary class
begins operations class = begins_operations class
begins unary class = begins_unary class
begins operand class = begins_operand class
begins cast_type class = begins_cast_type class
begins primary class = begins_primary class
begins grouped class = begins_grouped class
begins passed class = begins_passed class
begins arguments class = begins_arguments class
begins more_arguments class = begins_more_arguments class
begins type_name class = begins_type_name class
begins after_char class = begins_after_char class
begins after_sign class = begins_after_sign class
begins after_short class = begins_after_short class
begins after_int class = begins_after_int class
begins after_sign_short class = begins_after_sign_short class
begins after_sign_int class = begins_after_sign_int class
begins after_short_int class = begins_after_short_int class

-- forms that may be empty
abbrev pub empties : Form → Bool
empties program = true
empties externals = true
empties (params _) = true
empties param_list = true
empties more_params = true
empties param_name = true
empties more_declarators = true
empties initial = true
empties list_initial = true
empties more_values = true
empties next_value = true
empties (items _) = true
empties (else_part _) = true
empties returned = true
empties tested = true
empties stepped = true
empties (groups _ _) = true
empties (labelled _) = true
empties subscript = true
empties choice = true
empties operations = true
empties arguments = true
empties more_arguments = true
empties after_char = true
empties after_sign = true
empties after_short = true
empties after_int = true
empties after_sign_short = true
empties after_sign_int = true
empties after_short_int = true
empties _ = false
