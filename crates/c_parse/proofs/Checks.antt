-- The table read as a whole: the next token tells the alternative, for each form and each class of tokens.
use Rattle.std.proofs.Common.{◌≡◌, ℕ, zero, suc, List, [], ◌∷◌, ◌++◌, Option, Some, None, Bool, true, false, not, ◌||◌, ◌&&◌, map, cond, refl}
use Rattle.c_parse.specs.declared.class.Class.{Class}
use Rattle.c_parse.specs.declared.class.Class.TheVariants.{Name, Open}
use Rattle.c_parse.specs.Grammar.{in_body, in_switch, in_loop, Form, program, externals, external, unstatic, titled, signature, ending, params, param_list, more_params, param, param_name, declarators, more_declarators, declarator, initial, list_initial, more_values, next_value, block, items, item, declaration, statement, else_part, returned, for_first, tested, stepped, groups, group, labelled, label, action, target, subscript, subscripted, assign, expr, choice, chosen, binary, operations, unary, operand, cast_type, primary, grouped, passed, arguments, more_arguments, type_name, after_char, after_sign, after_short, after_int, after_sign_short, after_sign_int, after_short_int, Symbol, token, sub, alternatives, is_else, is_label}
use Rattle.c_parse.specs.Machine.{Choice, refuse, take_on, defer, judge, choose, nth, Delay, opened, called, named, begun, indexed, Frame, frame, readings, Telling, reading, onward, tell}
use Rattle.c_parse.proofs.Truth.{same_number, implies, below}
use Rattle.c_parse.proofs.EachClass.{same_class, every, every_look, each_look}
use Rattle.c_parse.proofs.Beginnings.{begins, empties}
use Rattle.c_parse.proofs.Stops.{stops}

abbrev pub starts : List Symbol → Class → Bool
starts [] class = false
starts (token other ∷ symbols) class = same_class other class
starts (sub form ∷ symbols) class = begins form class || (empties form && starts symbols class)

abbrev pub vanish : List Symbol → Bool
vanish [] = true
vanish (token other ∷ symbols) = false
vanish (sub form ∷ symbols) = empties form && vanish symbols

-- what may come next before these symbols of the form
abbrev pub comes : List Symbol → Form → Option Class → Bool
comes symbols form (Some class) = starts symbols class || (vanish symbols && stops form (Some class))
comes symbols form None = vanish symbols && stops form None

abbrev pub may_follow : Symbol → Option Class → Bool
may_follow (token class) look = true
may_follow (sub form) look = stops form look

-- What follows a part inside an alternative may follow it.
abbrev pub parted : List Symbol → Form → Bool
parted [] form = true
parted (symbol ∷ symbols) form = every_look (λ look. implies (comes symbols form look) (may_follow symbol look)) && parted symbols form

abbrev pub may_vanish : Form → Option Class → Bool
may_vanish (else_part _) look = not (is_else look)
may_vanish (labelled _) look = not (is_label look)
may_vanish _ look = true

-- forms that are judged when they are read
abbrev pub is_judged : Form → Bool
is_judged (params _) = true
is_judged (group _ _) = true
is_judged _ = false

abbrev pub is_taken : ℕ → Choice → Bool
is_taken n (take_on m) = same_number m n
is_taken n _ = false

-- no part of it is judged
abbrev pub plain : List Symbol → Bool
plain [] = true
plain (token class ∷ symbols) = plain symbols
plain (sub form ∷ symbols) = not (is_judged form) && plain symbols

abbrev pub agrees : Bool → Form → ℕ → Choice → Bool
agrees true form n (defer delay) = true
agrees true form n told = is_judged form || is_taken n told
agrees false form n (judge late) = true
agrees false form n told = false

abbrev pub tells : Form → ℕ → List Symbol → Bool
tells form n symbols = every (λ class. implies (starts symbols class) (begins form class && agrees (plain symbols) form n (choose form (Some class))))

-- Nothing is delayed where nothing may stand.
abbrev pub settled : Choice → Bool
settled (defer delay) = false
settled _ = true

abbrev pub ends_empty : Form → ℕ → List Symbol → Bool
ends_empty form n symbols = implies (vanish symbols) (empties form && every_look (λ look. implies (stops form look && may_vanish form look) (settled (choose form look) && agrees (plain symbols) form n (choose form look))))

abbrev pub fits_from : Form → ℕ → List (List Symbol) → Bool
fits_from form n [] = true
fits_from form n (symbols ∷ others) = tells form n symbols && (ends_empty form n symbols && (parted symbols form && fits_from form (suc n) others))

-- All alternatives of the form are told apart by the next token, and their parts by what comes behind them.
abbrev pub fits : Form → Bool
fits form = fits_from form 0 (alternatives form)

abbrev pub is_unary : Form → Bool
is_unary unary = true
is_unary _ = false

abbrev pub is_primary : Form → Bool
is_primary primary = true
is_primary _ = false

abbrev pub is_titled : Form → Bool
is_titled titled = true
is_titled _ = false

abbrev pub is_action : Form → Bool
is_action action = true
is_action _ = false

-- forms in which a part is judged
abbrev pub is_judging : Form → Bool
is_judging signature = true
is_judging (groups _ true) = true
is_judging _ = false

-- forms that begin in a delayed choice, by how deep they begin with one another; 0 for all others
abbrev pub rank : Form → ℕ
rank primary = 1
rank target = 1
rank declarator = 1
rank declarators = 2
rank unary = 2
rank binary = 3
rank titled = 3
rank expr = 4
rank action = 5
rank _ = 0

abbrev pub is_solid : Form → Bool
is_solid form = below 0 (rank form)

abbrev pub solid_one : Form → List Symbol → Bool
solid_one form [] = false
solid_one form (token class ∷ symbols) = plain symbols
solid_one form (sub inner ∷ symbols) = is_solid inner && (not (empties inner) && (not (is_judged inner) && (plain symbols && below (rank inner) (rank form))))

abbrev pub solid_all : Form → List (List Symbol) → Bool
solid_all form [] = true
solid_all form (symbols ∷ others) = solid_one form symbols && solid_all form others

-- Such a form begins with a token, or with such a form.
abbrev pub solid_fits : Form → Bool
solid_fits form = implies (is_solid form) (solid_all form (alternatives form))

-- Choices are delayed, and parts are judged, only in the forms that are meant.
abbrev pub all_plain : Option (List Symbol) → Bool
all_plain None = true
all_plain (Some symbols) = plain symbols

abbrev pub kind_fits : Form → Choice → Bool
kind_fits form (defer opened) = is_unary form
kind_fits form (defer called) = is_primary form
kind_fits form (defer named) = is_titled form
kind_fits form (defer begun) = is_action form
kind_fits form (defer indexed) = false
kind_fits form (judge late) = is_judging form
kind_fits form (take_on n) = all_plain (nth (alternatives form) n)
kind_fits form refuse = true

abbrev pub kinds_fit : Form → Bool
kinds_fit form = every_look (λ look. kind_fits form (choose form look))

-- what may come next in these frames of the form
abbrev pub come_in : List Symbol → Bool → Option Class → Bool
come_in symbols after (Some class) = starts symbols class || (vanish symbols && after)
come_in symbols after None = vanish symbols && after

abbrev pub frames_come : List Frame → Bool → Option Class → Bool
frames_come [] after look = after
frames_come (frame form rest ∷ frames) after look = come_in rest (frames_come frames after look) look

abbrev pub form_of : Delay → Form
form_of opened = unary
form_of called = primary
form_of named = titled
form_of _ = action

abbrev pub told_right : ℕ → Telling → Bool
told_right n (reading m) = same_number m n
told_right n (onward next) = below n 3

abbrev pub tells_reading : Delay → ℕ → List Frame → Bool
tells_reading delay n frames = every_look (λ look. implies (frames_come frames (stops (form_of delay) look) look) (told_right n (tell delay look)))

abbrev pub tells_from : Delay → ℕ → List (List Frame) → Bool
tells_from delay n [] = true
tells_from delay n (frames ∷ others) = tells_reading delay n frames && tells_from delay (suc n) others

-- What comes next tells the readings of a delayed choice apart.
pub telling : (delay : Delay) → tells_from delay 0 (readings delay) ≡ true
telling opened = refl
telling called = refl
telling named = refl
telling begun = refl
telling indexed = refl

-- what a form with such a first token begins with
abbrev pub lefts_of : (Form → List (List Frame)) → Form → Class → List (List Symbol) → List (List Frame)
lefts_of inner_lefts form class [] = []
lefts_of inner_lefts form class ([] ∷ others) = lefts_of inner_lefts form class others
lefts_of inner_lefts form class ((token other ∷ rest) ∷ others) =
    cond (same_class other class) ((frame form rest ∷ []) ∷ lefts_of inner_lefts form class others) (lefts_of inner_lefts form class others)
lefts_of inner_lefts form class ((sub inner ∷ rest) ∷ others) = map (λ fs. fs ++ frame form rest ∷ []) (inner_lefts inner) ++ lefts_of inner_lefts form class others

abbrev pub lefts : ℕ → Form → Class → List (List Frame)
lefts zero form class = []
lefts (suc n) form class = lefts_of (λ inner. lefts n inner class) form class (alternatives form)

pub class_of_delay : Delay → Class
class_of_delay opened = Open
class_of_delay _ = Name

pub all_opened : lefts 6 unary Open ≡ readings opened
all_opened = refl

pub all_called : lefts 6 primary Name ≡ readings called
all_called = refl

pub all_named : lefts 6 titled Name ≡ readings named
all_named = refl

pub all_begun : lefts 6 action Name ≡ readings begun
all_begun = refl

pub fitting : (form : Form) → fits form ≡ true
fitting program = refl
fitting externals = refl
fitting external = refl
fitting unstatic = refl
fitting titled = refl
fitting signature = refl
fitting (ending true) = refl
fitting (ending false) = refl
fitting (params true) = refl
fitting (params false) = refl
fitting param_list = refl
fitting more_params = refl
fitting param = refl
fitting param_name = refl
fitting declarators = refl
fitting more_declarators = refl
fitting declarator = refl
fitting initial = refl
fitting list_initial = refl
fitting more_values = refl
fitting next_value = refl
fitting (block in_body) = refl
fitting (block in_switch) = refl
fitting (block in_loop) = refl
fitting (items in_body) = refl
fitting (items in_switch) = refl
fitting (items in_loop) = refl
fitting (item in_body) = refl
fitting (item in_switch) = refl
fitting (item in_loop) = refl
fitting declaration = refl
fitting (statement in_body) = refl
fitting (statement in_switch) = refl
fitting (statement in_loop) = refl
fitting (else_part in_body) = refl
fitting (else_part in_switch) = refl
fitting (else_part in_loop) = refl
fitting returned = refl
fitting for_first = refl
fitting tested = refl
fitting stepped = refl
fitting (groups in_body true) = refl
fitting (groups in_body false) = refl
fitting (groups in_switch true) = refl
fitting (groups in_switch false) = refl
fitting (groups in_loop true) = refl
fitting (groups in_loop false) = refl
fitting (group in_body true) = refl
fitting (group in_body false) = refl
fitting (group in_switch true) = refl
fitting (group in_switch false) = refl
fitting (group in_loop true) = refl
fitting (group in_loop false) = refl
fitting (labelled in_body) = refl
fitting (labelled in_switch) = refl
fitting (labelled in_loop) = refl
fitting label = refl
fitting action = refl
fitting target = refl
fitting subscript = refl
fitting subscripted = refl
fitting assign = refl
fitting expr = refl
fitting choice = refl
fitting chosen = refl
fitting binary = refl
fitting operations = refl
fitting unary = refl
fitting operand = refl
fitting cast_type = refl
fitting primary = refl
fitting grouped = refl
fitting passed = refl
fitting arguments = refl
fitting more_arguments = refl
fitting type_name = refl
fitting after_char = refl
fitting after_sign = refl
fitting after_short = refl
fitting after_int = refl
fitting after_sign_short = refl
fitting after_sign_int = refl
fitting after_short_int = refl

pub solid_fitting : (form : Form) → solid_fits form ≡ true
solid_fitting program = refl
solid_fitting externals = refl
solid_fitting external = refl
solid_fitting unstatic = refl
solid_fitting titled = refl
solid_fitting signature = refl
solid_fitting (ending true) = refl
solid_fitting (ending false) = refl
solid_fitting (params true) = refl
solid_fitting (params false) = refl
solid_fitting param_list = refl
solid_fitting more_params = refl
solid_fitting param = refl
solid_fitting param_name = refl
solid_fitting declarators = refl
solid_fitting more_declarators = refl
solid_fitting declarator = refl
solid_fitting initial = refl
solid_fitting list_initial = refl
solid_fitting more_values = refl
solid_fitting next_value = refl
solid_fitting (block in_body) = refl
solid_fitting (block in_switch) = refl
solid_fitting (block in_loop) = refl
solid_fitting (items in_body) = refl
solid_fitting (items in_switch) = refl
solid_fitting (items in_loop) = refl
solid_fitting (item in_body) = refl
solid_fitting (item in_switch) = refl
solid_fitting (item in_loop) = refl
solid_fitting declaration = refl
solid_fitting (statement in_body) = refl
solid_fitting (statement in_switch) = refl
solid_fitting (statement in_loop) = refl
solid_fitting (else_part in_body) = refl
solid_fitting (else_part in_switch) = refl
solid_fitting (else_part in_loop) = refl
solid_fitting returned = refl
solid_fitting for_first = refl
solid_fitting tested = refl
solid_fitting stepped = refl
solid_fitting (groups in_body true) = refl
solid_fitting (groups in_body false) = refl
solid_fitting (groups in_switch true) = refl
solid_fitting (groups in_switch false) = refl
solid_fitting (groups in_loop true) = refl
solid_fitting (groups in_loop false) = refl
solid_fitting (group in_body true) = refl
solid_fitting (group in_body false) = refl
solid_fitting (group in_switch true) = refl
solid_fitting (group in_switch false) = refl
solid_fitting (group in_loop true) = refl
solid_fitting (group in_loop false) = refl
solid_fitting (labelled in_body) = refl
solid_fitting (labelled in_switch) = refl
solid_fitting (labelled in_loop) = refl
solid_fitting label = refl
solid_fitting action = refl
solid_fitting target = refl
solid_fitting subscript = refl
solid_fitting subscripted = refl
solid_fitting assign = refl
solid_fitting expr = refl
solid_fitting choice = refl
solid_fitting chosen = refl
solid_fitting binary = refl
solid_fitting operations = refl
solid_fitting unary = refl
solid_fitting operand = refl
solid_fitting cast_type = refl
solid_fitting primary = refl
solid_fitting grouped = refl
solid_fitting passed = refl
solid_fitting arguments = refl
solid_fitting more_arguments = refl
solid_fitting type_name = refl
solid_fitting after_char = refl
solid_fitting after_sign = refl
solid_fitting after_short = refl
solid_fitting after_int = refl
solid_fitting after_sign_short = refl
solid_fitting after_sign_int = refl
solid_fitting after_short_int = refl

pub kinds_fitting : (form : Form) → kinds_fit form ≡ true
kinds_fitting program = refl
kinds_fitting externals = refl
kinds_fitting external = refl
kinds_fitting unstatic = refl
kinds_fitting titled = refl
kinds_fitting signature = refl
kinds_fitting (ending true) = refl
kinds_fitting (ending false) = refl
kinds_fitting (params true) = refl
kinds_fitting (params false) = refl
kinds_fitting param_list = refl
kinds_fitting more_params = refl
kinds_fitting param = refl
kinds_fitting param_name = refl
kinds_fitting declarators = refl
kinds_fitting more_declarators = refl
kinds_fitting declarator = refl
kinds_fitting initial = refl
kinds_fitting list_initial = refl
kinds_fitting more_values = refl
kinds_fitting next_value = refl
kinds_fitting (block in_body) = refl
kinds_fitting (block in_switch) = refl
kinds_fitting (block in_loop) = refl
kinds_fitting (items in_body) = refl
kinds_fitting (items in_switch) = refl
kinds_fitting (items in_loop) = refl
kinds_fitting (item in_body) = refl
kinds_fitting (item in_switch) = refl
kinds_fitting (item in_loop) = refl
kinds_fitting declaration = refl
kinds_fitting (statement in_body) = refl
kinds_fitting (statement in_switch) = refl
kinds_fitting (statement in_loop) = refl
kinds_fitting (else_part in_body) = refl
kinds_fitting (else_part in_switch) = refl
kinds_fitting (else_part in_loop) = refl
kinds_fitting returned = refl
kinds_fitting for_first = refl
kinds_fitting tested = refl
kinds_fitting stepped = refl
kinds_fitting (groups in_body true) = refl
kinds_fitting (groups in_body false) = refl
kinds_fitting (groups in_switch true) = refl
kinds_fitting (groups in_switch false) = refl
kinds_fitting (groups in_loop true) = refl
kinds_fitting (groups in_loop false) = refl
kinds_fitting (group in_body true) = refl
kinds_fitting (group in_body false) = refl
kinds_fitting (group in_switch true) = refl
kinds_fitting (group in_switch false) = refl
kinds_fitting (group in_loop true) = refl
kinds_fitting (group in_loop false) = refl
kinds_fitting (labelled in_body) = refl
kinds_fitting (labelled in_switch) = refl
kinds_fitting (labelled in_loop) = refl
kinds_fitting label = refl
kinds_fitting action = refl
kinds_fitting target = refl
kinds_fitting subscript = refl
kinds_fitting subscripted = refl
kinds_fitting assign = refl
kinds_fitting expr = refl
kinds_fitting choice = refl
kinds_fitting chosen = refl
kinds_fitting binary = refl
kinds_fitting operations = refl
kinds_fitting unary = refl
kinds_fitting operand = refl
kinds_fitting cast_type = refl
kinds_fitting primary = refl
kinds_fitting grouped = refl
kinds_fitting passed = refl
kinds_fitting arguments = refl
kinds_fitting more_arguments = refl
kinds_fitting type_name = refl
kinds_fitting after_char = refl
kinds_fitting after_sign = refl
kinds_fitting after_short = refl
kinds_fitting after_int = refl
kinds_fitting after_sign_short = refl
kinds_fitting after_sign_int = refl
kinds_fitting after_short_int = refl

pub kind_fitting : (form : Form) (look : Option Class) → kind_fits form (choose form look) ≡ true
kind_fitting form look = each_look (λ l. kind_fits form (choose form l)) (kinds_fitting form) look
