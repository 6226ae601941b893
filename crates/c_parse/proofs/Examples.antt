-- Texts of classes that the machine reads, the places at which it refuses others, and how deep their tokens stand.
use Rattle.std.proofs.Common.{◌≡◌, ℕ, zero, suc, List, [], ◌∷◌, length, map, Option, Some, None, refl}
use Rattle.c_parse.specs.declared.class.Class.{Class}
use Rattle.c_parse.specs.declared.class.Class.TheVariants.{Name, Number, Plus, Minus, Star, Relation, Question, Colon, Semicolon, Comma, Open, Close, OpenIndex, CloseIndex, OpenBrace, CloseBrace, Equals, Compound, Increment, Static, Const, Void, Char, Sign, Short, Int, Break, Continue, Return, If, Else, While, Do, For}
use Rattle.c_parse.specs.declared.raw.Raw.{Raw}
use Rattle.c_parse.specs.declared.raw.Raw.TheVariants.{Node}
use Rattle.c_parse.specs.declared.raw.RawRule.TheVariants.{Program as OfProgram}
use Rattle.c_parse.specs.declared.form.Wait.{Wait}
use Rattle.c_parse.specs.Grammar.{program, token, sub, Nested, ahead}
use Rattle.c_parse.specs.Machine.{want, State, turn, level}
use Rattle.c_parse.proofs.EachClass.{same_class}
use Rattle.std.specs.Prelude.{cond}

-- how many words are left where the machine stops, and whether nothing is waited for
pub data Stop : Type 0 where
  stops_at : ℕ → Stop
  whole_text : Stop
  too_long : Stop

abbrev machine_read : (List Wait → List (List Raw) → List Nested → Stop) → Class → List Wait → List (List Raw) → List Nested → Stop
machine_read go_on class c (top ∷ vs) (word ∷ ts) = cond (same_class class word.class) (go_on c ((word.leaf ∷ top) ∷ vs) ts) (stops_at (length (word ∷ ts)))
machine_read go_on class c vs ts = stops_at (length ts)

abbrev machine_next : (List Wait → List (List Raw) → List Nested → Stop) → Option State → List Nested → Stop
machine_next go_on (Some s) ts = go_on s.waits s.builds ts
machine_next go_on None ts = stops_at (length ts)

abbrev machine_step : (List Wait → List (List Raw) → List Nested → Stop) → List Wait → List (List Raw) → List Nested → Stop
machine_step go_on [] vs [] = whole_text
machine_step go_on (want (token class) ∷ c) vs ts = machine_read go_on class c vs ts
machine_step go_on c vs ts = machine_next go_on (turn c vs (ahead ts None)) ts

abbrev runs_for : ℕ → List Wait → List (List Raw) → List Nested → Stop
runs_for zero c vs ts = too_long
runs_for (suc n) c vs ts = machine_step (λ c2 vs2 ts2. runs_for n c2 vs2 ts2) c vs ts

abbrev word_of : Class → Nested
word_of class = record { class = class; leaf = Node OfProgram []; level = 0 }

abbrev stop_of : List Class → Stop
stop_of classes = runs_for 400 (want (sub program) ∷ []) ([] ∷ []) (map word_of classes)

-- nothing
empty_text : stop_of ([]) ≡ whole_text
unfolding Rattle.c_parse.specs.declared.raw.Raw.TheViews.out-Raw denote.Hole.Carrier.out
empty_text = refl

-- int main(void){return 0;}
main_returns : stop_of (Int ∷ Name ∷ Open ∷ Void ∷ Close ∷ OpenBrace ∷ Return ∷ Number ∷ Semicolon ∷ CloseBrace ∷ []) ≡ whole_text
unfolding Rattle.c_parse.specs.declared.raw.Raw.TheViews.out-Raw denote.Hole.Carrier.out
main_returns = refl

-- void f(int, unsigned short);
prototype_without_names : stop_of (Void ∷ Name ∷ Open ∷ Int ∷ Comma ∷ Sign ∷ Short ∷ Close ∷ Semicolon ∷ []) ≡ whole_text
unfolding Rattle.c_parse.specs.declared.raw.Raw.TheViews.out-Raw denote.Hole.Carrier.out
prototype_without_names = refl

-- static const int a = 1, b[2] = {1, 2,};
globals : stop_of (Static ∷ Const ∷ Int ∷ Name ∷ Equals ∷ Number ∷ Comma ∷ Name ∷ OpenIndex ∷ Number ∷ CloseIndex ∷ Equals ∷ OpenBrace ∷ Number ∷ Comma ∷ Number ∷ Comma ∷ CloseBrace ∷ Semicolon ∷ []) ≡ whole_text
unfolding Rattle.c_parse.specs.declared.raw.Raw.TheViews.out-Raw denote.Hole.Carrier.out
globals = refl

-- int short unsigned a;
words_in_any_order : stop_of (Int ∷ Short ∷ Sign ∷ Name ∷ Semicolon ∷ []) ≡ whole_text
unfolding Rattle.c_parse.specs.declared.raw.Raw.TheViews.out-Raw denote.Hole.Carrier.out
words_in_any_order = refl

-- unsigned signed a;
two_signs : stop_of (Sign ∷ Sign ∷ Name ∷ Semicolon ∷ []) ≡ stops_at 3
unfolding Rattle.c_parse.specs.declared.raw.Raw.TheViews.out-Raw denote.Hole.Carrier.out
two_signs = refl

-- int const a;
const_after_type : stop_of (Int ∷ Const ∷ Name ∷ Semicolon ∷ []) ≡ stops_at 3
unfolding Rattle.c_parse.specs.declared.raw.Raw.TheViews.out-Raw denote.Hole.Carrier.out
const_after_type = refl

-- const static int a;
const_static : stop_of (Const ∷ Static ∷ Int ∷ Name ∷ Semicolon ∷ []) ≡ stops_at 4
unfolding Rattle.c_parse.specs.declared.raw.Raw.TheViews.out-Raw denote.Hole.Carrier.out
const_static = refl

-- const int f(void);
const_function : stop_of (Const ∷ Int ∷ Name ∷ Open ∷ Void ∷ Close ∷ Semicolon ∷ []) ≡ stops_at 4
unfolding Rattle.c_parse.specs.declared.raw.Raw.TheViews.out-Raw denote.Hole.Carrier.out
const_function = refl

-- void a;
void_variable : stop_of (Void ∷ Name ∷ Semicolon ∷ []) ≡ stops_at 1
unfolding Rattle.c_parse.specs.declared.raw.Raw.TheViews.out-Raw denote.Hole.Carrier.out
void_variable = refl

-- int a[2] = 5;
array_from_expression : stop_of (Int ∷ Name ∷ OpenIndex ∷ Number ∷ CloseIndex ∷ Equals ∷ Number ∷ Semicolon ∷ []) ≡ stops_at 2
unfolding Rattle.c_parse.specs.declared.raw.Raw.TheViews.out-Raw denote.Hole.Carrier.out
array_from_expression = refl

-- int a = {5};
scalar_from_list : stop_of (Int ∷ Name ∷ Equals ∷ OpenBrace ∷ Number ∷ CloseBrace ∷ Semicolon ∷ []) ≡ stops_at 4
unfolding Rattle.c_parse.specs.declared.raw.Raw.TheViews.out-Raw denote.Hole.Carrier.out
scalar_from_list = refl

-- a ++ + b in a return
plus_plus_plus : stop_of (Int ∷ Name ∷ Open ∷ Void ∷ Close ∷ OpenBrace ∷ Return ∷ Name ∷ Increment ∷ Plus ∷ Name ∷ Semicolon ∷ CloseBrace ∷ []) ≡ stops_at 5
unfolding Rattle.c_parse.specs.declared.raw.Raw.TheViews.out-Raw denote.Hole.Carrier.out
plus_plus_plus = refl

-- if (a) if (b) ; else ; else ;
else_of_nearest_if : stop_of (Int ∷ Name ∷ Open ∷ Void ∷ Close ∷ OpenBrace ∷ If ∷ Open ∷ Name ∷ Close ∷ If ∷ Open ∷ Name ∷ Close ∷ Semicolon ∷ Else ∷ Semicolon ∷ Else ∷ Semicolon ∷ CloseBrace ∷ []) ≡ whole_text
unfolding Rattle.c_parse.specs.declared.raw.Raw.TheViews.out-Raw denote.Hole.Carrier.out
else_of_nearest_if = refl

-- else without an if
else_alone : stop_of (Int ∷ Name ∷ Open ∷ Void ∷ Close ∷ OpenBrace ∷ Else ∷ Semicolon ∷ CloseBrace ∷ []) ≡ stops_at 3
unfolding Rattle.c_parse.specs.declared.raw.Raw.TheViews.out-Raw denote.Hole.Carrier.out
else_alone = refl

-- break outside a loop
break_outside : stop_of (Int ∷ Name ∷ Open ∷ Void ∷ Close ∷ OpenBrace ∷ Break ∷ Semicolon ∷ CloseBrace ∷ []) ≡ stops_at 3
unfolding Rattle.c_parse.specs.declared.raw.Raw.TheViews.out-Raw denote.Hole.Carrier.out
break_outside = refl

-- while (a) break;
break_in_while : stop_of (Int ∷ Name ∷ Open ∷ Void ∷ Close ∷ OpenBrace ∷ While ∷ Open ∷ Name ∷ Close ∷ Break ∷ Semicolon ∷ CloseBrace ∷ []) ≡ whole_text
unfolding Rattle.c_parse.specs.declared.raw.Raw.TheViews.out-Raw denote.Hole.Carrier.out
break_in_while = refl

-- b = (char)(a) * -a;
cast_and_group : stop_of (Int ∷ Name ∷ Open ∷ Void ∷ Close ∷ OpenBrace ∷ Name ∷ Equals ∷ Open ∷ Char ∷ Close ∷ Open ∷ Name ∷ Close ∷ Star ∷ Minus ∷ Name ∷ Semicolon ∷ CloseBrace ∷ []) ≡ whole_text
unfolding Rattle.c_parse.specs.declared.raw.Raw.TheViews.out-Raw denote.Hole.Carrier.out
cast_and_group = refl

-- a + b = c;
assigned_expression : stop_of (Int ∷ Name ∷ Open ∷ Void ∷ Close ∷ OpenBrace ∷ Name ∷ Plus ∷ Name ∷ Equals ∷ Name ∷ Semicolon ∷ CloseBrace ∷ []) ≡ stops_at 4
unfolding Rattle.c_parse.specs.declared.raw.Raw.TheViews.out-Raw denote.Hole.Carrier.out
assigned_expression = refl

-- f(a) = c;
assigned_call : stop_of (Int ∷ Name ∷ Open ∷ Void ∷ Close ∷ OpenBrace ∷ Name ∷ Open ∷ Name ∷ Close ∷ Equals ∷ Name ∷ Semicolon ∷ CloseBrace ∷ []) ≡ stops_at 4
unfolding Rattle.c_parse.specs.declared.raw.Raw.TheViews.out-Raw denote.Hole.Carrier.out
assigned_call = refl

-- a[1] + b;
element_as_operand : stop_of (Int ∷ Name ∷ Open ∷ Void ∷ Close ∷ OpenBrace ∷ Name ∷ OpenIndex ∷ Number ∷ CloseIndex ∷ Plus ∷ Name ∷ Semicolon ∷ CloseBrace ∷ []) ≡ whole_text
unfolding Rattle.c_parse.specs.declared.raw.Raw.TheViews.out-Raw denote.Hole.Carrier.out
element_as_operand = refl

-- a[1] += b;
element_as_target : stop_of (Int ∷ Name ∷ Open ∷ Void ∷ Close ∷ OpenBrace ∷ Name ∷ OpenIndex ∷ Number ∷ CloseIndex ∷ Compound ∷ Name ∷ Semicolon ∷ CloseBrace ∷ []) ≡ whole_text
unfolding Rattle.c_parse.specs.declared.raw.Raw.TheViews.out-Raw denote.Hole.Carrier.out
element_as_target = refl

-- a[1][2] = b;
element_of_element : stop_of (Int ∷ Name ∷ Open ∷ Void ∷ Close ∷ OpenBrace ∷ Name ∷ OpenIndex ∷ Number ∷ CloseIndex ∷ OpenIndex ∷ Number ∷ CloseIndex ∷ Equals ∷ Name ∷ Semicolon ∷ CloseBrace ∷ []) ≡ stops_at 7
unfolding Rattle.c_parse.specs.declared.raw.Raw.TheViews.out-Raw denote.Hole.Carrier.out
element_of_element = refl

-- for (int i = 0; i < 9; i++) ;
for_parts : stop_of (Int ∷ Name ∷ Open ∷ Void ∷ Close ∷ OpenBrace ∷ For ∷ Open ∷ Int ∷ Name ∷ Equals ∷ Number ∷ Semicolon ∷ Name ∷ Relation ∷ Number ∷ Semicolon ∷ Name ∷ Increment ∷ Close ∷ Semicolon ∷ CloseBrace ∷ []) ≡ whole_text
unfolding Rattle.c_parse.specs.declared.raw.Raw.TheViews.out-Raw denote.Hole.Carrier.out
for_parts = refl

-- for (;;) continue;
for_empty : stop_of (Int ∷ Name ∷ Open ∷ Void ∷ Close ∷ OpenBrace ∷ For ∷ Open ∷ Semicolon ∷ Semicolon ∷ Close ∷ Continue ∷ Semicolon ∷ CloseBrace ∷ []) ≡ whole_text
unfolding Rattle.c_parse.specs.declared.raw.Raw.TheViews.out-Raw denote.Hole.Carrier.out
for_empty = refl

-- do a = 1; while (a);
do_while : stop_of (Int ∷ Name ∷ Open ∷ Void ∷ Close ∷ OpenBrace ∷ Do ∷ Name ∷ Equals ∷ Number ∷ Semicolon ∷ While ∷ Open ∷ Name ∷ Close ∷ Semicolon ∷ CloseBrace ∷ []) ≡ whole_text
unfolding Rattle.c_parse.specs.declared.raw.Raw.TheViews.out-Raw denote.Hole.Carrier.out
do_while = refl

-- f(void) as a call
void_argument : stop_of (Int ∷ Name ∷ Open ∷ Void ∷ Close ∷ OpenBrace ∷ Name ∷ Open ∷ Void ∷ Close ∷ Semicolon ∷ CloseBrace ∷ []) ≡ stops_at 4
unfolding Rattle.c_parse.specs.declared.raw.Raw.TheViews.out-Raw denote.Hole.Carrier.out
void_argument = refl

-- a ? b : c ? d : e
nested_choice : stop_of (Int ∷ Name ∷ Open ∷ Void ∷ Close ∷ OpenBrace ∷ Return ∷ Name ∷ Question ∷ Name ∷ Colon ∷ Name ∷ Question ∷ Name ∷ Colon ∷ Name ∷ Semicolon ∷ CloseBrace ∷ []) ≡ whole_text
unfolding Rattle.c_parse.specs.declared.raw.Raw.TheViews.out-Raw denote.Hole.Carrier.out
nested_choice = refl

-- int main(void){
ends_early : stop_of (Int ∷ Name ∷ Open ∷ Void ∷ Close ∷ OpenBrace ∷ []) ≡ stops_at 0
unfolding Rattle.c_parse.specs.declared.raw.Raw.TheViews.out-Raw denote.Hole.Carrier.out
ends_early = refl

abbrev levels_read : (List Wait → List (List Raw) → List Nested → List ℕ) → Class → List Wait → List (List Raw) → List Nested → List ℕ
levels_read go_on class c (top ∷ vs) (word ∷ ts) = cond (same_class class word.class) (level c ∷ go_on c ((word.leaf ∷ top) ∷ vs) ts) (level c ∷ [])
levels_read go_on class c vs ts = level c ∷ []

abbrev levels_next : (List Wait → List (List Raw) → List Nested → List ℕ) → Option State → List Wait → List Nested → List ℕ
levels_next go_on (Some s) c ts = go_on s.waits s.builds ts
levels_next go_on None c ts = level c ∷ []

abbrev levels_step : (List Wait → List (List Raw) → List Nested → List ℕ) → List Wait → List (List Raw) → List Nested → List ℕ
levels_step go_on [] vs [] = []
levels_step go_on (want (token class) ∷ c) vs ts = levels_read go_on class c vs ts
levels_step go_on c vs ts = levels_next go_on (turn c vs (ahead ts None)) c ts

abbrev levels_for : ℕ → List Wait → List (List Raw) → List Nested → List ℕ
levels_for zero c vs ts = []
levels_for (suc n) c vs ts = levels_step (λ c2 vs2 ts2. levels_for n c2 vs2 ts2) c vs ts

-- the levels of the tokens that are read, and behind them how deep a token that fits nothing stands
abbrev levels_of : List Class → List ℕ
levels_of classes = levels_for 1000 (want (sub program) ∷ []) ([] ∷ []) (map word_of classes)

-- if (a) { b = 1; } else while (c) ;
levels_of_statements : levels_of (Int ∷ Name ∷ Open ∷ Void ∷ Close ∷ OpenBrace ∷ If ∷ Open ∷ Name ∷ Close ∷ OpenBrace ∷ Name ∷ Equals ∷ Number ∷ Semicolon ∷ CloseBrace ∷ Else ∷ While ∷ Open ∷ Name ∷ Close ∷ Semicolon ∷ CloseBrace ∷ []) ≡ 0 ∷ 0 ∷ 0 ∷ 0 ∷ 0 ∷ 0 ∷ 1 ∷ 1 ∷ 1 ∷ 1 ∷ 2 ∷ 3 ∷ 3 ∷ 3 ∷ 3 ∷ 2 ∷ 1 ∷ 2 ∷ 2 ∷ 2 ∷ 2 ∷ 3 ∷ 0 ∷ []
unfolding Rattle.c_parse.specs.declared.raw.Raw.TheViews.out-Raw denote.Hole.Carrier.out
levels_of_statements = refl

-- return -(a + b[1]);
levels_of_operand : levels_of (Int ∷ Name ∷ Open ∷ Void ∷ Close ∷ OpenBrace ∷ Return ∷ Minus ∷ Open ∷ Name ∷ Plus ∷ Name ∷ OpenIndex ∷ Number ∷ CloseIndex ∷ Close ∷ Semicolon ∷ CloseBrace ∷ []) ≡ 0 ∷ 0 ∷ 0 ∷ 0 ∷ 0 ∷ 0 ∷ 1 ∷ 1 ∷ 2 ∷ 3 ∷ 3 ∷ 3 ∷ 3 ∷ 4 ∷ 4 ∷ 3 ∷ 1 ∷ 0 ∷ []
unfolding Rattle.c_parse.specs.declared.raw.Raw.TheViews.out-Raw denote.Hole.Carrier.out
levels_of_operand = refl

-- a = (char)(b) ? f(1) : 2;
levels_of_cast : levels_of (Int ∷ Name ∷ Open ∷ Void ∷ Close ∷ OpenBrace ∷ Name ∷ Equals ∷ Open ∷ Char ∷ Close ∷ Open ∷ Name ∷ Close ∷ Question ∷ Name ∷ Open ∷ Number ∷ Close ∷ Colon ∷ Number ∷ Semicolon ∷ CloseBrace ∷ []) ≡ 0 ∷ 0 ∷ 0 ∷ 0 ∷ 0 ∷ 0 ∷ 1 ∷ 1 ∷ 1 ∷ 2 ∷ 2 ∷ 2 ∷ 3 ∷ 3 ∷ 1 ∷ 2 ∷ 2 ∷ 3 ∷ 3 ∷ 2 ∷ 2 ∷ 1 ∷ 0 ∷ []
unfolding Rattle.c_parse.specs.declared.raw.Raw.TheViews.out-Raw denote.Hole.Carrier.out
levels_of_cast = refl

-- a[b[1]]++;
levels_of_index : levels_of (Int ∷ Name ∷ Open ∷ Void ∷ Close ∷ OpenBrace ∷ Name ∷ OpenIndex ∷ Name ∷ OpenIndex ∷ Number ∷ CloseIndex ∷ CloseIndex ∷ Increment ∷ Semicolon ∷ CloseBrace ∷ []) ≡ 0 ∷ 0 ∷ 0 ∷ 0 ∷ 0 ∷ 0 ∷ 1 ∷ 1 ∷ 2 ∷ 2 ∷ 3 ∷ 3 ∷ 2 ∷ 1 ∷ 1 ∷ 0 ∷ []
unfolding Rattle.c_parse.specs.declared.raw.Raw.TheViews.out-Raw denote.Hole.Carrier.out
levels_of_index = refl

-- int a[2] = {-1};
levels_of_declarator : levels_of (Int ∷ Name ∷ OpenIndex ∷ Number ∷ CloseIndex ∷ Equals ∷ OpenBrace ∷ Minus ∷ Number ∷ CloseBrace ∷ Semicolon ∷ []) ≡ 0 ∷ 0 ∷ 0 ∷ 0 ∷ 0 ∷ 0 ∷ 0 ∷ 0 ∷ 1 ∷ 0 ∷ 0 ∷ []
unfolding Rattle.c_parse.specs.declared.raw.Raw.TheViews.out-Raw denote.Hole.Carrier.out
levels_of_declarator = refl

-- return a ? b : c ? d : e;
levels_of_choices : levels_of (Int ∷ Name ∷ Open ∷ Void ∷ Close ∷ OpenBrace ∷ Return ∷ Name ∷ Question ∷ Name ∷ Colon ∷ Name ∷ Question ∷ Name ∷ Colon ∷ Name ∷ Semicolon ∷ CloseBrace ∷ []) ≡ 0 ∷ 0 ∷ 0 ∷ 0 ∷ 0 ∷ 0 ∷ 1 ∷ 1 ∷ 1 ∷ 2 ∷ 2 ∷ 2 ∷ 2 ∷ 3 ∷ 3 ∷ 3 ∷ 1 ∷ 0 ∷ []
unfolding Rattle.c_parse.specs.declared.raw.Raw.TheViews.out-Raw denote.Hole.Carrier.out
levels_of_choices = refl

-- return - ) : what begins with an operand doesn't count
operand_missing : levels_of (Int ∷ Name ∷ Open ∷ Void ∷ Close ∷ OpenBrace ∷ Return ∷ Minus ∷ Close ∷ []) ≡ 0 ∷ 0 ∷ 0 ∷ 0 ∷ 0 ∷ 0 ∷ 1 ∷ 1 ∷ 1 ∷ []
unfolding Rattle.c_parse.specs.declared.raw.Raw.TheViews.out-Raw denote.Hole.Carrier.out
operand_missing = refl

-- return ( ) : what stands in a bracket does
group_missing : levels_of (Int ∷ Name ∷ Open ∷ Void ∷ Close ∷ OpenBrace ∷ Return ∷ Open ∷ Close ∷ []) ≡ 0 ∷ 0 ∷ 0 ∷ 0 ∷ 0 ∷ 0 ∷ 1 ∷ 1 ∷ 2 ∷ []
unfolding Rattle.c_parse.specs.declared.raw.Raw.TheViews.out-Raw denote.Hole.Carrier.out
group_missing = refl

-- return f( ;
argument_missing : levels_of (Int ∷ Name ∷ Open ∷ Void ∷ Close ∷ OpenBrace ∷ Return ∷ Name ∷ Open ∷ Semicolon ∷ []) ≡ 0 ∷ 0 ∷ 0 ∷ 0 ∷ 0 ∷ 0 ∷ 1 ∷ 1 ∷ 1 ∷ 2 ∷ []
unfolding Rattle.c_parse.specs.declared.raw.Raw.TheViews.out-Raw denote.Hole.Carrier.out
argument_missing = refl

-- return a[ )
index_missing : levels_of (Int ∷ Name ∷ Open ∷ Void ∷ Close ∷ OpenBrace ∷ Return ∷ Name ∷ OpenIndex ∷ Close ∷ []) ≡ 0 ∷ 0 ∷ 0 ∷ 0 ∷ 0 ∷ 0 ∷ 1 ∷ 1 ∷ 1 ∷ 2 ∷ []
unfolding Rattle.c_parse.specs.declared.raw.Raw.TheViews.out-Raw denote.Hole.Carrier.out
index_missing = refl

-- return a ? ;
choice_missing : levels_of (Int ∷ Name ∷ Open ∷ Void ∷ Close ∷ OpenBrace ∷ Return ∷ Name ∷ Question ∷ Semicolon ∷ []) ≡ 0 ∷ 0 ∷ 0 ∷ 0 ∷ 0 ∷ 0 ∷ 1 ∷ 1 ∷ 1 ∷ 2 ∷ []
unfolding Rattle.c_parse.specs.declared.raw.Raw.TheViews.out-Raw denote.Hole.Carrier.out
choice_missing = refl

-- return (char a
cast_unfinished : levels_of (Int ∷ Name ∷ Open ∷ Void ∷ Close ∷ OpenBrace ∷ Return ∷ Open ∷ Char ∷ Name ∷ []) ≡ 0 ∷ 0 ∷ 0 ∷ 0 ∷ 0 ∷ 0 ∷ 1 ∷ 1 ∷ 2 ∷ 2 ∷ []
unfolding Rattle.c_parse.specs.declared.raw.Raw.TheViews.out-Raw denote.Hole.Carrier.out
cast_unfinished = refl

-- if ( ) : the bracket of a statement doesn't count
test_missing : levels_of (Int ∷ Name ∷ Open ∷ Void ∷ Close ∷ OpenBrace ∷ If ∷ Open ∷ Close ∷ []) ≡ 0 ∷ 0 ∷ 0 ∷ 0 ∷ 0 ∷ 0 ∷ 1 ∷ 1 ∷ 1 ∷ []
unfolding Rattle.c_parse.specs.declared.raw.Raw.TheViews.out-Raw denote.Hole.Carrier.out
test_missing = refl

-- while (a) } : what begins with a statement doesn't count
body_missing : levels_of (Int ∷ Name ∷ Open ∷ Void ∷ Close ∷ OpenBrace ∷ While ∷ Open ∷ Name ∷ Close ∷ CloseBrace ∷ []) ≡ 0 ∷ 0 ∷ 0 ∷ 0 ∷ 0 ∷ 0 ∷ 1 ∷ 1 ∷ 1 ∷ 1 ∷ 1 ∷ []
unfolding Rattle.c_parse.specs.declared.raw.Raw.TheViews.out-Raw denote.Hole.Carrier.out
body_missing = refl

abbrev times : ℕ → Class → List Class → List Class
times zero class after = after
times (suc n) class after = class ∷ times n class after

abbrev last_of : List ℕ → ℕ
last_of [] = 0
last_of (last ∷ []) = last
last_of (first ∷ second ∷ rest) = last_of (second ∷ rest)

abbrev in_function : List Class → List Class
in_function classes = Int ∷ Name ∷ Open ∷ Void ∷ Close ∷ OpenBrace ∷ classes

-- behind 64 operators a ) isn't nested too deep, and an operand is, and so is what stands in its index; behind 64 brackets a ) is
sixty_four_operators : last_of (levels_of (in_function (Return ∷ times 64 Minus (Close ∷ [])))) ≡ 64
unfolding Rattle.c_parse.specs.declared.raw.Raw.TheViews.out-Raw denote.Hole.Carrier.out
sixty_four_operators = refl

one_more_operand : last_of (levels_of (in_function (Return ∷ times 64 Minus (Name ∷ OpenIndex ∷ Close ∷ [])))) ≡ 66
unfolding Rattle.c_parse.specs.declared.raw.Raw.TheViews.out-Raw denote.Hole.Carrier.out
one_more_operand = refl

sixty_four_brackets : last_of (levels_of (in_function (Return ∷ times 64 Open (Close ∷ [])))) ≡ 65
unfolding Rattle.c_parse.specs.declared.raw.Raw.TheViews.out-Raw denote.Hole.Carrier.out
sixty_four_brackets = refl
