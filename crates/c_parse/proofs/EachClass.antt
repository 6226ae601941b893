-- Tests of every class of tokens.
use Rattle.std.proofs.Common.{◌≡◌, ℕ, zero, suc, List, [], ◌∷◌, Option, Some, None, Bool, true, ◌&&◌, ◌==◌, refl, sym, ap, ◌∙◌}
use Rattle.c_parse.specs.declared.class.Class.{Class}
use Rattle.c_parse.specs.declared.class.Class.TheVariants.{Name, Number, Plus, Minus, Star, Divide, Shift, Relation, Equality, Ampersand, Caret, Bar, AndAnd, BarBar, Complement, Question, Colon, Semicolon, Comma, Open, Close, OpenIndex, CloseIndex, OpenBrace, CloseBrace, Equals, Compound, Increment, Member, Static, Const, Void, Char, Sign, Short, Int, Fixed, Break, Continue, Return, If, Else, While, Do, For, Switch, Case, Default, Unused}
use Rattle.c_parse.proofs.Truth.{both_left, both_right}

abbrev pub number_of : Class → ℕ
number_of Name = 0
number_of Number = 1
number_of Plus = 2
number_of Minus = 3
number_of Star = 4
number_of Divide = 5
number_of Shift = 6
number_of Relation = 7
number_of Equality = 8
number_of Ampersand = 9
number_of Caret = 10
number_of Bar = 11
number_of AndAnd = 12
number_of BarBar = 13
number_of Complement = 14
number_of Question = 15
number_of Colon = 16
number_of Semicolon = 17
number_of Comma = 18
number_of Open = 19
number_of Close = 20
number_of OpenIndex = 21
number_of CloseIndex = 22
number_of OpenBrace = 23
number_of CloseBrace = 24
number_of Equals = 25
number_of Compound = 26
number_of Increment = 27
number_of Member = 28
number_of Static = 29
number_of Const = 30
number_of Void = 31
number_of Char = 32
number_of Sign = 33
number_of Short = 34
number_of Int = 35
number_of Fixed = 36
number_of Break = 37
number_of Continue = 38
number_of Return = 39
number_of If = 40
number_of Else = 41
number_of While = 42
number_of Do = 43
number_of For = 44
number_of Switch = 45
number_of Case = 46
number_of Default = 47
number_of Unused = 48

abbrev pub classes : List Class
classes = Name ∷ Number ∷ Plus ∷ Minus ∷ Star ∷ Divide ∷ Shift ∷ Relation ∷ Equality ∷ Ampersand ∷ Caret ∷ Bar ∷ AndAnd ∷ BarBar ∷ Complement ∷ Question ∷ Colon ∷ Semicolon ∷ Comma ∷ Open ∷ Close ∷ OpenIndex ∷ CloseIndex ∷ OpenBrace ∷ CloseBrace ∷ Equals ∷ Compound ∷ Increment ∷ Member ∷ Static ∷ Const ∷ Void ∷ Char ∷ Sign ∷ Short ∷ Int ∷ Fixed ∷ Break ∷ Continue ∷ Return ∷ If ∷ Else ∷ While ∷ Do ∷ For ∷ Switch ∷ Case ∷ Default ∷ Unused ∷ []

abbrev pub same_class : Class → Class → Bool
same_class a b = number_of a == number_of b

abbrev pub every_class : (Class → Bool) → List Class → Bool
every_class test [] = true
every_class test (class ∷ others) = test class && every_class test others

abbrev pub every : (Class → Bool) → Bool
every test = every_class test classes

abbrev pub every_look : (Option Class → Bool) → Bool
every_look test = test None && every (λ class. test (Some class))

abbrev pub class_at : List Class → ℕ → Option Class
class_at [] n = None
class_at (class ∷ others) zero = Some class
class_at (class ∷ others) (suc n) = class_at others n

pub numbered : (class : Class) → class_at classes (number_of class) ≡ Some class
numbered Name = refl
numbered Number = refl
numbered Plus = refl
numbered Minus = refl
numbered Star = refl
numbered Divide = refl
numbered Shift = refl
numbered Relation = refl
numbered Equality = refl
numbered Ampersand = refl
numbered Caret = refl
numbered Bar = refl
numbered AndAnd = refl
numbered BarBar = refl
numbered Complement = refl
numbered Question = refl
numbered Colon = refl
numbered Semicolon = refl
numbered Comma = refl
numbered Open = refl
numbered Close = refl
numbered OpenIndex = refl
numbered CloseIndex = refl
numbered OpenBrace = refl
numbered CloseBrace = refl
numbered Equals = refl
numbered Compound = refl
numbered Increment = refl
numbered Member = refl
numbered Static = refl
numbered Const = refl
numbered Void = refl
numbered Char = refl
numbered Sign = refl
numbered Short = refl
numbered Int = refl
numbered Fixed = refl
numbered Break = refl
numbered Continue = refl
numbered Return = refl
numbered If = refl
numbered Else = refl
numbered While = refl
numbered Do = refl
numbered For = refl
numbered Switch = refl
numbered Case = refl
numbered Default = refl
numbered Unused = refl

every_at : (test : Class → Bool) (list : List Class) (n : ℕ) (class : Class) → every_class test list ≡ true → class_at list n ≡ Some class → test class ≡ true
every_at test [] n class e is = cc
every_at test (first ∷ others) zero class e is = let same : first ≡ class = cc in ap test (sym same) ∙ both_left _ _ e
every_at test (first ∷ others) (suc n) class e is = every_at test others n class (both_right _ _ e) is

-- What holds of every class in the list holds of every class.
pub each_class : (test : Class → Bool) → every test ≡ true → (class : Class) → test class ≡ true
each_class test e class = every_at test classes (number_of class) class e (numbered class)

pub each_look : (test : Option Class → Bool) → every_look test ≡ true → (look : Option Class) → test look ≡ true
each_look test e None = both_left _ _ e
each_look test e (Some class) = each_class (λ c. test (Some c)) (both_right _ _ e) class

pub same_self : (class : Class) → same_class class class ≡ true
same_self Name = refl
same_self Number = refl
same_self Plus = refl
same_self Minus = refl
same_self Star = refl
same_self Divide = refl
same_self Shift = refl
same_self Relation = refl
same_self Equality = refl
same_self Ampersand = refl
same_self Caret = refl
same_self Bar = refl
same_self AndAnd = refl
same_self BarBar = refl
same_self Complement = refl
same_self Question = refl
same_self Colon = refl
same_self Semicolon = refl
same_self Comma = refl
same_self Open = refl
same_self Close = refl
same_self OpenIndex = refl
same_self CloseIndex = refl
same_self OpenBrace = refl
same_self CloseBrace = refl
same_self Equals = refl
same_self Compound = refl
same_self Increment = refl
same_self Member = refl
same_self Static = refl
same_self Const = refl
same_self Void = refl
same_self Char = refl
same_self Sign = refl
same_self Short = refl
same_self Int = refl
same_self Fixed = refl
same_self Break = refl
same_self Continue = refl
same_self Return = refl
same_self If = refl
same_self Else = refl
same_self While = refl
same_self Do = refl
same_self For = refl
same_self Switch = refl
same_self Case = refl
same_self Default = refl
same_self Unused = refl
