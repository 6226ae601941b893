-- The class of each token: of the names, numbers, keywords and signs of C11 6.4.1, 6.4.2, 6.4.4 and 6.4.6.
use Rattle.std.specs.Prelude.{ℕ, List, [], ◌∷◌, cond, codes}
use Rattle.std.specs.Str.{bytes_eq}
use Rattle.c_lex.specs.declared.token.TokenKind.{TokenKind}
use Rattle.c_lex.specs.declared.token.TokenKind.TheVariants as kind
use Rattle.c_parse.specs.declared.class.Class.{Class}
use Rattle.c_parse.specs.declared.class.Class.TheVariants.{Name, Number, Plus, Minus, Star, Divide, Shift, Relation, Equality, Ampersand, Caret, Bar, AndAnd, BarBar, Complement, Question, Colon, Semicolon, Comma, Open, Close, OpenIndex, CloseIndex, OpenBrace, CloseBrace, Equals, Compound, Increment, Member, Static, Const, Void, Char, Sign, Short, Int, Fixed, Break, Continue, Return, If, Else, While, Do, For, Switch, Case, Default, Unused}

-- the keywords that the grammar uses
unfoldable pub keyword_classes : List (List ℕ × Class)
keyword_classes =
    (codes "static", Static) ∷
    (codes "const", Const) ∷
    (codes "void", Void) ∷
    (codes "char", Char) ∷
    (codes "signed", Sign) ∷ (codes "unsigned", Sign) ∷
    (codes "short", Short) ∷
    (codes "int", Int) ∷
    (codes "int8_t", Fixed) ∷ (codes "uint8_t", Fixed) ∷ (codes "int16_t", Fixed) ∷ (codes "uint16_t", Fixed) ∷
    (codes "break", Break) ∷
    (codes "continue", Continue) ∷
    (codes "return", Return) ∷
    (codes "if", If) ∷
    (codes "else", Else) ∷
    (codes "while", While) ∷
    (codes "do", Do) ∷
    (codes "for", For) ∷
    (codes "switch", Switch) ∷
    (codes "case", Case) ∷
    (codes "default", Default) ∷ []

-- the signs
unfoldable pub sign_classes : List (List ℕ × Class)
sign_classes =
    (codes "[", OpenIndex) ∷ (codes "]", CloseIndex) ∷
    (codes "(", Open) ∷ (codes ")", Close) ∷
    (codes "{", OpenBrace) ∷ (codes "}", CloseBrace) ∷
    (codes ".", Member) ∷ (codes "->", Member) ∷
    (codes "++", Increment) ∷ (codes "--", Increment) ∷
    (codes "&", Ampersand) ∷
    (codes "*", Star) ∷
    (codes "+", Plus) ∷
    (codes "-", Minus) ∷
    (codes "~", Complement) ∷ (codes "!", Complement) ∷
    (codes "/", Divide) ∷ (codes "%", Divide) ∷
    (codes "<<", Shift) ∷ (codes ">>", Shift) ∷
    (codes "<", Relation) ∷ (codes ">", Relation) ∷ (codes "<=", Relation) ∷ (codes ">=", Relation) ∷
    (codes "==", Equality) ∷ (codes "!=", Equality) ∷
    (codes "^", Caret) ∷
    (codes "|", Bar) ∷
    (codes "&&", AndAnd) ∷
    (codes "||", BarBar) ∷
    (codes "?", Question) ∷
    (codes ":", Colon) ∷
    (codes ";", Semicolon) ∷
    (codes "=", Equals) ∷
    (codes "*=", Compound) ∷ (codes "/=", Compound) ∷ (codes "%=", Compound) ∷ (codes "+=", Compound) ∷ (codes "-=", Compound) ∷
    (codes "<<=", Compound) ∷ (codes ">>=", Compound) ∷ (codes "&=", Compound) ∷ (codes "^=", Compound) ∷ (codes "|=", Compound) ∷
    (codes ",", Comma) ∷ []

-- the class that a table has for these bytes; what stands in none is Unused
abbrev pub class_among : List (List ℕ × Class) → List ℕ → Class
class_among [] bytes = Unused
class_among (row ∷ rows) bytes = cond (bytes_eq row.0 bytes) row.1 (class_among rows bytes)

abbrev pub class_of : TokenKind → List ℕ → Class
class_of kind.Name bytes = Name
class_of (kind.Number value unsigned) bytes = Number
class_of kind.Sign bytes = class_among sign_classes bytes
class_of kind.Keyword bytes = class_among keyword_classes bytes
