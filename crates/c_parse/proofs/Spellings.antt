-- Words are genuine, and of each class there is one; the tables have what the lexer knows.
use Rattle.std.proofs.Common.{◌≡◌, ℕ, List, Bool, true, false, refl, sym}
use Rattle.std.specs.Prelude.{codes}
use Rattle.std.specs.List.{list_all}
use Rattle.c_lex.specs.Words.{signs, keywords, is_keyword}
use Rattle.c_lex.specs.declared.token.Token.{Token}
use Rattle.c_lex.specs.declared.token.TokenKind.{TokenKind}
use Rattle.c_lex.specs.declared.token.TokenKind.TheVariants as kind
use Rattle.base_io.specs.declared.place.Place.{Place}
use Rattle.c_parse.specs.declared.class.Class.{Class}
use Rattle.c_parse.specs.declared.class.Class.TheVariants as class
use Rattle.c_parse.specs.declared.raw.Raw.TheVariants.{Leaf}
use Rattle.c_parse.specs.Classes.{class_of, class_among, keyword_classes, sign_classes}
use Rattle.c_parse.specs.Words.{Word, Genuine, word_of, bytes_of}

-- a kind and bytes with which a token of this class is written
abbrev pub spelling : Class → TokenKind × List ℕ
spelling class.Name = (kind.Name, codes "a")
spelling class.Number = (kind.Number 0 false, codes "0")
spelling class.Plus = (kind.Sign, codes "+")
spelling class.Minus = (kind.Sign, codes "-")
spelling class.Star = (kind.Sign, codes "*")
spelling class.Divide = (kind.Sign, codes "/")
spelling class.Shift = (kind.Sign, codes "<<")
spelling class.Relation = (kind.Sign, codes "<")
spelling class.Equality = (kind.Sign, codes "==")
spelling class.Ampersand = (kind.Sign, codes "&")
spelling class.Caret = (kind.Sign, codes "^")
spelling class.Bar = (kind.Sign, codes "|")
spelling class.AndAnd = (kind.Sign, codes "&&")
spelling class.BarBar = (kind.Sign, codes "||")
spelling class.Complement = (kind.Sign, codes "~")
spelling class.Question = (kind.Sign, codes "?")
spelling class.Colon = (kind.Sign, codes ":")
spelling class.Semicolon = (kind.Sign, codes ";")
spelling class.Comma = (kind.Sign, codes ",")
spelling class.Open = (kind.Sign, codes "(")
spelling class.Close = (kind.Sign, codes ")")
spelling class.OpenIndex = (kind.Sign, codes "[")
spelling class.CloseIndex = (kind.Sign, codes "]")
spelling class.OpenBrace = (kind.Sign, codes "{")
spelling class.CloseBrace = (kind.Sign, codes "}")
spelling class.Equals = (kind.Sign, codes "=")
spelling class.Compound = (kind.Sign, codes "+=")
spelling class.Increment = (kind.Sign, codes "++")
spelling class.Member = (kind.Sign, codes ".")
spelling class.Static = (kind.Keyword, codes "static")
spelling class.Const = (kind.Keyword, codes "const")
spelling class.Void = (kind.Keyword, codes "void")
spelling class.Char = (kind.Keyword, codes "char")
spelling class.Sign = (kind.Keyword, codes "unsigned")
spelling class.Short = (kind.Keyword, codes "short")
spelling class.Int = (kind.Keyword, codes "int")
spelling class.Fixed = (kind.Keyword, codes "int8_t")
spelling class.Break = (kind.Keyword, codes "break")
spelling class.Continue = (kind.Keyword, codes "continue")
spelling class.Return = (kind.Keyword, codes "return")
spelling class.If = (kind.Keyword, codes "if")
spelling class.Else = (kind.Keyword, codes "else")
spelling class.While = (kind.Keyword, codes "while")
spelling class.Do = (kind.Keyword, codes "do")
spelling class.For = (kind.Keyword, codes "for")
spelling class.Switch = (kind.Keyword, codes "switch")
spelling class.Case = (kind.Keyword, codes "case")
spelling class.Default = (kind.Keyword, codes "default")
spelling class.Unused = (kind.Keyword, codes "goto")

pub spelled : (class : Class) → class_of (spelling class).0 (spelling class).1 ≡ class
unfolding keyword_classes sign_classes
spelled class.Name = refl
spelled class.Number = refl
spelled class.Plus = refl
spelled class.Minus = refl
spelled class.Star = refl
spelled class.Divide = refl
spelled class.Shift = refl
spelled class.Relation = refl
spelled class.Equality = refl
spelled class.Ampersand = refl
spelled class.Caret = refl
spelled class.Bar = refl
spelled class.AndAnd = refl
spelled class.BarBar = refl
spelled class.Complement = refl
spelled class.Question = refl
spelled class.Colon = refl
spelled class.Semicolon = refl
spelled class.Comma = refl
spelled class.Open = refl
spelled class.Close = refl
spelled class.OpenIndex = refl
spelled class.CloseIndex = refl
spelled class.OpenBrace = refl
spelled class.CloseBrace = refl
spelled class.Equals = refl
spelled class.Compound = refl
spelled class.Increment = refl
spelled class.Member = refl
spelled class.Static = refl
spelled class.Const = refl
spelled class.Void = refl
spelled class.Char = refl
spelled class.Sign = refl
spelled class.Short = refl
spelled class.Int = refl
spelled class.Fixed = refl
spelled class.Break = refl
spelled class.Continue = refl
spelled class.Return = refl
spelled class.If = refl
spelled class.Else = refl
spelled class.While = refl
spelled class.Do = refl
spelled class.For = refl
spelled class.Switch = refl
spelled class.Case = refl
spelled class.Default = refl
spelled class.Unused = refl

-- a word of this class
abbrev pub sample : Class → Place → Word
sample class place = record { class = class; leaf = Leaf (spelling class).0 (spelling class).1 place }

pub sample_genuine : (class : Class) (place : Place) → Genuine (sample class place)
sample_genuine class place = record { kind = (spelling class).0; bytes = (spelling class).1; place = place; leaf = refl; class = sym (spelled class) }

pub word_genuine : (text : List ℕ) (token : Token) → Genuine (word_of text token)
word_genuine text token = record { kind = token.kind; bytes = bytes_of text token; place = token.place; leaf = refl; class = refl }

-- the table has each sign of the lexer
is_used : Class → Bool
is_used class.Unused = false
is_used _ = true

signs_used : list_all (λ sign. is_used (class_among sign_classes sign)) signs ≡ true
unfolding is_used sign_classes signs
signs_used = refl

-- and the lexer has each keyword of the table
keywords_known : list_all (λ row. is_keyword row.0) keyword_classes ≡ true
unfolding keyword_classes keywords
keywords_known = refl
