-- The keywords and the signs.
use Rattle.std.specs.Prelude.{ℕ, Bool, List, [], ◌∷◌, codes}
use Rattle.std.specs.List.{list_any}
use Rattle.std.specs.Str.{bytes_eq}

-- the 44 keywords of C11 6.4.1, and the four types of fixed width
unfoldable pub keywords : List (List ℕ)
keywords =
    codes "auto" ∷ codes "break" ∷ codes "case" ∷ codes "char" ∷ codes "const" ∷ codes "continue" ∷
    codes "default" ∷ codes "do" ∷ codes "double" ∷ codes "else" ∷ codes "enum" ∷ codes "extern" ∷
    codes "float" ∷ codes "for" ∷ codes "goto" ∷ codes "if" ∷ codes "inline" ∷ codes "int" ∷
    codes "long" ∷ codes "register" ∷ codes "restrict" ∷ codes "return" ∷ codes "short" ∷ codes "signed" ∷
    codes "sizeof" ∷ codes "static" ∷ codes "struct" ∷ codes "switch" ∷ codes "typedef" ∷ codes "union" ∷
    codes "unsigned" ∷ codes "void" ∷ codes "volatile" ∷ codes "while" ∷ codes "_Alignas" ∷ codes "_Alignof" ∷
    codes "_Atomic" ∷ codes "_Bool" ∷ codes "_Complex" ∷ codes "_Generic" ∷ codes "_Imaginary" ∷ codes "_Noreturn" ∷
    codes "_Static_assert" ∷ codes "_Thread_local" ∷ codes "int8_t" ∷ codes "uint8_t" ∷ codes "int16_t" ∷ codes "uint16_t" ∷ []

-- the punctuators of C11 6.4.6 that the grammar uses, and `.` and `->`
unfoldable pub signs : List (List ℕ)
signs =
    codes "++" ∷ codes "--" ∷ codes "->" ∷ codes "." ∷ codes "+" ∷ codes "-" ∷ codes "*" ∷ codes "/" ∷
    codes "%" ∷ codes "&" ∷ codes "|" ∷ codes "^" ∷ codes "~" ∷ codes "!" ∷ codes "<" ∷ codes ">" ∷
    codes "<=" ∷ codes ">=" ∷ codes "==" ∷ codes "!=" ∷ codes "&&" ∷ codes "||" ∷ codes "<<" ∷ codes ">>" ∷
    codes "=" ∷ codes "+=" ∷ codes "-=" ∷ codes "*=" ∷ codes "/=" ∷ codes "%=" ∷ codes "&=" ∷ codes "|=" ∷
    codes "^=" ∷ codes "<<=" ∷ codes ">>=" ∷ codes "?" ∷ codes ":" ∷ codes ";" ∷ codes "," ∷ codes "(" ∷
    codes ")" ∷ codes "[" ∷ codes "]" ∷ codes "{" ∷ codes "}" ∷ []

abbrev pub is_keyword : List ℕ → Bool
is_keyword word = list_any (λ k. bytes_eq k word) keywords

abbrev pub is_sign : List ℕ → Bool
is_sign bytes = list_any (λ s. bytes_eq s bytes) signs
