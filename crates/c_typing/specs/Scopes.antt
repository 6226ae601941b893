-- Names in nested scopes (C11 6.2.1): a list of scopes, the innermost first, each of them a list of names and what they mean.
use Rattle.std.specs.Prelude.{ℕ, List, [], ◌∷◌, ◌++◌, Option, Some, None, is_some, if◌then◌else◌}
use Rattle.std.specs.Option.{option_or}
use Rattle.std.specs.Str.{bytes_eq}
use Rattle.c_typing.specs.declared.meaning.Meaning.{Meaning}
use Rattle.c_typing.specs.declared.meaning.Declaring.{Declaring}
use Rattle.c_typing.specs.declared.meaning.Declaring.TheVariants.{Declared, AlreadyThere}

abbrev pub Scope : Type 0
Scope = List (List ℕ × Meaning)

-- what a name means in a scope
abbrev pub find_in : List ℕ → Scope → Option Meaning
find_in name [] = None
find_in name (entry ∷ others) = if bytes_eq name entry.0 then Some entry.1 else find_in name others

-- what it means in the innermost scope
abbrev pub find_here : List ℕ → List Scope → Option Meaning
find_here name [] = None
find_here name (scope ∷ outer) = find_in name scope

-- what it means, by the innermost scope in which it is declared
abbrev pub find : List ℕ → List Scope → Option Meaning
find name [] = None
find name (scope ∷ outer) = option_or (find_in name scope) (find name outer)

-- a name is declared in a scope, unless it is there already
abbrev pub declared_in : List ℕ → Meaning → Scope → Scope
declared_in name meaning scope = if is_some (find_in name scope) then scope else scope ++ (name, meaning) ∷ []

abbrev pub declaring_in : List ℕ → Scope → Declaring
declaring_in name scope = if is_some (find_in name scope) then AlreadyThere else Declared

-- the same in the innermost scope
abbrev pub declared : List ℕ → Meaning → List Scope → List Scope
declared name meaning [] = []
declared name meaning (scope ∷ outer) = declared_in name meaning scope ∷ outer

abbrev pub declaring : List ℕ → List Scope → Declaring
declaring name [] = Declared
declaring name (scope ∷ outer) = declaring_in name scope

-- the scopes behind the end of the innermost; the outermost gives way to an empty one
abbrev pub closed : List Scope → List Scope
closed [] = []
closed (scope ∷ []) = [] ∷ []
closed (scope ∷ next ∷ outer) = next ∷ outer
