-- What contracts see of the maps that hold names: the entries of each with the names as bytes, and the last map first.
use Rattle.std.specs.Prelude.{ℕ, List, [], ◌∷◌, ◌++◌, map}
use Rattle.std.specs.HashMap.{HashMap}
use Rattle.std.specs.declared.vec.Vec.{Vec}
use Rattle.std.specs.declared.alloc.Global.{Global}
use Rattle.c_typing.specs.declared.meaning.Meaning.{Meaning}
use Rattle.c_typing.specs.Scopes.{Scope}

abbrev pub scope_of : {S : Type 0} → HashMap (Vec ℕ Global) Meaning S → Scope
scope_of m = map (λ e. (e.0.items, e.1)) m.entries

abbrev pub scopes_of : {S : Type 0} → List (HashMap (Vec ℕ Global) Meaning S) → List Scope
scopes_of [] = []
scopes_of (m ∷ others) = scopes_of others ++ scope_of m ∷ []
