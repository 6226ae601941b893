-- What contracts see of the maps that hold names, as the maps change.
use Rattle.std.proofs.Common.{◌≡◌, ℕ, Bool, true, false, cond, List, [], ◌∷◌, ◌++◌, Option, Some, None, refl, sym, ap, ◌∙◌, map, arith, nat_eq, is_some}
use Rattle.std.specs.HashMap.{HashMap}
use Rattle.std.specs.Map.{lookup}
use Rattle.std.specs.Option.{option_or}
use Rattle.std.specs.Str.{bytes_eq}
use Rattle.std.specs.declared.vec.Vec.{Vec}
use Rattle.std.specs.declared.alloc.Global.{Global}
use Rattle.indexmap.specs.IndexMap.{insert_entry}
use Rattle.c_typing.specs.declared.meaning.Meaning.{Meaning}
use Rattle.c_typing.specs.Scopes.{Scope, find_in, find, closed}
use Rattle.c_typing.specs.Kept.{scope_of, scopes_of}

abbrev Entry : Type 0
Entry = Vec ℕ Global × Meaning

abbrev plain : Entry → List ℕ × Meaning
plain e = (e.0.items, e.1)

-- what a map has at a name is what its scope has
pub found_in : (name : List ℕ) (es : List Entry) → lookup (λ k. bytes_eq name k.items) es ≡ find_in name (map plain es)
found_in name [] = refl
found_in name (e ∷ es) = ap (cond (bytes_eq name e.0.items) (Some e.1)) (found_in name es)

added_behind : (key : Vec ℕ Global) (v : Meaning) (e : Entry) (es : List Entry) (b : Bool) → cond b (Some e.1) (find_in key.items (map plain es)) ≡ None
    → (find_in key.items (map plain es) ≡ None → map plain (insert_entry (λ x y. bytes_eq x.items y.items) es key v) ≡ map plain es ++ (key.items, v) ∷ [])
    → map plain (cond b ((e.0, v) ∷ es) (e ∷ insert_entry (λ x y. bytes_eq x.items y.items) es key v)) ≡ plain e ∷ (map plain es ++ (key.items, v) ∷ [])
added_behind key v e es true h rest = cc
added_behind key v e es false h rest = ap (λ l. plain e ∷ l) (rest h)

added_to : (key : Vec ℕ Global) (v : Meaning) (es : List Entry) → find_in key.items (map plain es) ≡ None
    → map plain (insert_entry (λ x y. bytes_eq x.items y.items) es key v) ≡ map plain es ++ (key.items, v) ∷ []
added_to key v [] h = refl
added_to key v (e ∷ es) h = added_behind key v e es (bytes_eq key.items e.0.items) h (added_to key v es)

-- a name that a scope lacks goes behind the others
pub added : (key : Vec ℕ Global) (name : List ℕ) (v : Meaning) (es fs : List Entry) → key.items ≡ name → find_in name (map plain es) ≡ None
    → fs ≡ insert_entry (λ x y. bytes_eq x.items y.items) es key v → map plain fs ≡ map plain es ++ (name, v) ∷ []
added key name v es fs same none now = ap (map plain) now ∙ added_to key v es (ap (λ n. find_in n (map plain es)) same ∙ none) ∙ ap (λ n. map plain es ++ (n, v) ∷ []) same

-- the last map holds the innermost scope
pub scopes_behind : {S : Type 0} (ms : List (HashMap (Vec ℕ Global) Meaning S)) (m : HashMap (Vec ℕ Global) Meaning S) → scopes_of (ms ++ m ∷ []) ≡ scope_of m ∷ scopes_of ms
scopes_behind [] m = refl
scopes_behind (first ∷ others) m = ap (λ l. l ++ scope_of first ∷ []) (scopes_behind others m)

-- an empty scope begins within these
pub opened : {S : Type 0} (fresh inner : HashMap (Vec ℕ Global) Meaning S) (outer now : List (HashMap (Vec ℕ Global) Meaning S)) → fresh.entries ≡ [] → now ≡ outer ++ inner ∷ []
    → scope_of fresh ∷ scopes_of now ≡ [] ∷ (scope_of inner ∷ scopes_of outer)
opened fresh inner outer now none e = ap (λ es. map plain es ∷ scopes_of now) none ∙ ap (λ l. [] ∷ scopes_of l) e ∙ ap (λ l. [] ∷ l) (scopes_behind outer inner)

-- the scope round the innermost is the innermost then
pub closes : {S : Type 0} (scope : Scope) (next : HashMap (Vec ℕ Global) Meaning S) (outer was : List (HashMap (Vec ℕ Global) Meaning S)) → was ≡ outer ++ next ∷ []
    → closed (scope ∷ scopes_of was) ≡ scope_of next ∷ scopes_of outer
closes scope next outer was e = ap (λ l. closed (scope ∷ scopes_of l)) e ∙ ap (λ l. closed (scope ∷ l)) (scopes_behind outer next)

-- where there is none, an empty one is
pub closes_last : {S : Type 0} (scope : Scope) (fresh : HashMap (Vec ℕ Global) Meaning S) (outer was : List (HashMap (Vec ℕ Global) Meaning S)) → was ≡ [] → outer ≡ [] → fresh.entries ≡ []
    → closed (scope ∷ scopes_of was) ≡ scope_of fresh ∷ scopes_of outer
closes_last scope fresh outer was e f none = ap (λ l. closed (scope ∷ scopes_of l)) e ∙ ap (λ l. [] ∷ scopes_of l) (sym f) ∙ ap (λ es. map plain es ∷ scopes_of outer) (sym none)

-- a name that the last map has
pub found_behind : {S : Type 0} (name : List ℕ) (v : Meaning) (last : HashMap (Vec ℕ Global) Meaning S) (others all : List (HashMap (Vec ℕ Global) Meaning S)) → all ≡ others ++ last ∷ []
    → Some v ≡ find_in name (scope_of last) → Some v ≡ find name (scopes_of all)
found_behind name v last others all e h =
    ap (λ o. option_or o (find name (scopes_of others))) h ∙ sym (ap (find name) (ap scopes_of e ∙ scopes_behind others last))

-- a name that it lacks
pub missed_behind : {S : Type 0} (name : List ℕ) (last : HashMap (Vec ℕ Global) Meaning S) (others all : List (HashMap (Vec ℕ Global) Meaning S)) → all ≡ others ++ last ∷ []
    → None ≡ find_in name (scope_of last) → find name (scopes_of others) ≡ find name (scopes_of all)
missed_behind name last others all e h =
    ap (λ o. option_or o (find name (scopes_of others))) h ∙ sym (ap (find name) (ap scopes_of e ∙ scopes_behind others last))
