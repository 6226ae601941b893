-- Parts of a walk, one behind the other.
use Rattle.std.proofs.Common.{◌≡◌, ap, ◌∙◌, Result, Ok, Err, Option, List, false, codes}
use Rattle.c_typing.specs.declared.meaning.Meaning.{Meaning}
use Rattle.c_typing.specs.declared.value.Value.{Value}
use Rattle.c_typing.specs.Judged.{Judged, spells}
use Rattle.c_typing.specs.Expressions as spec
use Rattle.c_typing.specs.declared.state.State.{State}
use Rattle.c_typing.specs.Parts.{Part, Gives, go_on, either, ◌>>=◌, Makes}

-- where the first part gives a, and a call makes what follows it, the call makes both
pub makes_then : {A B E : Type 0} (p : Part A) (f : A → Part B) (s : State) (a : A) (s' : State) (r : Result B E) (s'' : State)
    → p s ≡ Gives a s' → Makes (f a) s' r s'' → Makes (p >>= f) s r s''
makes_then p f s a s' (Ok b) s'' e m = ap (λ g. go_on g f) e ∙ m
makes_then p f s a s' (Err x) s'' e m = tt

-- from here on the second part, in its state, comes to what the first part comes to in its own
abbrev pub Leads : {A : Type 0} → Part A → State → Part A → State → Type 0
Leads p s q t = p s ≡ q t

-- a name that no `[` follows is called
pub named_call : {E : Type 0} (name sign : Judged) (rest : List Judged) (m : Option Meaning) (s : State) (r : Result Value E) (s' : State)
    → spec.meaning_at name.text s ≡ m → spells (codes "[") sign ≡ false → Makes (spec.call_by name rest m) s r s' → Makes (spec.named_by name sign rest) s r s'
named_call name sign rest m s (Ok v) s' e h q =
    ap (λ n. spec.indexed_or_called name sign rest n s) e ∙ (ap (λ b. either b (spec.element_by name rest m) (spec.call_by name rest m) s) h ∙ q)
named_call name sign rest m s (Err x) s' e h q = tt
